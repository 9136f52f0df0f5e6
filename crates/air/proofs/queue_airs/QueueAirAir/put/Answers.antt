use Rattle.air.proofs.Lets.{within_put}
use Rattle.air.proofs.queue_airs.QueueAirAir.put.Goals as goal
use Rattle.air.specs.Waits.{waits}

pub returns-clause-meaning : goal.returns-clause-meaning
returns-clause-meaning g c = within_put c.args.pdu.now (waits c.args.self.now.queue) (waits c.put.new.self) c.put.ensures
