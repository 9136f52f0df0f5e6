use Rattle.air.proofs.Lets.{within_aged}
use Rattle.air.proofs.queue_airs.QueueAirAir.skip.Goals as goal
use Rattle.air.specs.Waits.{waits}

pub returns-clause-meaning : goal.returns-clause-meaning
returns-clause-meaning g c = within_aged (waits c.args.self.now.queue) (waits c.grow_older.new.self) c.grow_older.ensures.after
