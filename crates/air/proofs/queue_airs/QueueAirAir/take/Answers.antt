use Rattle.std.proofs.Common.{None, refl, rules}
use Rattle.air.proofs.Lets.{took_answers}
use Rattle.air.proofs.queue_airs.QueueAirAir.take.Goals as goal
use Rattle.air.specs.Waits.{waits}
use Rattle.protocol.proofs.Strikes.{takes_nothing}

pub returns-in_err-k-clause-meaning : goal.returns-in_err-k-clause-meaning
returns-in_err-k-clause-meaning g c = (None, search rules, refl, takes_nothing c.args.draw c.args.buffer.now (waits c.args.self.now.queue))

pub returns-clause-meaning : goal.returns-clause-meaning
returns-clause-meaning g c = took_answers _ _ _ _ _ _ _ _ c.take.ensures
