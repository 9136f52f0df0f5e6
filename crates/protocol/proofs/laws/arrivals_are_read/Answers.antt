use Rattle.protocol.proofs.Arrivals.{nothing_refused}
use Rattle.protocol.proofs.laws.arrivals_are_read.Goals as goal

pub returns : goal.returns
returns c = nothing_refused
