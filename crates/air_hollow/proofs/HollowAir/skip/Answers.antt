use Rattle.air_hollow.proofs.HollowAir.skip.Goals as goal
use Rattle.protocol.specs.Airs.{done}

pub returns-clause-meaning : goal.returns-clause-meaning
returns-clause-meaning c = done
