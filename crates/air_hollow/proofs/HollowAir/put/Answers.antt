use Rattle.air_hollow.proofs.HollowAir.put.Goals as goal
use Rattle.protocol.proofs.Strikes.{within_none}

pub returns-clause-meaning : goal.returns-clause-meaning
returns-clause-meaning c = within_none _
