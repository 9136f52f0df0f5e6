use Rattle.std.proofs.Common.{[], None, refl}
use Rattle.air_hollow.proofs.HollowAir.take.Goals as goal
use Rattle.protocol.proofs.Strikes.{takes_nothing}

pub returns-clause-meaning : goal.returns-clause-meaning
returns-clause-meaning c = (None, refl, refl, takes_nothing c.args._draw c.args._buffer.now [])
