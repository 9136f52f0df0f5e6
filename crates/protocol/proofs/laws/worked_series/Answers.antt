-- Each series is computed.
use Rattle.std.proofs.Common.{refl}
use Rattle.protocol.proofs.laws.worked_series.Goals as goal

pub returns : goal.returns
returns c =
    ((refl, refl), (refl, refl), (refl, refl), (refl, refl), (refl, refl), (refl, refl), (refl, refl))
