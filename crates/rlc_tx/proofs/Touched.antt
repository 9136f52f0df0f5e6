-- What is noted of an SDU, compared.
use denote.Enum.Bare.{sameb}
use Rattle.std.proofs.Common.{◌≡◌, not, refl}
use Rattle.rlc_tx.specs.Touches.{named_of, counted_of}
use Rattle.rlc_tx.specs.contracts.reporting.Touch.{the_type}
use Rattle.rlc_tx.specs.declared.reporting.Touch.{Touch}
use Rattle.rlc_tx.specs.declared.reporting.Touch.TheVariants.{Unnamed, Named, Counted}

pub named_is : (t : Touch) → not (sameb the_type t Unnamed) ≡ named_of t
named_is Unnamed = refl
named_is Named = refl
named_is Counted = refl

pub counted_is : (t : Touch) → sameb the_type t Counted ≡ counted_of t
counted_is Unnamed = refl
counted_is Named = refl
counted_is Counted = refl
