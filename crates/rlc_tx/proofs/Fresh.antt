-- The marks of an SDU of which nothing was sent.
use Rattle.std.proofs.Common.{◌≡◌, ℕ, zero, suc, replicate, refl}
use Rattle.protocol.specs.Sending as protocol
use Rattle.rlc_tx.specs.Marks.{mark_at}
use Rattle.rlc_tx.specs.declared.marks.Mark.TheVariants.{Unsent}

pub fresh : (n i : ℕ) → mark_at (replicate n Unsent) i ≡ protocol.unsent
fresh zero i = refl
fresh (suc n) zero = refl
fresh (suc n) (suc i) = fresh n i
