use Rattle.std.proofs.Common.{false, replicate, refl, arith}
use Rattle.rlc_rx.proofs.Tallies.{none_set, nothing_partial}
use Rattle.rlc_rx.proofs.slots.Slot.new.Goals as goal

pub invariant_of-result : goal.invariant_of-result
invariant_of-result c = record { room = (refl, refl); counted = refl; short = omega arith; beyond = λ i le. none_set 502 i; highest = λ k e. absurd (omega (arith, e)); bounded = refl }

pub returns : goal.returns
returns c = (nothing_partial (replicate 502 false) (replicate 502 0) (λ i le. none_set 502 i), refl)
