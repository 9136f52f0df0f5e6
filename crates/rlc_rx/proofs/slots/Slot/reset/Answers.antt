use Rattle.std.proofs.Common.{false, replicate, refl, arith}
use Rattle.rlc_rx.proofs.Tallies.{none_set, nothing_partial}
use Rattle.rlc_rx.proofs.slots.Slot.reset.Goals as goal

pub invariant_of-self : goal.invariant_of-self
invariant_of-self c =
    let s = c.args.self.now in
    record { room = (s.room.0, refl); counted = refl; short = omega arith; beyond = λ i le. none_set 502 i; highest = λ k e. absurd (omega (arith, e)); bounded = refl }

pub returns : goal.returns
returns c = (nothing_partial (replicate 502 false) c.args.self.now.bytes (λ i le. none_set 502 i), refl)
