use Rattle.std.proofs.Common.{◌≡◌, ◌-◌, false, ltb, length}
use Rattle.protocol.specs.Rings.{in_ring}
use Rattle.protocol.specs.Searching.{seek}
use Rattle.rlc_rx.proofs.rings.answer_polls.Given as goal
use Rattle.rlc_rx.specs.Slots.{partials, polls}
use Rattle.rlc_rx.specs.Rings.{Cleared}

abbrev pub invariant-loop-x : goal.invariant-loop-x
invariant-loop-x l =
    (l.answered ≡ ltb (seek (λ x. in_ring (polls l.initial.slots) x false) (l.x - l.from) l.from) l.x)
    × (partials l.slots ≡ partials l.initial.slots)
    × Cleared false l.from l.x (polls l.initial.slots) (polls l.slots)
    × (length l.slots ≡ 16)
