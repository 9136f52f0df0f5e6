use Rattle.std.proofs.Common.{◌≡◌, false, length}
use Rattle.protocol.specs.Receiving.{nothing_held}
use Rattle.rlc_rx.proofs.rings.clear.Given as goal
use Rattle.rlc_rx.specs.Slots.{partials, polls}
use Rattle.rlc_rx.specs.Rings.{Cleared}

abbrev pub invariant-loop-x : goal.invariant-loop-x
invariant-loop-x l =
    Cleared nothing_held l.from l.x (partials l.initial.slots) (partials l.slots)
    × Cleared false l.from l.x (polls l.initial.slots) (polls l.slots)
    × (length l.slots ≡ 16)
