use Rattle.std.proofs.Common.{◌≡◌, ℕ, ◌<◌, length, get_or}
use Rattle.air.proofs.queues.Queue.new.Given as goal
use Rattle.air.specs.Queues.{capacity, no_entry}

abbrev pub invariant-loop-i : goal.invariant-loop-i
invariant-loop-i l = (length l.entries ≡ capacity) × ((k : ℕ) → k < l.i → (get_or l.entries k no_entry).place ≡ k)
