use Rattle.std.proofs.Common.{◌≤◌}
use Rattle.rlc_rx.proofs.flags.put.Given as goal
use Rattle.rlc_rx.specs.Flags.{Merged}

abbrev pub invariant-loop-i : goal.invariant-loop-i
invariant-loop-i l = Merged l.offset l.i l.«data» l.initial.bytes l.bytes l.initial.held l.held l.new × (l.new ≤ l.i)
