use Rattle.std.proofs.Common.{length, drop}
use Rattle.wire.proofs.Steps.{Walked}
use Rattle.wire.proofs.entries.check_entries.Given as goal
use Rattle.wire.specs.Counts.{sn_of}

-- What was seen of the entries so far decides with what is left.
abbrev pub invariant-loop-more : goal.invariant-loop-more
invariant-loop-more l = Walked (sn_of l.ack_sn) l.e1 (drop 3 l.bytes) (length l.bytes) l.more l.rest l.invalid

abbrev pub decreases-loop-more : goal.decreases-loop-more
decreases-loop-more l = length l.rest
