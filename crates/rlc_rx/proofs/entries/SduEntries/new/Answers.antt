use Rattle.rlc_rx.proofs.Gaps.{entries_start, limit_short}
use Rattle.rlc_rx.proofs.entries.SduEntries.new.Goals as goal
use Rattle.rlc_rx.specs.Slots.{partial_of}
use Rattle.wire.specs.Counts.{count_of}

pub returns : goal.returns
returns c = entries_start (partial_of c.args.slot.now) (limit_short c.args.slot.now) (count_of c.args.count)
