use Rattle.std.proofs.Common.{arith}
use Rattle.rlc_rx.proofs.Gaps.{entries_few}
use Rattle.rlc_rx.proofs.entries.SduEntries.bytes.Goals as goal
use Rattle.rlc_rx.specs.Slots.{partial_of}
use Rattle.wire.specs.Counts.{count_of}

pub loop-entry-init : goal.loop-entry-init
loop-entry-init c =
    let few = entries_few (partial_of c.args.self.slot.now) (count_of c.args.self.count) c.args.self.from in
    grind arith
