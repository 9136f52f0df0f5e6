use Rattle.std.proofs.Common.{◌≡◌, ◌+◌, ◌*◌, ◌≤◌, length}
use Rattle.protocol.specs.Receiving.{entries_length}
use Rattle.rlc_rx.proofs.entries.SduEntries.bytes.Given as goal
use Rattle.rlc_rx.specs.Entries.{entries_left}

abbrev pub invariant-loop-entry : goal.invariant-loop-entry
invariant-loop-entry l =
    record {
      sum : entries_length (entries_left l.fn.self) ≡ l.length + entries_length (entries_left l.entry-iterator);
      few : l.length + 6 * length (entries_left l.entry-iterator) ≤ 6 * 503;
    }
