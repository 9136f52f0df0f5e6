use Rattle.std.proofs.Common.{◌≡◌}
use Rattle.protocol.specs.Drafts.{fill}
use Rattle.rlc_rx.proofs.entries.SduEntries.add_to.Given as goal
use Rattle.rlc_rx.specs.Entries.{entries_left}
use Rattle.wire.specs.Drafted.{draft_of}

-- what the entries that are left will do to the draft
abbrev pub invariant-loop-entry : goal.invariant-loop-entry
invariant-loop-entry l =
    fill (entries_left l.fn.self) (draft_of l.initial.draft) l.initial.buffer ≡ fill (entries_left l.entry-iterator) (draft_of l.draft) l.buffer
