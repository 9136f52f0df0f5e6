use Rattle.std.proofs.Common.{◌≡◌, ◌++◌, map}
use Rattle.rlc_tx.proofs.Progress.{Stage}
use Rattle.rlc_tx.proofs.windows.Window.consider_entries.Given as goal
use Rattle.wire.specs.Views.{entry_of, entries_of}

-- some entries were considered, and the others are to come
abbrev pub invariant-loop-entry : goal.invariant-loop-entry
invariant-loop-entry l =
    Stage l.initial.self (map entry_of l.yielded) l.self l.touches × (map entry_of l.yielded ++ entries_of l.entry-iterator ≡ entries_of l.initial.entry-iterator)
