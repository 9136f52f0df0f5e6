use Rattle.std.proofs.Common.{◌≡◌, ◌++◌, map, take, drop, count_by}
use Rattle.rlc_tx.proofs.marks.replace.Given as goal
use Rattle.rlc_tx.specs.Marks.{same, replaced}

abbrev pub invariant-loop-mark : goal.invariant-loop-mark
invariant-loop-mark l =
    (l.marks ≡ map (replaced l.old l.new) (take l.mark-index l.initial.marks) ++ drop l.mark-index l.initial.marks)
    × (l.changed ≡ count_by (same l.old) (take l.mark-index l.initial.marks))
