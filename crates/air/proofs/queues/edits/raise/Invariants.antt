use Rattle.std.proofs.Common.{◌≡◌, ◌++◌, map, take, drop}
use Rattle.air.proofs.queues.edits.raise.Given as goal
use Rattle.air.specs.Queues.{raised}

abbrev pub invariant-loop-entry : goal.invariant-loop-entry
invariant-loop-entry l = l.entries ≡ map raised (take l.entry-index l.initial.entries) ++ drop l.entry-index l.initial.entries
