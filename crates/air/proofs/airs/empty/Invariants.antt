use Rattle.std.proofs.Common.{◌≤◌}
use Rattle.air.proofs.airs.empty.Given as goal
use Rattle.std.specs.List.{AllByRecursion}

abbrev pub invariant-loop : goal.invariant-loop
invariant-loop g l = AllByRecursion (λ w. l.counter ≤ w.age) (g.A.Air.waiting l.air)
