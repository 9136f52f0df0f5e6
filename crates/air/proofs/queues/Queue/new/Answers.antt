use Rattle.std.proofs.Common.{ℕ, ◌≤◌, [], length, replicate, refl, ap, ◌∙◌, arith}
use Rattle.air.proofs.queues.Queue.new.Goals as goal
use Rattle.protocol.specs.Bytes.{Bytes}
use Rattle.std.proofs.lemmas.List.{get_or-replicate, length-replicate}

pub invariant_of-result : goal.invariant_of-result
invariant_of-result c =
    let zeros : Bytes = replicate 520 0 in
    let all : 8 ≤ c.loop-i.i = c.loop-i-test.false in
    let own = c.loop-i.invariant.1 in
    record {
      room = (refl, λ i lt. ap length (get_or-replicate 8 i zeros [] lt) ∙ length-replicate {A = ℕ} 520 0);
      bounded = (c.loop-i.invariant.0, omega arith);
      placed = λ i lt. omega (arith, own i (omega (arith, c.loop-i.invariant.0)), c.loop-i.invariant.0);
      apart = λ i j lt less same. omega (arith, own i (omega (arith, c.loop-i.invariant.0)), own j (omega (arith, c.loop-i.invariant.0)), same);
      carried = λ i lt. absurd (omega (arith, lt));
      older = λ i j lt less. absurd (omega (arith, less));
    }
