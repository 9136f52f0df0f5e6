use Rattle.std.proofs.Common.{◌+◌, ◌<◌, length, sym, refl, ap, ◌∙◌, subst, arith}
use Rattle.air.specs.Soundness.{length_held, held_at}
use Rattle.air.proofs.Notes.{map_removed, aged_expired, young_rest, young_all}
use Rattle.air.proofs.queues.Queue.expire.Goals as goal
use Rattle.air.proofs.queues.Queue.expire.Goals.{else-self-gt0-via-then-self-gt0+else-self-eq-AGE_LIMIT, else-self-gt0-via-else-self-gt0}
use Rattle.air.specs.Queues.{Each, waiting_at}
use Rattle.air.specs.Waits.{held_entries}
use Rattle.protocol.specs.Airs.{aged, age_limit}

pub overflow_add-self : goal.overflow_add-self
overflow_add-self c =
    let q = c.args.self.now in
    let lt = c.if-self-gt0.true in
    omega (arith, (q.carried 0 (omega (arith, length_held q))).2, ap (λ e. e.age) (held_at q 0 lt))

pub returns-then-self-eq-AGE_LIMIT : goal.returns-then-self-eq-AGE_LIMIT
returns-then-self-eq-AGE_LIMIT c =
    let q = c.args.self.now in
    let lt = c.if-self-gt0.true in
    let some : 0 < length (held_entries q) = omega (arith, length_held q) in
    record {
      after =
          ap aged (c.remove.ensures.after ∙ sym (map_removed (waiting_at q.store) (held_entries q) 0))
          ∙ aged_expired q.store (held_entries q) some (ap (λ e. e.age + 1) (held_at q 0 lt) ∙ c.if-self-eq-AGE_LIMIT.true);
      young = subst (λ es. Each (λ e. e.age + 1 < age_limit) es) (sym c.remove.ensures.entries) (young_rest (held_entries q) q.carried q.older);
    }

pub returns-else-self-gt0 : goal.returns-else-self-gt0
returns-else-self-gt0 c =
    let q = c.args.self.now in
    record {
      after = refl;
      young =
          elim c.else-self-gt0.branch [
            | else-self-gt0-via-then-self-gt0+else-self-eq-AGE_LIMIT w ↦ young_all (held_entries q) q.carried q.older (λ e. w.if-self-eq-AGE_LIMIT.false (sym (ap (λ e. e.age + 1) (held_at q 0 w.if-self-gt0.true)) ∙ e))
            | else-self-gt0-via-else-self-gt0 w ↦ λ i lt. absurd (omega (arith, length_held q, w.if-self-gt0.false))
          ];
    }
