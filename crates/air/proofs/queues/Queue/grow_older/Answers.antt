use Rattle.std.proofs.Common.{◌≡◌, ◌+◌, ◌-◌, ◌<◌, ◌≤◌, ◌++◌, map, take, drop, sym, ap, ◌∙◌, subst, arith}
use Rattle.air.proofs.Fronts.{Parts, take_raised, parts_raised}
use Rattle.air.proofs.Notes.{each_raised, aged_raised}
use Rattle.air.proofs.queues.Queue.grow_older.Goals as goal
use Rattle.air.specs.Queues.{Each, raised, waiting_at}
use Rattle.air.specs.Waits.{held_entries, waits}
use Rattle.protocol.specs.Airs.{age_limit, aged}

pub raise-requires : goal.raise-requires
raise-requires c =
    let q = c.expire.new.self in
    let all : Each (λ e. e.age < 255) (take q.held q.entries) = λ i lt. omega (arith, c.expire.ensures.young i lt) in
    subst (λ n. Each (λ e. e.age < 255) (take n q.entries)) (omega arith) all

pub invariant_of-self : goal.invariant_of-self
invariant_of-self c =
    let q = c.expire.new.self in
    let n = q.held - 0 in
    let p = subst (λ es. Parts q.store (es ++ drop n q.entries) q.held) (sym c.raise.ensures) (parts_raised q n (omega arith) c.expire.ensures.young) in
    record { room = p.room; bounded = p.bounded; placed = p.placed; apart = p.apart; carried = p.carried; older = p.older }

pub returns : goal.returns
returns c =
    let q = c.expire.new.self in
    let n = q.held - 0 in
    let front : take q.held (c.raise.new.entries ++ drop n q.entries) ≡ map raised (held_entries q) =
    ap (λ es. take q.held (es ++ drop n q.entries)) c.raise.ensures ∙ take_raised q n (omega arith) in
    let after : map (waiting_at q.store) (take q.held (c.raise.new.entries ++ drop n q.entries)) ≡ aged (waits c.args.self.now) =
    ap (map (waiting_at q.store)) front ∙ aged_raised q.store (held_entries q) c.expire.ensures.young ∙ c.expire.ensures.after in
    record {
      after = after;
      old =
          subst (λ es. Each (λ e. 1 ≤ e.age) es) (sym front)
          (each_raised (λ e. e.age + 1 < age_limit) (λ e. 1 ≤ e.age) (λ e h. omega arith) (held_entries q) c.expire.ensures.young);
    }
