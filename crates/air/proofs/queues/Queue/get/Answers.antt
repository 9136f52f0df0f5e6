use Rattle.std.proofs.Common.{◌≡◌, ℕ, ◌-◌, ◌≤◌, [], get_or, take, Some, Option, sym, ap, ◌∙◌, arith, rules}
use Rattle.air.specs.Soundness.{length_held, held_at}
use Rattle.air.proofs.Fronts.{length_waits, nth_waits}
use Rattle.air.proofs.queues.Queue.get.Goals as goal
use Rattle.air.specs.Queues.{no_entry}
use Rattle.air.specs.Waits.{waits}
use Rattle.protocol.specs.Airs.{Waiting}
use Rattle.std.proofs.lemmas.Option.{slice_get_past}

pub returns-then-k-self : goal.returns-then-k-self
returns-then-k-self c =
    let q = c.args.self.now in
    sym (slice_get_past (waits q) c.args.k (omega (arith, length_waits q, c.if-k-self.true)))

pub slice_bounds-result-end : goal.slice_bounds-result-end
slice_bounds-result-end c =
    let q = c.args.self.now in
    let k = c.args.k in
    let lt = c.if-k-self.false in
    let short : (get_or q.entries k no_entry).length ≤ 520 = omega (arith, (q.carried k (omega (arith, length_held q))).1, ap (λ e. e.length) (held_at q k lt)) in
    search rules

pub returns : goal.returns
returns c =
    let q = c.args.self.now in
    let e = get_or q.entries c.args.k no_entry in
    let whole : e.length - 0 ≡ e.length = omega arith in
    let at : ℕ → Option Waiting = λ n. Some (record { pdu = take n (get_or q.store e.place []); age = e.age }) in
    ap at whole ∙ sym (nth_waits q c.args.k c.if-k-self.false)
