use Rattle.std.proofs.Common.{length, sym, ap, ◌∙◌, arith, ◌&&◌, ltb, is_some, count_by}
use Rattle.pdcp.proofs.Windows.{due_held, none_before}
use Rattle.pdcp.proofs.stores.Store.count_below.Goals as goal
use Rattle.pdcp.specs.Places.{under}
use Rattle.std.specs.List.{range_with_len}

pub returns : goal.returns
returns c =
    let s = c.args.self.now in
    c.full_below.ensures ∙ ap (λ n. count_by (λ k. ltb k n && is_some (under s.places k)) (range_with_len s.first 16)) c.value-end.ensures
    ∙ due_held s.places s.first c.args.count.value

pub returns-then-end-self : goal.returns-then-end-self
returns-then-end-self c =
    let s = c.args.self.now in
    sym (ap length (none_before s.places s.first c.args.count.value (omega (arith, c.if-end-self.true, c.value-end.ensures))))
