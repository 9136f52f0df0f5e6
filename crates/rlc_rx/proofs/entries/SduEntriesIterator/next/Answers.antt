use Rattle.std.proofs.Common.{◌≡◌, ℕ, ◌≤◌, ltb, [], ◌∷◌, length, Some, sym, ap, ◌∙◌, subst, arith}
use Rattle.protocol.specs.Pdus.{span}
use Rattle.protocol.specs.Receiving.{limit}
use Rattle.rlc_rx.proofs.Gaps.{limit_short, entries_over, entries_gap}
use Rattle.rlc_rx.proofs.entries.SduEntriesIterator.next.Goals as goal
use Rattle.rlc_rx.specs.Entries.{entries_from, entries_left}
use Rattle.rlc_rx.specs.Slots.{partial_of}
use Rattle.rlc_rx.specs.declared.entries.SduEntries.{SduEntries}
use Rattle.std.specs.Bool.{then_some}
use Rattle.std.specs.Option.{MatchOption, unwrap_or}
use Rattle.wire.specs.Counts.{sn_of, count_of}
use Rattle.wire.specs.Views.{entry_of}

-- where the next gap is sought
inside : (s : SduEntries) (i : ℕ) → s.from ≡ Some i → i ≤ limit (partial_of s.slot.now)
inside s i e = omega (arith, s.inside, ap (λ o. unwrap_or o 0) e)

pub returns-in_err-gap-clause-steps : goal.returns-in_err-gap-clause-steps
returns-in_err-gap-clause-steps c =
    let s = c.args.self.now in
    let p = partial_of s.slot.now in
    let x = count_of s.count in
    let from = sym c.take.ensures.value ∙ c.in_ok-from.was in
    let over = entries_over p (limit_short s.slot.now) x c.in_ok-from.from (sym c.is_empty.ensures ∙ c.if-is_empty.false) (inside s _ from) (sym c.gap_from.ensures ∙ c.in_err-gap.was) in
    subst (λ r. MatchOption r ((entries_left s ≡ []) × (entries_from p x c.take.new.self ≡ [])) (λ e. entries_left s ≡ entry_of e ∷ entries_from p x c.take.new.self))
    (sym c.from_residual-in_err-gap.ensures) (ap (entries_from p x) from ∙ over, ap (entries_from p x) c.take.ensures.after)

pub returns-clause-steps : goal.returns-clause-steps
returns-clause-steps c =
    let s = c.args.self.now in
    let p = partial_of s.slot.now in
    let x = count_of s.count in
    let g = c.in_ok-gap.gap in
    let from = sym c.take.ensures.value ∙ c.in_ok-from.was in
    let first = entries_gap p (limit_short s.slot.now) x c.in_ok-from.from (sym c.is_empty.ensures ∙ c.if-is_empty.false) (inside s _ from) g (sym c.gap_from.ensures ∙ c.in_ok-gap.was) in
    ap (entries_from p x) from ∙ first ∙ ap (λ n. record { nack_sn = n; missing = span g.so_start g.so_end } ∷ entries_from p x (then_some (ltb g.stop (limit p)) g.stop)) (sym c.sn-nack_sn.ensures)
    ∙ ap (λ o. record { nack_sn = sn_of c.sn-nack_sn.result; missing = span g.so_start g.so_end } ∷ entries_from p x o) (ap (λ l. then_some (ltb g.stop l) g.stop) (sym c.limit.ensures.value) ∙ sym c.then_some-self.ensures)

pub returns-clause-goes : goal.returns-clause-goes
returns-clause-goes c = let e = ap length (returns-clause-steps c) in grind arith
