use Rattle.std.proofs.Common.{◌≡◌, ℕ, ◌-◌, Bool, true, false, not, ap, ◌∙◌, arith, rules, tests}
use Rattle.pdcp.proofs.Orders.{missing_within}
use Rattle.protocol.proofs.Seeks.{seek_range_first}
use Rattle.pdcp.proofs.receivers.Receiver.next_missing.Goals as goal
use Rattle.pdcp.specs.Stores.{stored_of}
use Rattle.protocol.specs.Reordering.{is_stored}
use Rattle.protocol.specs.Searching.{seek}
use Rattle.std.proofs.lemmas.Iterator.{first_from_Range}
use Rattle.wire.specs.Counts.{count_of}

pub returns : goal.returns
returns c =
    let r = c.args.self.now in
    let from = count_of c.args.from in
    let end = count_of r.rx_next in
    let test : ℕ → Bool = λ x. not (is_stored (stored_of r.store) x) in
    let high : c.value-end.result ≡ end = c.value-end.ensures in
    let low : c.value.result ≡ from = c.value.ensures in
    let found = c.unwrap_or-missing.ensures
    ∙ seek_range_first test c.value.result c.value-end.result c.find.result (omega (arith, high, low, c.requires))
    (first_from_Range _ _ _ _ (λ i. test i ≡ true) (λ i. test i ≡ false) c.find.ensures.ran (λ x q k. search (rules, tests)) (λ x q k. (search rules, search (rules, tests))))
    ∙ ap (λ z. seek test (z - c.value.result) c.value.result) high
    ∙ ap (λ z. seek test (end - z) z) low in
    let bounds = missing_within (stored_of r.store) end from c.requires in
    omega (arith, c.saturating_plus.ensures, c.first.ensures, found, bounds.1, r.limited)
