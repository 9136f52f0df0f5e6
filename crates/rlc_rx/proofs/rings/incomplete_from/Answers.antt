use Rattle.std.proofs.Common.{◌≡◌, ℕ, Bool, true, false, not, ◌∙◌, rules, tests}
use Rattle.protocol.specs.Receiving.{nothing_held, complete}
use Rattle.protocol.specs.Rings.{in_ring}
use Rattle.protocol.proofs.Seeks.{seek_range_first}
use Rattle.rlc_rx.proofs.rings.incomplete_from.Goals as goal
use Rattle.rlc_rx.specs.Slots.{partials}
use Rattle.std.proofs.lemmas.Iterator.{first_from_Range}

pub returns : goal.returns
returns c =
    let test : ℕ → Bool = λ x. not (complete (in_ring (partials c.args.slots.now) x nothing_held)) in
    c.unwrap_or.ensures
    ∙ seek_range_first test c.args.from c.args.to c.find.result c.requires.ordered
    (first_from_Range _ _ _ _ (λ i. test i ≡ true) (λ i. test i ≡ false) c.find.ensures.ran (λ x q k. search (rules, tests)) (λ x q k. (search rules, search (rules, tests))))
