-- The list of entries to come, taken apart by one step of the walk.
use Rattle.std.proofs.Common.{◌∷◌, sym, ap, ◌∙◌, rules}
use Rattle.protocol.specs.Reading.{along, listing}
use Rattle.std.proofs.lemmas.List.{take_rest}
use Rattle.wire.proofs.Steps.{listing_found, listed_if}
use Rattle.wire.proofs.entries.EntriesIterator.next.Goals as goal
use Rattle.wire.specs.Views.{entry_of, entries_in, found_of}
use Rattle.std.specs.Option.{option_map}

pub returns-clause-steps : goal.returns-clause-steps
returns-clause-steps c =
    let rest = c.in_ok-rest.rest.now in
    let found = c.in_ok-entry.field-0 in
    ap (λ r. entries_in (option_map (λ b. b.now) r)) c.in_ok-rest.was ∙ listing_found rest (found_of found) (sym c.in_ok-entry.ensures.value)
    ∙ ap (λ es. entry_of found.entry ∷ es)
    (ap (along listing found.e1 3) (sym (take_rest rest found.size)) ∙ sym (listed_if (λ b. b.now) found.e1 _)
    ∙ sym (ap (λ r. entries_in (option_map (λ b. b.now) r)) c.then_some-self.ensures))

pub returns-clause-goes : goal.returns-clause-goes
returns-clause-goes c = let step = returns-clause-steps c in search (rules, step)
