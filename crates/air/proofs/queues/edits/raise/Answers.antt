use Rattle.std.proofs.Common.{◌<◌, ◌++◌, map, length, get_or, drop, ap, ◌∙◌, arith}
use Rattle.air.proofs.queues.edits.raise.Goals as goal
use Rattle.air.specs.Queues.{raised, no_entry}
use Rattle.std.proofs.lemmas.List.Edits.{map_over_more}
use Rattle.std.proofs.lemmas.List.{take_all, drop_all, append-nil, get_or_default}
use Rattle.air.proofs.Notes.{age_ahead}

pub overflow_add-entry : goal.overflow_add-entry
overflow_add-entry c =
    let i = c.loop-entry.entry-index in
    let ahead = age_ahead i c.args.entries.now c.loop-entry.entries c.loop-entry.invariant c.loop-entry-test.true in
    omega (arith, c.requires i c.loop-entry-test.true, ahead)

pub loop-entry-preserved : goal.loop-entry-preserved
loop-entry-preserved c =
    let i = c.loop-entry.entry-index in
    let lt : i < length c.loop-entry.entries = omega (arith, c.loop-entry.auto.entries, c.loop-entry-test.true) in
    map_over_more raised c.args.entries.now c.loop-entry.entries i (get_or c.loop-entry.entries i no_entry) c.loop-entry-test.true c.loop-entry.invariant
    (get_or_default c.loop-entry.entries i no_entry _ lt)

pub returns : goal.returns
returns c =
    let i = c.loop-entry.entry-index in
    let es = c.args.entries.now in
    c.loop-entry.invariant ∙ ap (λ xs. map raised xs ++ drop i es) (take_all i es c.loop-entry-test.false)
    ∙ ap (λ xs. map raised es ++ xs) (drop_all i es c.loop-entry-test.false) ∙ append-nil (map raised es)
