-- Each turn is a step of the walk along the entries.
use Rattle.std.proofs.Common.{not, ◌-◌, length, drop, sym, ap, ◌∙◌, subst}
use Rattle.std.proofs.lemmas.List.{take_rest}
use Rattle.std.specs.Bool.{then_some}
use Rattle.std.specs.Option.{option_or}
use Rattle.wire.proofs.Steps.{Walked, walked_on}
use Rattle.wire.proofs.entries.check_entries.Goals as goal
use Rattle.wire.specs.Counts.{sn_of}
use Rattle.wire.specs.Views.{found_of}

pub loop-more-preserved : goal.loop-more-preserved
loop-more-preserved c =
    let pdu = c.args.bytes.now in
    let rest = c.loop-more.rest.now in
    let found = found_of c.in-Some.found in
    let ack = sn_of c.args.ack_sn in
    let seen = subst (λ more. Walked ack c.args.e1 (drop 3 pdu) (length pdu) more rest c.loop-more.invalid) c.loop-more-test.true c.loop-more.invariant in
    let on = walked_on ack c.args.e1 (drop 3 pdu) (length pdu) rest c.loop-more.invalid found seen (sym c.in-Some.ensures.value) in
    let same = c.first_invalid-invalid.ensures ∙ ap (λ fine. option_or c.loop-more.invalid (then_some (not fine) (length pdu - length rest))) c.is_valid.ensures in
    subst (λ left. Walked ack c.args.e1 (drop 3 pdu) (length pdu) found.e1 left c.first_invalid-invalid.result) (sym (take_rest rest found.size))
    (subst (λ invalid. Walked ack c.args.e1 (drop 3 pdu) (length pdu) found.e1 (drop found.size rest) invalid) (sym same) on)
