use Rattle.std.proofs.Common.{◌≡◌, ◌*◌, ◌≤◌, [], ◌++◌, length, take, sym, ap, ◌∙◌, arith, rules, append_assoc}
use Rattle.std.proofs.Output.{has_written_append, has_written_of_eq}
use Rattle.std.proofs.lemmas.List.{append-nil, nil_from_length}
use Rattle.std.proofs.lemmas.List.Concat.{flat_map-append}
use Rattle.hex_digits.proofs.HexDisplay.fmt.Goals as goal
use Rattle.hex_digits.specs.Digits.{digits_of, text_of}

pub loop-bytes-init : goal.loop-bytes-init
loop-bytes-init g c = (search rules, [], search rules, λ plain. search rules)

pub slice_bounds-digits-end : goal.slice_bounds-digits-end
slice_bounds-digits-end g c =
    let short : length c.in-Some.bytes.now ≤ 32 = search rules in
    omega (arith, short)

pub loop-bytes-preserved : goal.loop-bytes-preserved
loop-bytes-preserved g c =
    let inv = c.loop-bytes.invariant in
    let done = inv.1 in
    let piece = c.in-Some.bytes.now in
    let rest = c.next.new.self.rest.now in
    let ahead : c.loop-bytes.bytes-iterator.rest.now ≡ piece ++ rest = search rules in (
      search rules,
      done ++ piece,
      inv.2 ∙ ap (λ xs. done ++ xs) ahead ∙ sym (append_assoc done piece rest),
      λ plain. has_written_of_eq _ _ _ _ _ (sym (flat_map-append digits_of done piece)) (has_written_append _ _ _ _ _ _ (inv.3 plain) (search rules)),
    )

pub returns-clause-writes : goal.returns-clause-writes
returns-clause-writes g c = λ plain ok.
    let inv = c.loop-bytes.invariant in
    has_written_of_eq _ _ _ _ _ (ap text_of (sym (inv.2 ∙ ap (λ xs. inv.1 ++ xs) (nil_from_length c.loop-bytes.bytes-iterator.rest.now (search rules)) ∙ append-nil inv.1))) (inv.3 plain)
