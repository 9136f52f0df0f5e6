use Rattle.std.proofs.Common.{◌≡◌, ℕ, ◌*◌, ◌++◌, drop, length, vec_len, slice_index, sym, ◌∙◌, ap, subst, arith, rules, length-append, length-drop}
use Rattle.std.proofs.lemmas.List.{drop-drop, drop_at}
use Rattle.hex_digits.proofs.Spelling.{spelt_push, stops_here}
use Rattle.hex_digits.proofs.decode.Goals as goal
use Rattle.hex_digits.specs.Digits.{Byte, Spelt}

pub loop-pair-preserved : goal.loop-pair-preserved
loop-pair-preserved c =
    let digits = c.args.digits.now in
    let old = c.loop-pair.bytes in
    let pair = c.in-Some.pair.now in
    let rest = c.next.new.self.rest.now in
    let pushed = c.in_ok-push.ensures in
    let byte : Byte (slice_index pair 0) (slice_index pair 1) c.in_ok-ok_or.field-0 = search rules in
    let size : c.next.new.self.size ≡ 2 = search rules in
    let two : length pair ≡ 2 = search rules in
    let ahead : drop (2 * vec_len old) digits ≡ pair ++ rest = search rules in
    let long = ap length ahead ∙ length-append pair rest in
    let rest_is : rest ≡ drop (2 * vec_len c.push.new.self) digits =
    sym (drop_at pair rest 2 two) ∙ ap (drop 2) (sym ahead) ∙ drop-drop 2 (2 * vec_len old) digits ∙ ap (λ n. drop n digits) (omega (arith, pushed.len)) in
    let more : Spelt digits c.push.new.self.items =
    subst (Spelt digits) (sym pushed.items)
    (spelt_push digits old.items pair rest c.in_ok-ok_or.field-0 (ap (λ n. drop (2 * n) digits) (sym old.ok.0) ∙ ahead) two byte c.loop-pair.invariant.3) in
    (size, rest_is, omega (arith, pushed.len, long, two, length-drop (2 * vec_len old) digits), more)

pub returns-in_err-ok_or-clause-bad : goal.returns-in_err-ok_or-clause-bad
returns-in_err-ok_or-clause-bad c = λ _.
    let digits = c.args.digits.now in
    let old = c.loop-pair.bytes in
    let pair = c.in-Some.pair.now in
    let rest = c.next.new.self.rest.now in
    let none : (b : ℕ) → Byte (slice_index pair 0) (slice_index pair 1) b → ⊥ = search rules in
    let two : length pair ≡ 2 = search rules in
    let ahead : drop (2 * vec_len old) digits ≡ pair ++ rest = search rules in
    (old.items, stops_here digits old.items pair rest (ap (λ n. drop (2 * n) digits) (sym old.ok.0) ∙ ahead) two none c.loop-pair.invariant.3)
