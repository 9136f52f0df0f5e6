use Rattle.std.proofs.Common.{◌≡◌, ◌+◌, ◌<◌, ◌≤◌, true, false, sym, ap, ◌∙◌, subst}
use Rattle.pdcp.proofs.Windows.{found_none, out_of_window, held_taken, under_is}
use Rattle.pdcp.proofs.stores.Store.take.Goals as goal
use Rattle.pdcp.specs.Places.{has_place, copied_out}
use Rattle.pdcp.specs.Stores.{stored_of, taken, taken_if}
use Rattle.std.proofs.lemmas.Bool.{and_parts, leb-true, ltb-true}

pub returns-then-not-reaches : goal.returns-then-not-reaches
returns-then-not-reaches c =
    let s = c.args.self.now in
    let n = c.value.result in
    let out : has_place s.first n ≡ false = sym c.if-not-reaches.ensures in
    let none = found_none s.places s.first n (out_of_window s.first n out) in
    ap (λ o. taken_if o n c.args.buffer.now (stored_of s)) (sym none) ∙ ap (λ m. taken m c.args.buffer.now (stored_of s)) c.value.ensures

pub returns : goal.returns
returns c =
    let s = c.args.self.now in
    let n = c.value-2.result in
    let same : c.value.result ≡ n = c.value.ensures ∙ sym c.value-2.ensures in
    let reached : has_place s.first c.value.result ≡ true = sym c.if-not-reaches.ensures in
    let within = and_parts _ _ reached in
    held_taken s.places s.first n s.sized (subst (λ m. s.first ≤ m) same (leb-true _ _ within.0)) (subst (λ m. m < s.first + 16) same (ltb-true _ _ within.1))
    c.copy_out.new.self c.copy_out.result c.args.buffer.now c.copy_out.new.buffer
    (c.copy_out.ensures ∙ ap (λ o. copied_out o c.args.buffer.now) (sym (under_is s.places n _ s.sized)))
    ∙ ap (λ m. taken m c.args.buffer.now (stored_of s)) c.value-2.ensures
