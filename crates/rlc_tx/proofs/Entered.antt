-- One entry of a status report, at the slot of its count.
use Rattle.std.proofs.Common.{◌≡◌, ℕ, ◌^◌, Bool, true, false, cond, ltb, List, Some, None, sym, refl, ap, ◌∙◌, ⊎_elim, arith}
use Rattle.protocol.specs.Pdus.{Entry}
use Rattle.protocol.specs.Searching.{update}
use Rattle.protocol.specs.Sending.{Sdu, names_byte, tx_count}
use Rattle.rlc_tx.proofs.Planned.{same_some, none_some}
use Rattle.rlc_tx.specs.Considered.{considered_next}
use Rattle.rlc_tx.specs.Touches.{counted_of, touch_at, named_sdu, entered}
use Rattle.rlc_tx.specs.Windows.{sdus_in, bare, Holds}
use Rattle.rlc_tx.specs.declared.reporting.Touch.{Touch}
use Rattle.rlc_tx.specs.declared.windows.Window.{Window}
use Rattle.std.proofs.lemmas.Bool.{cases_eq, cond-true, cond-false, lt-ltb, eq-eqb, ne_eqb, and_from, and_right, not_from_false}
use Rattle.wire.specs.Counts.{count_of, held}

-- a count that 32 bits hold
pub held_is : (x y : ℕ) → Some x ≡ held y → x ≡ y
held_is x y e = go (ltb y (2 ^ 32)) e
  where
    go : (b : Bool) → Some x ≡ cond b (Some y) None → x ≡ y
    go true f = same_some x y f
    go false f = absurd (none_some x f)

unnamed : (count : ℕ) (names : ℕ → Bool) (counted : Bool) (sdu : ℕ → Sdu) (x : ℕ) → (count ≡ x → ⊥) → named_sdu count names counted sdu x ≡ sdu x
unnamed count names counted sdu x d = cond-false _ _ _ (and_right _ _ (ne_eqb count x d))

-- an entry that names the SDU of a count
module _ (count : ℕ) (names : ℕ → Bool) (counted : Bool) (sdu : ℕ → Sdu) where
  pub named_once : (sdu count).acknowledged ≡ false → (x : ℕ) → update sdu count (considered_next counted names (sdu count)) x ≡ named_sdu count names counted sdu x
  named_once open_now x = ⊎_elim here (λ d. cond-false _ _ _ (ne_eqb x count d) ∙ sym (unnamed count names counted sdu x (λ e. d (sym e)))) (cases_eq x count)
    where
      here : x ≡ count → update sdu count (considered_next counted names (sdu count)) x ≡ named_sdu count names counted sdu x
      here same =
          cond-true _ _ _ (eq-eqb x count same) ∙ ap (λ y. considered_next counted names (sdu y)) (sym same)
          ∙ sym (cond-true _ _ _ (and_from _ _ (not_from_false _ (ap (λ y. (sdu y).acknowledged) same ∙ open_now)) (eq-eqb count x (sym same))))

module _ (w : Window) (e : Entry) (touches : List Touch) (count : ℕ) (is : count ≡ tx_count (bare w) e.nack_sn) (held : Holds w count) where
  abbrev sdu : ℕ → Sdu
  sdu = sdus_in w

  pub entered_as : (t : Touch) → t ≡ touch_at touches count → (x : ℕ) → named_sdu count (names_byte e.missing) (counted_of t) (sdus_in w) x ≡ entered (bare w) e touches x
  entered_as t at x = ⊎_elim here other (cases_eq count x)
    where
      here : count ≡ x → named_sdu count (names_byte e.missing) (counted_of t) sdu x ≡ entered (bare w) e touches x
      here same =
          ap (λ c. named_sdu c (names_byte e.missing) (counted_of t) sdu x) is
          ∙ ap (λ u. named_sdu (tx_count (bare w) e.nack_sn) (names_byte e.missing) (counted_of u) sdu x) (at ∙ ap (touch_at touches) same)
          ∙ sym (cond-true _ _ _ (lt-ltb x (count_of w.tx_next) (omega (arith, same, held.to))))

      other : (count ≡ x → ⊥) → named_sdu count (names_byte e.missing) (counted_of t) sdu x ≡ entered (bare w) e touches x
      other d =
          unnamed count (names_byte e.missing) (counted_of t) sdu x d
          ∙ sym (both (ltb x (count_of w.tx_next)) (unnamed (tx_count (bare w) e.nack_sn) (names_byte e.missing) _ sdu x (λ f. d (is ∙ f))))
        where
          both : (b : Bool) → named_sdu (tx_count (bare w) e.nack_sn) (names_byte e.missing) (counted_of (touch_at touches x)) sdu x ≡ sdu x
              → cond b (named_sdu (tx_count (bare w) e.nack_sn) (names_byte e.missing) (counted_of (touch_at touches x)) sdu x) (sdu x) ≡ sdu x
          both true h = h
          both false h = refl
