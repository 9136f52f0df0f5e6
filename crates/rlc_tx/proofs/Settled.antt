-- The SDUs that a status report acknowledges, one by one.
use Rattle.std.proofs.Common.{◌≡◌, ℕ, ◌+◌, ◌<◌, ◌≤◌, Bool, true, false, cond, not, ◌&&◌, ltb, leb, List, sym, refl, ap, ◌∙◌, ⊎_elim, arith}
use Rattle.protocol.specs.Pdus.{Entry}
use Rattle.protocol.specs.Searching.{update}
use Rattle.protocol.specs.Sending as near
use Rattle.rlc_tx.proofs.InWindow.{same_sdus}
use Rattle.rlc_tx.specs.Touches.{named_of, touch_at, settled, settled_to}
use Rattle.rlc_tx.specs.Windows.{sdus_in, bare, with_sdu, Holds}
use Rattle.rlc_tx.specs.declared.reporting.Touch.{Touch}
use Rattle.rlc_tx.specs.declared.windows.Window.{Window}
use Rattle.std.proofs.lemmas.Bool.{cases_lt, cases_eq, cond-true, cond-false, lt-ltb, le-ltb, le-leb, lt-leb, eq-eqb, ne_eqb, and_from, and_left, and_right}
use Rattle.wire.specs.Counts.{count_of}

-- an SDU that is not acknowledged stays
pub unsettled : (w : Window) (x : ℕ) (below named : Bool) → (below && (not named && not (near.has near.is_unsent (sdus_in w x)))) ≡ false
    → bare w ≡ with_sdu (bare w) x (settled below named (sdus_in w x))
unsettled w x below named stays =
    same_sdus (bare w) _ _
    (λ y.
    ⊎_elim (λ (same : y ≡ x). sym (cond-true _ _ _ (eq-eqb y x same) ∙ cond-false _ _ _ stays ∙ ap (sdus_in w) (sym same))) (λ d. sym (cond-false _ _ _ (ne_eqb y x d))) (cases_eq y x))

-- one more
pub settled_more : (first k ack count : ℕ) (touches : List Touch) (sdu after : ℕ → near.Sdu) (t : Touch) → count ≡ first + k → t ≡ touch_at touches count
    → ((x : ℕ) → after x ≡ settled_to first (first + k) ack touches sdu x)
    → (x : ℕ) → update after count (settled (ltb count ack) (named_of t) (after count)) x ≡ settled_to first (first + (k + 1)) ack touches sdu x
settled_more first k ack count touches sdu after t at is so_far x = ⊎_elim here other (cases_eq x count)
  where
    untouched : after count ≡ sdu count
    untouched = so_far count ∙ cond-false _ _ _ (and_right (leb first count) _ (le-ltb count (first + k) (omega (arith, at))))

    here : x ≡ count → update after count (settled (ltb count ack) (named_of t) (after count)) x ≡ settled_to first (first + (k + 1)) ack touches sdu x
    here same =
        cond-true _ _ _ (eq-eqb x count same) ∙ ap (settled (ltb count ack) (named_of t)) untouched ∙ ap (λ u. settled (ltb count ack) (named_of u) (sdu count)) is
        ∙ ap (λ y. settled (ltb y ack) (named_of (touch_at touches y)) (sdu y)) (sym same)
        ∙ sym (cond-true _ _ _ (and_from _ _ (le-leb first x (omega (arith, same, at))) (lt-ltb x (first + (k + 1)) (omega (arith, same, at)))))

    other : (x ≡ count → ⊥) → update after count (settled (ltb count ack) (named_of t) (after count)) x ≡ settled_to first (first + (k + 1)) ack touches sdu x
    other d =
        cond-false _ _ _ (ne_eqb x count d) ∙ so_far x ∙ ap (λ b. cond (leb first x && b) (settled (ltb x ack) (named_of (touch_at touches x)) (sdu x)) (sdu x)) one_more
      where
        one_more : ltb x (first + k) ≡ ltb x (first + (k + 1))
        one_more = ⊎_elim (λ l. lt-ltb _ _ l ∙ sym (lt-ltb x (first + (k + 1)) (omega (arith, l)))) (λ l. le-ltb _ _ l ∙ sym (le-ltb x (first + (k + 1)) (omega (arith, l, at, d)))) (cases_lt x (first + k))

-- outside the window a report acknowledges nothing
module _ (w : Window) (ack : ℕ) (inside : ack ≤ count_of w.tx_next) (es : List Entry) (touches : List Touch) (sdu : ℕ → near.Sdu)
    (gone_below : (x : ℕ) → x < count_of w.tx_next_ack → sdu x ≡ near.gone)
    (names : (x : ℕ) → Holds w x → named_of (touch_at touches x) ≡ near.named (bare w) es x) where
  pub settled_is : (x : ℕ) → settled_to (count_of w.tx_next_ack) (count_of w.tx_next) ack touches sdu x ≡ near.acknowledged_in (bare w) ack es x (sdu x)
  settled_is x = ⊎_elim under (λ from. ⊎_elim (within from) (past from) (cases_lt x (count_of w.tx_next))) (cases_lt x (count_of w.tx_next_ack))
    where
      both : (b : Bool) → cond b (near.acknowledge near.gone) near.gone ≡ near.gone
      both true = refl
      both false = refl

      under : x < count_of w.tx_next_ack → settled_to (count_of w.tx_next_ack) (count_of w.tx_next) ack touches sdu x ≡ near.acknowledged_in (bare w) ack es x (sdu x)
      under l =
          cond-false _ _ _ (and_left _ _ (lt-leb _ x l)) ∙ gone_below x l
          ∙ sym (ap (near.acknowledged_in (bare w) ack es x) (gone_below x l) ∙ both (ltb x ack && (not (near.named (bare w) es x) && not (near.has near.is_unsent near.gone))))

      within : count_of w.tx_next_ack ≤ x → x < count_of w.tx_next → settled_to (count_of w.tx_next_ack) (count_of w.tx_next) ack touches sdu x ≡ near.acknowledged_in (bare w) ack es x (sdu x)
      within from l = cond-true _ _ _ (and_from _ _ (le-leb _ x from) (lt-ltb x _ l)) ∙ ap (λ b. settled (ltb x ack) b (sdu x)) (names x (record { from = from; to = l }))

      past : count_of w.tx_next_ack ≤ x → count_of w.tx_next ≤ x → settled_to (count_of w.tx_next_ack) (count_of w.tx_next) ack touches sdu x ≡ near.acknowledged_in (bare w) ack es x (sdu x)
      past from l =
          cond-false _ _ _ (and_right (leb (count_of w.tx_next_ack) x) _ (le-ltb x (count_of w.tx_next) l))
          ∙ sym (cond-false _ _ _ (and_left _ _ (le-ltb x ack (omega (arith, l, inside)))))

-- RETX-COUNTs stay
pub settled_retx : (first next ack : ℕ) (touches : List Touch) (sdu : ℕ → near.Sdu) (x : ℕ) → (settled_to first next ack touches sdu x).retx_count ≡ (sdu x).retx_count
settled_retx first next ack touches sdu x = go (leb first x && ltb x next) (ltb x ack && (not (named_of (touch_at touches x)) && not (near.has near.is_unsent (sdu x))))
  where
    go : (a b : Bool) → (cond a (cond b (near.acknowledge (sdu x)) (sdu x)) (sdu x)).retx_count ≡ (sdu x).retx_count
    go true true = refl
    go true false = refl
    go false b = refl
