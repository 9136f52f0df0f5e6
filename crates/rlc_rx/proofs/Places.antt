-- A ring of slots against the window that it stands for.
use Rattle.std.proofs.Common.{◌≡◌, ℕ, ◌+◌, ◌%◌, ◌<◌, ◌≤◌, max, Bool, false, cond, not, ◌&&◌, ltb, ◌≢◌, ◌⊎◌, List, map, length, get_or, set, sym, ap, ◌∙◌, ⊎_elim, arith}
use Rattle.protocol.specs.Rings.{in_ring}
use Rattle.protocol.specs.Searching.{update}
use Rattle.protocol.proofs.Rings.{ring_same, ring_other}
use Rattle.protocol.proofs.Seeks.{update_same, update_other}
use Rattle.rlc_rx.specs.Rings.{window_in, polls_in, Cleared}
use Rattle.std.proofs.lemmas.List.{get_or-map, length-set}
use Rattle.std.proofs.lemmas.Bool.{cases_lt, cases_eq, cond-true, cond-false, lt-ltb, le-ltb}

pub ring_read : {S A : Type 0} (f : S → A) (slots : List S) (x : ℕ) (none : A) (d : S) → length slots ≡ 16
    → in_ring (map f slots) x none ≡ f (get_or slots (x % 16) d)
ring_read f slots x none d size = get_or-map f slots (x % 16) d none (omega (arith, size))

module _ {A : Type 0} (none : A) where
  pub cleared_more : (from x : ℕ) (ring ring' : List A) (a : A) → length ring ≡ 16 → from ≤ x → x < from + 16 → a ≡ none
      → Cleared none from x ring ring' → Cleared none from (x + 1) ring (set ring' (x % 16) a)
  cleared_more from x ring ring' a size lo hi is m =
      record {
        size = length-set ring' (x % 16) a ∙ m.size;
        cleared = λ y y_lo y_hi. ⊎_elim (λ e. here y e) (λ d. below y y_lo (omega (arith, y_hi, d))) (cases_eq y x);
        before = λ y y_lo y_hi. apart y (omega (arith, y_lo, lo)) (omega (arith, y_hi)) ∙ m.before y y_lo (omega (arith, y_hi));
        behind = λ y y_lo y_hi. ring_other ring' x y a none (λ e. omega (arith, e, y_lo, y_hi, lo)) ∙ m.behind y (omega (arith, y_lo)) y_hi;
      }
    where
      size' : length ring' ≡ 16
      size' = m.size ∙ size

      apart : (y : ℕ) → y < x → x < y + 16 → in_ring (set ring' (x % 16) a) y none ≡ in_ring ring' y none
      apart y lt near = ring_other ring' x y a none (λ e. omega (arith, e, lt, near))

      here : (y : ℕ) → y ≡ x → in_ring (set ring' (x % 16) a) y none ≡ none
      here y e = ap (λ z. in_ring (set ring' (x % 16) a) z none) e ∙ ring_same ring' x a none size' ∙ is

      below : (y : ℕ) → from ≤ y → y < x → in_ring (set ring' (x % 16) a) y none ≡ none
      below y y_lo lt = apart y lt (omega (arith, y_lo, hi)) ∙ m.cleared y y_lo lt

-- the window, place by place ----------------------------------------------------------------------------------------------

module _ {A : Type 0} (below none : A) (low high : ℕ) (ring : List A) where
  pub window_below : (y : ℕ) → y < low → window_in below none low high ring y ≡ below
  window_below y lt = cond-true _ _ _ (lt-ltb y low lt)

  pub window_seen : (y : ℕ) → low ≤ y → y < high → window_in below none low high ring y ≡ in_ring ring y none
  window_seen y le lt = cond-false _ _ _ (le-ltb y low le) ∙ cond-true _ _ _ (lt-ltb y high lt)

  pub window_unseen : (y : ℕ) → low ≤ y → high ≤ y → window_in below none low high ring y ≡ none
  window_unseen y le ge = cond-false _ _ _ (le-ltb y low le) ∙ cond-false _ _ _ (le-ltb y high ge)

-- a count seen ------------------------------------------------------------------------------------------------------------

module _ {A : Type 0} (below none : A) (next low high x : ℕ) (ring ring' : List A) (size : length ring ≡ 16) (from : next ≤ low)
    (window : high ≤ next + 16) (x_from : next ≤ x) (x_to : x < next + 16) (m : Cleared none high (max high (x + 1)) ring ring') where
  -- what the count had
  pub seen_was : low ≤ x → in_ring ring' x none ≡ window_in below none low high ring x
  seen_was le = ⊎_elim old new (cases_lt x high)
    where
      old : x < high → in_ring ring' x none ≡ window_in below none low high ring x
      old lt = m.before x lt (omega (arith, lt, window, x_from)) ∙ sym (window_seen below none low high ring x le lt)

      new : high ≤ x → in_ring ring' x none ≡ window_in below none low high ring x
      new ge = m.cleared x ge (omega (arith, ge)) ∙ sym (window_unseen below none low high ring x le ge)

  pub seen_now : (a : A) (y : ℕ)
      → window_in below none low (max high (x + 1)) (set ring' (x % 16) a) y ≡ cond (ltb y low) below (update (window_in below none low high ring) x a y)
  seen_now a y = ⊎_elim under over (cases_lt y low)
    where
      under : y < low → window_in below none low (max high (x + 1)) (set ring' (x % 16) a) y ≡ cond (ltb y low) below (update (window_in below none low high ring) x a y)
      under lt = window_below below none low (max high (x + 1)) (set ring' (x % 16) a) y lt ∙ sym (cond-true _ _ _ (lt-ltb y low lt))

      over : low ≤ y → window_in below none low (max high (x + 1)) (set ring' (x % 16) a) y ≡ cond (ltb y low) below (update (window_in below none low high ring) x a y)
      over le = ⊎_elim here other (cases_eq y x) ∙ sym (cond-false _ _ _ (le-ltb y low le))
        where
          here : y ≡ x → window_in below none low (max high (x + 1)) (set ring' (x % 16) a) y ≡ update (window_in below none low high ring) x a y
          here e =
              window_seen below none low (max high (x + 1)) (set ring' (x % 16) a) y le (omega (arith, e))
              ∙ ap (λ z. in_ring (set ring' (x % 16) a) z none) e ∙ ring_same ring' x a none (m.size ∙ size)
              ∙ sym (ap (update (window_in below none low high ring) x a) e ∙ update_same (window_in below none low high ring) x a)

          other : y ≢ x → window_in below none low (max high (x + 1)) (set ring' (x % 16) a) y ≡ update (window_in below none low high ring) x a y
          other d = ⊎_elim old (λ ge. ⊎_elim (new ge) (beyond ge) (cases_lt y (max high (x + 1)))) (cases_lt y high) ∙ sym (update_other (window_in below none low high ring) x a y d)
            where
              apart : y < next + 16 → in_ring (set ring' (x % 16) a) y none ≡ in_ring ring' y none
              apart lt = ring_other ring' x y a none (λ e. d (omega (arith, e, lt, from, le, x_from, x_to)))

              old : y < high → window_in below none low (max high (x + 1)) (set ring' (x % 16) a) y ≡ window_in below none low high ring y
              old lt =
                  window_seen below none low (max high (x + 1)) (set ring' (x % 16) a) y le (omega (arith, lt)) ∙ apart (omega (arith, lt, window))
                  ∙ m.before y lt (omega (arith, window, x_to, from, le)) ∙ sym (window_seen below none low high ring y le lt)

              new : high ≤ y → y < max high (x + 1) → window_in below none low (max high (x + 1)) (set ring' (x % 16) a) y ≡ window_in below none low high ring y
              new ge lt =
                  window_seen below none low (max high (x + 1)) (set ring' (x % 16) a) y le lt ∙ apart (omega (arith, ge, lt, x_to))
                  ∙ m.cleared y ge lt ∙ sym (window_unseen below none low high ring y le ge)

              beyond : high ≤ y → max high (x + 1) ≤ y → window_in below none low (max high (x + 1)) (set ring' (x % 16) a) y ≡ window_in below none low high ring y
              beyond ge past =
                  window_unseen below none low (max high (x + 1)) (set ring' (x % 16) a) y le past ∙ sym (window_unseen below none low high ring y le ge)

-- as functions
pub window_now : {A : Type 0} (below none : A) (next high x : ℕ) (ring ring' : List A) (a : A) → length ring ≡ 16 → high ≤ next + 16 → next ≤ x → x < next + 16
    → Cleared none high (max high (x + 1)) ring ring'
    → window_in below none next (max high (x + 1)) (set ring' (x % 16) a) ≡ update (window_in below none next high ring) x a
window_now below none next high x ring ring' a size window from to m =
    λ k y. (seen_now below none next next high x ring ring' size (omega arith) window from to m a y ∙ outside y (cases_lt y next)) k
  where
    outside : (y : ℕ) → (y < next) ⊎ (next ≤ y)
        → cond (ltb y next) below (update (window_in below none next high ring) x a y) ≡ update (window_in below none next high ring) x a y
    outside y =
        ⊎_elim
        (λ lt. cond-true _ _ _ (lt-ltb y next lt) ∙ sym (update_other (window_in below none next high ring) x a y (λ e. omega (arith, e, lt, from)) ∙ window_below below none next high ring y lt))
        (λ le. cond-false _ _ _ (le-ltb y next le))

-- the answered polls are those of the definition, once RX_Next and RX_Highest_Status have moved
pub polls_answered : (next next' status high : ℕ) (ring ring' : List Bool) → next ≤ next' → next' ≤ status → status ≤ high → high ≤ next + 16
    → Cleared false next status ring ring'
    → polls_in next' high ring' ≡ (λ y. not (ltb y status) && polls_in next high ring y)
polls_answered next next' status high ring ring' from low top window m = λ k y. at y (cases_lt y status) k
  where
    at : (y : ℕ) → (y < status) ⊎ (status ≤ y) → polls_in next' high ring' y ≡ (not (ltb y status) && polls_in next high ring y)
    at y = ⊎_elim answered waiting
      where
        none : y < status → polls_in next' high ring' y ≡ false
        none lt =
            ⊎_elim (λ below. window_below false false next' high ring' y below)
            (λ seen. window_seen false false next' high ring' y seen (omega (arith, lt, top)) ∙ m.cleared y (omega (arith, seen, from)) lt) (cases_lt y next')

        answered : y < status → polls_in next' high ring' y ≡ (not (ltb y status) && polls_in next high ring y)
        answered lt = none lt ∙ sym (ap (λ b. not b && polls_in next high ring y) (lt-ltb y status lt))

        still : status ≤ y → polls_in next' high ring' y ≡ polls_in next high ring y
        still ge =
            ⊎_elim
            (λ lt. window_seen false false next' high ring' y (omega (arith, ge, low)) lt ∙ m.behind y ge (omega (arith, lt, window))
            ∙ sym (window_seen false false next high ring y (omega (arith, ge, low, from)) lt))
            (λ past. window_unseen false false next' high ring' y (omega (arith, ge, low)) past
            ∙ sym (window_unseen false false next high ring y (omega (arith, ge, low, from)) past)) (cases_lt y high)

        waiting : status ≤ y → polls_in next' high ring' y ≡ (not (ltb y status) && polls_in next high ring y)
        waiting ge = still ge ∙ sym (ap (λ b. not b && polls_in next high ring y) (le-ltb y status ge))
