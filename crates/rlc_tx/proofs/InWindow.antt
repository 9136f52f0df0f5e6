-- The SDUs of the window, by their counts.
use Rattle.std.proofs.Common.{◌≡◌, ℕ, ◌+◌, ◌-◌, ◌%◌, ◌<◌, ◌≤◌, Bool, true, false, cond, eqb, ltb, List, map, length, get_or, set, Some, None, sym, ap, ◌∙◌, ⊎_elim, arith}
use Rattle.protocol.proofs.Marks.{seek_is}
use Rattle.protocol.proofs.Rings.{ring_update}
use Rattle.protocol.specs.Rings.{in_ring}
use Rattle.protocol.specs.Searching.{seek, update}
use Rattle.protocol.specs.Sending.{Sdu, Near, gone, none_yet, with_sdus}
use Rattle.rlc_tx.specs.Slots.{sdu_of}
use Rattle.rlc_tx.specs.Searches.{first_in}
use Rattle.rlc_tx.specs.Windows.{sdu_at, sdus_in, bare, with_sdu, Holds}
use Rattle.rlc_tx.specs.declared.slots.Slot.{Slot}
use Rattle.rlc_tx.specs.declared.windows.Window.{Window}
use Rattle.wire.specs.Counts.{count_of}
use Rattle.std.proofs.lemmas.List.{get_or-map, length-map, map-set}
use Rattle.std.proofs.lemmas.Bool.{cases_lt, cases_eq, cond-true, cond-false, cond_both, lt-ltb, le-ltb, eq-eqb, ne_eqb}

module _ (sdus : List Sdu) (first next : ℕ) where
  pub below : (x : ℕ) → x < first → sdu_at sdus first next x ≡ gone
  below x l = cond-true _ _ _ (lt-ltb x first l)

  pub inside : (x : ℕ) → first ≤ x → x < next → sdu_at sdus first next x ≡ in_ring sdus x none_yet
  inside x lo hi = cond-false _ _ _ (le-ltb x first lo) ∙ cond-true _ _ _ (lt-ltb x next hi)

  pub beyond : (x : ℕ) → first ≤ x → next ≤ x → sdu_at sdus first next x ≡ none_yet
  beyond x lo hi = cond-false _ _ _ (le-ltb x first lo) ∙ cond-false _ _ _ (le-ltb x next hi)

-- SDUs that are equal one by one
pub same_sdus : (n : Near) (f g : ℕ → Sdu) → ((x : ℕ) → f x ≡ g x) → with_sdus n f ≡ with_sdus n g
same_sdus n f g same = ap (with_sdus n) (λ i. λ x. same x i)

-- the slot of a count
pub slot_inside : (slots : List Slot) (first next x : ℕ) (d : Slot) → length slots ≡ 16 → first ≤ x → x < next
    → sdu_of (get_or slots (x % 16) d) ≡ sdu_at (map sdu_of slots) first next x
slot_inside slots first next x d size lo hi =
    sym (inside (map sdu_of slots) first next x lo hi ∙ get_or-map sdu_of slots (x % 16) d none_yet (omega (arith, size)))

-- one slot changed
pub slot_set : (slots : List Slot) (first next x : ℕ) (slot : Slot) → length slots ≡ 16 → first ≤ x → x < next → next ≤ first + 16
    → (y : ℕ) → sdu_at (map sdu_of (set slots (x % 16) slot)) first next y ≡ update (sdu_at (map sdu_of slots) first next) x (sdu_of slot) y
slot_set slots first next x slot size lo hi window y = ⊎_elim under (λ from. ⊎_elim (within from) (past from) (cases_lt y next)) (cases_lt y first)
  where
    sdus : List Sdu
    sdus = map sdu_of slots

    other : (y ≡ x → ⊥) → update (sdu_at (map sdu_of slots) first next) x (sdu_of slot) y ≡ sdu_at (map sdu_of slots) first next y
    other d = cond-false _ _ _ (ne_eqb y x d)

    under : y < first → sdu_at (map sdu_of (set slots (x % 16) slot)) first next y ≡ update (sdu_at (map sdu_of slots) first next) x (sdu_of slot) y
    under l = below _ first next y l ∙ sym (other (λ e. omega (arith, e, l, lo)) ∙ below sdus first next y l)

    past : first ≤ y → next ≤ y → sdu_at (map sdu_of (set slots (x % 16) slot)) first next y ≡ update (sdu_at (map sdu_of slots) first next) x (sdu_of slot) y
    past from l = beyond _ first next y from l ∙ sym (other (λ e. omega (arith, e, l, hi)) ∙ beyond sdus first next y from l)

    within : first ≤ y → y < next → sdu_at (map sdu_of (set slots (x % 16) slot)) first next y ≡ update (sdu_at (map sdu_of slots) first next) x (sdu_of slot) y
    within from l =
        inside _ first next y from l ∙ ap (λ ss. in_ring ss y none_yet) (map-set sdu_of slots (x % 16) slot)
        ∙ ring_update sdus first x y (sdu_of slot) none_yet (length-map slots sdu_of ∙ size) lo (omega (arith, hi, window)) from (omega (arith, l, window))
        ∙ ap (cond (eqb y x) (sdu_of slot)) (sym (inside sdus first next y from l))

-- a search in the window ------------------------------------------------------------------------------------------------

module _ (test : ℕ → Bool) (first next : ℕ) (order : first ≤ next) where
  -- it ends at the first that passes
  pub first_is : (k : ℕ) → first ≤ k → k < next → ((x : ℕ) → first ≤ x → x < k → test x ≡ false) → test k ≡ true → first_in test first next ≡ Some k
  first_is k from to before at = cond-true _ _ _ (lt-ltb _ next (omega (arith, here, to))) ∙ ap (λ n. Some n) here
    where
      here : seek test (next - first) first ≡ k
      here = seek_is test (next - first) first k from (omega (arith, to)) before (λ l. at)

  pub first_none : ((x : ℕ) → first ≤ x → x < next → test x ≡ false) → first_in test first next ≡ None
  first_none before = cond-false _ _ _ (le-ltb _ next (omega (arith, here, order)))
    where
      here : seek test (next - first) first ≡ next
      here = seek_is test (next - first) first next order (omega (arith, order)) before (λ l. absurd (omega (arith, l, order)))

-- a slot more
pub slot_given : (slots : List Slot) (first next : ℕ) (slot : Slot) → length slots ≡ 16 → first ≤ next → next < first + 16
    → (y : ℕ) → sdu_at (map sdu_of (set slots (next % 16) slot)) first (next + 1) y ≡ update (sdu_at (map sdu_of slots) first next) next (sdu_of slot) y
slot_given slots first next slot size order room y =
    slot_set slots first (next + 1) next slot size order (omega arith) (omega (arith, room)) y ∙ ⊎_elim (λ e. new e) (λ d. old d) (cases_eq y next)
  where
    new : y ≡ next → update (sdu_at (map sdu_of slots) first (next + 1)) next (sdu_of slot) y ≡ update (sdu_at (map sdu_of slots) first next) next (sdu_of slot) y
    new e = cond-true _ _ _ (eq-eqb y next e) ∙ sym (cond-true _ _ _ (eq-eqb y next e))

    old : (y ≡ next → ⊥) → update (sdu_at (map sdu_of slots) first (next + 1)) next (sdu_of slot) y ≡ update (sdu_at (map sdu_of slots) first next) next (sdu_of slot) y
    old d = ap (λ test. cond (eqb y next) (sdu_of slot) (cond (ltb y first) gone (cond test (in_ring (map sdu_of slots) y none_yet) none_yet))) one_less
      where
        one_less : ltb y (next + 1) ≡ ltb y next
        one_less = ⊎_elim (λ l. lt-ltb y (next + 1) (omega (arith, l)) ∙ sym (lt-ltb y next l)) (λ l. le-ltb y (next + 1) (omega (arith, l, d)) ∙ sym (le-ltb y next l)) (cases_lt y next)

-- what holds of each SDU, once one was changed
pub update_each : (P : Sdu → Type 0) (f : ℕ → Sdu) (x : ℕ) (s : Sdu) → ((y : ℕ) → P (f y)) → P s → (y : ℕ) → P (update f x s y)
update_each P f x s was now y = cond_both (eqb y x) s (f y) P (λ e. now) (λ e. was y)

-- the slot of a count in a window, and that slot changed
module _ (w : Window) (x place : ℕ) (at : place ≡ x % 16) (held : Holds w x) where
  pub stands_at : (d : Slot) → sdu_of (get_or w.slots place d) ≡ sdus_in w x
  stands_at d = ap (λ i. sdu_of (get_or w.slots i d)) at ∙ slot_inside w.slots _ _ x d w.ring held.from held.to

  pub changed_at : (slot : Slot) (s : Sdu) → sdu_of slot ≡ s
      → with_sdus (bare w) (sdu_at (map sdu_of (set w.slots place slot)) (count_of w.tx_next_ack) (count_of w.tx_next)) ≡ with_sdu (bare w) x s
  changed_at slot s is =
      same_sdus (bare w) _ _
      (λ y.
      ap (λ i. sdu_at (map sdu_of (set w.slots i slot)) (count_of w.tx_next_ack) (count_of w.tx_next) y) at
      ∙ slot_set w.slots _ _ x slot w.ring held.from held.to w.bounded y ∙ ap (λ t. update (sdus_in w) x t y) is)

-- a window that begins later
pub slid : (sdus : List Sdu) (first next to : ℕ) → first ≤ to → (x : ℕ) → sdu_at sdus to next x ≡ cond (ltb x to) gone (sdu_at sdus first next x)
slid sdus first next to later x = ⊎_elim under over (cases_lt x to)
  where
    under : x < to → sdu_at sdus to next x ≡ cond (ltb x to) gone (sdu_at sdus first next x)
    under l = below sdus to next x l ∙ sym (cond-true _ _ _ (lt-ltb x to l))

    over : to ≤ x → sdu_at sdus to next x ≡ cond (ltb x to) gone (sdu_at sdus first next x)
    over l = cond-false _ _ _ (le-ltb x to l) ∙ sym (cond-false _ _ _ (le-ltb x to l) ∙ cond-false _ _ _ (le-ltb x first (omega (arith, l, later))))
