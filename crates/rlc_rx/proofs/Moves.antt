-- Where RX_Next and RX_Highest_Status move, and what they keep.
use Rattle.std.proofs.Common.{◌≡◌, ℕ, ◌-◌, ◌<◌, ◌≤◌, Bool, true, false, cond, not, ◌&&◌, eqb, ltb, ◌≢◌, ◌⊎◌, List, sym, refl, ap, ◌∙◌, ⊎_elim, arith}
use Rattle.protocol.specs.Receiving as far
use Rattle.protocol.specs.Rings.{in_ring}
use Rattle.protocol.specs.Searching.{seek}
use Rattle.protocol.proofs.Seeks.{seek_from, seek_to, seek_found, seek_least}
use Rattle.rlc_rx.specs.Rings.{sdus_in, polls_in}
use Rattle.rlc_rx.proofs.Places.{window_seen}
use Rattle.rlc_rx.proofs.Seeking.{seek_range}
use Rattle.std.proofs.lemmas.Bool.{both_ways, cases_lt, cases_eq, cases_Bool, cond-true, cond-false, lt-ltb, le-ltb, eqb-true, eqb-false, not-true, not_from_false}

-- the first count from x on that is not complete; `high` is one past the highest count seen
abbrev pub open_from : (ℕ → far.Partial) → (high x : ℕ) → ℕ
open_from sdus high x = seek (λ y. not (far.complete (sdus y))) (high - x) x

-- a variable that moves past the count x where that is complete
abbrev pub past : (ℕ → far.Partial) → (high x variable : ℕ) → ℕ
past sdus high x variable = cond (far.complete (sdus x) && eqb variable x) (open_from sdus high x) variable

-- the search in the ring is the search in the window
pub open_is : (next high x : ℕ) (ring : List far.Partial) → next ≤ x
    → seek (λ y. not (far.complete (in_ring ring y far.nothing_held))) (high - x) x ≡ open_from (sdus_in next high ring) high x
open_is next high x ring from =
    seek_range _ _ (high - x) x
    (λ j lo hi. ap (λ p. not (far.complete p)) (sym (window_seen far.complete_sdu far.nothing_held next high ring j (omega (arith, from, lo)) (omega (arith, lo, hi)))))

module _ (sdus : ℕ → far.Partial) (high x : ℕ) (seen : x ≤ high) where
  pub open_low : x ≤ open_from sdus high x
  open_low = seek_from (λ y. not (far.complete (sdus y))) (high - x) x

  pub open_high : open_from sdus high x ≤ high
  open_high = omega (arith, seek_to (λ y. not (far.complete (sdus y))) (high - x) x, seen)

  -- it is not complete, where what was not seen is not
  pub open_open : far.complete (sdus high) ≡ false → far.complete (sdus (open_from sdus high x)) ≡ false
  open_open none = ⊎_elim inside over (cases_lt (open_from sdus high x) high)
    where
      inside : open_from sdus high x < high → far.complete (sdus (open_from sdus high x)) ≡ false
      inside lt = not-true _ (seek_found (λ y. not (far.complete (sdus y))) (high - x) x (omega (arith, lt, seen)))

      over : high ≤ open_from sdus high x → far.complete (sdus (open_from sdus high x)) ≡ false
      over ge = let same : open_from sdus high x ≡ high = omega (arith, ge, open_high) in ap (λ y. far.complete (sdus y)) same ∙ none

  -- the two ways of a variable
  by_past : (variable : ℕ) (P : ℕ → Type 0) → (far.complete (sdus x) ≡ true → variable ≡ x → P (open_from sdus high x))
      → ((far.complete (sdus x) ≡ true → variable ≢ x) → P variable) → P (past sdus high x variable)
  by_past variable P moves stays = go (far.complete (sdus x)) refl (eqb variable x) refl
    where
      go : (done : Bool) → far.complete (sdus x) ≡ done → (at : Bool) → eqb variable x ≡ at → P (cond (done && at) (open_from sdus high x) variable)
      go true c true e = moves c (eqb-true variable x e)
      go true c false e = stays (λ d s. eqb-false variable x e s)
      go false c at e = stays (λ d. absurd (both_ways _ c d))

  pub past_from : (variable : ℕ) → variable ≤ past sdus high x variable
  past_from variable = by_past variable (λ v. variable ≤ v) (λ c e. omega (arith, e, open_low)) (λ h. omega arith)

  pub past_to : (variable : ℕ) → variable ≤ high → past sdus high x variable ≤ high
  past_to variable le = by_past variable (λ v. v ≤ high) (λ c e. open_high) (λ h. le)

  -- RX_Next stays at most RX_Highest_Status, which is not complete unless it is x
  pub past_ordered : (next status : ℕ) → next ≤ x → next ≤ status → (status ≢ x → far.complete (sdus status) ≡ false)
      → past sdus high x next ≤ past sdus high x status
  past_ordered next status from le waits =
      by_past next (λ v. v ≤ past sdus high x status)
      (λ c e. by_past status (λ w. open_from sdus high x ≤ w) (λ d s. omega arith)
      (λ h. seek_least (λ y. not (far.complete (sdus y))) (high - x) x status (omega (arith, e, le)) (not_from_false _ (waits (h c)))))
      (λ h. omega (arith, le, past_from status))

  pub past_open : (status : ℕ) → far.complete (sdus high) ≡ false → (status ≢ x → far.complete (sdus status) ≡ false)
      → far.complete (sdus (past sdus high x status)) ≡ false
  past_open status none waits =
      by_past status (λ v. far.complete (sdus v) ≡ false) (λ c e. open_open none) (λ h. ⊎_elim (λ e. at_x e h) (λ d. waits d) (cases_eq status x))
    where
      at_x : status ≡ x → (far.complete (sdus x) ≡ true → status ≢ x) → far.complete (sdus status) ≡ false
      at_x e h = ⊎_elim (λ c. absurd (h c e)) (λ f. ap (λ y. far.complete (sdus y)) e ∙ f) (cases_Bool (far.complete (sdus x)))

pub past_moves : (sdus : ℕ → far.Partial) (high x variable to : ℕ) → far.complete (sdus x) ≡ true → to ≡ open_from sdus high x
    → cond (eqb variable x) to variable ≡ past sdus high x variable
past_moves sdus high x variable to c e =
    ap (λ t. cond (eqb variable x) t variable) e ∙ sym (ap (λ b. cond (b && eqb variable x) (open_from sdus high x) variable) c)

-- the window that begins later ---------------------------------------------------------------------------------------------

pub sdus_raised : (next next' high : ℕ) (ring : List far.Partial) → next ≤ next'
    → ◌≡◌ {A = ℕ → far.Partial} (λ y. cond (ltb y next') far.complete_sdu (sdus_in next high ring y)) (sdus_in next' high ring)
sdus_raised next next' high ring le = λ k y. at y (cases_lt y next') k
  where
    at : (y : ℕ) → (y < next') ⊎ (next' ≤ y) → cond (ltb y next') far.complete_sdu (sdus_in next high ring y) ≡ sdus_in next' high ring y
    at y = ⊎_elim (λ lt. cond-true _ _ _ (lt-ltb y next' lt) ∙ sym (cond-true _ _ _ (lt-ltb y next' lt)))
        (λ ge. ap (cond (ltb y next') far.complete_sdu) (cond-false _ _ _ (le-ltb y next (omega (arith, ge, le)))))

-- from the later beginning on, nothing differs
pub sdus_same : (next next' high : ℕ) (ring : List far.Partial) (y : ℕ) → next ≤ next' → next' ≤ y → sdus_in next' high ring y ≡ sdus_in next high ring y
sdus_same next next' high ring y le from = cond-false _ _ _ (le-ltb y next' from) ∙ sym (cond-false _ _ _ (le-ltb y next (omega (arith, le, from))))

-- the polls of the ring are those of the window
pub polls_found : (next status high : ℕ) (ring : List Bool) → next ≤ status → status ≤ high
    → ltb (seek (λ y. in_ring ring y false) (status - next) next) status ≡ ltb (seek (polls_in next high ring) (status - next) next) status
polls_found next status high ring low top =
    ap (λ k. ltb k status)
    (seek_range _ _ (status - next) next (λ j lo hi. sym (window_seen false false next high ring j lo (omega (arith, lo, hi, low, top)))))
