-- How many flags are set, against which are.
use Rattle.std.proofs.Common.{◌≡◌, ℕ, zero, suc, ◌+◌, ◌-◌, ◌<◌, ◌≤◌, Bool, true, false, cond, not, eqb, ltb, leb, ◌⊎◌, List, [], ◌∷◌, length, get_or, set, replicate, is_some, Some, None, Option, sym, refl, ap, ◌∙◌, ⊎_elim, arith}
use Rattle.protocol.specs.Bytes.{Bytes}
use Rattle.protocol.specs.Receiving as far
use Rattle.protocol.proofs.Seeks.{seek_from, seek_to, seek_found, seek_before, seek_least}
use Rattle.rlc_rx.specs.Flags.{tally, is_held, NoneFrom, EndsAt, bounds}
use Rattle.rlc_rx.specs.Slots.{partial}
use Rattle.std.proofs.lemmas.List.Sums.{sum_by-cons, sum_by-set}
use Rattle.std.proofs.lemmas.List.{get_or-replicate, get_or_past, length-replicate}
use Rattle.std.proofs.lemmas.Bool.{and_parts, leb-true, cond-false, both_ways, cases_lt, cases_eq, lt-ltb, le-ltb, eq-eqb, ne_eqb, not-true, not-false}

tail_none : (n : ℕ) (f : Bool) (fs : List Bool) → NoneFrom (suc n) (f ∷ fs) → NoneFrom n fs
tail_none n f fs h i le = h (suc i) (omega (arith, le))

-- what a flag counts for
abbrev pub one : Bool → ℕ
one flag = cond flag 1 0

pub tally_below : (n : ℕ) (flags : List Bool) → NoneFrom n flags → tally flags ≤ n
tally_below n [] h = omega arith
tally_below zero (true ∷ fs) h = absurd (both_ways true (h 0 (omega arith)) refl)
tally_below zero (false ∷ fs) h = omega (arith, sum_by-cons one false fs, tally_below zero fs (λ i le. h (suc i) (omega (arith, le))))
tally_below (suc n) (true ∷ fs) h = omega (arith, sum_by-cons one true fs, tally_below n fs (tail_none n true fs h))
tally_below (suc n) (false ∷ fs) h = omega (arith, sum_by-cons one false fs, tally_below n fs (tail_none n false fs h))

-- as many as there are places: each is set
pub tally_full : (n : ℕ) (flags : List Bool) → NoneFrom n flags → tally flags ≡ n → (k : ℕ) → k < n → is_held flags k ≡ true
tally_full n [] h e k lt = absurd (omega (arith, e, lt))
tally_full zero (f ∷ fs) h e k lt = absurd (omega (arith, lt))
tally_full (suc n) (true ∷ fs) h e zero lt = refl
tally_full (suc n) (true ∷ fs) h e (suc k) lt = tally_full n fs (tail_none n true fs h) (omega (arith, sum_by-cons one true fs, e)) k (omega (arith, lt))
tally_full (suc n) (false ∷ fs) h e k lt = absurd (omega (arith, sum_by-cons one false fs, e, tally_below n fs (tail_none n false fs h)))

pub tally_all : (n : ℕ) (flags : List Bool) → n ≤ length flags → NoneFrom n flags → ((k : ℕ) → k < n → is_held flags k ≡ true)
    → tally flags ≡ n
tally_all zero flags l h all = omega (arith, tally_below 0 flags h)
tally_all (suc n) [] l h all = absurd (omega (arith, l))
tally_all (suc n) (true ∷ fs) l h all =
    omega (arith, sum_by-cons one true fs, tally_all n fs (omega (arith, l)) (tail_none n true fs h) (λ k lt. all (suc k) (omega (arith, lt))))
tally_all (suc n) (false ∷ fs) l h all = absurd (both_ways false refl (all 0 (omega arith)))

pub tally-set : (flags : List Bool) (i : ℕ) → i < length flags → is_held flags i ≡ false → tally (set flags i true) ≡ tally flags + 1
tally-set flags i lt h = omega (arith, sum_by-set one flags i true false lt, ap one h)

-- a slot's view ---------------------------------------------------------------------------------------------------------

module _ (flags : List Bool) (bytes : Bytes) (end : Option ℕ) where
  abbrev p : far.Partial
  p = partial flags bytes end

  pub holds_is : (j : ℕ) → far.holds p j ≡ is_held flags j
  holds_is j = go (is_held flags j)
    where
      go : (b : Bool) → is_some (cond {A = Option ℕ} b (Some (get_or bytes j 0)) None) ≡ b
      go true = refl
      go false = refl

  -- all bytes before n are held
  reached : (n k : ℕ) → k < far.missing_from p n 0 → is_held flags k ≡ true
  reached n k lt = sym (holds_is k) ∙ not-false _ (seek_before (λ j. not (far.holds p j)) n 0 k (omega arith) lt)

  pub complete_is : (n : ℕ) → n ≤ length flags → NoneFrom n flags → eqb (tally flags) n ≡ far.complete_to p (Some n)
  complete_is n room beyond = ⊎_elim all some (cases_eq (far.missing_from p n 0) n)
    where
      all : far.missing_from p n 0 ≡ n → eqb (tally flags) n ≡ eqb (far.missing_from p n 0) n
      all e = eq-eqb _ n (tally_all n flags room beyond (λ k lt. reached n k (omega (arith, lt, e)))) ∙ sym (eq-eqb _ n e)

      some : (far.missing_from p n 0 ≡ n → ⊥) → eqb (tally flags) n ≡ eqb (far.missing_from p n 0) n
      some d =
          ne_eqb (tally flags) n
          (λ e.
          let lt : far.missing_from p n 0 < 0 + n = omega (arith, d, seek_to (λ j. not (far.holds p j)) n 0) in
          let missing = not-true _ (seek_found (λ j. not (far.holds p j)) n 0 lt) in
          both_ways _ missing (holds_is _ ∙ tally_full n flags beyond e (far.missing_from p n 0) (omega (arith, lt))))
          ∙ sym (ne_eqb _ n d)

  -- whether a byte from i on is held
  pub held_beyond : (n i top : ℕ) → i ≤ n → top ≤ n → NoneFrom top flags → EndsAt top flags
      → ltb i top ≡ ltb (far.held_from p (n - i) i) n
  held_beyond n i top le room beyond last = ⊎_elim yes no (cases_lt i top)
    where
      yes : i < top → ltb i top ≡ ltb (far.held_from p (n - i) i) n
      yes lt =
          let here : far.holds p (top - 1) ≡ true = holds_is (top - 1) ∙ last (top - 1) (omega (arith, lt)) in
          let least = seek_least (far.holds p) (n - i) i (top - 1) (omega (arith, lt)) here in
          lt-ltb i top lt ∙ sym (lt-ltb _ n (omega (arith, least, lt, room)))

      no : top ≤ i → ltb i top ≡ ltb (far.held_from p (n - i) i) n
      no ge = le-ltb i top ge ∙ sym (le-ltb _ n (⊎_elim (λ lt. absurd (never lt)) (λ h. h) (cases_lt (far.held_from p (n - i) i) n)))
        where
          never : far.held_from p (n - i) i < n → ⊥
          never lt =
              let found = seek_found (far.holds p) (n - i) i (omega (arith, lt, le)) in
              let from = seek_from (far.holds p) (n - i) i in
              both_ways _ (holds_is _ ∙ beyond (far.held_from p (n - i) i) (omega (arith, from, ge))) found

  pub hole_is : (n top : ℕ) → top ≤ n → n ≤ length flags → NoneFrom top flags → EndsAt top flags
      → ltb (tally flags) top ≡ ltb (far.held_from p (n - far.missing_from p n 0) (far.missing_from p n 0)) n
  hole_is n top room size beyond last =
      same (cases_lt (far.missing_from p n 0) top) ∙ held_beyond n (far.missing_from p n 0) top (omega (arith, to)) room beyond last
    where
      to : far.missing_from p n 0 ≤ 0 + n
      to = seek_to (λ j. not (far.holds p j)) n 0

      below : tally flags ≤ top
      below = tally_below top flags beyond

      same : (far.missing_from p n 0 < top) ⊎ (top ≤ far.missing_from p n 0) → ltb (tally flags) top ≡ ltb (far.missing_from p n 0) top
      same = ⊎_elim missing none
        where
          missing : far.missing_from p n 0 < top → ltb (tally flags) top ≡ ltb (far.missing_from p n 0) top
          missing lt = lt-ltb _ top (omega (arith, below, not_all)) ∙ sym (lt-ltb _ top lt)
            where
              not_all : tally flags ≡ top → ⊥
              not_all e =
                  both_ways _ (not-true _ (seek_found (λ j. not (far.holds p j)) n 0 (omega (arith, lt, room))))
                  (holds_is _ ∙ tally_full top flags beyond e (far.missing_from p n 0) lt)

          none : top ≤ far.missing_from p n 0 → ltb (tally flags) top ≡ ltb (far.missing_from p n 0) top
          none ge =
              le-ltb _ top (omega (arith, tally_all top flags (omega (arith, room, size)) beyond (λ k lt. reached n k (omega (arith, lt, ge)))))
              ∙ sym (le-ltb _ top ge)

-- no flag set
pub none_set : (n i : ℕ) → is_held (replicate n false) i ≡ false
none_set n i =
    ⊎_elim (λ lt. get_or-replicate n i false false lt)
    (λ ge. get_or_past (replicate n false) i false (omega (arith, ge, length-replicate {A = Bool} n false))) (cases_lt i n)

pub nothing_partial : (flags : List Bool) (bytes : Bytes) → NoneFrom 0 flags → partial flags bytes None ≡ far.nothing_held
nothing_partial flags bytes none = λ k. record { held = λ i. cond-false (is_held flags i) (Some (get_or bytes i 0)) None (none i (omega arith)) k; known_end = None }

-- a known end, and what it bounds
pub bounds_end : (end : Option ℕ) (top n : ℕ) → bounds end top ≡ true → end ≡ Some n → (top ≤ n) × (n ≤ 502)
bounds_end end top n b e =
    let both = and_parts (leb top n) (leb n 502) (sym (ap (λ o. bounds o top) e) ∙ b) in
    (leb-true top n both.0, leb-true n 502 both.1)

-- what lies beyond n lies beyond a higher number
pub none_higher : (m n : ℕ) (flags : List Bool) → m ≤ n → NoneFrom m flags → NoneFrom n flags
none_higher m n flags le h i from = h i (omega (arith, le, from))
