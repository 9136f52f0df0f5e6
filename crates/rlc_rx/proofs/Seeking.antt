-- A search, step by step.
use Rattle.std.proofs.Common.{◌≡◌, ℕ, zero, suc, ◌+◌, ◌-◌, ◌<◌, ◌≤◌, Bool, true, false, cond, not, ◌||◌, ltb, List, length, get_or, take, drop, Some, None, Option, sym, refl, ap, ◌∙◌, subst, ⊎_elim, arith, get_or-take, get_or-drop, length-drop}
use mathlib.Core.Bool.{beq}
use Rattle.protocol.specs.Searching.{seek}
use Rattle.protocol.proofs.Seeks.{seek_from, seek_found, seek_before, seek_least, seek_first, seek_past}
use Rattle.rlc_rx.specs.Flags.{is_held, wears}
use Rattle.std.specs.Option.{MatchOption}
use Rattle.std.specs.List.{AllWithin, HoldsAt}
use Rattle.std.proofs.lemmas.List.{length-take-le}
use Rattle.std.proofs.lemmas.Bool.{both_ways, cases_lt, cases_eq, lt-ltb, le-ltb, or_left, or_right, or_from}

-- the code's test of a flag
pub wears_is : (flag : Bool) (flags : List Bool) (i : ℕ) → wears flag flags i ≡ beq (is_held flags i) flag
wears_is true flags i = go (is_held flags i)
  where
    go : (b : Bool) → b ≡ beq b true
    go true = refl
    go false = refl
wears_is false flags i = go (is_held flags i)
  where
    go : (b : Bool) → not b ≡ beq b false
    go true = refl
    go false = refl

-- tests that agree where they are made find the same
pub seek_range : (s t : ℕ → Bool) (n i : ℕ) → ((j : ℕ) → i ≤ j → j < i + n → s j ≡ t j) → seek s n i ≡ seek t n i
seek_range s t zero i same = refl
seek_range s t (suc n) i same =
    ap (λ b. cond b i (seek s n (suc i))) (same i (omega arith) (omega arith))
    ∙ ap (cond (t i) i) (seek_range s t n (suc i) (λ j lo hi. same j (omega (arith, lo)) (omega (arith, hi))))

-- whether one is found, one number further
pub seek_more : (test : ℕ → Bool) (from x : ℕ) → from ≤ x → ltb (seek test (x + 1 - from) from) (x + 1) ≡ (ltb (seek test (x - from) from) x || test x)
seek_more test from x le = ⊎_elim found none (cases_lt (seek test (x - from) from) x)
  where
    found : seek test (x - from) from < x → ltb (seek test (x + 1 - from) from) (x + 1) ≡ (ltb (seek test (x - from) from) x || test x)
    found lt =
        let hit = seek_found test (x - from) from (omega (arith, lt, le)) in
        let least = seek_least test (x + 1 - from) from (seek test (x - from) from) (seek_from test (x - from) from) hit in
        lt-ltb _ _ (omega (arith, lt, least)) ∙ sym (or_left _ _ (lt-ltb _ _ lt))

    none : x ≤ seek test (x - from) from → ltb (seek test (x + 1 - from) from) (x + 1) ≡ (ltb (seek test (x - from) from) x || test x)
    none ge = go (test x) refl
      where
        go : (b : Bool) → test x ≡ b → ltb (seek test (x + 1 - from) from) (x + 1) ≡ (ltb (seek test (x - from) from) x || b)
        go true e = lt-ltb _ _ (omega (arith, seek_least test (x + 1 - from) from x le e)) ∙ sym (or_right _ _ refl)
        go false e = le-ltb _ _ (⊎_elim (λ lt. absurd (never lt)) (λ h. h) (cases_lt (seek test (x + 1 - from) from) (x + 1))) ∙ sym (or_from _ _ (le-ltb _ _ ge) refl)
          where
            never : seek test (x + 1 - from) from < x + 1 → ⊥
            never lt =
                let hit = seek_found test (x + 1 - from) from (omega (arith, lt, le)) in
                ⊎_elim (λ s. both_ways _ (ap test s ∙ e) hit)
                (λ d. both_ways _ (seek_before test (x - from) from (seek test (x + 1 - from) from) (seek_from test (x + 1 - from) from) (omega (arith, lt, d, ge))) hit)
                (cases_eq (seek test (x + 1 - from) from) x)

-- a number of steps from the first place, or the place behind the last
abbrev pub ahead : (from to : ℕ) → Option ℕ → ℕ
ahead from to (Some steps) = from + steps
ahead from to None = to

-- flags, searched by their places in a part ----------------------------------------------------------------------------------

module _ (flag : Bool) (flags : List Bool) (from to : ℕ) (ordered : from ≤ to) (room : to ≤ length flags) where
  abbrev part : List Bool
  part = take (to - from) (drop from flags)

  part_long : length part ≡ to - from
  part_long = length-take-le (to - from) (drop from flags) (omega (arith, length-drop from flags, room))

  flag_at : (k j : ℕ) → k < to - from → j ≡ from + k → wears flag flags j ≡ beq (get_or part k false) flag
  flag_at k j lt e =
      wears_is flag flags j ∙ ap (λ z. beq (get_or flags z false) flag) e
      ∙ ap (λ f. beq f flag) (sym (get_or-take (to - from) (drop from flags) k false lt ∙ get_or-drop from flags k false))

  others : (n : ℕ) → n ≤ to - from → AllWithin (λ f. beq f flag ≡ false) part 0 n → (k : ℕ) → from ≤ k → k < from + n → wears flag flags k ≡ false
  others n le none k lo hi = flag_at (k - from) k (omega (arith, lo, hi, le)) (omega (arith, lo)) ∙ none (k - from) false (omega arith) (omega (arith, lo, hi))

  flag_found : (i : ℕ) → i < length part → HoldsAt (λ f. beq f flag ≡ true) part i → AllWithin (λ f. beq f flag ≡ false) part 0 i
      → from + i ≡ seek (wears flag flags) (to - from) from
  flag_found i lt here before =
      sym
      (seek_first (wears flag flags) (to - from) from (from + i) (omega arith) (omega (arith, lt, part_long))
      (flag_at i (from + i) (omega (arith, lt, part_long)) refl ∙ here false) (others i (omega (arith, lt, part_long)) before))

  flag_missing : AllWithin (λ f. beq f flag ≡ false) part 0 (length part) → to ≡ seek (wears flag flags) (to - from) from
  flag_missing none =
      omega
      (arith, ordered, seek_past (wears flag flags) (to - from) from (others (to - from) (omega arith) (subst (AllWithin (λ f. beq f flag ≡ false) part 0) part_long none)))

  pub flag_sought : (r : Option ℕ)
      → MatchOption r (AllWithin (λ f. beq f flag ≡ false) part 0 (length part))
      (λ i. (i < length part) × HoldsAt (λ f. beq f flag ≡ true) part i × AllWithin (λ f. beq f flag ≡ false) part 0 i)
      → ahead from to r ≡ seek (wears flag flags) (to - from) from
  flag_sought (Some i) found = flag_found i found.0 found.1 found.2
  flag_sought None none = flag_missing none
