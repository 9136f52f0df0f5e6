-- The laws of the one search, and of functions changed at one point.
use Rattle.std.proofs.Common.{◌≡◌, ℕ, zero, suc, ◌+◌, ◌-◌, ◌<◌, ◌≤◌, Bool, true, false, cond, Some, None, Option, ◌⊎◌, sym, refl, ap, ◌∙◌, inl, inr, ⊎_elim, arith}
use Rattle.protocol.specs.Searching.{seek, update}
use Rattle.std.specs.Option.{MatchOption, unwrap_or}
use Rattle.std.proofs.lemmas.Bool.{both_ways, cases_eq, cases_lt, cond-true, cond-false, eq-eqb, ne_eqb}

module _ (test : ℕ → Bool) where
  pub seek_from : (n i : ℕ) → i ≤ seek test n i
  seek_from zero i = omega arith
  seek_from (suc n) i = go (test i) (seek_from n (suc i))
    where
      go : (b : Bool) → suc i ≤ seek test n (suc i) → i ≤ cond b i (seek test n (suc i))
      go true h = omega arith
      go false h = omega (arith, h)

  pub seek_to : (n i : ℕ) → seek test n i ≤ i + n
  seek_to zero i = omega arith
  seek_to (suc n) i = go (test i) (seek_to n (suc i))
    where
      go : (b : Bool) → seek test n (suc i) ≤ suc i + n → cond b i (seek test n (suc i)) ≤ i + suc n
      go true h = omega arith
      go false h = omega (arith, h)

  -- where it stops before the end, the test passes
  pub seek_found : (n i : ℕ) → seek test n i < i + n → test (seek test n i) ≡ true
  seek_found zero i h = absurd (omega (arith, h))
  seek_found (suc n) i h = go (test i) refl h (seek_found n (suc i))
    where
      go : (b : Bool) → test i ≡ b → cond b i (seek test n (suc i)) < i + suc n
          → (seek test n (suc i) < suc i + n → test (seek test n (suc i)) ≡ true) → test (cond b i (seek test n (suc i))) ≡ true
      go true e l again = e
      go false e l again = again (omega (arith, l))

  -- before it, the test fails
  pub seek_before : (n i k : ℕ) → i ≤ k → k < seek test n i → test k ≡ false
  seek_before zero i k lo hi = absurd (omega (arith, lo, hi))
  seek_before (suc n) i k lo hi = go (test i) refl hi (seek_before n (suc i) k)
    where
      go : (b : Bool) → test i ≡ b → k < cond b i (seek test n (suc i)) → (suc i ≤ k → k < seek test n (suc i) → test k ≡ false) → test k ≡ false
      go true e l again = absurd (omega (arith, lo, l))
      go false e l again = here (cases_eq i k)
        where
          here : (i ≡ k) ⊎ (i ≡ k → ⊥) → test k ≡ false
          here (inl s) = sym (ap test s) ∙ e
          here (inr d) = again (omega (arith, lo, d)) l

  -- so it is the first one that passes
  pub seek_least : (n i k : ℕ) → i ≤ k → test k ≡ true → seek test n i ≤ k
  seek_least n i k lo t = ⊎_elim (λ h. absurd (both_ways (test k) (seek_before n i k lo h) t)) (λ h. h) (cases_lt k (seek test n i))

pub update_same : {A : Type 0} (f : ℕ → A) (x : ℕ) (a : A) → update f x a x ≡ a
update_same f x a = cond-true _ _ _ (eq-eqb x x refl)

pub update_other : {A : Type 0} (f : ℕ → A) (x : ℕ) (a : A) (y : ℕ) → (y ≡ x → ⊥) → update f x a y ≡ f y
update_other f x a y d = cond-false _ _ _ (ne_eqb y x d)

-- what a search in a range of numbers answers ---------------------------------------------------------------------------

-- the first number that passes is the one found
pub seek_first : (test : ℕ → Bool) (n from i : ℕ) → from ≤ i → i < from + n → test i ≡ true → ((k : ℕ) → from ≤ k → k < i → test k ≡ false) → seek test n from ≡ i
seek_first test n from i lo hi passes before =
    ⊎_elim (λ lt. absurd (both_ways _ (before _ (seek_from test n from) lt) (seek_found test n from (omega (arith, lt, hi)))))
    (λ ge. omega (arith, ge, seek_least test n from i lo passes)) (cases_lt (seek test n from) i)

-- where none passes, the number after these is
pub seek_past : (test : ℕ → Bool) (n from : ℕ) → ((k : ℕ) → from ≤ k → k < from + n → test k ≡ false) → seek test n from ≡ from + n
seek_past test n from none =
    ⊎_elim (λ lt. absurd (both_ways _ (none _ (seek_from test n from) lt) (seek_found test n from lt))) (λ ge. omega (arith, ge, seek_to test n from))
    (cases_lt (seek test n from) (from + n))

-- what a search in a range answers
pub seek_range_first : (test : ℕ → Bool) (from to : ℕ) (r : Option ℕ) → from ≤ to
    → MatchOption r ((k : ℕ) → from ≤ k → k < to → test k ≡ false)
    (λ i. (from ≤ i) × (i < to) × (test i ≡ true) × ((k : ℕ) → from ≤ k → k < i → test k ≡ false))
    → unwrap_or r to ≡ seek test (to - from) from
seek_range_first test from to (Some i) ordered (lo, hi, passes, before) = sym (seek_first test (to - from) from i lo (omega (arith, hi, lo)) passes before)
seek_range_first test from to None ordered none =
    omega (arith, ordered, seek_past test (to - from) from (λ k lo hi. none k lo (omega (arith, hi, ordered))))
