-- Entries considered one by one are considered together.
use Rattle.std.proofs.Common.{◌≡◌, ℕ, ◌<◌, Bool, true, false, ◌&&◌, ◌||◌, ltb, ◌⊎◌, length, Some, None, Option, sym, refl, ap, ◌∙◌, inl, inr, ⊎_elim, arith}
use Rattle.protocol.proofs.Seeks.{seek_found, seek_least}
use Rattle.protocol.specs.Searching.{seek}
use Rattle.protocol.specs.Sending as near
use Rattle.rlc_tx.specs.Considered.{counts, considered_next, counted_by, counted_once, has_counted}
use Rattle.std.proofs.lemmas.Bool.{both_ways, cases_Bool, lt-ltb, ltb-true, or_cases, or_left, or_right, or_from}

-- whether any number below n passes
abbrev any : (ℕ → Bool) → ℕ → Bool
any test n = ltb (seek test n 0) n

any_at : (test : ℕ → Bool) (n i : ℕ) → i < n → test i ≡ true → any test n ≡ true
any_at test n i l t = lt-ltb _ n (omega (arith, l, seek_least test n 0 i (omega arith) t))

any_none : (test : ℕ → Bool) (n : ℕ) → ((i : ℕ) → i < n → test i ≡ true → ⊥) → any test n ≡ false
any_none test n none = ⊎_elim (λ t. absurd (none (seek test n 0) (ltb-true _ n t) (seek_found test n 0 (omega (arith, ltb-true _ n t))))) (λ f. f) (cases_Bool (any test n))

any_or : (p q : ℕ → Bool) (n : ℕ) → any (λ i. p i || q i) n ≡ (any p n || any q n)
any_or p q n = go (cases_Bool (any p n)) (cases_Bool (any q n))
  where
    found : (test : ℕ → Bool) → any test n ≡ true → (seek test n 0 < n) × (test (seek test n 0) ≡ true)
    found test t = (ltb-true _ n t, seek_found test n 0 (omega (arith, ltb-true _ n t)))

    go : (any p n ≡ true) ⊎ (any p n ≡ false) → (any q n ≡ true) ⊎ (any q n ≡ false) → any (λ i. p i || q i) n ≡ (any p n || any q n)
    go (inl t) b = let f = found p t in any_at (λ i. p i || q i) n _ f.0 (or_left _ (q (seek p n 0)) f.1) ∙ sym (or_left _ (any q n) t)
    go (inr e) (inl t) = let f = found q t in any_at (λ i. p i || q i) n _ f.0 (or_right (p (seek q n 0)) _ f.1) ∙ sym (or_right (any p n) _ t)
    go (inr e) (inr f) =
        any_none (λ i. p i || q i) n
        (λ i l t. ⊎_elim (λ h. both_ways _ e (any_at p n i l h)) (λ h. both_ways _ f (any_at q n i l h)) (or_cases (p i) (q i) t))
        ∙ sym (or_from (any p n) (any q n) e f)

-- one SDU, of which the entries so far named the bytes `so_far`, and one more names `more`
module _ (s : near.Sdu) (so_far more : ℕ → Bool) where
  abbrev together : ℕ → Bool
  together i = so_far i || more i

  repend_both : (a b : Bool) (m : near.Mark) → near.repend b (near.repend a m) ≡ near.repend (a || b) m
  repend_both a b near.unsent = refl
  repend_both true b near.sent = refl
  repend_both false b near.sent = refl
  repend_both a b near.pending = refl

  newly_both : near.newly_pending (λ i. so_far i || more i) s ≡ (near.newly_pending so_far s || near.newly_pending more (near.considered so_far s))
  newly_both =
      ap (λ test. any test (length s.bytes)) (λ k. λ i. split (so_far i) (more i) (s.mark i) k)
      ∙ any_or (λ i. so_far i && near.is_sent (s.mark i)) (λ i. more i && near.is_sent (near.repend (so_far i) (s.mark i))) (length s.bytes)
    where
      split : (a b : Bool) (m : near.Mark) → ((a || b) && near.is_sent m) ≡ ((a && near.is_sent m) || (b && near.is_sent (near.repend a m)))
      split true true near.unsent = refl
      split true true near.sent = refl
      split true true near.pending = refl
      split true false near.unsent = refl
      split true false near.sent = refl
      split true false near.pending = refl
      split false true near.unsent = refl
      split false true near.sent = refl
      split false true near.pending = refl
      split false false near.unsent = refl
      split false false near.sent = refl
      split false false near.pending = refl

  -- RETX_COUNT changes at most once
  retx_both : (r : Option ℕ) (a b : Bool) → counted_once (counts r a) (near.considered_count r a) b ≡ near.considered_count r (a || b)
  retx_both None a b = refl
  retx_both (Some n) true b = refl
  retx_both (Some n) false b = refl

  counted_both : (r : Option ℕ) (a b : Bool) → has_counted (counts r a) (near.considered_count r a) b ≡ counts r (a || b)
  counted_both None a b = refl
  counted_both (Some n) true b = refl
  counted_both (Some n) false b = refl

  pub considered_again : considered_next (counts s.retx_count (near.newly_pending so_far s)) more (near.considered so_far s) ≡ near.considered (λ i. so_far i || more i) s
  considered_again =
      let retx = retx_both s.retx_count (near.newly_pending so_far s) (near.newly_pending more (near.considered so_far s)) ∙ ap (near.considered_count s.retx_count) (sym newly_both) in
      λ k. record { bytes = s.bytes; mark = λ i. repend_both (so_far i) (more i) (s.mark i) k; acknowledged = s.acknowledged; retx_count = retx k }

  pub counted_again : counted_by (counts s.retx_count (near.newly_pending so_far s)) more (near.considered so_far s) ≡ counts s.retx_count (near.newly_pending (λ i. so_far i || more i) s)
  counted_again =
      counted_both s.retx_count (near.newly_pending so_far s) (near.newly_pending more (near.considered so_far s)) ∙ ap (counts s.retx_count) (sym newly_both)
