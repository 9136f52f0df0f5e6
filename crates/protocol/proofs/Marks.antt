-- Where a search ends, and the bytes of an SDU that have a mark.
use Rattle.std.proofs.Common.{◌≡◌, ℕ, zero, suc, ◌+◌, ◌-◌, ◌<◌, ◌≤◌, Bool, true, false, cond, not, ◌⊎◌, length, sym, refl, ap, ◌∙◌, inl, inr, arith}
use Rattle.protocol.proofs.Seeks.{seek_from, seek_to, seek_found, seek_before, seek_least}
use Rattle.protocol.specs.Searching.{seek}
use Rattle.protocol.specs.Sending as near
use Rattle.std.proofs.lemmas.Bool.{both_ways, cases_Bool, cases_order, ltb-true, lt-ltb, not_from_true, not_from_false, not-false}
use Rattle.std.proofs.lemmas.Bool.Decides.{same_from_decides}

-- a search ends at k, if nothing before k passes, and k does unless it is the end
pub seek_is : (test : ℕ → Bool) (n i k : ℕ) → i ≤ k → k ≤ i + n → ((j : ℕ) → i ≤ j → j < k → test j ≡ false)
    → (k < i + n → test k ≡ true) → seek test n i ≡ k
seek_is test n i k lo hi before at = go (cases_order (seek test n i) k)
  where
    go : (seek test n i ≡ k) ⊎ ((seek test n i < k) ⊎ (k < seek test n i)) → seek test n i ≡ k
    go (inl e) = e
    go (inr (inl l)) =
        absurd (both_ways (test (seek test n i)) (before (seek test n i) (seek_from test n i) l) (seek_found test n i (omega (arith, l, hi))))
    go (inr (inr l)) =
        absurd (both_ways (test k) (seek_before test n i k lo l) (at (omega (arith, l, seek_to test n i))))

-- a search does not end where the test fails
pub seek_past : (test : ℕ → Bool) (n i : ℕ) → 1 ≤ n → test i ≡ false → i < seek test n i
seek_past test zero i some fails = absurd (omega (arith, some))
seek_past test (suc n) i some fails = go (test i) fails
  where
    go : (b : Bool) → b ≡ false → i < cond b i (seek test n (suc i))
    go true e = absurd (both_ways true e refl)
    go false e = omega (arith, seek_from test n (suc i))

module _ (test : near.Mark → Bool) (s : near.Sdu) where
  pub has_found : near.has test s ≡ true
      → (near.byte_from test s 0 < length s.bytes) × (test (s.mark (near.byte_from test s 0)) ≡ true)
  has_found h =
      let l : near.byte_from test s 0 < length s.bytes = ltb-true _ _ h in
      (l, seek_found (λ j. test (s.mark j)) (length s.bytes - 0) 0 (omega (arith, l)))

  pub has_at : (i : ℕ) → i < length s.bytes → test (s.mark i) ≡ true → near.has test s ≡ true
  has_at i l t = lt-ltb _ _ (omega (arith, l, seek_least (λ j. test (s.mark j)) (length s.bytes - 0) 0 i (omega arith) t))

  pub has_none : ((i : ℕ) → test (s.mark i) ≡ false) → near.has test s ≡ false
  has_none none = go (cases_Bool (near.has test s))
    where
      go : (near.has test s ≡ true) ⊎ (near.has test s ≡ false) → near.has test s ≡ false
      go (inl e) = absurd (both_ways _ (none (near.byte_from test s 0)) (has_found e).1)
      go (inr e) = e

-- two SDUs of one length have such a byte both or neither, if the test does not tell their marks apart
pub has_same : (test : near.Mark → Bool) (s t : near.Sdu) → length s.bytes ≡ length t.bytes
    → ((i : ℕ) → test (s.mark i) ≡ test (t.mark i)) → near.has test s ≡ near.has test t
has_same test s t long same =
    same_from_decides (near.has test s) (near.has test t) (
      λ h. has_at test t (near.byte_from test s 0) (omega (arith, long, (has_found test s h).0)) (sym (same _) ∙ (has_found test s h).1),
      λ h. has_at test s (near.byte_from test t 0) (omega (arith, long, (has_found test t h).0)) (same _ ∙ (has_found test t h).1),
    )
    (λ h. h, λ h. h)

-- some byte of it was sent
abbrev pub begun : near.Sdu → Bool
begun s = near.has (λ m. not (near.is_unsent m)) s

pub not_begun : (s : near.Sdu) → ((i : ℕ) → s.mark i ≡ near.unsent) → begun s ≡ false
not_begun s none = has_none (λ m. not (near.is_unsent m)) s (λ i. ap (λ m. not (near.is_unsent m)) (none i))

pub begun_same : (s t : near.Sdu) → s.bytes ≡ t.bytes → ((i : ℕ) → near.is_unsent (s.mark i) ≡ near.is_unsent (t.mark i))
    → begun s ≡ begun t
begun_same s t bytes same = has_same (λ m. not (near.is_unsent m)) s t (ap length bytes) (λ i. ap not (same i))

-- `top` is one past the SDUs that were begun
module _ (n : near.Near) where
  pub top_from : n.tx_next_ack ≤ near.top n
  top_from = seek_from (λ x. not (begun (n.sdu x))) near.window_size n.tx_next_ack

  pub top_begun : (x : ℕ) → n.tx_next_ack ≤ x → x < near.top n → begun (n.sdu x) ≡ true
  top_begun x lo hi = not-false _ (seek_before (λ x. not (begun (n.sdu x))) near.window_size n.tx_next_ack x lo hi)

  pub top_is : (k : ℕ) → n.tx_next_ack ≤ k → k ≤ n.tx_next_ack + 16
      → ((x : ℕ) → n.tx_next_ack ≤ x → x < k → begun (n.sdu x) ≡ true) → begun (n.sdu k) ≡ false → near.top n ≡ k
  top_is k lo hi before at =
      seek_is (λ x. not (begun (n.sdu x))) near.window_size n.tx_next_ack k lo hi
      (λ x l h. not_from_true _ (before x l h)) (λ l. not_from_false _ at)
