-- The highest SDU that was sent and is not acknowledged.
use Rattle.std.proofs.Common.{◌≡◌, ℕ, ◌+◌, ◌-◌, ◌<◌, ◌≤◌, Bool, true, false, cond, not, ltb, Some, None, sym, refl, ap, ◌∙◌, subst, arith}
use Rattle.protocol.proofs.Marks.{seek_is, top_from}
use Rattle.protocol.proofs.Seeks.{seek_found}
use Rattle.protocol.specs.Searching.{seek}
use Rattle.protocol.specs.Sending as near
use Rattle.rlc_tx.proofs.Planned.{same_some, none_some}
use Rattle.std.proofs.lemmas.Bool.{cond-true, cond-false, lt-ltb, le-ltb, ltb-true, not-true, not_from_true, not_from_false}

module _ (n : near.Near) where
  -- counted back from the highest
  abbrev open_at : ℕ → Bool
  open_at k = not (n.sdu (near.top n - 1 - k)).acknowledged

  abbrev back : ℕ
  back = seek (λ k. not (n.sdu (near.top n - 1 - k)).acknowledged) (near.top n - n.tx_next_ack) 0

  pub highest_found : (k : ℕ) → n.tx_next_ack + k < near.top n → ((j : ℕ) → k < j → j < near.top n - n.tx_next_ack → (n.sdu (n.tx_next_ack + j)).acknowledged ≡ true)
      → (n.sdu (n.tx_next_ack + k)).acknowledged ≡ false → near.highest_sent n ≡ Some (n.tx_next_ack + k)
  highest_found k low above here =
      cond-true _ _ _ (lt-ltb back (near.top n - n.tx_next_ack) (omega (arith, found, low))) ∙ ap (λ x. Some x) (omega (arith, found, low))
    where
      found : seek (λ j. not (n.sdu (near.top n - 1 - j)).acknowledged) (near.top n - n.tx_next_ack) 0 ≡ near.top n - 1 - (n.tx_next_ack + k)
      found =
          seek_is (λ j. not (n.sdu (near.top n - 1 - j)).acknowledged) (near.top n - n.tx_next_ack) 0 (near.top n - 1 - (n.tx_next_ack + k)) (omega arith) (omega (arith, low))
          (λ j lo hi. not_from_true _ (ap (λ x. (n.sdu x).acknowledged) (omega (arith, hi, low)) ∙ above (near.top n - 1 - j - n.tx_next_ack) (omega (arith, hi, low)) (omega (arith, hi, low))))
          (λ l. not_from_false _ (ap (λ x. (n.sdu x).acknowledged) (omega (arith, low)) ∙ here))

  pub highest_none : ((j : ℕ) → j < near.top n - n.tx_next_ack → (n.sdu (n.tx_next_ack + j)).acknowledged ≡ true) → near.highest_sent n ≡ None
  highest_none all = cond-false _ _ _ (le-ltb back (near.top n - n.tx_next_ack) (omega (arith, found)))
    where
      found : seek (λ j. not (n.sdu (near.top n - 1 - j)).acknowledged) (near.top n - n.tx_next_ack) 0 ≡ near.top n - n.tx_next_ack
      found =
          seek_is (λ j. not (n.sdu (near.top n - 1 - j)).acknowledged) (near.top n - n.tx_next_ack) 0 (near.top n - n.tx_next_ack) (omega arith) (omega arith)
          (λ j lo hi. not_from_true _ (ap (λ x. (n.sdu x).acknowledged) (omega (arith, hi, top_from n)) ∙ all (near.top n - 1 - j - n.tx_next_ack) (omega (arith, hi)))) (λ l. absurd (omega (arith, l)))

  pub highest_is : (x : ℕ) → near.highest_sent n ≡ Some x → (n.tx_next_ack ≤ x) × (x < near.top n) × ((n.sdu x).acknowledged ≡ false)
  highest_is x e = go (ltb back (near.top n - n.tx_next_ack)) refl e
    where
      go : (b : Bool) → ltb back (near.top n - n.tx_next_ack) ≡ b → cond b (Some (near.top n - 1 - back)) None ≡ Some x → (n.tx_next_ack ≤ x) × (x < near.top n) × ((n.sdu x).acknowledged ≡ false)
      go true l f =
          let is : near.top n - 1 - back ≡ x = same_some _ _ f in
          let in_range = ltb-true back (near.top n - n.tx_next_ack) l in (
            omega (arith, is, in_range),
            omega (arith, is, in_range),
            subst (λ y. (n.sdu y).acknowledged ≡ false) is (not-true _ (seek_found open_at (near.top n - n.tx_next_ack) 0 (omega (arith, in_range)))),
          )
      go false l f = absurd (none_some x (sym f))
