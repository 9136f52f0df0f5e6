-- What the near end keeps: the packets that were accepted stand in its window, and SDUs are begun in their order.
use Rattle.std.proofs.Common.{◌≡◌, ℕ, ◌+◌, ◌%◌, ◌<◌, ◌≤◌, true, false, ◌⊎◌, List, [], ◌∷◌, ◌++◌, length, get_or, sym, refl, ap, ◌∙◌, subst, inl, inr, ⊎_elim, arith}
use Rattle.protocol.proofs.Invariants.{Packets, sdu, NearSound}
use Rattle.protocol.proofs.Marks.{has_at, begun, not_begun, top_from, top_begun, top_is}
use Rattle.protocol.proofs.Seeks.{update_other}
use Rattle.protocol.specs.Bytes.{Bytes}
use Rattle.protocol.specs.Numbers.{sn_modulus}
use Rattle.protocol.specs.Pdus.{encode_pdcp}
use Rattle.protocol.specs.Sending as near
use Rattle.std.proofs.lemmas.List.{length_push, get_or_append_left, get_or_push}
use Rattle.std.proofs.lemmas.Bool.{cases_eq, cases_lt, eq-eqb, cond-true, false≢true}

pub near_new : NearSound [] near.new_near
near_new =
    record {
      packets = record { few = omega arith; short = λ x l. absurd (omega (arith, l)) };
      counts = refl;
      next = refl;
      begun = omega arith;
      window = omega arith;
      below = λ x l. absurd (omega (arith, l));
      lowest = λ l. absurd (omega (arith, l));
      beyond = λ x l. refl;
      bytes = λ x lo hi. absurd (omega (arith, hi));
      unbegun = λ x i lo hi. refl;
      acknowledged = λ x e. absurd (false≢true e);
    }

module _ (acc : List Bytes) (n : near.Near) (sound : NearSound acc n) where
  -- from `top` on, nothing was sent
  pub above_top : (x i : ℕ) → near.top n ≤ x → (n.sdu x).mark i ≡ near.unsent
  above_top x i lo = ⊎_elim (λ l. sound.unbegun x i lo l) (λ l. ap (λ s. s.mark i) (sound.beyond x l)) (cases_lt x n.tx_next)

  pub top_not_begun : begun (n.sdu (near.top n)) ≡ false
  top_not_begun = not_begun (n.sdu (near.top n)) (λ i. above_top (near.top n) i (omega arith))

  -- an SDU of which nothing was sent has unsent bytes
  pub unbegun_unsent : (x : ℕ) → near.top n ≤ x → x < n.tx_next → near.has near.is_unsent (n.sdu x) ≡ true
  unbegun_unsent x lo hi =
      has_at near.is_unsent (n.sdu x) 0 (omega (arith, ap length (sound.bytes x (omega (arith, lo, top_from n)) hi)))
      (ap near.is_unsent (above_top x 0 lo))

-- giving a packet ---------------------------------------------------------------------------------------------------

module _ (acc : List Bytes) (n : near.Near) (p : Bytes) (sound : NearSound acc n) where
  given_new : (x : ℕ) → x ≡ n.tx_next → (near.given p n).sdu x ≡ near.unsent_sdu (encode_pdcp (n.pdcp_tx_next % sn_modulus) p)
  given_new x e = cond-true _ _ _ (eq-eqb x n.tx_next e)

  given_other : (x : ℕ) → (x ≡ n.tx_next → ⊥) → (near.given p n).sdu x ≡ n.sdu x
  given_other x d = update_other n.sdu n.tx_next _ x d

  -- nothing is sent of the new SDU
  given_mark : (x i : ℕ) → near.top n ≤ x → ((near.given p n).sdu x).mark i ≡ near.unsent
  given_mark x i lo = go (cases_eq x n.tx_next)
    where
      go : (x ≡ n.tx_next) ⊎ (x ≡ n.tx_next → ⊥) → ((near.given p n).sdu x).mark i ≡ near.unsent
      go (inl e) = ap (λ s. s.mark i) (given_new x e)
      go (inr d) = ap (λ s. s.mark i) (given_other x d) ∙ above_top acc n sound x i lo

  pub given_acknowledged : (x : ℕ) → ((near.given p n).sdu x).acknowledged ≡ (n.sdu x).acknowledged
  given_acknowledged x = go (cases_eq x n.tx_next)
    where
      go : (x ≡ n.tx_next) ⊎ (x ≡ n.tx_next → ⊥) → ((near.given p n).sdu x).acknowledged ≡ (n.sdu x).acknowledged
      go (inl e) =
          ap (λ s. s.acknowledged) (given_new x e)
          ∙ sym (ap (λ s. s.acknowledged) (sound.beyond x (omega (arith, e))))
      go (inr d) = ap (λ s. s.acknowledged) (given_other x d)

  pub given_top : near.top (near.given p n) ≡ near.top n
  given_top =
      top_is (near.given p n) (near.top n) (top_from n) (omega (arith, sound.begun, sound.window))
      (λ x lo hi. ap begun (given_other x (λ e. omega (arith, e, hi, sound.begun))) ∙ top_begun n x lo hi)
      (not_begun ((near.given p n).sdu (near.top n)) (λ i. given_mark (near.top n) i (omega arith)))

  given_packets : 1 ≤ length p → length p ≤ 500 → length acc < 1000000 → Packets (acc ++ p ∷ [])
  given_packets some short few =
      record { few = omega (arith, few, length_push acc p); short = λ x l. go x l (cases_lt x (length acc)) }
    where
      go : (x : ℕ) → x < length (acc ++ p ∷ []) → (x < length acc) ⊎ (length acc ≤ x)
          → (1 ≤ length (get_or (acc ++ p ∷ []) x [])) × (length (get_or (acc ++ p ∷ []) x []) ≤ 500)
      go x l (inl h) =
          subst (λ b. (1 ≤ length b) × (length b ≤ 500)) (sym (get_or_append_left acc (p ∷ []) [] x h)) (sound.packets.short x h)
      go x l (inr h) =
          subst (λ b. (1 ≤ length b) × (length b ≤ 500)) (sym (get_or_push acc p [] x (omega (arith, h, l, length_push acc p)))) (some, short)

  given_bytes : (x : ℕ) → n.tx_next_ack ≤ x → x < n.tx_next + 1 → ((near.given p n).sdu x).bytes ≡ sdu (acc ++ p ∷ []) x
  given_bytes x lo hi = go (cases_eq x n.tx_next)
    where
      go : (x ≡ n.tx_next) ⊎ (x ≡ n.tx_next → ⊥) → ((near.given p n).sdu x).bytes ≡ sdu (acc ++ p ∷ []) x
      go (inl e) =
          let k : n.pdcp_tx_next ≡ x = omega (arith, sound.counts, sound.next, e) in
          let g : get_or (acc ++ p ∷ []) x [] ≡ p = get_or_push acc p [] x (omega (arith, sound.next, e)) in
          ap (λ s. s.bytes) (given_new x e)
          ∙ ap (λ c. encode_pdcp (c % sn_modulus) p) k ∙ ap (encode_pdcp (x % sn_modulus)) (sym g)
      go (inr d) =
          ap (λ s. s.bytes) (given_other x d) ∙ sound.bytes x lo (omega (arith, hi, d))
          ∙ ap (encode_pdcp (x % sn_modulus)) (sym (get_or_append_left acc (p ∷ []) [] x (omega (arith, hi, d, sound.next))))

  -- the window has room for the packet
  pub near_given : 1 ≤ length p → length p ≤ 500 → n.tx_next < n.tx_next_ack + 16 → length acc < 1000000
      → NearSound (acc ++ p ∷ []) (near.given p n)
  near_given some short room few =
      record {
        packets = given_packets some short few;
        counts = omega (arith, sound.counts, length_push acc p);
        next = omega (arith, sound.next, length_push acc p);
        begun = omega (arith, given_top, sound.begun);
        window = omega (arith, room);
        below = λ x l. given_other x (λ e. omega (arith, e, l, top_from n, sound.begun)) ∙ sound.below x l;
        lowest = λ l. given_acknowledged n.tx_next_ack ∙ ⊎_elim (λ h. sound.lowest h) (λ h. ap (λ s. s.acknowledged) (sound.beyond n.tx_next_ack h)) (cases_lt n.tx_next_ack n.tx_next);
        beyond = λ x l. given_other x (λ e. omega (arith, e, l)) ∙ sound.beyond x (omega (arith, l));
        bytes = given_bytes;
        unbegun = λ x i lo hi. given_mark x i (omega (arith, given_top, lo));
        acknowledged = λ x e. omega (arith, given_top, sound.acknowledged x (sym (given_acknowledged x) ∙ e));
      }
