-- A near end that reads a status report, and one that ticks, stay sound.
use Rattle.std.proofs.Common.{◌≡◌, ℕ, ◌-◌, ◌<◌, ◌≤◌, Bool, true, false, cond, not, ◌&&◌, eqb, ltb, ◌⊎◌, List, length, Some, None, Option, sym, refl, ap, ◌∙◌, subst, inl, inr, ⊎_elim, arith}
use Rattle.protocol.proofs.Invariants.{NearSound}
use Rattle.protocol.proofs.Marks.{has_same, begun, begun_same, top_from, top_begun, top_is}
use Rattle.protocol.proofs.NearKept.{above_top, top_not_begun, unbegun_unsent}
use Rattle.protocol.proofs.Seeks.{seek_from, seek_to, seek_found, seek_before, update_other}
use Rattle.protocol.specs.Bytes.{Bytes}
use Rattle.protocol.specs.Pdus.{Entry}
use Rattle.protocol.specs.Searching.{seek, update}
use Rattle.protocol.specs.Sending as near
use Rattle.protocol.specs.Settings.{Settings}
use Rattle.protocol.specs.Timers.{runs_out}
use Rattle.std.proofs.lemmas.Bool.{and_left, and_parts, both_ways, cases_lt, cond-true, cond-false, eqb-true, false≢true, le-ltb, lt-ltb, ltb-true, not-false, not-true}

unsent_mark : (m : near.Mark) → near.is_unsent m ≡ true → m ≡ near.unsent
unsent_mark near.unsent e = refl
unsent_mark near.sent e = absurd (false≢true e)
unsent_mark near.pending e = absurd (false≢true e)

-- m is n with its window moved on; of the SDUs that are not below it the same bytes are unsent
record Moved (n m : near.Near) : Type 0 where
  same_count : m.pdcp_tx_next ≡ n.pdcp_tx_next
  same_next : m.tx_next ≡ n.tx_next
  first_grows : n.tx_next_ack ≤ m.tx_next_ack
  below : (x : ℕ) → x < m.tx_next_ack → m.sdu x ≡ near.gone
  lowest : m.tx_next_ack < n.tx_next → (m.sdu m.tx_next_ack).acknowledged ≡ false
  beyond : (x : ℕ) → n.tx_next ≤ x → m.sdu x ≡ n.sdu x
  bytes : (x : ℕ) → m.tx_next_ack ≤ x → (m.sdu x).bytes ≡ (n.sdu x).bytes
  unsent : (x i : ℕ) → m.tx_next_ack ≤ x → near.is_unsent ((m.sdu x).mark i) ≡ near.is_unsent ((n.sdu x).mark i)
  acknowledged : (x : ℕ) → (m.sdu x).acknowledged ≡ true → x < near.top n

module _ (acc : List Bytes) (n m : near.Near) (sound : NearSound acc n) (moved : Moved n m) where
  first_to_top : m.tx_next_ack ≤ near.top n
  first_to_top =
      ⊎_elim (λ l. let k = moved.acknowledged (near.top n) (ap (λ s. s.acknowledged) (moved.below (near.top n) l)) in omega (arith, k)) (λ l. l)
      (cases_lt (near.top n) m.tx_next_ack)

  moved_begun : (x : ℕ) → m.tx_next_ack ≤ x → begun (m.sdu x) ≡ begun (n.sdu x)
  moved_begun x lo = begun_same (m.sdu x) (n.sdu x) (moved.bytes x lo) (λ i. moved.unsent x i lo)

  moved_top : near.top m ≡ near.top n
  moved_top =
      top_is m (near.top n) first_to_top (omega (arith, sound.begun, sound.window, moved.first_grows))
      (λ x lo hi. moved_begun x lo ∙ top_begun n x (omega (arith, lo, moved.first_grows)) hi)
      (moved_begun (near.top n) first_to_top ∙ top_not_begun acc n sound)

  moved_sound : NearSound acc m
  moved_sound =
      record {
        packets = sound.packets;
        counts = moved.same_count ∙ sound.counts;
        next = moved.same_next ∙ sound.next;
        begun = omega (arith, moved_top, sound.begun, moved.same_next);
        window = omega (arith, moved.same_next, sound.window, moved.first_grows);
        below = moved.below;
        lowest = λ l. moved.lowest (omega (arith, l, moved.same_next));
        beyond = λ x l. let h : n.tx_next ≤ x = omega (arith, l, moved.same_next) in moved.beyond x h ∙ sound.beyond x h;
        bytes = λ x lo hi. moved.bytes x lo ∙ sound.bytes x (omega (arith, lo, moved.first_grows)) (omega (arith, hi, moved.same_next));
        unbegun = λ x i lo hi. let h : near.top n ≤ x = omega (arith, lo, moved_top) in
            unsent_mark ((m.sdu x).mark i) (moved.unsent x i (omega (arith, h, first_to_top)) ∙ ap near.is_unsent (above_top acc n sound x i h));
        acknowledged = λ x e. omega (arith, moved_top, moved.acknowledged x e);
      }

-- considering and acknowledging leave the unsent bytes -----------------------------------------------------------------

record SameUnsent (t s : near.Sdu) : Type 0 where
  bytes : t.bytes ≡ s.bytes
  unsent : (i : ℕ) → near.is_unsent (t.mark i) ≡ near.is_unsent (s.mark i)

repend_unsent : (b : Bool) (m : near.Mark) → near.is_unsent (near.repend b m) ≡ near.is_unsent m
repend_unsent b near.unsent = refl
repend_unsent true near.sent = refl
repend_unsent false near.sent = refl
repend_unsent b near.pending = refl

settled_unsent : (m : near.Mark) → near.is_unsent (cond (near.is_pending m) near.sent m) ≡ near.is_unsent m
settled_unsent near.unsent = refl
settled_unsent near.sent = refl
settled_unsent near.pending = refl

considered_if : (b : Bool) (named : ℕ → Bool) (s : near.Sdu)
    → SameUnsent (cond b (near.considered named s) s) s × ((cond b (near.considered named s) s).acknowledged ≡ s.acknowledged)
considered_if true named s = (record { bytes = refl; unsent = λ i. repend_unsent (named i) (s.mark i) }, refl)
considered_if false named s = (record { bytes = refl; unsent = λ i. refl }, refl)

considered_at : (named : ℕ → Bool) (f : ℕ → near.Sdu) (y x : ℕ)
    → let g = update f y (near.considered named (f y)) in SameUnsent (g x) (f x) × ((g x).acknowledged ≡ (f x).acknowledged)
considered_at named f y x = go (eqb x y) refl
  where
    go : (b : Bool) → eqb x y ≡ b
        → let t = cond b (near.considered named (f y)) (f x) in SameUnsent t (f x) × (t.acknowledged ≡ (f x).acknowledged)
    go true e =
        subst (λ z. SameUnsent (near.considered named (f z)) (f x) × ((near.considered named (f z)).acknowledged ≡ (f x).acknowledged))
        (eqb-true x y e) (considered_if true named (f x))
    go false e = considered_if false named (f x)

acknowledge_if : (b : Bool) (s : near.Sdu)
    → SameUnsent (cond b (near.acknowledge s) s) s × ((cond b (near.acknowledge s) s).acknowledged ≡ true → (s.acknowledged ≡ true) ⊎ (b ≡ true))
    × (s.acknowledged ≡ true → (cond b (near.acknowledge s) s).acknowledged ≡ true)
acknowledge_if true s = (record { bytes = refl; unsent = λ i. settled_unsent (s.mark i) }, λ e. inr refl, λ e. refl)
acknowledge_if false s = (record { bytes = refl; unsent = λ i. refl }, λ e. inl e, λ e. e)

-- reading a status report ---------------------------------------------------------------------------------------------

pub record ReportedKept (s : Settings) (acc : List Bytes) (n : near.Near) (ack : ℕ) (es : List Entry) : Type 0 where
  pub sound : NearSound acc (near.reported s ack es n)
  pub same_next : (near.reported s ack es n).tx_next ≡ n.tx_next
  pub first_grows : n.tx_next_ack ≤ (near.reported s ack es n).tx_next_ack
  pub same_top : near.top (near.reported s ack es n) ≡ near.top n
  pub was_reported : (x : ℕ) → ((near.reported s ack es n).sdu x).acknowledged ≡ true
      → ((n.sdu x).acknowledged ≡ true) ⊎ ((x < ack) × (near.named n es x ≡ false))
  pub stays : (x : ℕ) → (n.sdu x).acknowledged ≡ true → ((near.reported s ack es n).sdu x).acknowledged ≡ true

module _ (s : Settings) (acc : List Bytes) (n : near.Near) (ack : ℕ) (es : List Entry) (sound : NearSound acc n) (recent : ack ≤ n.tx_next) where
  -- an SDU before the window moves
  abbrev read : ℕ → near.Sdu
  read x = near.acknowledged_in n ack es x (near.considered_in n es x)

  abbrev consider : ℕ → Bool
  consider x = ltb x n.tx_next && (not (n.sdu x).acknowledged && near.named n es x)

  abbrev settles : ℕ → Bool
  settles x = ltb x ack && (not (near.named n es x) && not (near.has near.is_unsent (near.considered_in n es x)))

  abbrev to : ℕ
  to = seek (λ x. not (read x).acknowledged) (n.tx_next - n.tx_next_ack) n.tx_next_ack

  considered_same : (x : ℕ) → SameUnsent (near.considered_in n es x) (n.sdu x)
  considered_same x = (considered_if (consider x) (near.named_byte n es x) (n.sdu x)).0

  read_bytes : (x : ℕ) → (read x).bytes ≡ (n.sdu x).bytes
  read_bytes x = (acknowledge_if (settles x) (near.considered_in n es x)).0.bytes ∙ (considered_same x).bytes

  read_unsent : (x i : ℕ) → near.is_unsent ((read x).mark i) ≡ near.is_unsent ((n.sdu x).mark i)
  read_unsent x i = (acknowledge_if (settles x) (near.considered_in n es x)).0.unsent i ∙ (considered_same x).unsent i

  read_stays : (x : ℕ) → (n.sdu x).acknowledged ≡ true → (read x).acknowledged ≡ true
  read_stays x e =
      (acknowledge_if (settles x) (near.considered_in n es x)).2 ((considered_if (consider x) (near.named_byte n es x) (n.sdu x)).1 ∙ e)

  -- what is newly acknowledged: all of it was sent
  read_new : (x : ℕ) → (read x).acknowledged ≡ true
      → ((n.sdu x).acknowledged ≡ true) ⊎ ((x < ack) × (near.named n es x ≡ false) × (near.has near.is_unsent (n.sdu x) ≡ false))
  read_new x e =
      ⊎_elim (λ k. inl (sym (considered_if (consider x) (near.named_byte n es x) (n.sdu x)).1 ∙ k)) (λ k. inr (parts k))
      ((acknowledge_if (settles x) (near.considered_in n es x)).1 e)
    where
      parts : settles x ≡ true → (x < ack) × (near.named n es x ≡ false) × (near.has near.is_unsent (n.sdu x) ≡ false)
      parts k =
          let a = and_parts (ltb x ack) _ k in
          let b = and_parts (not (near.named n es x)) _ a.1 in (
            ltb-true _ _ a.0,
            not-true _ b.0,
            sym (has_same near.is_unsent (near.considered_in n es x) (n.sdu x) (ap length (considered_same x).bytes) (considered_same x).unsent) ∙ not-true _ b.1,
          )

  read_begun : (x : ℕ) → (read x).acknowledged ≡ true → x < near.top n
  read_begun x e =
      ⊎_elim (λ k. sound.acknowledged x k)
      (λ k. ⊎_elim (λ l. l) (λ l. absurd (both_ways _ k.2 (unbegun_unsent acc n sound x l (omega (arith, k.0, recent))))) (cases_lt x (near.top n)))
      (read_new x e)

  read_beyond : (x : ℕ) → n.tx_next ≤ x → read x ≡ n.sdu x
  read_beyond x l =
      let e : read x ≡ near.considered_in n es x = cond-false _ _ _ (and_left _ _ (le-ltb x ack (omega (arith, l, recent)))) in
      let f : near.considered_in n es x ≡ n.sdu x = cond-false _ _ _ (and_left _ _ (le-ltb x n.tx_next l)) in
      e ∙ f

  first_to_next : to ≤ n.tx_next
  first_to_next = omega (arith, seek_to (λ x. not (read x).acknowledged) (n.tx_next - n.tx_next_ack) n.tx_next_ack, top_from n, sound.begun)

  moved_past : (x : ℕ) → to ≤ x → (near.reported s ack es n).sdu x ≡ read x
  moved_past x l = cond-false _ _ _ (le-ltb x to l)

  -- what the window passes over was acknowledged
  moved_acknowledged : (x : ℕ) → ((near.reported s ack es n).sdu x).acknowledged ≡ true → ((n.sdu x).acknowledged ≡ true) ⊎ ((read x).acknowledged ≡ true)
  moved_acknowledged x e = go (cases_lt x to) (cases_lt x n.tx_next_ack)
    where
      go : (x < to) ⊎ (to ≤ x) → (x < n.tx_next_ack) ⊎ (n.tx_next_ack ≤ x) → ((n.sdu x).acknowledged ≡ true) ⊎ ((read x).acknowledged ≡ true)
      go (inr l) k = inr (ap (λ t. t.acknowledged) (sym (moved_past x l)) ∙ e)
      go (inl l) (inl k) = inl (ap (λ t. t.acknowledged) (sound.below x k))
      go (inl l) (inr k) = inr (not-false _ (seek_before (λ x. not (read x).acknowledged) (n.tx_next - n.tx_next_ack) n.tx_next_ack x k l))

  reported_moved : Moved n (near.reported s ack es n)
  reported_moved =
      record {
        same_count = refl;
        same_next = refl;
        first_grows = seek_from (λ x. not (read x).acknowledged) (n.tx_next - n.tx_next_ack) n.tx_next_ack;
        below = λ x l. cond-true _ _ _ (lt-ltb x to l);
        lowest = λ l. ap (λ t. t.acknowledged) (moved_past to (omega arith)) ∙ not-true _ (seek_found (λ x. not (read x).acknowledged) (n.tx_next - n.tx_next_ack) n.tx_next_ack (omega (arith, l, top_from n, sound.begun)));
        beyond = λ x l. moved_past x (omega (arith, l, first_to_next)) ∙ read_beyond x l;
        bytes = λ x l. ap (λ t. t.bytes) (moved_past x l) ∙ read_bytes x;
        unsent = λ x i l. ap (λ t. near.is_unsent (t.mark i)) (moved_past x l) ∙ read_unsent x i;
        acknowledged = λ x e. ⊎_elim (sound.acknowledged x) (read_begun x) (moved_acknowledged x e);
      }

  -- a report that is not stale
  pub near_reported : ReportedKept s acc n ack es
  near_reported =
      record {
        sound = moved_sound acc n (near.reported s ack es n) sound reported_moved;
        same_next = refl;
        first_grows = reported_moved.first_grows;
        same_top = moved_top acc n (near.reported s ack es n) sound reported_moved;
        was_reported = λ x e. ⊎_elim inl (λ k. ⊎_elim inl (λ p. inr (p.0, p.1)) (read_new x k)) (moved_acknowledged x e);
        stays = λ x e. ⊎_elim (λ l. ap (λ t. t.acknowledged) (reported_moved.below x l)) (λ l. ap (λ t. t.acknowledged) (moved_past x l) ∙ read_stays x e) (cases_lt x to);
      }

-- a Tick --------------------------------------------------------------------------------------------------------------

-- m is n but for marks and counters
pub record TickedKept (acc : List Bytes) (n m : near.Near) : Type 0 where
  pub sound : NearSound acc m
  pub same_top : near.top m ≡ near.top n
  pub same_first : m.tx_next_ack ≡ n.tx_next_ack
  pub same_next : m.tx_next ≡ n.tx_next
  pub same_acknowledged : (x : ℕ) → (m.sdu x).acknowledged ≡ (n.sdu x).acknowledged

highest_in_window : (n : near.Near) (x : ℕ) → near.highest_sent n ≡ Some x → (n.tx_next_ack ≤ x) × (x < near.top n)
highest_in_window n x = go (near.top n) n.tx_next_ack _ _ refl
  where
    go : (top first back : ℕ) (b : Bool) → ltb back (top - first) ≡ b → cond b (Some (top - 1 - back)) None ≡ Some x → (first ≤ x) × (x < top)
    go top first back true t e =
        let k : top - 1 - back ≡ x = cc in
        let l = ltb-true back (top - first) t in
        (omega (arith, k, l), omega (arith, k, l))
    go top first back false t e = let z : ◌≡◌ {A = ℕ} 0 1 = cc in absurd (omega arith)

module _ (s : Settings) (acc : List Bytes) (n : near.Near) (sound : NearSound acc n) where
  -- m differs in SDUs of the window alone, and not in their unsent bytes
  all_but_marks : (m : near.Near) → m.pdcp_tx_next ≡ n.pdcp_tx_next → m.tx_next ≡ n.tx_next → m.tx_next_ack ≡ n.tx_next_ack
      → ((x : ℕ) → (x < n.tx_next_ack) ⊎ (n.tx_next ≤ x) → m.sdu x ≡ n.sdu x)
      → ((x : ℕ) → SameUnsent (m.sdu x) (n.sdu x) × ((m.sdu x).acknowledged ≡ (n.sdu x).acknowledged)) → TickedKept acc n m
  all_but_marks m count next first outside same =
      let moved : Moved n m =
      record {
        same_count = count;
        same_next = next;
        first_grows = omega (arith, first);
        below = λ x l. let h : x < n.tx_next_ack = omega (arith, l, first) in outside x (inl h) ∙ sound.below x h;
        lowest = λ l. (same m.tx_next_ack).1 ∙ ap (λ x. (n.sdu x).acknowledged) first ∙ sound.lowest (omega (arith, l, first));
        beyond = λ x l. outside x (inr l);
        bytes = λ x l. (same x).0.bytes;
        unsent = λ x i l. (same x).0.unsent i;
        acknowledged = λ x e. sound.acknowledged x (sym (same x).1 ∙ e);
      } in
      record {
        sound = moved_sound acc n m sound moved;
        same_top = moved_top acc n m sound moved;
        same_first = first;
        same_next = next;
        same_acknowledged = λ x. (same x).1;
      }

  polls_only : (p : near.Polling) → TickedKept acc n (near.with_polling n p)
  polls_only p = all_but_marks (near.with_polling n p) refl refl refl (λ x l. refl) (λ x. (record { bytes = refl; unsent = λ i. refl }, refl))

  considers : (o : Option ℕ) → near.highest_sent n ≡ o → TickedKept acc n (near.failed_if s (near.considered_all o (near.owing n)))
  considers None e =
      all_but_marks (near.failed_if s (near.owing n)) refl refl refl (λ x l. refl) (λ x. (record { bytes = refl; unsent = λ i. refl }, refl))
  considers (Some y) e =
      all_but_marks after refl refl refl
      (λ x l. update_other n.sdu y _ x (λ k. ⊎_elim (λ h. omega (arith, h, k, in_window)) (λ h. omega (arith, h, k, in_window, sound.begun)) l))
      (λ x. considered_at (λ i. true) n.sdu y x)
    where
      after : near.Near
      after = near.failed_if s (near.considered_all (Some y) (near.owing n))

      in_window : (n.tx_next_ack ≤ y) × (y < near.top n)
      in_window = highest_in_window n y e

  pub near_ticked : TickedKept acc n (near.tick_near s n)
  near_ticked = go _ (runs_out n.polling.t_poll_retransmit) (near.nothing_to_send n)
    where
      go : (p : near.Polling) (a b : Bool)
          → TickedKept acc n (cond a (cond b (near.failed_if s (near.considered_all (near.highest_sent n) (near.owing n))) (near.owing n)) (near.with_polling n p))
      go p true true = considers (near.highest_sent n) refl
      go p true false = polls_only (near.owing n).polling
      go p false b = polls_only p
