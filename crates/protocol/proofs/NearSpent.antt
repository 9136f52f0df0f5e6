-- A near end that spends a grant stays sound, and sends a true part of an SDU.
use Rattle.std.proofs.Common.{◌≡◌, ℕ, ◌+◌, ◌-◌, ◌%◌, ◌<◌, ◌≤◌, min, Bool, true, false, cond, not, eqb, ltb, ◌⊎◌, List, length, take, drop, Some, None, sym, refl, ap, ◌∙◌, subst, inl, inr, ⊎_elim, arith, length-append, length-drop}
use Rattle.protocol.proofs.Invariants.{sdu, PartOf, NearSound}
use Rattle.protocol.proofs.Marks.{seek_past, has_found, has_at, begun, not_begun, top_from, top_begun, top_is}
use Rattle.protocol.proofs.NearKept.{above_top, unbegun_unsent}
use Rattle.protocol.proofs.Seeks.{seek_from, seek_to, seek_found, seek_least, update_other}
use Rattle.protocol.specs.Bytes.{Bytes}
use Rattle.protocol.specs.Numbers.{sn_modulus}
use Rattle.protocol.specs.Pdus.{Amd, amd, so_field, encode}
use Rattle.protocol.specs.Receiving as far
use Rattle.protocol.specs.Sending as near
use Rattle.protocol.specs.Settings.{Settings}
use Rattle.std.proofs.lemmas.List.{length-take-le}
use Rattle.std.proofs.lemmas.Bool.{both_ways, cases_eq, cases_lt, eq-eqb, eqb-true, eqb-false, cond-true, ltb-true, lt-ltb, le-leb, and_from, not_from_true}
use Rattle.std.proofs.lemmas.Bool.Decides.{nat_tests}

-- the PDU of some bytes -----------------------------------------------------------------------------------------------

pub segment_offset : (from size long : ℕ) → far.offset (near.segment_at from size long) ≡ from
segment_offset from size long = grind (arith, nat_tests)

segment_end : (from size long : ℕ) → far.marks_end (near.segment_at from size long) ≡ eqb (from + size) long
segment_end from size long = grind (arith, nat_tests)

-- a header is as long as a run allows for
segment_header : (from size long : ℕ) → 2 + length (so_field (near.segment_at from size long)) ≡ cond (eqb from 0) 2 4
segment_header from size long = grind (arith, nat_tests)

abbrev pdu_of : Bool → Bytes → ℕ → ℕ → ℕ → Amd
pdu_of poll bytes x from size =
    record { poll = poll; sn = x % sn_modulus; segment = near.segment_at from size (length bytes); payload = take size (drop from bytes) }

module _ (poll : Bool) (bytes : Bytes) (x from size : ℕ) (some : 1 ≤ size) (inside : from + size ≤ length bytes) where
  pub part_long : length (take size (drop from bytes)) ≡ size
  part_long = length-take-le size (drop from bytes) (omega (arith, inside, length-drop from bytes))

  part_end : far.data_end (pdu_of poll bytes x from size) ≡ from + size
  part_end = omega (arith, part_long, segment_offset from size (length bytes))

  part_is : PartOf bytes x (pdu_of poll bytes x from size)
  part_is =
      record {
        number = refl;
        some = omega (arith, some, part_long);
        inside = omega (arith, inside, part_end);
        true_bytes = cc (part_long, segment_offset from size (length bytes));
        at_end = λ e. part_end ∙ eqb-true (from + size) (length bytes) (sym (segment_end from size (length bytes)) ∙ e);
        not_at_end = λ e. let d = eqb-false (from + size) (length bytes) (sym (segment_end from size (length bytes)) ∙ e) in omega (arith, d, inside, part_end);
      }

  pub part_size : length (encode (amd (pdu_of poll bytes x from size))) ≡ cond (eqb from 0) 2 4 + size
  part_size =
      omega (arith, length-append (so_field (near.segment_at from size (length bytes))) (take size (drop from bytes)), part_long, segment_header from size (length bytes))

-- a run that is served ------------------------------------------------------------------------------------------------

-- it lies in an SDU of the window, which is the first that was not begun or one before, and fits the grant
record FitRun (n : near.Near) (g : ℕ) (run : near.Run) : Type 0 where
  low : n.tx_next_ack ≤ run.count
  high : run.count < n.tx_next
  begun_to : run.count ≤ near.top n
  some : 1 ≤ run.size
  inside : run.from + run.size ≤ length (n.sdu run.count).bytes
  fits : cond (eqb run.from 0) 2 4 + run.size ≤ g

pub run_lengths : (test : near.Mark → Bool) (s : near.Sdu) (g : ℕ) → near.has test s ≡ true → 5 ≤ g
    → let from = near.byte_from test s 0 in
    let size = near.run_from test s from g in
    (1 ≤ size) × (from + size ≤ length s.bytes) × (cond (eqb from 0) 2 4 + size ≤ g)
run_lengths test s g h enough =
    over (near.byte_from test s 0) (near.byte_from (λ m. not (test m)) s (near.byte_from test s 0)) (length s.bytes) h'.0
    (seek_past (λ j. not (test (s.mark j))) (length s.bytes - near.byte_from test s 0) (near.byte_from test s 0) (omega (arith, h'.0)) (not_from_true _ h'.1))
    (seek_to (λ j. not (test (s.mark j))) (length s.bytes - near.byte_from test s 0) (near.byte_from test s 0))
  where
    h' : (near.byte_from test s 0 < length s.bytes) × (test (s.mark (near.byte_from test s 0)) ≡ true)
    h' = has_found test s h

    over : (from end long : ℕ) → from < long → from < end → end ≤ from + (long - from)
        → let size = min (end - from) (g - cond (eqb from 0) 2 4) in
        (1 ≤ size) × (from + size ≤ long) × (cond (eqb from 0) 2 4 + size ≤ g)
    over from end long a b c = go (eqb from 0)
      where
        go : (z : Bool) → let size = min (end - from) (g - cond z 2 4) in
            (1 ≤ size) × (from + size ≤ long) × (cond z 2 4 + size ≤ g)
        go true = (omega (arith, a, b, c, enough), omega (arith, a, b, c, enough), omega (arith, a, b, c, enough))
        go false = (omega (arith, a, b, c, enough), omega (arith, a, b, c, enough), omega (arith, a, b, c, enough))

module _ (acc : List Bytes) (n : near.Near) (g : ℕ) (sound : NearSound acc n) (enough : 5 ≤ g) where
  -- from TX_Next on there are no bytes
  in_window : (test : near.Mark → Bool) (x : ℕ) → near.has test (n.sdu x) ≡ true → x < n.tx_next
  in_window test x h = ⊎_elim (λ l. l) (λ l. absurd (both_ways _ (ap (near.has test) (sound.beyond x l)) h)) (cases_lt x n.tx_next)

  run_fits : (new : Bool) (test : near.Mark → Bool) (x : ℕ) → near.has test (n.sdu x) ≡ true → n.tx_next_ack ≤ x → x ≤ near.top n
      → FitRun n g (near.run_of new test n g x)
  run_fits new test x h lo hi =
      let l = run_lengths test (n.sdu x) g h enough in
      record { low = lo; high = in_window test x h; begun_to = hi; some = l.0; inside = l.1; fits = l.2 }

  -- what is pending was begun
  pending_begun : (x : ℕ) → near.has near.is_pending (n.sdu x) ≡ true → x ≤ near.top n
  pending_begun x h =
      ⊎_elim (λ l. omega (arith, l))
      (λ l. absurd (both_ways _ (ap near.is_pending (above_top acc n sound x _ l)) (has_found near.is_pending (n.sdu x) h).1))
      (cases_lt x (near.top n))

  -- unsent bytes are sent in the order of their SDUs

  unsent_begun : near.has near.is_unsent (n.sdu (near.count_with near.is_unsent n)) ≡ true → near.count_with near.is_unsent n ≤ near.top n
  unsent_begun h =
      ⊎_elim (λ l. seek_least (λ x. near.has near.is_unsent (n.sdu x)) near.window_size n.tx_next_ack (near.top n) (top_from n)
      (unbegun_unsent acc n sound (near.top n) (omega arith) l))
      (λ l. omega (arith, l, in_window near.is_unsent (near.count_with near.is_unsent n) h)) (cases_lt (near.top n) n.tx_next)

  found : (test : near.Mark → Bool) → ltb (near.count_with test n) (n.tx_next_ack + near.window_size) ≡ true
      → near.has test (n.sdu (near.count_with test n)) ≡ true
  found test l = seek_found (λ x. near.has test (n.sdu x)) near.window_size n.tx_next_ack (ltb-true _ _ l)

  from_window : (test : near.Mark → Bool) → n.tx_next_ack ≤ near.count_with test n
  from_window test = seek_from (λ x. near.has test (n.sdu x)) near.window_size n.tx_next_ack

  served_fits : (run : near.Run) → near.served n g ≡ Some run → FitRun n g run
  served_fits run =
      go (ltb (near.count_with near.is_pending n) (n.tx_next_ack + near.window_size)) (ltb (near.count_with near.is_unsent n) (n.tx_next_ack + near.window_size))
      (λ t. let h = found near.is_pending t in run_fits false near.is_pending (near.count_with near.is_pending n) h (from_window near.is_pending) (pending_begun _ h))
      (λ t. let h = found near.is_unsent t in run_fits true near.is_unsent (near.count_with near.is_unsent n) h (from_window near.is_unsent) (unsent_begun h))
    where
      go : {again new : near.Run} (a b : Bool) → (a ≡ true → FitRun n g again) → (b ≡ true → FitRun n g new)
          → cond a (Some again) (cond b (Some new) None) ≡ Some run → FitRun n g run
      go {again} true b p q e = let k : again ≡ run = cc in subst (FitRun n g) k (p refl)
      go {again} {new} false true p q e = let k : new ≡ run = cc in subst (FitRun n g) k (q refl)
      go false false p q e = let z : ◌≡◌ {A = ℕ} 0 1 = cc in absurd (omega arith)

-- sending it ----------------------------------------------------------------------------------------------------------

pub record SpentKept (s : Settings) (acc : List Bytes) (n : near.Near) (g : ℕ) (run : near.Run) : Type 0 where
  pub sound : NearSound acc (near.spent s run n)
  pub low : n.tx_next_ack ≤ run.count
  pub high : run.count < n.tx_next
  pub begun : run.count < near.top (near.spent s run n)
  pub part : PartOf (sdu acc run.count) run.count (near.amd_of_run s run n)
  pub top_grows : near.top n ≤ near.top (near.spent s run n)
  pub top_by_one : near.top (near.spent s run n) ≤ near.top n + 1
  pub same_first : (near.spent s run n).tx_next_ack ≡ n.tx_next_ack
  pub same_next : (near.spent s run n).tx_next ≡ n.tx_next
  pub same_acknowledged : (x : ℕ) → ((near.spent s run n).sdu x).acknowledged ≡ (n.sdu x).acknowledged
  pub fits : length (encode (amd (near.amd_of_run s run n))) ≤ g
  pub some : 1 ≤ length (encode (amd (near.amd_of_run s run n)))

module _ (s : Settings) (acc : List Bytes) (n : near.Near) (g : ℕ) (run : near.Run) (sound : NearSound acc n) (fit : FitRun n g run) where
  spent_here : (x : ℕ) → x ≡ run.count → (near.spent s run n).sdu x ≡ near.sent_run run (n.sdu run.count)
  spent_here x e = cond-true _ _ _ (eq-eqb x run.count e)

  spent_other : (x : ℕ) → (x ≡ run.count → ⊥) → (near.spent s run n).sdu x ≡ n.sdu x
  spent_other x d = update_other n.sdu run.count _ x d

  spent_bytes : (x : ℕ) → ((near.spent s run n).sdu x).bytes ≡ (n.sdu x).bytes
  spent_bytes x = go (cases_eq x run.count)
    where
      go : (x ≡ run.count) ⊎ (x ≡ run.count → ⊥) → ((near.spent s run n).sdu x).bytes ≡ (n.sdu x).bytes
      go (inl e) = ap (λ t. t.bytes) (spent_here x e) ∙ ap (λ y. (n.sdu y).bytes) (sym e)
      go (inr d) = ap (λ t. t.bytes) (spent_other x d)

  spent_acknowledged : (x : ℕ) → ((near.spent s run n).sdu x).acknowledged ≡ (n.sdu x).acknowledged
  spent_acknowledged x = go (cases_eq x run.count)
    where
      go : (x ≡ run.count) ⊎ (x ≡ run.count → ⊥) → ((near.spent s run n).sdu x).acknowledged ≡ (n.sdu x).acknowledged
      go (inl e) = ap (λ t. t.acknowledged) (spent_here x e) ∙ ap (λ y. (n.sdu y).acknowledged) (sym e)
      go (inr d) = ap (λ t. t.acknowledged) (spent_other x d)

  -- the run is not empty, so its SDU was begun
  run_begun : begun (near.sent_run run (n.sdu run.count)) ≡ true
  run_begun =
      let m : (near.sent_run run (n.sdu run.count)).mark run.from ≡ near.sent =
      cond-true _ _ _ (and_from _ _ (le-leb run.from run.from (omega arith)) (lt-ltb run.from (run.from + run.size) (omega (arith, fit.some)))) in
      has_at (λ m. not (near.is_unsent m)) (near.sent_run run (n.sdu run.count)) run.from (omega (arith, fit.inside, fit.some)) (ap (λ m. not (near.is_unsent m)) m)

  spent_begun : (x : ℕ) → n.tx_next_ack ≤ x → ((x ≡ run.count → ⊥) → x < near.top n) → begun ((near.spent s run n).sdu x) ≡ true
  spent_begun x lo l = go (cases_eq x run.count)
    where
      go : (x ≡ run.count) ⊎ (x ≡ run.count → ⊥) → begun ((near.spent s run n).sdu x) ≡ true
      go (inl e) = ap begun (spent_here x e) ∙ run_begun
      go (inr d) = ap begun (spent_other x d) ∙ top_begun n x lo (l d)

  spent_mark : (x i : ℕ) → near.top n ≤ x → run.count < x → ((near.spent s run n).sdu x).mark i ≡ near.unsent
  spent_mark x i lo l = ap (λ t. t.mark i) (spent_other x (λ e. omega (arith, e, l))) ∙ above_top acc n sound x i lo

  -- a run of the first SDU that was not begun moves `top` on
  spent_top : ((run.count < near.top n) × (near.top (near.spent s run n) ≡ near.top n))
      ⊎ ((run.count ≡ near.top n) × (near.top (near.spent s run n) ≡ near.top n + 1))
  spent_top = go (cases_lt run.count (near.top n))
    where
      go : (run.count < near.top n) ⊎ (near.top n ≤ run.count)
          → ((run.count < near.top n) × (near.top (near.spent s run n) ≡ near.top n))
          ⊎ ((run.count ≡ near.top n) × (near.top (near.spent s run n) ≡ near.top n + 1))
      go (inl l) =
          inl (
            l,
            top_is (near.spent s run n) (near.top n) (top_from n) (omega (arith, sound.begun, sound.window))
                (λ x lo hi. spent_begun x lo (λ d. hi))
                (not_begun ((near.spent s run n).sdu (near.top n)) (λ i. spent_mark (near.top n) i (omega arith) l)),
          )
      go (inr l) =
          let e : run.count ≡ near.top n = omega (arith, l, fit.begun_to) in
          inr (
            e,
            top_is (near.spent s run n) (near.top n + 1) (omega (arith, top_from n)) (omega (arith, e, fit.high, sound.window))
                (λ x lo hi. spent_begun x lo (λ d. omega (arith, d, hi, e)))
                (not_begun ((near.spent s run n).sdu (near.top n + 1)) (λ i. spent_mark (near.top n + 1) i (omega arith) (omega (arith, e)))),
          )

  top_bounds : (near.top n ≤ near.top (near.spent s run n)) × (near.top (near.spent s run n) ≤ near.top n + 1)
      × (run.count < near.top (near.spent s run n)) × (near.top (near.spent s run n) ≤ n.tx_next)
  top_bounds = go (near.top (near.spent s run n)) (near.top n) spent_top sound.begun fit.high
    where
      go : (t u : ℕ) → ((run.count < u) × (t ≡ u)) ⊎ ((run.count ≡ u) × (t ≡ u + 1)) → u ≤ n.tx_next → run.count < n.tx_next
          → (u ≤ t) × (t ≤ u + 1) × (run.count < t) × (t ≤ n.tx_next)
      go t u (inl (l, e)) b h = (omega arith, omega arith, omega arith, omega arith)
      go t u (inr (l, e)) b h = (omega arith, omega arith, omega arith, omega arith)

  spent_sound : NearSound acc (near.spent s run n)
  spent_sound =
      record {
        packets = sound.packets;
        counts = sound.counts;
        next = sound.next;
        begun = top_bounds.3;
        window = sound.window;
        below = λ x l. spent_other x (λ e. omega (arith, e, l, fit.low)) ∙ sound.below x l;
        lowest = λ l. spent_acknowledged n.tx_next_ack ∙ sound.lowest l;
        beyond = λ x l. spent_other x (λ e. omega (arith, e, l, fit.high)) ∙ sound.beyond x l;
        bytes = λ x lo hi. spent_bytes x ∙ sound.bytes x lo hi;
        unbegun = λ x i lo hi. spent_mark x i (omega (arith, lo, top_bounds.0)) (omega (arith, lo, top_bounds.2));
        acknowledged = λ x e. omega (arith, top_bounds.0, sound.acknowledged x (sym (spent_acknowledged x) ∙ e));
      }

  spent_kept : SpentKept s acc n g run
  spent_kept =
      let bytes = (n.sdu run.count).bytes in
      let size = part_size (near.polls s run n) bytes run.count run.from run.size fit.some fit.inside in
      record {
        sound = spent_sound;
        low = fit.low;
        high = fit.high;
        begun = top_bounds.2;
        part = subst (λ b. PartOf b run.count (near.amd_of_run s run n)) (sound.bytes run.count fit.low fit.high)
            (part_is (near.polls s run n) bytes run.count run.from run.size fit.some fit.inside);
        top_grows = top_bounds.0;
        top_by_one = top_bounds.1;
        same_first = refl;
        same_next = refl;
        same_acknowledged = spent_acknowledged;
        fits = omega (arith, size, fit.fits);
        some = omega (arith, size, fit.some);
      }

pub near_spent : (s : Settings) (acc : List Bytes) (n : near.Near) (g : ℕ) (run : near.Run) → NearSound acc n → 5 ≤ g
    → near.served n g ≡ Some run → SpentKept s acc n g run
near_spent s acc n g run sound enough serves = spent_kept s acc n g run sound (served_fits acc n g sound enough run serves)
