-- What the marks of a slot are once an entry was considered.
use borrow.Rule.Slice.PartMut.{put_mid}
use Rattle.std.proofs.Common.{◌≡◌, ℕ, ◌+◌, ◌-◌, ◌<◌, ◌≤◌, Bool, true, false, cond, ◌&&◌, ltb, leb, ◌⊎◌, List, map, length, get_or, take, drop, Some, None, count_by, Option, sym, refl, ap, ◌∙◌, inl, inr, ⊎_elim, arith}
use Rattle.protocol.proofs.Seeks.{seek_found, seek_before}
use Rattle.protocol.specs.Searching.{seek}
use Rattle.protocol.specs.Sending as protocol
use Rattle.rlc_tx.proofs.Changes.{after_each}
use Rattle.rlc_tx.proofs.Marked.{none_counted}
use Rattle.rlc_tx.proofs.OfSlot.{long, bounded_more}
use Rattle.rlc_tx.specs.Considered.{counted_once}
use Rattle.rlc_tx.specs.Marks.{is_sent, replaced, mark_of, mark_at, bounded}
use Rattle.rlc_tx.specs.Slots.{sdu_of}
use Rattle.rlc_tx.specs.declared.marks.Mark.{Mark}
use Rattle.rlc_tx.specs.declared.marks.Mark.TheVariants.{Unsent, Sent, Pending}
use Rattle.rlc_tx.specs.declared.slots.Slot.{Slot}
use Rattle.std.proofs.lemmas.List.{get_or-take, get_or-drop, get_or_past, length-take-le, length-drop}
use Rattle.std.proofs.lemmas.List.Sums.{get_or-le-sum_by}
use Rattle.std.proofs.lemmas.Bool.{both_ways, cases_lt, cond-true, cond-false, le-leb, lt-ltb, lt-leb, le-ltb, leb-true, ltb-true, and_from, and_left, and_right, and_parts}

sent_not_unsent : (m : protocol.Mark) → protocol.is_sent m ≡ true → protocol.is_unsent m ≡ true → ⊥
sent_not_unsent protocol.unsent e f = both_ways true (sym e) refl
sent_not_unsent protocol.sent e f = both_ways true (sym f) refl
sent_not_unsent protocol.pending e f = both_ways true (sym e) refl

module _ (s : Slot) (named : ℕ → Bool) (from to : ℕ) (order : from ≤ to) (inner : to ≤ s.sent) (names : (i : ℕ) → i < s.sent → (leb from i && ltb i to) ≡ named i) where
  placed : to ≤ length s.marks
  placed = omega (arith, inner, s.within, s.short, s.placed)

  -- only sent bytes change, and those were begun
  pub considered_marks : (ys : List Mark) → ys ≡ map (replaced Sent Pending) (take (to - from) (drop from s.marks)) → (i : ℕ)
      → mark_at (put_mid from (to - from) s.marks ys) i ≡ protocol.repend (named i) (mark_at s.marks i)
  considered_marks ys is =
      after_each Sent Pending s.marks ys from to order placed is (λ i m. m ≡ protocol.repend (named i) (mark_at s.marks i)) (λ i out. sym (stays i out (cases_lt i s.sent)))
      (λ i lo hi. pends (get_or s.marks i Unsent) (named i) (sym (names i (omega (arith, hi, inner))) ∙ and_from _ _ (le-leb from i lo) (lt-ltb i to hi)))
    where
      unnamed : (i : ℕ) → (i < from) ⊎ (to ≤ i) → i < s.sent → named i ≡ false
      unnamed i (inl l) k = sym (names i k) ∙ and_left _ _ (lt-leb from i l)
      unnamed i (inr l) k = sym (names i k) ∙ and_right (leb from i) _ (le-ltb i to l)

      as_it_was : (m : protocol.Mark) (b : Bool) → (b ≡ false) ⊎ (protocol.is_unsent m ≡ true) → protocol.repend b m ≡ m
      as_it_was protocol.unsent b w = refl
      as_it_was protocol.sent b (inl e) = cond-false _ _ _ e
      as_it_was protocol.sent b (inr e) = absurd (both_ways true (sym e) refl)
      as_it_was protocol.pending b w = refl

      stays : (i : ℕ) → (i < from) ⊎ (to ≤ i) → (i < s.sent) ⊎ (s.sent ≤ i) → protocol.repend (named i) (mark_at s.marks i) ≡ mark_at s.marks i
      stays i out (inl l) = as_it_was _ (named i) (inl (unnamed i out l))
      stays i out (inr l) = as_it_was _ (named i) (inr (s.unbegun i l))

      pends : (m : Mark) (b : Bool) → b ≡ true → mark_of (replaced Sent Pending m) ≡ protocol.repend b (mark_of m)
      pends Unsent b e = refl
      pends Sent b e = sym (cond-true _ _ _ e)
      pends Pending b e = refl

  range_long : length (take (to - from) (drop from s.marks)) ≡ to - from
  range_long = length-take-le (to - from) (drop from s.marks) (omega (arith, length-drop from s.marks, placed))

  -- a byte newly became pending where one was counted
  pub newly_is : (n : ℕ) → n ≡ count_by is_sent (take (to - from) (drop from s.marks)) → ltb 0 n ≡ protocol.newly_pending named (sdu_of s)
  newly_is n counts = ⊎_elim yes no (cases_lt at (length (sdu_of s).bytes))
    where
      test : ℕ → Bool
      test i = named i && protocol.is_sent (mark_at s.marks i)

      at : ℕ
      at = seek (λ i. named i && protocol.is_sent (mark_at s.marks i)) (length (sdu_of s).bytes) 0

      range : List Mark
      range = take (to - from) (drop from s.marks)

      in_range : (i : ℕ) → i < to - from → get_or (take (to - from) (drop from s.marks)) i Unsent ≡ get_or s.marks (from + i) Unsent
      in_range i l = get_or-take (to - from) (drop from s.marks) i Unsent l ∙ get_or-drop from s.marks i Unsent

      yes : at < length (sdu_of s).bytes → ltb 0 n ≡ protocol.newly_pending named (sdu_of s)
      yes l =
          let found = and_parts (named at) (protocol.is_sent (mark_at s.marks at)) (seek_found test (length (sdu_of s).bytes) 0 (omega (arith, l))) in
          let was_sent : at < s.sent = ⊎_elim (λ k. k) (λ k. absurd (sent_not_unsent _ found.1 (s.unbegun at k))) (cases_lt at s.sent) in
          let within = and_parts (leb from at) (ltb at to) (names at was_sent ∙ found.0) in
          let lo : from ≤ at = leb-true from at within.0 in
          let hi : at < to = ltb-true at to within.1 in
          let one : is_sent (get_or range (at - from) Unsent) ≡ true =
          ap is_sent (in_range (at - from) (omega (arith, lo, hi)) ∙ ap (λ j. get_or s.marks j Unsent) (omega (arith, lo))) ∙ found.1 in
          let some : 1 ≤ count_by is_sent range = weighed (is_sent (get_or range (at - from) Unsent)) one (get_or-le-sum_by (λ m. cond (is_sent m) 1 0) range (at - from) Unsent (omega (arith, lo, hi, range_long))) in
          lt-ltb 0 n (omega (arith, counts, some)) ∙ sym (lt-ltb at (length (sdu_of s).bytes) l)
        where
          weighed : (b : Bool) → b ≡ true → cond b 1 0 ≤ count_by is_sent (take (to - from) (drop from s.marks)) → 1 ≤ count_by is_sent (take (to - from) (drop from s.marks))
          weighed true e h = h
          weighed false e h = absurd (both_ways false refl e)

      no : length (sdu_of s).bytes ≤ at → ltb 0 n ≡ protocol.newly_pending named (sdu_of s)
      no l =
          le-ltb 0 n (omega (arith, counts, none_counted is_sent Unsent range none)) ∙ sym (le-ltb at (length (sdu_of s).bytes) l)
        where
          none : (i : ℕ) → is_sent (get_or (take (to - from) (drop from s.marks)) i Unsent) ≡ false
          none i = ⊎_elim inside (λ k. ap is_sent (get_or_past (take (to - from) (drop from s.marks)) i Unsent (omega (arith, k, range_long)))) (cases_lt i (to - from))
            where
              inside : i < to - from → is_sent (get_or (take (to - from) (drop from s.marks)) i Unsent) ≡ false
              inside k =
                  ap is_sent (in_range i k)
                  ∙ right (named (from + i)) _ (sym (names (from + i) (omega (arith, k, inner))) ∙ and_from _ _ (le-leb from (from + i) (omega arith)) (lt-ltb (from + i) to (omega (arith, k))))
                  (seek_before test (length (sdu_of s).bytes) 0 (from + i) (omega arith) (omega (arith, l, k, inner, s.within, long s)))
                where
                  right : (x y : Bool) → x ≡ true → (x && y) ≡ false → y ≡ false
                  right true y e f = f
                  right false y e f = absurd (both_ways false refl e)

-- RETX_COUNT stays within its bound
pub still_bounded : (counted : Bool) (retx_count : Option ℕ) (pending newly : ℕ) → bounded false pending retx_count ≡ true
    → bounded false (pending + newly) (counted_once counted retx_count (ltb 0 newly)) ≡ true
still_bounded true retx_count pending newly h = bounded_more false pending (pending + newly) retx_count (omega arith) h
still_bounded false None pending newly h = le-leb 0 (255 + (pending + newly)) (omega arith)
still_bounded false (Some n) pending newly h = ⊎_elim more same (cases_lt 0 newly)
  where
    more : 0 < newly → bounded false (pending + newly) (cond (ltb 0 newly) (Some (n + 1)) (Some n)) ≡ true
    more l = ap (bounded false (pending + newly)) (cond-true _ _ _ (lt-ltb 0 newly l)) ∙ le-leb (n + 1) (255 + (pending + newly)) (omega (arith, l, leb-true n (255 + pending) h))

    same : newly ≤ 0 → bounded false (pending + newly) (cond (ltb 0 newly) (Some (n + 1)) (Some n)) ≡ true
    same l = ap (bounded false (pending + newly)) (cond-false _ _ _ (le-ltb 0 newly l)) ∙ bounded_more false pending (pending + newly) (Some n) (omega arith) h
