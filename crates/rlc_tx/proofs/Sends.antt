-- What the marks of a slot are once a run of its bytes was sent.
use borrow.Rule.Slice.PartMut.{put_mid}
use Rattle.std.proofs.Common.{◌≡◌, ℕ, ◌+◌, ◌-◌, ◌<◌, ◌≤◌, Bool, true, false, cond, ◌&&◌, ◌||◌, ltb, leb, ◌⊎◌, List, map, length, get_or, take, drop, count_by, sym, refl, ap, ◌∙◌, inl, inr, ⊎_elim, arith}
use Rattle.protocol.specs.Sending as protocol
use Rattle.rlc_tx.proofs.Changes.{after_outside, after_inside, after_each, sent_new, sent_again, all_counted}
use Rattle.rlc_tx.proofs.Marked.{Marked, unsent_not_pending, has_left}
use Rattle.rlc_tx.proofs.OfSlot.{marked, long}
use Rattle.rlc_tx.proofs.Ranges.{count_within}
use Rattle.rlc_tx.specs.Marks.{is_pending, same, replaced, mark_of, mark_at}
use Rattle.rlc_tx.specs.Plans.{Front, served_as}
use Rattle.rlc_tx.specs.Slots.{sdu_of}
use Rattle.rlc_tx.specs.declared.marks.Mark.{Mark}
use Rattle.rlc_tx.specs.declared.marks.Mark.TheVariants.{Unsent, Sent, Pending}
use Rattle.rlc_tx.specs.declared.slots.Slot.{Slot}
use Rattle.std.proofs.lemmas.List.{get_or-take, get_or-drop, length-take-le, length-drop}
use Rattle.std.proofs.lemmas.Bool.{both_ways, cases_lt, cond-true, cond-false, le-leb, lt-ltb, lt-leb, le-ltb, and_from, and_left, and_right}

-- the mark that the bytes of a run have
abbrev pub old_of : Bool → Mark
old_of true = Unsent
old_of false = Pending

served_same : (new : Bool) (m : Mark) → served_as new (mark_of m) ≡ same (old_of new) m
served_same true m = refl
served_same false m = refl

module _ (s : Slot) (new : Bool) (from size : ℕ) (front : Front (served_as new) (sdu_of s) from size) where
  pub ends_within : from + size ≤ s.size
  ends_within = omega (arith, front.inside, long s)

  ends_placed : from + size ≤ length s.marks
  ends_placed = omega (arith, ends_within, s.short, s.placed)

  -- as the rules say
  pub sent_marks : (ys : List Mark) → ys ≡ map (replaced (old_of new) Sent) (take (from + size - from) (drop from s.marks)) → (i : ℕ)
      → mark_at (put_mid from (from + size - from) s.marks ys) i ≡ cond (leb from i && ltb i (from + size)) protocol.sent (mark_at s.marks i)
  sent_marks ys is i = ⊎_elim before (λ lo. ⊎_elim (in_run lo) (behind lo) (cases_lt i (from + size))) (cases_lt i from)
    where
      out : (i < from) ⊎ (from + size ≤ i) → mark_at (put_mid from (from + size - from) s.marks ys) i ≡ mark_at s.marks i
      out = after_outside (old_of new) Sent s.marks ys from (from + size) (omega arith) ends_placed is i

      before : i < from → mark_at (put_mid from (from + size - from) s.marks ys) i ≡ cond (leb from i && ltb i (from + size)) protocol.sent (mark_at s.marks i)
      before l = out (inl l) ∙ sym (cond-false _ _ _ (and_left _ _ (lt-leb from i l)))

      behind : from ≤ i → from + size ≤ i → mark_at (put_mid from (from + size - from) s.marks ys) i ≡ cond (leb from i && ltb i (from + size)) protocol.sent (mark_at s.marks i)
      behind lo l = out (inr l) ∙ sym (cond-false _ _ _ (and_right (leb from i) _ (le-ltb i (from + size) l)))

      in_run : from ≤ i → i < from + size → mark_at (put_mid from (from + size - from) s.marks ys) i ≡ cond (leb from i && ltb i (from + size)) protocol.sent (mark_at s.marks i)
      in_run lo l =
          after_inside (old_of new) Sent s.marks ys from (from + size) (omega arith) ends_placed is i lo l
          ∙ ap mark_of (cond-true _ _ _ (sym (served_same new (get_or s.marks i Unsent)) ∙ front.all i lo l))
          ∙ sym (cond-true _ _ _ (and_from _ _ (le-leb from i lo) (lt-ltb i (from + size) l)))

-- new bytes begin where nothing was sent
module _ (s : Slot) (from size : ℕ) (front : Front (served_as true) (sdu_of s) from size) where
  pub new_start : from ≡ s.sent
  new_start = omega (arith, low, high)
    where
      low : s.sent ≤ from
      low = ⊎_elim (λ l. absurd (both_ways _ (s.begun from l) (front.all from (omega arith) (omega (arith, front.some))))) (λ l. l) (cases_lt from s.sent)

      high : from ≤ s.sent
      high = ⊎_elim (λ l. absurd (both_ways _ (front.none_before s.sent l) (s.unbegun s.sent (omega arith)))) (λ l. l) (cases_lt s.sent from)

  pub marked_new : (ys : List Mark) → ys ≡ map (replaced Unsent Sent) (take (from + size - from) (drop from s.marks))
      → Marked (put_mid from (from + size - from) s.marks ys) s.size (from + size) s.pending s.low
  marked_new ys is = sent_new s.marks ys s.size s.sent s.pending s.low from (from + size) (marked s) (omega arith) new_start (ends_within s true from size front) is

-- pending bytes were sent
module _ (s : Slot) (from size : ℕ) (front : Front (served_as false) (sdu_of s) from size) where
  abbrev again : List Mark
  again = take (from + size - from) (drop from s.marks)

  last_begun : from + size ≤ s.sent
  last_begun = ⊎_elim (λ l. absurd (both_ways _ (unsent_not_pending _ (s.unbegun (from + size - 1) (omega (arith, l)))) (front.all (from + size - 1) (omega (arith, front.some)) (omega (arith, front.some))))) (λ l. l) (cases_lt s.sent (from + size))

  pub run_counted : count_by is_pending (take (from + size - from) (drop from s.marks)) ≡ size
  run_counted =
      all_counted is_pending again (λ i l. ap is_pending (get_or-take (from + size - from) (drop from s.marks) i Unsent (omega (arith, l, size_of)) ∙ get_or-drop from s.marks i Unsent) ∙ front.all (from + i) (omega arith) (omega (arith, l, size_of)))
      ∙ size_of
    where
      size_of : length (take (from + size - from) (drop from s.marks)) ≡ size
      size_of = length-take-le (from + size - from) (drop from s.marks) (omega (arith, length-drop from s.marks, ends_placed s false from size front)) ∙ omega arith

  pub marked_again : (ys : List Mark) → ys ≡ map (replaced Pending Sent) (take (from + size - from) (drop from s.marks))
      → (n : ℕ) → n ≡ count_by is_pending (take (from + size - from) (drop from s.marks))
      → Marked (put_mid from (from + size - from) s.marks ys) s.size s.sent (s.pending - n) (from + size)
  marked_again ys is n counts =
      sent_again s.marks ys s.size s.sent s.pending s.low from (from + size) (marked s) (omega arith) last_begun front.none_before is n counts (from + size) (omega arith)

  pub run_pending : size ≤ s.pending
  run_pending = omega (arith, s.counted, run_counted, count_within is_pending s.marks from (from + size - from))

-- what is left to send then
pub left_after : (s : Slot) (run : protocol.Run) → Front (served_as run.new) (sdu_of s) run.from run.size
    → protocol.has (λ m. protocol.is_unsent m || protocol.is_pending m) (protocol.sent_run run (sdu_of s)) ≡ ltb run.size (s.pending + (s.size - s.sent))
left_after s run front = by_new run.new front
  where
    less : (k n : ℕ) → ltb 0 (n - k) ≡ ltb k n
    less k n = ⊎_elim (λ l. lt-ltb 0 (n - k) (omega (arith, l)) ∙ sym (lt-ltb k n l)) (λ l. le-ltb 0 (n - k) (omega (arith, l)) ∙ sym (le-ltb k n l)) (cases_lt k n)

    by_new : (new : Bool) → Front (served_as new) (sdu_of s) run.from run.size
        → protocol.has (λ m. protocol.is_unsent m || protocol.is_pending m) (protocol.sent_run run (sdu_of s)) ≡ ltb run.size (s.pending + (s.size - s.sent))
    by_new true f =
        has_left _ s.size (run.from + run.size) s.pending s.low (marked_new s run.from run.size f _ refl) (protocol.sent_run run (sdu_of s)) (long s)
        (λ i. sym (sent_marks s true run.from run.size f _ refl i))
        ∙ ap (ltb 0) (omega (arith, new_start s run.from run.size f, ends_within s true run.from run.size f)) ∙ less run.size (s.pending + (s.size - s.sent))
    by_new false f =
        has_left _ s.size s.sent _ (run.from + run.size) (marked_again s run.from run.size f _ refl _ refl) (protocol.sent_run run (sdu_of s)) (long s)
        (λ i. sym (sent_marks s false run.from run.size f _ refl i))
        ∙ ap (ltb 0) (omega (arith, run_counted s run.from run.size f, run_pending s run.from run.size f)) ∙ less run.size (s.pending + (s.size - s.sent))

-- all pending bytes made sent ones
pub settled_marks : (s : Slot) (ys : List Mark) → ys ≡ map (replaced Pending Sent) (take (s.sent - s.low) (drop s.low s.marks)) → (i : ℕ)
    → mark_at (put_mid s.low (s.sent - s.low) s.marks ys) i ≡ cond (protocol.is_pending (mark_at s.marks i)) protocol.sent (mark_at s.marks i)
settled_marks s ys is =
    after_each Pending Sent s.marks ys s.low s.sent s.low_begun (omega (arith, s.within, s.short, s.placed)) is
    (λ i m. m ≡ cond (protocol.is_pending (mark_at s.marks i)) protocol.sent (mark_at s.marks i)) (λ i out. sym (cond-false _ _ _ (not_pending i out))) (λ i from to. settled (get_or s.marks i Unsent))
  where
    not_pending : (i : ℕ) → (i < s.low) ⊎ (s.sent ≤ i) → protocol.is_pending (mark_at s.marks i) ≡ false
    not_pending i (inl l) = s.none_below i l
    not_pending i (inr l) = unsent_not_pending _ (s.unbegun i l)

    settled : (m : Mark) → mark_of (replaced Pending Sent m) ≡ cond (protocol.is_pending (mark_of m)) protocol.sent (mark_of m)
    settled Unsent = refl
    settled Sent = refl
    settled Pending = refl
