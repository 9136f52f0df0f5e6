-- What a slot's marks are once those of a range were replaced.
use borrow.Rule.Slice.PartMut.{put_mid}
use Rattle.std.proofs.Common.{◌≡◌, ℕ, suc, ◌+◌, ◌-◌, ◌<◌, ◌≤◌, min, Bool, true, false, cond, ◌⊎◌, List, [], ◌∷◌, map, length, get_or, take, drop, sum_by, count_by, sym, refl, ap, ◌∙◌, subst, inl, inr, ⊎_elim, arith}
use Rattle.protocol.specs.Sending as protocol
use Rattle.rlc_tx.proofs.Marked.{Marked}
use Rattle.rlc_tx.proofs.Ranges.{changed_length, changed_outside, changed_inside, count_part}
use Rattle.rlc_tx.specs.Marks.{is_sent, is_pending, same, replaced, mark_of, mark_at, pending_in}
use Rattle.rlc_tx.specs.declared.marks.Mark.{Mark}
use Rattle.rlc_tx.specs.declared.marks.Mark.TheVariants.{Unsent, Sent, Pending}
use Rattle.std.proofs.lemmas.List.Sums.{sum_by-cons}
use Rattle.std.proofs.lemmas.Bool.{cases_lt, cond-true}

-- counting ------------------------------------------------------------------------------------------------------------

-- 1 for a pending mark
abbrev weight : Mark → ℕ
weight m = cond (is_pending m) 1 0

one_replaced : (old new m : Mark) → weight (replaced old new m) + cond (same old m) (weight old) 0 ≡ weight m + cond (same old m) (weight new) 0
one_replaced Unsent new Unsent = omega arith
one_replaced Unsent new Sent = refl
one_replaced Unsent new Pending = refl
one_replaced Sent new Unsent = refl
one_replaced Sent new Sent = omega arith
one_replaced Sent new Pending = refl
one_replaced Pending new Unsent = refl
one_replaced Pending new Sent = refl
one_replaced Pending new Pending = omega arith

count_replaced : (old new : Mark) (ms : List Mark)
    → pending_in (map (replaced old new) ms) + sum_by (λ m. cond (same old m) (weight old) 0) ms ≡ pending_in ms + sum_by (λ m. cond (same old m) (weight new) 0) ms
count_replaced old new [] = refl
count_replaced old new (m ∷ ms) =
    omega (
      arith,
      count_replaced old new ms,
      one_replaced old new m,
      sum_by-cons weight (replaced old new m) (map (replaced old new) ms),
      sum_by-cons weight m ms,
      sum_by-cons (λ k. cond (same old k) (weight old) 0) m ms,
      sum_by-cons (λ k. cond (same old k) (weight new) 0) m ms,
    )

count_nothing : (p : Mark → Bool) (ms : List Mark) → sum_by (λ m. cond (p m) 0 0) ms ≡ 0
count_nothing p [] = refl
count_nothing p (m ∷ ms) =
    let none : ◌≡◌ {A = ℕ} (cond (p m) 0 0) 0 = zero_both (p m) in
    omega (arith, sum_by-cons (λ k. cond (p k) 0 0) m ms, none, count_nothing p ms)
  where
    zero_both : (b : Bool) → ◌≡◌ {A = ℕ} (cond b 0 0) 0
    zero_both true = refl
    zero_both false = refl

-- a range -------------------------------------------------------------------------------------------------------------

module _ (old new : Mark) (ms ys : List Mark) (a e : ℕ) (lo : a ≤ e) (hi : e ≤ length ms) (is : ys ≡ map (replaced old new) (take (e - a) (drop a ms))) where
  abbrev after : List Mark
  after = put_mid a (e - a) ms ys

  pub after_length : length (put_mid a (e - a) ms ys) ≡ length ms
  after_length = ap (λ zs. length (put_mid a (e - a) ms zs)) is ∙ changed_length (replaced old new) ms a e lo hi Unsent

  pub after_outside : (i : ℕ) → (i < a) ⊎ (e ≤ i) → mark_at (put_mid a (e - a) ms ys) i ≡ mark_at ms i
  after_outside i out = ap mark_of (ap (λ zs. get_or (put_mid a (e - a) ms zs) i Unsent) is ∙ changed_outside (replaced old new) ms a e lo hi Unsent i out)

  pub after_inside : (i : ℕ) → a ≤ i → i < e → mark_at (put_mid a (e - a) ms ys) i ≡ mark_of (replaced old new (get_or ms i Unsent))
  after_inside i from to = ap mark_of (ap (λ zs. get_or (put_mid a (e - a) ms zs) i Unsent) is ∙ changed_inside (replaced old new) ms a e lo hi Unsent i from to)

  -- what holds of each mark
  pub after_each : (P : ℕ → protocol.Mark → Type 0) → ((i : ℕ) → (i < a) ⊎ (e ≤ i) → P i (mark_at ms i))
      → ((i : ℕ) → a ≤ i → i < e → P i (mark_of (replaced old new (get_or ms i Unsent)))) → (i : ℕ) → P i (mark_at (put_mid a (e - a) ms ys) i)
  after_each P was now i =
      ⊎_elim (λ l. subst (P i) (sym (after_outside i (inl l))) (was i (inl l)))
      (λ from. ⊎_elim (λ l. subst (P i) (sym (after_inside i from l)) (now i from l)) (λ l. subst (P i) (sym (after_outside i (inr l))) (was i (inr l))) (cases_lt i e)) (cases_lt i a)

  pub after_count : pending_in (put_mid a (e - a) ms ys) + sum_by (λ m. cond (same old m) (weight old) 0) (take (e - a) (drop a ms))
      ≡ pending_in ms + sum_by (λ m. cond (same old m) (weight new) 0) (take (e - a) (drop a ms))
  after_count =
      omega (arith, count_part is_pending ms ys a (e - a), ap pending_in is, count_replaced old new (take (e - a) (drop a ms)))

-- the numbers that a slot keeps -------------------------------------------------------------------------------------------

pub all_counted : (p : Mark → Bool) (ms : List Mark) → ((i : ℕ) → i < length ms → p (get_or ms i Unsent) ≡ true) → count_by p ms ≡ length ms
all_counted p [] all = refl
all_counted p (m ∷ ms) all =
    let here : ◌≡◌ {A = ℕ} (cond (p m) 1 0) 1 = cond-true (p m) 1 0 (all 0 (omega arith)) in
    omega (arith, sum_by-cons (λ k. cond (p k) 1 0) m ms, here, all_counted p ms (λ i l. all (suc i) (omega (arith, l))))

-- marks that stay unsent or not
abbrev KeepsBegun : Mark → Mark → Type 0
KeepsBegun old new = (m : Mark) → protocol.is_unsent (mark_of (replaced old new m)) ≡ protocol.is_unsent (mark_of m)

resent : KeepsBegun Pending Sent
resent Unsent = refl
resent Sent = refl
resent Pending = refl

repended : KeepsBegun Sent Pending
repended Unsent = refl
repended Sent = refl
repended Pending = refl

no_longer_pending : (m : Mark) → protocol.is_pending (mark_of (replaced Pending Sent m)) ≡ false
no_longer_pending Unsent = refl
no_longer_pending Sent = refl
no_longer_pending Pending = refl

module _ (ms ys : List Mark) (size sent pending low a e : ℕ) (marked : Marked ms size sent pending low) (lo : a ≤ e) where
  fits : e ≤ size → e ≤ length ms
  fits l = omega (arith, l, marked.short, marked.placed)

  -- new bytes are sent
  pub sent_new : a ≡ sent → e ≤ size → ys ≡ map (replaced Unsent Sent) (take (e - a) (drop a ms)) → Marked (put_mid a (e - a) ms ys) size e pending low
  sent_new start end is =
      record {
        placed = after_length Unsent Sent ms ys a e lo (fits end) is ∙ marked.placed;
        short = marked.short;
        within = end;
        begun = after_each Unsent Sent ms ys a e lo (fits end) is (λ j m. j < e → protocol.is_unsent m ≡ false) (λ i out l. marked.begun i (before i l out)) (λ i from to l. never_unsent (get_or ms i Unsent));
        unbegun = λ i l. ap protocol.is_unsent (after_outside Unsent Sent ms ys a e lo (fits end) is i (inr l)) ∙ marked.unbegun i (omega (arith, l, start, lo));
        counted = omega (arith, marked.counted, after_count Unsent Sent ms ys a e lo (fits end) is, count_nothing (same Unsent) (take (e - a) (drop a ms)));
        low_begun = omega (arith, marked.low_begun, start, lo);
        none_below = λ i l. ap protocol.is_pending (after_outside Unsent Sent ms ys a e lo (fits end) is i (inl (omega (arith, l, marked.low_begun, start)))) ∙ marked.none_below i l;
      }
    where
      before : (i : ℕ) → i < e → (i < a) ⊎ (e ≤ i) → i < sent
      before i l (inl h) = omega (arith, h, start)
      before i l (inr h) = absurd (omega (arith, l, h))

      never_unsent : (m : Mark) → protocol.is_unsent (mark_of (replaced Unsent Sent m)) ≡ false
      never_unsent Unsent = refl
      never_unsent Sent = refl
      never_unsent Pending = refl

  -- sent bytes become pending, or pending ones sent
  swapped : (old new : Mark) → KeepsBegun old new → (count low_now : ℕ) → e ≤ sent → ys ≡ map (replaced old new) (take (e - a) (drop a ms))
      → count ≡ pending_in (put_mid a (e - a) ms ys) → low_now ≤ sent → ((i : ℕ) → i < low_now → protocol.is_pending (mark_at (put_mid a (e - a) ms ys) i) ≡ false)
      → Marked (put_mid a (e - a) ms ys) size sent count low_now
  swapped old new keeps count low_now end is counts low_sent none =
      record {
        placed = after_length old new ms ys a e lo inner is ∙ marked.placed;
        short = marked.short;
        within = marked.within;
        begun = after_each old new ms ys a e lo inner is (λ j m. j < sent → protocol.is_unsent m ≡ false) (λ i out l. marked.begun i l) (λ i from to l. keeps (get_or ms i Unsent) ∙ marked.begun i l);
        unbegun = after_each old new ms ys a e lo inner is (λ j m. sent ≤ j → protocol.is_unsent m ≡ true) (λ i out l. marked.unbegun i l) (λ i from to l. keeps (get_or ms i Unsent) ∙ marked.unbegun i l);
        counted = counts;
        low_begun = low_sent;
        none_below = none;
      }
    where
      inner : e ≤ length ms
      inner = fits (omega (arith, end, marked.within))

  abbrev range : List Mark
  range = take (e - a) (drop a ms)

  -- pending bytes are sent again
  pub sent_again : e ≤ sent → ((i : ℕ) → i < a → protocol.is_pending (mark_at ms i) ≡ false) → ys ≡ map (replaced Pending Sent) (take (e - a) (drop a ms))
      → (n : ℕ) → n ≡ count_by is_pending (take (e - a) (drop a ms)) → (low_now : ℕ) → low_now ≤ e → Marked (put_mid a (e - a) ms ys) size sent (pending - n) low_now
  sent_again end none_before is n counts low_now to =
      swapped Pending Sent resent _ low_now end is
      (omega (arith, counts, marked.counted, after_count Pending Sent ms ys a e lo (fits (omega (arith, end, marked.within))) is, count_nothing is_pending range))
      (omega (arith, to, end))
      (after_each Pending Sent ms ys a e lo (fits (omega (arith, end, marked.within))) is (λ j m. j < low_now → protocol.is_pending m ≡ false) (λ i out l. none_before i (before i l out)) (λ i from k l. no_longer_pending (get_or ms i Unsent)))
    where
      before : (i : ℕ) → i < low_now → (i < a) ⊎ (e ≤ i) → i < a
      before i l (inl h) = h
      before i l (inr h) = absurd (omega (arith, l, h, to))

  -- sent bytes become pending
  pub pended : e ≤ sent → ys ≡ map (replaced Sent Pending) (take (e - a) (drop a ms))
      → (n : ℕ) → n ≡ count_by is_sent (take (e - a) (drop a ms)) → (low_now : ℕ) → low_now ≡ min low a → Marked (put_mid a (e - a) ms ys) size sent (pending + n) low_now
  pended end is n counts low_now low-is =
      swapped Sent Pending repended _ low_now end is
      (omega (arith, counts, marked.counted, after_count Sent Pending ms ys a e lo (fits (omega (arith, end, marked.within))) is, count_nothing is_sent range))
      (omega (arith, low-is, marked.low_begun))
      (λ i l. ap protocol.is_pending (after_outside Sent Pending ms ys a e lo (fits (omega (arith, end, marked.within))) is i (inl (omega (arith, l, low-is)))) ∙ marked.none_below i (omega (arith, l, low-is)))
