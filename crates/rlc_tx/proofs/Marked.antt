-- What the numbers that a slot keeps say of its marks.
use Rattle.std.proofs.Common.{◌≡◌, ℕ, zero, suc, ◌+◌, ◌-◌, ◌<◌, ◌≤◌, min, Bool, true, false, cond, not, ◌||◌, ltb, ◌⊎◌, List, [], ◌∷◌, length, get_or, take, drop, count_by, sym, refl, ap, ◌∙◌, subst, inl, inr, ⊎_elim, add-one, arith}
use Rattle.protocol.proofs.Marks.{seek_is, has_found, has_at, begun}
use Rattle.protocol.proofs.Seeks.{seek_to, seek_found, seek_before}
use Rattle.protocol.specs.Searching.{seek}
use Rattle.protocol.specs.Sending as protocol
use Rattle.rlc_tx.specs.Marks.{is_sent, is_pending, mark_at, Begun, Unbegun, NoneBelow, pending_in}
use Rattle.rlc_tx.specs.declared.marks.Mark.{Mark}
use Rattle.rlc_tx.specs.declared.marks.Mark.TheVariants.{Unsent}
use Rattle.std.proofs.lemmas.List.Sums.{sum_by-cons, get_or-le-sum_by, prefix_len-drop_yes, prefix_len-drop_no}
use Rattle.std.proofs.lemmas.Bool.{both_ways, not-true, not-false, cases_Bool, cases_lt, lt-ltb, le-ltb, not_from_true, not_from_false, or_from, or_left, or_right}
use Rattle.std.specs.List.{prefix_len}

-- a search for what fails a test ends behind the front that passes
pub seek_leading : {A : Type 0} (p : A → Bool) (xs : List A) (d : A) (n i : ℕ) → i + n ≤ length xs
    → seek (λ j. not (p (get_or xs j d))) n i ≡ i + min (prefix_len p (drop i xs)) n
seek_leading p xs d zero i h = omega arith
seek_leading p xs d (suc n) i h = go (p (get_or xs i d)) refl (seek_leading p xs d n (suc i) (omega (arith, h)))
  where
    go : (b : Bool) → p (get_or xs i d) ≡ b → seek (λ j. not (p (get_or xs j d))) n (suc i) ≡ suc i + min (prefix_len p (drop (suc i) xs)) n
        → cond (not b) i (seek (λ j. not (p (get_or xs j d))) n (suc i)) ≡ i + min (prefix_len p (drop i xs)) (suc n)
    go true e again =
        let next : prefix_len p (drop (i + 1) xs) ≡ prefix_len p (drop (suc i) xs) = ap (λ k. prefix_len p (drop k xs)) (add-one i) in
        let on : seek (λ j. not (p (get_or xs j d))) n (suc i) ≡ i + min (prefix_len p (drop i xs)) (suc n) =
        omega (arith, again, next, prefix_len-drop_yes p xs i d (omega (arith, h)) e) in
        on
    go false e again = omega (arith, prefix_len-drop_no p xs i d (omega (arith, h)) e)

pub leading_take : {A : Type 0} (p : A → Bool) (n : ℕ) (xs : List A) → prefix_len p (take n xs) ≡ min (prefix_len p xs) n
leading_take p zero xs = omega arith
leading_take p (suc n) [] = omega arith
leading_take p (suc n) (x ∷ xs) = go (p x) (leading_take p n xs)
  where
    go : (b : Bool) → prefix_len p (take n xs) ≡ min (prefix_len p xs) n → cond b (1 + prefix_len p (take n xs)) 0 ≡ min (cond b (1 + prefix_len p xs) 0) (suc n)
    go true h = omega (arith, h)
    go false h = omega arith

pub none_counted : {A : Type 0} (p : A → Bool) (d : A) (xs : List A) → ((i : ℕ) → p (get_or xs i d) ≡ false) → count_by p xs ≡ 0
none_counted p d [] none = refl
none_counted {A = A} p d (x ∷ xs) none =
    let weight : A → ℕ = λ y. cond (p y) 1 0 in
    let here : weight x ≡ 0 = ap (λ (b : Bool). cond b 1 0) (none 0) in
    omega (arith, sum_by-cons weight x xs, here, none_counted p d xs (λ i. none (suc i)))

-- a search by another text of its test
pub seek_same : (p q : ℕ → Bool) → ((i : ℕ) → p i ≡ q i) → (n i : ℕ) → seek p n i ≡ seek q n i
seek_same p q same n i = ap (λ test. seek test n i) (λ k. λ j. same j k)

-- the numbers that a slot keeps
pub record Marked (ms : List Mark) (size sent pending low : ℕ) : Type 0 where
  pub placed : length ms ≡ 502
  pub short : size ≤ 502
  pub within : sent ≤ size
  pub begun : Begun ms sent
  pub unbegun : Unbegun ms sent
  pub counted : pending ≡ pending_in ms
  pub low_begun : low ≤ sent
  pub none_below : NoneBelow ms low

pub unsent_not_pending : (m : protocol.Mark) → protocol.is_unsent m ≡ true → protocol.is_pending m ≡ false
unsent_not_pending protocol.unsent e = refl
unsent_not_pending protocol.sent e = refl
unsent_not_pending protocol.pending e = absurd (both_ways true (sym e) refl)

pub neither_pending : (m : protocol.Mark) → protocol.is_unsent m ≡ false → protocol.is_sent m ≡ false → protocol.is_pending m ≡ true
neither_pending protocol.unsent e f = absurd (both_ways true e refl)
neither_pending protocol.sent e f = absurd (both_ways true f refl)
neither_pending protocol.pending e f = refl

module _ (ms : List Mark) (size sent pending low : ℕ) (marked : Marked ms size sent pending low) where
  -- where nothing is pending
  pub none_pending : pending ≡ 0 → (i : ℕ) → protocol.is_pending (mark_at ms i) ≡ false
  none_pending none i = ⊎_elim within_list (λ past. unsent_not_pending _ (marked.unbegun i (omega (arith, past, marked.placed, marked.short, marked.within)))) (cases_lt i (length ms))
    where
      within_list : i < length ms → protocol.is_pending (mark_at ms i) ≡ false
      within_list l = go (is_pending (get_or ms i Unsent)) refl (get_or-le-sum_by (λ m. cond (is_pending m) 1 0) ms i Unsent l)
        where
          go : (b : Bool) → is_pending (get_or ms i Unsent) ≡ b → cond b 1 0 ≤ count_by is_pending ms → is_pending (get_or ms i Unsent) ≡ false
          go true e le = absurd (omega (arith, le, none, marked.counted))
          go false e le = e

  -- the first pending byte, if there is one
  abbrev pub first_pending : ℕ
  first_pending = low + prefix_len is_sent (take (sent - low) (drop low ms))

  first_seek : first_pending ≡ seek (λ j. not (is_sent (get_or ms j Unsent))) (sent - low) low
  first_seek =
      omega (arith, leading_take is_sent (sent - low) (drop low ms), seek_leading is_sent ms Unsent (sent - low) low (omega (arith, marked.placed, marked.short, marked.within, marked.low_begun)))

  pub first_begun : first_pending ≤ sent
  first_begun = omega (arith, first_seek, seek_to (λ j. not (is_sent (get_or ms j Unsent))) (sent - low) low, marked.low_begun)

  pub first_none : (i : ℕ) → i < first_pending → protocol.is_pending (mark_at ms i) ≡ false
  first_none i l = ⊎_elim (λ below. marked.none_below i below) (λ from. sent_not_pending _ (not-false _ (seek_before test (sent - low) low i from (omega (arith, l, first_seek))))) (cases_lt i low)
    where
      test : ℕ → Bool
      test j = not (is_sent (get_or ms j Unsent))

      sent_not_pending : (m : protocol.Mark) → protocol.is_sent m ≡ true → protocol.is_pending m ≡ false
      sent_not_pending protocol.unsent e = refl
      sent_not_pending protocol.sent e = refl
      sent_not_pending protocol.pending e = absurd (both_ways true (sym e) refl)

  pub first_is : 0 < pending → (first_pending < sent) × (protocol.is_pending (mark_at ms first_pending) ≡ true)
  first_is some = (inner, neither_pending _ (marked.begun first_pending inner) (subst (λ k. is_sent (get_or ms k Unsent) ≡ false) (sym first_seek) (not-true _ (seek_found test (sent - low) low (omega (arith, inner, first_seek))))))
    where
      test : ℕ → Bool
      test j = not (is_sent (get_or ms j Unsent))

      none : sent ≤ first_pending → (i : ℕ) → protocol.is_pending (mark_at ms i) ≡ false
      none all i = ⊎_elim (λ l. first_none i (omega (arith, l, all))) (λ l. unsent_not_pending _ (marked.unbegun i l)) (cases_lt i sent)

      inner : first_pending < sent
      inner = ⊎_elim (λ l. l) (λ all. absurd (omega (arith, some, marked.counted, none_counted is_pending Unsent ms (none all)))) (cases_lt first_pending sent)

-- an SDU with these marks
module _ (ms : List Mark) (size sent pending low : ℕ) (marked : Marked ms size sent pending low) (s : protocol.Sdu) (long : length s.bytes ≡ size) (same : (i : ℕ) → s.mark i ≡ mark_at ms i) where
  has_no : (test : protocol.Mark → Bool) → ((i : ℕ) → i < size → test (mark_at ms i) ≡ false) → protocol.has test s ≡ false
  has_no test none = go (cases_Bool (protocol.has test s))
    where
      go : (protocol.has test s ≡ true) ⊎ (protocol.has test s ≡ false) → protocol.has test s ≡ false
      go (inl e) =
          let found = has_found test s e in
          absurd (both_ways _ (none _ (omega (arith, found.0, long))) (ap test (sym (same _)) ∙ found.1))
      go (inr e) = e

  has_one : (test : protocol.Mark → Bool) (i : ℕ) → i < size → test (mark_at ms i) ≡ true → protocol.has test s ≡ true
  has_one test i l t = has_at test s i (omega (arith, l, long)) (ap test (same i) ∙ t)

  pub has_pending : protocol.has protocol.is_pending s ≡ ltb 0 pending
  has_pending = ⊎_elim yes no (cases_lt 0 pending)
    where
      yes : 0 < pending → protocol.has protocol.is_pending s ≡ ltb 0 pending
      yes l =
          let f = first_is ms size sent pending low marked l in
          has_one protocol.is_pending (first_pending ms size sent pending low marked) (omega (arith, f.0, marked.within)) f.1 ∙ sym (lt-ltb 0 pending l)

      no : pending ≤ 0 → protocol.has protocol.is_pending s ≡ ltb 0 pending
      no l = has_no protocol.is_pending (λ i k. none_pending ms size sent pending low marked (omega (arith, l)) i) ∙ sym (le-ltb 0 pending l)

  pub has_unsent : protocol.has protocol.is_unsent s ≡ ltb sent size
  has_unsent = ⊎_elim (λ l. has_one protocol.is_unsent sent l (marked.unbegun sent (omega arith)) ∙ sym (lt-ltb sent size l))
      (λ l. has_no protocol.is_unsent (λ i k. marked.begun i (omega (arith, k, l))) ∙ sym (le-ltb sent size l)) (cases_lt sent size)

  pub has_begun : begun s ≡ ltb 0 sent
  has_begun = ⊎_elim (λ l. has_one (λ m. not (protocol.is_unsent m)) 0 (omega (arith, l, marked.within)) (not_from_false _ (marked.begun 0 l)) ∙ sym (lt-ltb 0 sent l))
      (λ l. has_no (λ m. not (protocol.is_unsent m)) (λ i k. not_from_true _ (marked.unbegun i (omega (arith, l)))) ∙ sym (le-ltb 0 sent l)) (cases_lt 0 sent)

  abbrev left : protocol.Mark → Bool
  left m = protocol.is_unsent m || protocol.is_pending m

  pub has_left : protocol.has (λ m. protocol.is_unsent m || protocol.is_pending m) s ≡ ltb 0 (pending + (size - sent))
  has_left = ⊎_elim pends (λ l. ⊎_elim (unsents l) (none l) (cases_lt sent size)) (cases_lt 0 pending)
    where
      pends : 0 < pending → protocol.has left s ≡ ltb 0 (pending + (size - sent))
      pends l =
          let f = first_is ms size sent pending low marked l in
          has_one left (first_pending ms size sent pending low marked) (omega (arith, f.0, marked.within)) (or_right (protocol.is_unsent _) _ f.1) ∙ sym (lt-ltb 0 (pending + (size - sent)) (omega (arith, l)))

      unsents : pending ≤ 0 → sent < size → protocol.has left s ≡ ltb 0 (pending + (size - sent))
      unsents p l =
          has_one left sent l (or_left _ (protocol.is_pending (mark_at ms sent)) (marked.unbegun sent (omega arith))) ∙ sym (lt-ltb 0 (pending + (size - sent)) (omega (arith, l)))

      none : pending ≤ 0 → size ≤ sent → protocol.has left s ≡ ltb 0 (pending + (size - sent))
      none p l =
          has_no left (λ i k. or_from _ _ (marked.begun i (omega (arith, k, l))) (none_pending ms size sent pending low marked (omega (arith, p)) i))
          ∙ sym (le-ltb 0 (pending + (size - sent)) (omega (arith, p, l)))

  -- where runs begin
  pub byte_pending : 0 < pending → protocol.byte_from protocol.is_pending s 0 ≡ first_pending ms size sent pending low marked
  byte_pending some =
      let f = first_is ms size sent pending low marked some in
      seek_is (λ j. protocol.is_pending (s.mark j)) (length s.bytes - 0) 0 _ (omega arith) (omega (arith, f.0, marked.within, long))
      (λ j lo hi. ap protocol.is_pending (same j) ∙ first_none ms size sent pending low marked j hi) (λ l. ap protocol.is_pending (same _) ∙ f.1)

  pub byte_unsent : protocol.byte_from protocol.is_unsent s 0 ≡ sent
  byte_unsent =
      seek_is (λ j. protocol.is_unsent (s.mark j)) (length s.bytes - 0) 0 sent (omega arith) (omega (arith, marked.within, long))
      (λ j lo hi. ap protocol.is_unsent (same j) ∙ marked.begun j hi) (λ l. ap protocol.is_unsent (same sent) ∙ marked.unbegun sent (omega arith))

  -- how far they reach
  pub unsent_to : protocol.byte_from (λ m. not (protocol.is_unsent m)) s sent ≡ size
  unsent_to =
      seek_is (λ j. not (protocol.is_unsent (s.mark j))) (length s.bytes - sent) sent size marked.within (omega (arith, marked.within, long))
      (λ j lo hi. not_from_true _ (ap protocol.is_unsent (same j) ∙ marked.unbegun j lo)) (λ l. absurd (omega (arith, l, marked.within, long)))

  pub pending_to : (from : ℕ) → from ≤ size → protocol.byte_from (λ m. not (protocol.is_pending m)) s from ≡ from + min (prefix_len is_pending (drop from ms)) (size - from)
  pending_to from l =
      seek_same (λ j. not (protocol.is_pending (s.mark j))) (λ j. not (is_pending (get_or ms j Unsent))) (λ j. ap (λ m. not (protocol.is_pending m)) (same j)) (length s.bytes - from) from
      ∙ ap (λ n. seek (λ j. not (is_pending (get_or ms j Unsent))) (n - from) from) long
      ∙ seek_leading is_pending ms Unsent (size - from) from (omega (arith, l, marked.short, marked.placed))
