-- Marks replaced one by one.
use denote.Enum.Bare.{sameb}
use Rattle.std.proofs.Common.{◌≡◌, ℕ, ◌+◌, ◌-◌, ◌<◌, Bool, true, false, cond, List, ◌++◌, map, length, get_or, take, drop, set, count_by, sym, refl, ap, ◌∙◌, arith}
use Rattle.rlc_tx.specs.Marks.{same, replaced}
use Rattle.rlc_tx.specs.declared.marks.Mark.{Mark}
use Rattle.rlc_tx.specs.declared.marks.Mark.TheVariants.{Unsent, Sent, Pending}
use Rattle.rlc_tx.specs.contracts.marks.Mark.{the_type}
use Rattle.std.proofs.lemmas.List.Edits.{map_over_more}
use Rattle.std.proofs.lemmas.List.{get_or_default, get_or-drop, get_or-append_right, length-map, length-take-le}
use Rattle.std.proofs.lemmas.List.Sums.{count_by_more_yes, count_by_more_no}

-- equality of marks
pub same_is : (old m : Mark) → sameb the_type m old ≡ same old m
same_is Unsent Unsent = refl
same_is Unsent Sent = refl
same_is Unsent Pending = refl
same_is Sent Unsent = refl
same_is Sent Sent = refl
same_is Sent Pending = refl
same_is Pending Unsent = refl
same_is Pending Sent = refl
same_is Pending Pending = refl

-- what a list holds behind its first i marks, once those were replaced
ahead : (f : Mark → Mark) (ms ys : List Mark) (i : ℕ) → i < length ms → ys ≡ map f (take i ms) ++ drop i ms → get_or ys i Unsent ≡ get_or ms i Unsent
ahead f ms ys i lt is =
    let long : length (map f (take i ms)) ≡ i = length-map (take i ms) f ∙ length-take-le i ms (omega arith) in
    ap (λ xs. get_or xs i Unsent) is ∙ get_or-append_right (map f (take i ms)) (drop i ms) i i Unsent long (omega arith)
    ∙ get_or-drop i ms (i - i) Unsent ∙ ap (λ j. get_or ms j Unsent) (omega arith)

-- one more, which is `old` or not
pub replaced_more : (old new : Mark) (ms ys : List Mark) (i n : ℕ) (b : Bool) → i < length ms → length ys ≡ length ms
    → (ys ≡ map (replaced old new) (take i ms) ++ drop i ms) × (n ≡ count_by (same old) (take i ms)) → b ≡ same old (get_or ys i Unsent)
    → (set ys i (cond b new (get_or ys i Unsent)) ≡ map (replaced old new) (take (i + 1) ms) ++ drop (i + 1) ms)
    × (cond b (n + 1) n ≡ count_by (same old) (take (i + 1) ms))
replaced_more old new ms ys i n b lt long inv test = (
  ap (λ t. set ys i (cond t new (get_or ys i Unsent))) test
      ∙ map_over_more (replaced old new) ms ys i (get_or ys i Unsent) lt inv.0 (get_or_default ys i Unsent (get_or ys i Unsent) (omega arith)),
  count b (test ∙ ap (same old) (ahead (replaced old new) ms ys i lt inv.0)),
)
  where
    count : (t : Bool) → t ≡ same old (get_or ms i Unsent) → cond t (n + 1) n ≡ count_by (same old) (take (i + 1) ms)
    count true e = ap (λ k. k + 1) inv.1 ∙ sym (count_by_more_yes (same old) ms i Unsent lt (sym e))
    count false e = inv.1 ∙ sym (count_by_more_no (same old) ms i Unsent lt (sym e))
