-- What the order and the equality of counts, which go by the number and then by the layer, say of the numbers.
use Rattle.std.proofs.Common.{◌≡◌, ℕ, ◌&&◌, true, eqb, ltb, leb, Some, Equal, rules}
use Rattle.std.specs.Ordering.{nat_cmp, partial_ordering_then, is_some_and, is_lt, is_le}

pub count_lt : (m n : ℕ) → is_some_and is_lt (partial_ordering_then (Some (nat_cmp m n)) (Some Equal)) ≡ ltb m n
count_lt m n = search rules

pub count_le : (m n : ℕ) → is_some_and is_le (partial_ordering_then (Some (nat_cmp m n)) (Some Equal)) ≡ leb m n
count_le m n = search rules

pub count_eq : (m n : ℕ) → (eqb m n && true) ≡ eqb m n
count_eq m n = search rules
