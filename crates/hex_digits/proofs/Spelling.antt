-- Bytes that are read from digits, one by one.
use Rattle.std.proofs.Common.{◌≡◌, ℕ, ◌+◌, ◌*◌, ◌/◌, ◌%◌, ◌<◌, List, [], ◌∷◌, ◌++◌, length, get_or, set, take, drop, sym, ◌∙◌, ap, subst, below_more, length-append, length-drop, length-set, arith, rules, slice_index}
use Rattle.std.proofs.lemmas.List.{append_assoc, flat_map_more, length_push, get_or_push, get_or_append_left, get_or-drop, take_more, take_more_set}
use Rattle.hex_digits.specs.Digits.{Byte, Spelt, Stops, digit_of, digits_of, text_of}

-- the two digits that stand before the rest
pub digit_ahead : (digits pair rest : List ℕ) (n : ℕ) → drop n digits ≡ pair ++ rest → length pair ≡ 2 → (j : ℕ) → j < 2 → slice_index pair j ≡ slice_index digits (n + j)
digit_ahead digits pair rest n ahead two j lt = sym (get_or_append_left pair rest 0 j (omega arith)) ∙ ap (λ ds. get_or ds j 0) (sym ahead) ∙ get_or-drop n digits j 0

-- they spell one byte more
pub spelt_push : (digits old pair rest : List ℕ) (byte : ℕ) → drop (2 * length old) digits ≡ pair ++ rest → length pair ≡ 2
    → Byte (slice_index pair 0) (slice_index pair 1) byte → Spelt digits old → Spelt digits (old ++ byte ∷ [])
spelt_push digits old pair rest byte ahead two here spelt k inside =
    below_more (λ j. Byte (slice_index digits (2 * j)) (slice_index digits (2 * j + 1)) (slice_index (old ++ byte ∷ []) j)) (length old)
    (λ j lt. subst (Byte (slice_index digits (2 * j)) (slice_index digits (2 * j + 1))) (sym (get_or_append_left old (byte ∷ []) 0 j lt)) (spelt j lt))
    last k (omega (arith, length_push old byte, inside))
  where
    digit : (j : ℕ) → j < 2 → slice_index pair j ≡ slice_index digits (2 * length old + j)
    digit = digit_ahead digits pair rest (2 * length old) ahead two

    last : Byte (slice_index digits (2 * length old)) (slice_index digits (2 * length old + 1)) (slice_index (old ++ byte ∷ []) (length old))
    last = search (rules, digit 0, digit 1, here, get_or_push)

-- or none
pub stops_here : (digits old pair rest : List ℕ) → drop (2 * length old) digits ≡ pair ++ rest → length pair ≡ 2
    → ((b : ℕ) → Byte (slice_index pair 0) (slice_index pair 1) b → ⊥) → Spelt digits old → Stops digits old
stops_here digits old pair rest ahead two none spelt = (
  spelt,
  omega (arith, ap length ahead, length-append pair rest, two, length-drop (2 * length old) digits),
  λ b is. none b (subst (λ d. Byte d (slice_index pair 1) b) (sym (digit 0 (omega arith) ∙ ap (slice_index digits) (omega arith))) (subst (λ d. Byte (slice_index digits (2 * length old)) d b) (sym (digit 1 (omega arith))) is)),
)
  where
    digit : (j : ℕ) → j < 2 → slice_index pair j ≡ slice_index digits (2 * length old + j)
    digit = digit_ahead digits pair rest (2 * length old) ahead two

-- Digits that are written from bytes, one by one.
pub spelt_on : (digits bytes : List ℕ) (i : ℕ) → 2 * i + 1 < length digits → i < length bytes → take (2 * i) digits ≡ text_of (take i bytes)
    → take (2 * (i + 1)) (set (set digits (2 * i) (digit_of (get_or bytes i 0 / 16))) (2 * i + 1) (digit_of (get_or bytes i 0 % 16))) ≡ text_of (take (i + 1) bytes)
spelt_on digits bytes i room inside so_far =
    let a = digit_of (get_or bytes i 0 / 16) in
    let b = digit_of (get_or bytes i 0 % 16) in
    let two : 2 * (i + 1) ≡ 2 * i + 1 + 1 = omega arith in
    ap (λ n. take n (set (set digits (2 * i) a) (2 * i + 1) b)) two
    ∙ take_more_set (set digits (2 * i) a) (2 * i + 1) b (omega (arith, room, length-set digits (2 * i) a))
    ∙ ap (λ xs. xs ++ b ∷ []) (take_more_set digits (2 * i) a (omega (arith, room)) ∙ ap (λ xs. xs ++ a ∷ []) so_far)
    ∙ append_assoc (text_of (take i bytes)) (a ∷ []) (b ∷ [])
    ∙ flat_map_more digits_of [] (take i bytes) (get_or bytes i 0) ∙ ap text_of (sym (take_more bytes i 0 inside))
