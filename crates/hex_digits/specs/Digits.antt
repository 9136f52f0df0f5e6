-- Hexadecimal digits, by the codes of their characters.
use Rattle.std.specs.Prelude.{◌≡◌, ℕ, ◌+◌, ◌*◌, ◌/◌, ◌%◌, ◌<◌, ◌≤◌, ◌⊎◌, cond, List, [], ◌∷◌, length, nat_lt, slice_index}
use Rattle.std.specs.List.{flat_map}

-- 0 to 9, then A to F or a to f
abbrev pub Digit : ℕ → ℕ → Type 0
Digit code value = ((value < 10) × (code ≡ 48 + value)) ⊎ ((10 ≤ value) × (value < 16) × ((code ≡ 55 + value) ⊎ (code ≡ 87 + value)))

-- two digits, the high one first
abbrev pub Byte : ℕ → ℕ → ℕ → Type 0
Byte high low byte = (h : ℕ) × (l : ℕ) × Digit high h × Digit low l × (byte ≡ h * 16 + l)

-- each byte has two digits
abbrev pub Spelt : List ℕ → List ℕ → Type 0
Spelt digits bytes = (k : ℕ) → k < length bytes → Byte (slice_index digits (2 * k)) (slice_index digits (2 * k + 1)) (slice_index bytes k)

-- the two digits that follow those of the bytes spell none
abbrev pub Stops : List ℕ → List ℕ → Type 0
Stops digits bytes = Spelt digits bytes × (2 * length bytes + 1 < length digits)
    × ((b : ℕ) → Byte (slice_index digits (2 * length bytes)) (slice_index digits (2 * length bytes + 1)) b → ⊥)

-- the digit that is written for a value: 0 to 9, then a to f
abbrev pub digit_of : ℕ → ℕ
digit_of value = cond (nat_lt value 10) (48 + value) (87 + value)

abbrev pub digits_of : ℕ → List ℕ
digits_of byte = digit_of (byte / 16) ∷ digit_of (byte % 16) ∷ []

-- the text of bytes, two digits for each
abbrev pub text_of : List ℕ → List ℕ
text_of bytes = flat_map digits_of bytes
