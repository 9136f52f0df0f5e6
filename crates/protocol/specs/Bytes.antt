-- Bytes, and the fields that are packed into them, most significant bit first.
use Rattle.std.specs.Prelude.{ℕ, ◌+◌, ◌*◌, ◌/◌, ◌%◌, ◌^◌, ◌<◌, Bool, cond, List, [], ◌∷◌, ◌++◌, length, take, drop, ◌==◌, slice_index}

abbrev pub Bytes : Type 0
Bytes = List ℕ

-- every byte is one
abbrev pub Octets : Bytes → Type 0
Octets bytes = (i : ℕ) → slice_index bytes i < 256

abbrev pub byte : Bytes → ℕ → ℕ
byte bytes i = slice_index bytes i

-- the number of 16 bits that begins at byte i
abbrev pub word : Bytes → ℕ → ℕ
word bytes i = 256 * byte bytes i + byte bytes (i + 1)

-- the two bytes of a number of 16 bits
abbrev pub word_bytes : ℕ → Bytes
word_bytes n = n / 256 ∷ n % 256 ∷ []

-- bit k of n, counted from the least significant
abbrev pub bit : ℕ → ℕ → Bool
bit k n = n / 2 ^ k % 2 == 1

-- a bit's number
abbrev pub flag : Bool → ℕ
flag b = cond b 1 0

-- a buffer after bytes were written at its start
abbrev pub put : Bytes → Bytes → Bytes
put bytes buffer = bytes ++ drop (length bytes) buffer

-- the same, from byte i on
abbrev pub put_at : ℕ → Bytes → Bytes → Bytes
put_at i bytes buffer = take i buffer ++ (bytes ++ drop (i + length bytes) buffer)
