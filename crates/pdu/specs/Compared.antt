-- What a comparison of the bytes written with those read says.
use Rattle.std.specs.Prelude.{◌≡◌, ℕ, ◌<◌, List, All, length, vec_items, ◌≢◌, bit_xor, slice_index}
use Rattle.pdu.specs.declared.differences.Comparison.{Comparison}
use Rattle.pdu.specs.declared.differences.Comparison.TheVariants.{Equal, Length, Differs}
use Rattle.pdu.specs.declared.differences.Difference.{Difference}

-- the two have a byte at this place, and it differs in these bits
abbrev pub Real : List ℕ → List ℕ → Difference → Type 0
Real written read d =
    (d.place < length written) × (d.bits ≡ bit_xor (slice_index written d.place) (slice_index read d.place)) × (0 < d.bits)

abbrev pub Compares : List ℕ → List ℕ → Comparison → Type 0
Compares written read Equal = written ≡ read
Compares written read (Length size) = (size ≡ length written) × (size ≢ length read)
Compares written read (Differs list) =
    (length written ≡ length read) × (written ≢ read) × All (Real written read) (vec_items list)
