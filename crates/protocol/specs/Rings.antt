-- A ring has a place for each count of a window.
use Rattle.std.specs.Prelude.{ℕ, ◌%◌, List, slice_index_or}
use Rattle.protocol.specs.Sending.{window_size}

-- what stands under the count x
abbrev pub in_ring : {A : Type 0} → List A → ℕ → A → A
in_ring places x none = slice_index_or places (x % window_size) none
