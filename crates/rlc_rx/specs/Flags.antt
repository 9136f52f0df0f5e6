-- The flags of an SDU's bytes: which are held, how many, and where they end.
use Rattle.std.specs.Prelude.{◌≡◌, ℕ, ◌+◌, ◌-◌, ◌≤◌, Bool, true, false, cond, not, ◌&&◌, ◌||◌, List, length, count_by, Some, None, Option, nat_le, nat_lt, slice_index_or}
use Rattle.protocol.specs.Bytes.{Bytes, byte}
use Rattle.protocol.specs.Reading.{max_sdu}

-- how many are set
abbrev pub tally : List Bool → ℕ
tally flags = count_by (λ flag. flag) flags

abbrev pub is_held : List Bool → ℕ → Bool
is_held flags i = slice_index_or flags i false

-- none is set from here on
abbrev pub NoneFrom : ℕ → List Bool → Type 0
NoneFrom n flags = (i : ℕ) → n ≤ i → is_held flags i ≡ false

-- the last one that is set is the one before here
abbrev pub EndsAt : ℕ → List Bool → Type 0
EndsAt top flags = (k : ℕ) → top ≡ k + 1 → is_held flags k ≡ true

-- what is held lies before a known end, which is at most the longest SDU's
abbrev pub bounds : Option ℕ → ℕ → Bool
bounds None top = true
bounds (Some end) top = nat_le top end && nat_le end max_sdu

-- a place whose flag is this one
abbrev pub wears : Bool → List Bool → ℕ → Bool
wears true flags i = is_held flags i
wears false flags i = not (is_held flags i)

-- one of the first n bytes of some data, which stand from byte `offset` on
abbrev pub in_data : (offset n i : ℕ) → Bool
in_data offset n i = not (nat_lt i offset || nat_le (offset + n) i)

-- The first n bytes of data were written where nothing was held, from byte `offset` on; `new` of them were.
pub record Merged (offset n : ℕ) («data» bytes bytes' : Bytes) (held held' : List Bool) (new : ℕ) : Type 0 where
  pub sizes : (length bytes' ≡ length bytes) × (length held' ≡ length held)
  pub marked : (i : ℕ) → is_held held' i ≡ (is_held held i || in_data offset n i)
  pub written : (i : ℕ) → byte bytes' i ≡ cond (is_held held i || not (in_data offset n i)) (byte bytes i) (byte «data» (i - offset))
  pub counted : tally held' ≡ tally held + new
