-- What a store holds, and what becomes of it.
use Rattle.std.specs.Prelude.{◌≡◌, ℕ, ◌+◌, ◌<◌, true, cond, List, [], ◌∷◌, length, Some, None, Option, ◌==◌, nat_lt}
use Rattle.pdcp.specs.Places.{under, listed}
use Rattle.pdcp.specs.declared.places.Place.{Place}
use Rattle.pdcp.specs.declared.stores.Store.{Store}
use Rattle.protocol.specs.Bytes.{Bytes, put}
use Rattle.protocol.specs.Reordering.{Stored, is_stored}
use Rattle.protocol.specs.Sending.{window_size}

-- the packets in a ring of places whose window begins at `first`, by COUNT
unfoldable pub held_in : List Place → ℕ → List Stored
held_in places first = listed (under places) window_size first

-- the packets in a store
abbrev pub stored_of : Store → List Stored
stored_of s = held_in s.places s.first

-- every stored COUNT is below this one
abbrev pub Below : ℕ → List Stored → Type 0
Below high ss = (k : ℕ) → is_stored ss k ≡ true → k < high

-- every stored COUNT is less than a window away from this one
abbrev pub Near : ℕ → List Stored → Type 0
Near count ss = (k : ℕ) → is_stored ss k ≡ true → (k < count + window_size) × (count < k + window_size)

abbrev pub lowest_of : List Stored → Option ℕ
lowest_of [] = None
lowest_of (s ∷ ss) = Some s.count

-- the packet that is stored under a COUNT
abbrev pub found : List Stored → ℕ → Option Bytes
found [] count = None
found (s ∷ ss) count = cond (s.count == count) (Some s.packet) (found ss count)

abbrev pub without : ℕ → List Stored → List Stored
without count [] = []
without count (s ∷ ss) = cond (s.count == count) ss (s ∷ without count ss)

-- What taking the packet of a COUNT out answers, and leaves in buffer and store. It stays if the buffer is too short.
abbrev pub taken_if : Option Bytes → ℕ → Bytes → List Stored → Option ℕ × Bytes × List Stored
taken_if None count buffer ss = (None, buffer, ss)
taken_if (Some packet) count buffer ss =
    cond (nat_lt (length buffer) (length packet)) (None, buffer, ss) (Some (length packet), put packet buffer, without count ss)

abbrev pub taken : ℕ → Bytes → List Stored → Option ℕ × Bytes × List Stored
taken count buffer ss = taken_if (found ss count) count buffer ss
