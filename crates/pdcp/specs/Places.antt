-- What a place holds, and the list of what a ring of places holds.
use Rattle.std.specs.Prelude.{ℕ, zero, suc, ◌+◌, Bool, cond, ◌&&◌, List, [], ◌∷◌, map, length, take, Some, None, Option, nat_le, nat_lt}
use Rattle.pdcp.specs.declared.places.Place.{Place}
use Rattle.protocol.specs.Bytes.{Bytes, put}
use Rattle.protocol.specs.Reordering.{Stored}
use Rattle.protocol.specs.Rings.{in_ring}
use Rattle.protocol.specs.Sending.{window_size}
use Rattle.std.specs.Option.{option_map}

-- the packet in a place, if any
abbrev pub packet_in : Place → Option Bytes
packet_in place = option_map (λ n. take n place.bytes) place.size

-- What taking a packet out answers, leaves in the buffer and leaves in the place. It stays if the buffer is too short.
abbrev pub copied_out : Option Bytes → Bytes → Option ℕ × Bytes × Option Bytes
copied_out None buffer = (None, buffer, None)
copied_out (Some packet) buffer =
    cond (nat_lt (length buffer) (length packet)) (None, buffer, Some packet) (Some (length packet), put packet buffer, None)

-- whether a COUNT has a place in the window that begins at `first`
abbrev pub has_place : ℕ → ℕ → Bool
has_place first count = nat_le first count && nat_lt count (first + window_size)

-- what stands under a COUNT
abbrev pub under : List Place → ℕ → Option Bytes
under places count = in_ring (map packet_in places) count None

-- the packet of this COUNT, if any, before those of higher ones
abbrev pub noted : Option Bytes → ℕ → List Stored → List Stored
noted None count rest = rest
noted (Some packet) count rest = record { count = count; packet = packet } ∷ rest

-- what stands under the n COUNTs from `from` on, by COUNT
abbrev pub listed : (ℕ → Option Bytes) → (n from : ℕ) → List Stored
listed f zero from = []
listed f (suc n) from = noted (f from) from (listed f n (suc from))
