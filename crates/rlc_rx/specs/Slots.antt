-- What a slot holds of its SDU.
use Rattle.std.specs.Prelude.{ℕ, Bool, cond, List, map, Some, None, Option, slice_index}
use Rattle.protocol.specs.Bytes.{Bytes}
use Rattle.protocol.specs.Receiving.{Partial}
use Rattle.rlc_rx.specs.Flags.{is_held}
use Rattle.rlc_rx.specs.declared.slots.Slot.{Slot}

-- an SDU by the flags and bytes that are kept of it
abbrev pub partial : List Bool → Bytes → Option ℕ → Partial
partial held bytes known_end =
    record { held = λ i. cond (is_held held i) (Some (slice_index bytes i)) None; known_end = known_end }

abbrev pub partial_of : Slot → Partial
partial_of s = partial s.held s.bytes s.known_end

-- what the slots of a ring hold
abbrev pub partials : List Slot → List Partial
partials slots = map partial_of slots

abbrev pub polls : List Slot → List Bool
polls slots = map (λ s. s.poll) slots
