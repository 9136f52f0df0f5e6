-- What the far end answers when it has read a PDU.
use Rattle.std.specs.Prelude.{ℕ, [], map, take, Some, None, Ok, Err, Option, Result, slice_index_or}
use Rattle.protocol.specs.Bytes.{Bytes}
use Rattle.protocol.specs.Pdus.{Amd}
use Rattle.protocol.specs.Reading.{decode}
use Rattle.protocol.specs.Receiving as far
use Rattle.protocol.specs.declared.faults.End.TheVariants.{Far}
use Rattle.protocol.specs.declared.faults.Fault.{Fault}
use Rattle.rlc_rx.specs.Views.{State}
use Rattle.rlc_rx.specs.declared.ends.FarEnd.{FarEnd}
use Rattle.rlc_rx.specs.declared.receptions.Completed.{Completed}
use Rattle.rlc_rx.specs.declared.receptions.Reception.{Reception}
use Rattle.rlc_rx.specs.declared.windows.Window.{Window}
use Rattle.rlc_rx.specs.declared.receptions.Reception.TheVariants.{Discarded, Kept, HandedUp}

-- an SDU, as the first bytes of its slot
abbrev pub sdu_in : Window → Completed → Bytes
sdu_in w c = take c.length (slice_index_or (map (λ s. s.bytes) w.slots) c.place [])

abbrev pub sdu_at : FarEnd → Completed → Bytes
sdu_at e c = sdu_in e.window c

abbrev pub reception_in : Window → Reception → far.Reception
reception_in w Discarded = far.nothing_new
reception_in w Kept = far.part_kept
reception_in w (HandedUp c) = far.whole_sdu (sdu_in w c)

abbrev pub answer_of : FarEnd → Result Reception Fault → Result far.Reception Fault
answer_of e (Ok r) = Ok (reception_in e.window r)
answer_of e (Err fault) = Err fault

-- the answer, and the state that is left; a refusal changes nothing
abbrev pub outcome : State → Result (far.Reception × far.Far) Fault → Result far.Reception Fault × State
outcome state (Ok (r, f)) = (Ok r, (state.0, f))
outcome state (Err fault) = (Err fault, state)

-- ... of a data PDU
abbrev pub receiving : Amd → State → Result far.Reception Fault × State
receiving a state = outcome state (far.receives state.0 (far.rx_count state.1 a.sn) a state.1)

-- ... of a PDU, as bytes
abbrev pub reading : Bytes → State → Result far.Reception Fault × State
reading bytes state = outcome state (far.reads state.0 (decode Far bytes) state.1)

-- what a slot hands up: its first bytes, if it is complete
abbrev pub handed : Option ℕ → Bytes → far.Reception
handed (Some length) bytes = far.whole_sdu (take length bytes)
handed None bytes = far.part_kept
