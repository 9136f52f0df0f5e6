-- A lawful series in which a packet is cut in three, its middle segment is lost, reported missing and sent again, and
-- the packet is then collected and acknowledged: the delivery theorem does not hold for want of such series.
use Rattle.std.specs.Prelude.{◌≡◌, ℕ, List, [], ◌∷◌, Some, None, Option}
use Rattle.protocol.specs.Airs.{Waiting}
use Rattle.protocol.specs.Bytes.{Bytes}
use Rattle.protocol.specs.Delivery.{collected, InTime, Finished}
use Rattle.protocol.specs.Links.{Call, give, spend, arrive, tick, collect}
use Rattle.protocol.specs.Runs.{Event, State, new_state, outcome, next, Lawful}
use Rattle.protocol.specs.Series.{hex, room}
use Rattle.protocol.specs.Settings.{Settings}
use Rattle.protocol.specs.declared.faults.End.TheVariants.{Near, Far}

abbrev pub settings : Settings
settings =
    record { poll_pdu = None; max_retx = 4; t_poll_retransmit = 40; t_reassembly = 1; t_status_prohibit = 1; t_reordering = None }

-- the segments of the SDU 80 00 41 42 43, the middle one again with a poll, and the two reports
abbrev pub first_segment : Bytes
first_segment = hex 5 0x9000800041

abbrev pub middle_segment : Bytes
middle_segment = hex 5 0xB000000342

abbrev pub last_segment : Bytes
last_segment = hex 5 0xE000000443

abbrev pub middle_again : Bytes
middle_again = hex 5 0xF000000342

abbrev pub byte_missing : Bytes
byte_missing = hex 9 0x000180000400030003

abbrev pub all_received : Bytes
all_received = hex 3 0x000100

abbrev pub aged : ℕ → Bytes → Waiting
aged age pdu = record { pdu = pdu; age = age }

abbrev pub event : Call → Option Bytes → List Waiting → List Waiting → Event
event call out forward back = record { call = call; out = out; forward = forward; back = back }

abbrev pub events : List Event
events =
    event (give (hex 3 0x414243)) None [] []
    ∷ event (spend Near 5 room) None (aged 0 first_segment ∷ []) []
    ∷ event (spend Near 5 room) None (aged 1 first_segment ∷ []) []
    ∷ event (spend Near 5 room) None (aged 2 first_segment ∷ aged 0 last_segment ∷ []) []
    ∷ event (arrive Far 0 room) (Some first_segment) (aged 0 last_segment ∷ []) []
    ∷ event (arrive Far 0 room) (Some last_segment) [] []
    ∷ event (tick Far) None [] []
    ∷ event (spend Far 9 room) None [] (aged 0 byte_missing ∷ [])
    ∷ event (arrive Near 0 room) (Some byte_missing) [] []
    ∷ event (spend Near 5 room) None (aged 0 middle_again ∷ []) []
    ∷ event (arrive Far 0 room) (Some middle_again) [] []
    ∷ event (collect room) None [] []
    ∷ event (tick Far) None [] []
    ∷ event (spend Far 5 room) None [] (aged 0 all_received ∷ [])
    ∷ event (arrive Near 0 room) (Some all_received) [] []
    ∷ []

-- the PDUs that a series put into either air
abbrev pub listed : Option Bytes → List Bytes → List Bytes
listed None pdus = pdus
listed (Some pdu) pdus = pdu ∷ pdus

abbrev pub puts_of : Settings → State → List Event → List Bytes
puts_of s r [] = []
puts_of s r (e ∷ es) = listed (outcome s r e).puts (puts_of s (next s r e) es)

abbrev pub Recovers : Type 0
Recovers =
    Lawful settings new_state events
    × (puts_of settings new_state events
    ≡ first_segment ∷ middle_segment ∷ last_segment ∷ byte_missing ∷ middle_again ∷ all_received ∷ [])
    × InTime settings events × Finished settings events × (collected settings events ≡ hex 3 0x414243 ∷ [])
