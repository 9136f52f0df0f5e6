-- The delivery theorem: what every lawful series of calls from a new link keeps, whatever the two airs do.
use Rattle.std.specs.Prelude.{◌≡◌, ℕ, ◌<◌, true, false, ◌⊎◌, List, [], ◌∷◌, ◌++◌, length, take, slice_index_or}
use Rattle.protocol.specs.Airs.{Within}
use Rattle.protocol.specs.Bytes.{Bytes}
use Rattle.protocol.specs.Links.{Link, Call, give, spend, arrive, tick, collect, read, Answer, accepted as accepted_as, sent, arrived, ticked, collected as collected_size, nothing_due, refused}
use Rattle.protocol.specs.Runs.{Event, State, outcome, next, new_state, Lawful, end_of, accepted_in, collected_in, ran_out, due_packets}
use Rattle.protocol.specs.Settings.{Settings}
use Rattle.protocol.specs.declared.faults.Refusal.TheVariants.{ShortBuffer, PacketDue}

-- the packets that a series from a new link accepted, and those that it collected, in the order of the calls
abbrev pub accepted : Settings → List Event → List Bytes
accepted s es = accepted_in s new_state es

abbrev pub collected : Settings → List Event → List Bytes
collected s es = collected_in s new_state es

-- the link at its end
abbrev pub link_after : Settings → List Event → Link
link_after s es = (end_of s new_state es).link

-- the packets collected, and then those due
abbrev pub passed : Settings → List Event → List Bytes
passed s es = collected s es ++ due_packets (link_after s es)

-- t-Reordering has not run out
abbrev pub InTime : Settings → List Event → Type 0
InTime s es = ran_out s new_state es ≡ false

-- the near end holds packet c acknowledged: its SDU is
abbrev pub Acknowledged : Link → ℕ → Type 0
Acknowledged l c = (l.near.sdu c).acknowledged ≡ true

-- the far end has packet c stored, under its COUNT
abbrev pub StoredUnder : ℕ → Bytes → Link → Type 0
StoredUnder c packet l = Within (record { count = c; packet = packet } ∷ []) l.pdcp.store

-- of one series
pub record Delivers (s : Settings) (es : List Event) : Type 0 where
  -- collected packets are accepted packets, byte for byte, in the order accepted, none twice
  pub in_order : Within (collected s es) (accepted s es)
  -- collected, then due, are exactly the first ones accepted
  pub first_ones : InTime s es → passed s es ≡ take (length (passed s es)) (accepted s es)
  -- what is acknowledged was collected, is due, or is stored
  pub none_lost : InTime s es → (c : ℕ) → c < length (accepted s es) → Acknowledged (link_after s es) c
      → (c < length (passed s es)) ⊎ StoredUnder c (slice_index_or (accepted s es) c []) (link_after s es)

-- at the end of a series nothing is unacknowledged, and nothing is due
abbrev pub Finished : Settings → List Event → Type 0
Finished s es =
    ((c : ℕ) → c < length (accepted s es) → Acknowledged (link_after s es) c) × (due_packets (link_after s es) ≡ [])

-- Two series, with settings and airs of their own, that accept equal packets and finish, collected exactly these.
abbrev pub Alike : Settings → List Event → Settings → List Event → Type 0
Alike s es t fs =
    accepted s es ≡ accepted t fs → InTime s es → InTime t fs → Finished s es → Finished t fs
    → (collected s es ≡ accepted s es) × (collected t fs ≡ accepted s es)

abbrev pub Delivery : Type 0
Delivery =
    ((s : Settings) (es : List Event) → Lawful s new_state es → Delivers s es)
    × ((s : Settings) (es : List Event) (t : Settings) (fs : List Event) → Lawful s new_state es → Lawful t new_state fs → Alike s es t fs)

-- what arrives is read --------------------------------------------------------------------------------------------------

-- an arrival is refused for its buffer or for a packet that is due, and never for what the PDU says
abbrev pub ReadsWell : Answer → Type 0
ReadsWell (accepted_as count) = Unit {0}
ReadsWell (sent size) = Unit {0}
ReadsWell (arrived arrival number) = Unit {0}
ReadsWell ticked = Unit {0}
ReadsWell (collected_size size) = Unit {0}
ReadsWell nothing_due = Unit {0}
ReadsWell (refused fault) = (fault.refusal ≡ ShortBuffer) ⊎ (fault.refusal ≡ PacketDue)

abbrev pub ArrivesWell : Call → Answer → Type 0
ArrivesWell (give packet) answer = Unit {0}
ArrivesWell (spend end size buffer) answer = Unit {0}
ArrivesWell (arrive end draw buffer) answer = ReadsWell answer
ArrivesWell (tick end) answer = Unit {0}
ArrivesWell (collect buffer) answer = Unit {0}
ArrivesWell (read end bytes) answer = Unit {0}

abbrev pub AllArriveWell : Settings → State → List Event → Type 0
AllArriveWell s r [] = Unit {0}
AllArriveWell s r (e ∷ es) = ArrivesWell e.call (outcome s r e).answer × AllArriveWell s (next s r e) es

-- What either end put, the other reads: no PDU of a lawful series is refused for its content.
abbrev pub NothingRefused : Type 0
NothingRefused = (s : Settings) (es : List Event) → Lawful s new_state es → AllArriveWell s new_state es
