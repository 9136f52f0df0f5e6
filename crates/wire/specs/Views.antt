-- What the types of this crate stand for.
use Rattle.std.specs.Prelude.{◌≡◌, ℕ, true, Bool, cond, List, [], length, drop, Some, None, Ok, Err, Option, Result, nat_le, nat_lt}
use Rattle.protocol.specs.Pdus as protocol
use Rattle.protocol.specs.Bytes.{Bytes, word}
use Rattle.protocol.specs.Reading as reading
use Rattle.protocol.specs.Refusals.{at, unless}
use Rattle.protocol.specs.declared.faults.Fault.{Fault}
use Rattle.protocol.specs.declared.faults.Refusal.TheVariants.{Malformed}
use Rattle.std.specs.Option.{option_map}
use Rattle.wire.specs.Counts.{sn_of}
use Rattle.wire.specs.declared.entries.Found.{Found}
use Rattle.wire.specs.declared.entries.Entries.{Entries}
use Rattle.wire.specs.declared.pdus.Entry.{Entry}
use Rattle.wire.specs.declared.pdus.Amd.{Amd}
use Rattle.wire.specs.declared.pdus.Status.{Status}
use Rattle.wire.specs.declared.pdus.Missing.{Missing}
use Rattle.wire.specs.declared.pdus.Missing.TheVariants.{Every, Span}
use Rattle.wire.specs.declared.pdus.Part.{Part}
use Rattle.wire.specs.declared.pdus.Pdu.{Pdu}
use Rattle.wire.specs.declared.pdus.Pdu.TheVariants as read
use Rattle.wire.specs.declared.pdus.Header.{Header}
use Rattle.wire.specs.declared.pdus.Segment.{Segment}
use Rattle.wire.specs.declared.pdus.Segment.TheVariants.{Whole, First, Middle, Last}

abbrev pub missing_of : Missing → protocol.Missing
missing_of Every = protocol.every
missing_of (Span so_start so_end) = protocol.span so_start so_end

abbrev pub entry_of : Entry → protocol.Entry
entry_of e = record { nack_sn = sn_of e.nack_sn; missing = missing_of e.missing }

-- an entry at the start of some bytes, as a walk along the entries sees it
pub record Raw : Type 0 where
  pub entry : protocol.Entry
  pub size : ℕ
  pub e1 : Bool
  pub e3 : Bool

abbrev pub found_of : Found → Raw
found_of f = record { entry = entry_of f.entry; size = f.size; e1 = f.e1; e3 = f.e3 }

-- none: the bytes end within it
abbrev pub found_at : Bytes → Option Raw
found_at bytes =
    cond (nat_lt (length bytes) (reading.entry_length bytes)) None
    (Some (record { entry = reading.entry_of bytes; size = reading.entry_length bytes; e1 = reading.e1_of bytes; e3 = reading.e3_of bytes }))

-- what is found wrong with the entries after the header of a status report, if anything
abbrev pub checked_entries : ℕ → Bool → Bytes → Result (Unit {0}) Fault
checked_entries ack_sn e1 bytes =
    unless (reading.along reading.whole_entries e1 3 bytes)
    (unless (reading.along (reading.valid_entries ack_sn) e1 3 bytes) (Ok tt))

-- the entries that begin in these bytes, if there are any
abbrev pub entries_in : Option Bytes → List protocol.Entry
entries_in None = []
entries_in (Some bytes) = reading.along reading.listing true 3 bytes

-- the entries that are to come
abbrev pub entries_of : Entries → List protocol.Entry
entries_of c = entries_in (option_map (λ rest. rest.now) c.rest)

abbrev pub segment_of : Segment → protocol.Segment
segment_of Whole = protocol.whole
segment_of First = protocol.first
segment_of (Middle so) = protocol.middle so
segment_of (Last so) = protocol.last so

-- the PDU of a header and its data
abbrev pub amd_of : Header → Bytes → protocol.Amd
amd_of h bytes = record { poll = h.poll; sn = sn_of h.sn; segment = segment_of h.segment; payload = bytes }

abbrev pub header_bytes : Header → Bytes
header_bytes h = protocol.encode_amd (amd_of h [])

-- the SO of a middle or a last segment
abbrev pub so_of : Segment → Option ℕ
so_of Whole = None
so_of First = None
so_of (Middle so) = Some so
so_of (Last so) = Some so

-- how many bytes stand before the data
abbrev pub header_length : Segment → ℕ
header_length Whole = 2
header_length First = 2
header_length (Middle so) = 4
header_length (Last so) = 4

-- which segment the bytes of an AMD PDU carry
abbrev pub segment_in : Bytes → Result protocol.Segment Fault
segment_in bytes =
    cond (nat_le (length bytes) (reading.header_length (reading.si_field bytes))) (Err (at Malformed (length bytes)))
    (Ok (reading.segment_of (reading.si_field bytes) (word bytes 2)))

abbrev pub segment_read : Result Segment Fault → Result protocol.Segment Fault
segment_read (Ok segment) = Ok (segment_of segment)
segment_read (Err fault) = Err fault

abbrev pub pdu_of : Pdu → protocol.Pdu
pdu_of (read.Whole poll sn part) = protocol.amd (record { poll = poll; sn = sn_of sn; segment = protocol.whole; payload = part.bytes.now })
pdu_of (read.First poll sn part) = protocol.amd (record { poll = poll; sn = sn_of sn; segment = protocol.first; payload = part.bytes.now })
pdu_of (read.Middle poll sn so part) = protocol.amd (record { poll = poll; sn = sn_of sn; segment = protocol.middle so; payload = part.bytes.now })
pdu_of (read.Last poll sn so part) = protocol.amd (record { poll = poll; sn = sn_of sn; segment = protocol.last so; payload = part.bytes.now })
pdu_of (read.Status ack_sn entries) = protocol.status (sn_of ack_sn) (entries_of entries)

-- the same PDU, of whatever kind
abbrev pub amd_or_status : Result Amd Status → protocol.Pdu
amd_or_status (Ok a) = protocol.amd (amd_of a.header a.data.bytes.now)
amd_or_status (Err s) = protocol.status (sn_of s.ack_sn) (entries_of s.entries)

abbrev pub read_of : Result Pdu Fault → Result protocol.Pdu Fault
read_of (Ok pdu) = Ok (pdu_of pdu)
read_of (Err fault) = Err fault

-- whether a PDU was read
abbrev pub checked : Result protocol.Pdu Fault → Result (Unit {0}) Fault
checked (Ok pdu) = Ok tt
checked (Err fault) = Err fault

-- a part of these bytes: all from `place` on
abbrev pub Begins : Bytes → ℕ → Part → Type 0
Begins bytes place part = (part.place ≡ place) × (part.bytes.now ≡ drop place bytes)

-- the data field of what was read stands behind the header
abbrev pub Placed : Bytes → Result Pdu Fault → Type 0
Placed bytes (Ok (read.Whole poll sn part)) = Begins bytes 2 part
Placed bytes (Ok (read.First poll sn part)) = Begins bytes 2 part
Placed bytes (Ok (read.Middle poll sn so part)) = Begins bytes 4 part
Placed bytes (Ok (read.Last poll sn so part)) = Begins bytes 4 part
Placed bytes (Ok (read.Status ack_sn entries)) = Unit {0}
Placed bytes (Err fault) = Unit {0}
