-- What is proved of numbers and formats. Each statement is the contract of a function in src/laws.rt.
use Rattle.std.specs.Prelude.{◌≡◌, ℕ, ◌+◌, ◌*◌, ◌%◌, ◌<◌, ◌≤◌, true, ◌↔◌, List, [], ◌∷◌, length, is_ok, Some, Ok}
use Rattle.protocol.specs.Bytes.{Bytes, Octets, byte}
use Rattle.protocol.specs.Drafts.{opened, fill, close}
use Rattle.protocol.specs.Numbers.{count_from, pdcp_count}
use Rattle.protocol.specs.Pdus.{Segment, whole, first, middle, last, Missing, every, span, Entry, Pdu, amd, status, encode, encode_pdcp}
use Rattle.protocol.specs.Reading.{decode, decode_pdcp, cleared}
use Rattle.protocol.specs.Refusals.{unless}
use Rattle.protocol.specs.Writing.{reader, pdu_fault, write}
use Rattle.protocol.specs.declared.faults.End.{End}

-- numbers ---------------------------------------------------------------------------------------------------------

-- A number stands for the one count that is congruent to it in the window of m counts that begins at the base.
abbrev pub OneCount : Type 0
OneCount =
    (m base sn c : ℕ) → sn < m
    → (c ≡ count_from m base sn) ↔ ((c % m ≡ sn) × (base ≤ c) × (c < base + m))

-- PDCP reads a number as the one COUNT that is congruent to it and less than half the modulus ahead of RX_DELIV, or
-- at most that much behind it; there is none only below 0.
abbrev pub OnePdcpCount : Type 0
OnePdcpCount =
    (half rx_deliv sn c : ℕ) → sn < half + half
    → (pdcp_count (half + half) half rx_deliv sn ≡ Some c)
    ↔ ((c % (half + half) ≡ sn) × (rx_deliv ≤ c + half) × (c < rx_deliv + half))

-- formats ---------------------------------------------------------------------------------------------------------

-- the fields fit their bits
abbrev pub SegmentFits : Segment → Type 0
SegmentFits whole = Unit {0}
SegmentFits first = Unit {0}
SegmentFits (middle so) = so < 65536
SegmentFits (last so) = so < 65536

abbrev pub MissingFits : Missing → Type 0
MissingFits every = Unit {0}
MissingFits (span so_start so_end) = (so_start < 65536) × (so_end < 65536)

abbrev pub EntriesFit : List Entry → Type 0
EntriesFit [] = Unit {0}
EntriesFit (e ∷ es) = (e.nack_sn < 4096) × MissingFits e.missing × EntriesFit es

abbrev pub Fits : Pdu → Type 0
Fits (amd a) = (a.sn < 4096) × SegmentFits a.segment
Fits (status ack_sn es) = (ack_sn < 4096) × EntriesFit es

-- What is written reads back to equal fields, and what no writer writes is refused alike.
abbrev pub WrittenReadsBack : Type 0
WrittenReadsBack = (pdu : Pdu) → Fits pdu → decode (reader pdu) (encode pdu) ≡ unless (pdu_fault pdu) (Ok pdu)

-- What is read writes back to the same bytes, but for the reserved bits, which are written 0.
abbrev pub ReadWritesBack : Type 0
ReadWritesBack =
    (end : End) (bytes : Bytes) (pdu : Pdu) → Octets bytes → decode end bytes ≡ Ok pdu
    → (encode pdu ≡ cleared end bytes) × (reader pdu ≡ end)

-- Reserved bits do not change what is read.
abbrev pub ReservedNotRead : Type 0
ReservedNotRead = (end : End) (bytes : Bytes) → decode end (cleared end bytes) ≡ decode end bytes

-- The same of PDCP's data PDU, whose reserved bits are the three after D/C.
abbrev pub PdcpRoundTrip : Type 0
PdcpRoundTrip =
    ((sn : ℕ) (packet : Bytes) → sn < 4096 → 1 ≤ length packet → decode_pdcp (encode_pdcp sn packet) ≡ Ok (sn, packet))
    × ((sdu packet : Bytes) (sn : ℕ) → Octets sdu → decode_pdcp sdu ≡ Ok (sn, packet) → byte sdu 0 < 144 → encode_pdcp sn packet ≡ sdu)
    × ((b c r : ℕ) (packet : Bytes) → b < 16 → r < 8
    → decode_pdcp ((128 + 16 * r + b) ∷ c ∷ packet) ≡ decode_pdcp ((128 + b) ∷ c ∷ packet))

-- A draft that took entries and is then closed has written the status report of these entries, or is refused as its
-- writing would be.
abbrev pub DraftWrites : Type 0
DraftWrites =
    (ack_sn : ℕ) (es : List Entry) (buffer : Bytes) → Fits (status ack_sn es) → (fill es opened buffer).answer ≡ Ok tt
    → ((close ack_sn (fill es opened buffer).draft (fill es opened buffer).buffer).answer ≡ (write (status ack_sn es) buffer).0)
    × (is_ok (write (status ack_sn es) buffer).0 ≡ true
    → (close ack_sn (fill es opened buffer).draft (fill es opened buffer).buffer).buffer ≡ (write (status ack_sn es) buffer).1)
