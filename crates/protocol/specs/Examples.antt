-- Worked examples: what the definitions say of given bytes and numbers.
use Rattle.std.specs.Prelude.{◌≡◌, true, false, [], ◌∷◌, Some, Ok, Err}
use Rattle.protocol.specs.Bytes.{Bytes}
use Rattle.protocol.specs.CutInThree as cut_in_three
use Rattle.protocol.specs.GapsReported as gaps_reported
use Rattle.protocol.specs.LossyPool as lossy_pool
use Rattle.protocol.specs.PacketsPassedOver as packets_passed_over
use Rattle.protocol.specs.PollsDelayed as polls_delayed
use Rattle.protocol.specs.PollsRepeated as polls_repeated
use Rattle.protocol.specs.ReorderingEnds as reordering_ends
use Rattle.protocol.specs.Numbers.{sn_modulus, count_from, stale, pdcp_count, passed}
use Rattle.protocol.specs.Pdus.{Pdu, first, middle, last, every, span, amd, status, encode}
use Rattle.protocol.specs.Reading.{decode}
use Rattle.protocol.specs.Refusals.{at}
use Rattle.protocol.specs.declared.faults.End.TheVariants.{Near, Far}
use Rattle.protocol.specs.declared.faults.Refusal.TheVariants.{Offset}

-- these bytes are read as this PDU, and written for it
abbrev pub Carries : Bytes → Pdu → Type 0
Carries bytes (amd a) = (decode Far bytes ≡ Ok (amd a)) × (encode (amd a) ≡ bytes)
Carries bytes (status ack_sn es) = (decode Near bytes ≡ Ok (status ack_sn es)) × (encode (status ack_sn es) ≡ bytes)

-- One SDU of 5 bytes, cut in three.
abbrev pub FirstSegment : Type 0
FirstSegment =
    Carries (0x90 ∷ 0x00 ∷ 0x80 ∷ 0x00 ∷ 0x41 ∷ [])
    (amd (record { poll = false; sn = 0; segment = first; payload = 0x80 ∷ 0x00 ∷ 0x41 ∷ [] }))

abbrev pub MiddleSegment : Type 0
MiddleSegment =
    Carries (0xB0 ∷ 0x00 ∷ 0x00 ∷ 0x03 ∷ 0x42 ∷ [])
    (amd (record { poll = false; sn = 0; segment = middle 3; payload = 0x42 ∷ [] }))

abbrev pub LastSegment : Type 0
LastSegment =
    Carries (0xE0 ∷ 0x00 ∷ 0x00 ∷ 0x04 ∷ 0x43 ∷ [])
    (amd (record { poll = true; sn = 0; segment = last 4; payload = 0x43 ∷ [] }))

abbrev pub WholeNack : Type 0
WholeNack =
    Carries (0x00 ∷ 0x05 ∷ 0x80 ∷ 0x00 ∷ 0x30 ∷ []) (status 5 (record { nack_sn = 3; missing = every } ∷ []))

abbrev pub NackToTheEnd : Type 0
NackToTheEnd =
    Carries (0x00 ∷ 0x02 ∷ 0x80 ∷ 0x00 ∷ 0x14 ∷ 0x00 ∷ 0x03 ∷ 0xFF ∷ 0xFF ∷ [])
    (status 2 (record { nack_sn = 1; missing = span 3 0xFFFF } ∷ []))

-- TX_Next_Ack 4094 and TX_Next 4098: ACK_SN 1 is count 4097, and 3 is stale.
abbrev pub AckPastTheModulus : Type 0
AckPastTheModulus =
    (count_from sn_modulus 4094 1 ≡ 4097) × (stale 4098 (count_from sn_modulus 4094 1) ≡ false)
    × (stale 4098 (count_from sn_modulus 4094 3) ≡ true)

-- RX_DELIV 4095: number 0 is COUNT 4096. RX_DELIV 4096: number 4095 is COUNT 4095, which is discarded.
abbrev pub CountPastTheModulus : Type 0
CountPastTheModulus =
    (pdcp_count sn_modulus 2048 4095 0 ≡ Some 4096) × (pdcp_count sn_modulus 2048 4096 4095 ≡ Some 4095)
    × (passed 4096 4095 ≡ true)

-- SO 501 with one byte is read, and 502 is refused.
abbrev pub LastByte : Type 0
LastByte =
    Carries (0xA0 ∷ 0x00 ∷ 0x01 ∷ 0xF5 ∷ 0x43 ∷ [])
    (amd (record { poll = false; sn = 0; segment = last 501; payload = 0x43 ∷ [] }))
    × (decode Far (0xA0 ∷ 0x00 ∷ 0x01 ∷ 0xF6 ∷ 0x43 ∷ []) ≡ Err (at Offset 2))

abbrev pub WorkedExamples : Type 0
WorkedExamples =
    FirstSegment × MiddleSegment × LastSegment × WholeNack × NackToTheEnd × AckPastTheModulus
    × CountPastTheModulus × LastByte

-- Whole series of calls: what each answers, puts and collects, and every variable at the end.
abbrev pub WorkedSeries : Type 0
WorkedSeries =
    cut_in_three.Plays × lossy_pool.Plays × polls_repeated.Plays × reordering_ends.Plays × polls_delayed.Plays
    × packets_passed_over.Plays × gaps_reported.Plays
