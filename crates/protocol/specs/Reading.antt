-- What an end reads from any bytes: a PDU, or the first fault.
use Rattle.std.specs.Prelude.{ℕ, zero, suc, ◌+◌, ◌-◌, ◌*◌, ◌/◌, ◌%◌, Bool, true, false, cond, not, ◌&&◌, ◌||◌, List, [], ◌∷◌, ◌++◌, length, take, drop, Some, None, Ok, Err, Option, Result, ◌==◌, nat_le, nat_lt}
use Rattle.protocol.specs.Bytes.{Bytes, byte, word, bit, flag}
use Rattle.protocol.specs.Numbers.{sn_modulus, ahead}
use Rattle.protocol.specs.Pdus.{Segment, whole, first, middle, last, Amd, Missing, every, span, Entry, Pdu, amd, status}
use Rattle.protocol.specs.Refusals.{at, unless}
use Rattle.protocol.specs.declared.faults.End.{End}
use Rattle.protocol.specs.declared.faults.End.TheVariants.{Near, Far}
use Rattle.protocol.specs.declared.faults.Fault.{Fault}
use Rattle.protocol.specs.declared.faults.Refusal.TheVariants.{WrongKind, Malformed, Offset, InvalidEntry, NotPdcpData}

-- the 12-bit number at the end of the first two bytes
abbrev pub sn_field : Bytes → ℕ
sn_field bytes = 256 * (byte bytes 0 % 16) + byte bytes 1

-- an AMD PDU ------------------------------------------------------------------------------------------------------

-- the longest SDU: a packet of 500 bytes and PDCP's header
abbrev pub max_sdu : ℕ
max_sdu = 502

abbrev pub si_field : Bytes → ℕ
si_field bytes = byte bytes 0 / 16 % 4

-- the header's length by SI: SO is there for a middle and a last segment
abbrev pub header_length : ℕ → ℕ
header_length si = cond (nat_lt si 2) 2 4

abbrev pub segment_of : ℕ → ℕ → Segment
segment_of si so = cond (si == 0) whole (cond (si == 1) first (cond (si == 2) (last so) (middle so)))

abbrev pub amd_of : Bytes → Amd
amd_of bytes =
    record {
      poll = bit 6 (byte bytes 0);
      sn = sn_field bytes;
      segment = segment_of (si_field bytes) (word bytes 2);
      payload = drop (header_length (si_field bytes)) bytes;
    }

-- A segment with an SO does not begin at byte 0, and none passes the longest SDU.
abbrev pub offset_fault : Segment → ℕ → Option Fault
offset_fault whole n = cond (nat_lt max_sdu n) (Some (at Offset 0)) None
offset_fault first n = cond (nat_lt max_sdu n) (Some (at Offset 0)) None
offset_fault (middle so) n = cond (so == 0 || nat_lt max_sdu (so + n)) (Some (at Offset 2)) None
offset_fault (last so) n = cond (so == 0 || nat_lt max_sdu (so + n)) (Some (at Offset 2)) None

abbrev pub read_amd : Bytes → Result Pdu Fault
read_amd bytes =
    cond (nat_le (length bytes) (header_length (si_field bytes))) (Err (at Malformed (length bytes)))
    (unless (offset_fault (amd_of bytes).segment (length (amd_of bytes).payload)) (Ok (amd (amd_of bytes))))

-- a STATUS PDU ----------------------------------------------------------------------------------------------------

-- the length of the entry at the start of these bytes: with E2, SOstart and SOend follow
abbrev pub entry_length : Bytes → ℕ
entry_length bytes = cond (bit 2 (byte bytes 1)) 6 2

-- whether another entry follows the one at the start of these bytes
abbrev pub e1_of : Bytes → Bool
e1_of bytes = bit 3 (byte bytes 1)

abbrev pub e3_of : Bytes → Bool
e3_of bytes = bit 1 (byte bytes 1)

abbrev pub entry_of : Bytes → Entry
entry_of bytes =
    record {
      nack_sn = 16 * byte bytes 0 + byte bytes 1 / 16;
      missing = cond (bit 2 (byte bytes 1)) (span (word bytes 2) (word bytes 4)) every;
    }

-- What a walk along the entries makes of each, given what it made of those that follow, of one that is not whole,
-- and of the bytes after the last one. Places count from the start of the PDU.
pub record Visit (A : Type 0) : Type 0 where
  pub entry : ℕ → Bytes → A → A
  pub cut : ℕ → Bytes → A
  pub end : ℕ → Bytes → A

-- E1 says whether an entry begins here. Fuel that is not less than the bytes left does not run out.
abbrev pub walk : {A : Type 0} → Visit A → (fuel : ℕ) → (e1 : Bool) → ℕ → Bytes → A
walk visit fuel false place bytes = visit.end place bytes
walk visit zero true place bytes = visit.cut place bytes
walk visit (suc fuel) true place bytes =
    cond (nat_lt (length bytes) (entry_length bytes)) (visit.cut place bytes)
    (visit.entry place bytes (walk visit fuel (e1_of bytes) (place + entry_length bytes) (drop (entry_length bytes) bytes)))

abbrev pub along : {A : Type 0} → Visit A → Bool → ℕ → Bytes → A
along visit e1 place bytes = walk visit (length bytes) e1 place bytes

abbrev pub listing : Visit (List Entry)
listing =
    record { entry = λ place bytes es. entry_of bytes ∷ es; cut = λ place bytes. []; end = λ place bytes. [] }

-- the entries end where the PDU does
abbrev pub whole_entries : Visit (Option Fault)
whole_entries =
    record {
      entry = λ place bytes rest. rest;
      cut = λ place bytes. Some (at Malformed (place + length bytes));
      end = λ place bytes. cond (length bytes == 0) None (Some (at Malformed place));
    }

abbrev pub in_order : Missing → Bool
in_order every = true
in_order (span so_start so_end) = nat_le so_start so_end

-- NACK_SN is at most half the modulus behind ACK_SN, and the span is not empty
abbrev pub valid : ℕ → Entry → Bool
valid ack_sn e =
    (nat_le 1 (ahead sn_modulus e.nack_sn ack_sn) && nat_le (ahead sn_modulus e.nack_sn ack_sn) 2048) && in_order e.missing

-- the first entry that has E3 or is invalid
abbrev pub valid_entries : ℕ → Visit (Option Fault)
valid_entries ack_sn =
    record {
      entry = λ place bytes rest. cond (not (e3_of bytes) && valid ack_sn (entry_of bytes)) rest (Some (at InvalidEntry place));
      cut = λ place bytes. None;
      end = λ place bytes. None;
    }

abbrev pub e1_field : Bytes → Bool
e1_field bytes = bit 7 (byte bytes 2)

abbrev pub read_status : Bytes → Result Pdu Fault
read_status bytes =
    cond (nat_lt (length bytes) 3) (Err (at Malformed (length bytes)))
    (unless (along whole_entries (e1_field bytes) 3 (drop 3 bytes))
    (unless (along (valid_entries (sn_field bytes)) (e1_field bytes) 3 (drop 3 bytes))
    (Ok (status (sn_field bytes) (along listing (e1_field bytes) 3 (drop 3 bytes))))))

-- either, at the end that reads it ---------------------------------------------------------------------------------

-- The near end reads D/C 0 with CPT 0, the far end D/C 1.
abbrev pub own_kind : End → Bytes → Bool
own_kind Near bytes = nat_lt 0 (length bytes) && nat_lt (byte bytes 0) 16
own_kind Far bytes = nat_lt 0 (length bytes) && nat_le 128 (byte bytes 0)

abbrev pub read_kind : End → Bytes → Result Pdu Fault
read_kind Near bytes = read_status bytes
read_kind Far bytes = read_amd bytes

abbrev pub decode : End → Bytes → Result Pdu Fault
decode end bytes = cond (own_kind end bytes) (read_kind end bytes) (Err (at WrongKind 0))

-- PDCP's data PDU -------------------------------------------------------------------------------------------------

-- an SDU's number and packet
abbrev pub decode_pdcp : Bytes → Result (ℕ × Bytes) Fault
decode_pdcp sdu =
    cond (nat_lt (length sdu) 3 || nat_lt (byte sdu 0) 128) (Err (at NotPdcpData 0)) (Ok (sn_field sdu, drop 2 sdu))

-- reserved bits ---------------------------------------------------------------------------------------------------

-- the entry at the start of these bytes, with R 0
abbrev pub cleared_entry : Bytes → Bytes
cleared_entry bytes = byte bytes 0 ∷ (2 * (byte bytes 1 / 2)) ∷ take (entry_length bytes - 2) (drop 2 bytes)

abbrev pub clearing : Visit Bytes
clearing =
    record { entry = λ place bytes rest. cleared_entry bytes ++ rest; cut = λ place bytes. bytes; end = λ place bytes. bytes }

-- what an end reads, with each reserved bit 0
abbrev pub cleared : End → Bytes → Bytes
cleared Far bytes = bytes
cleared Near bytes =
    cond (nat_lt (length bytes) 3) bytes
    (byte bytes 0 ∷ byte bytes 1 ∷ (128 * flag (e1_field bytes)) ∷ along clearing (e1_field bytes) 3 (drop 3 bytes))
