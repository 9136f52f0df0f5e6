-- PDUs as their fields, and the bytes that carry them.
use Rattle.std.specs.Prelude.{ℕ, ◌+◌, ◌*◌, ◌/◌, ◌%◌, Bool, true, false, List, [], ◌∷◌, ◌++◌}
use Rattle.protocol.specs.Bytes.{Bytes, word_bytes, flag}

-- Which bytes of its SDU an AMD PDU carries: all, those from the first on, or those from byte SO on,
-- up to the last one or not.
pub data Segment : Type 0 where
  whole first : Segment
  middle last : (so : ℕ) → Segment

-- an AMD PDU
pub record Amd : Type 0 where
  pub poll : Bool
  pub sn : ℕ
  pub segment : Segment
  pub payload : Bytes

-- Which bytes of an SDU an entry names as missing: all, or those from SOstart to SOend, both included.
-- SOend FFFF is the SDU's last byte.
pub data Missing : Type 0 where
  every : Missing
  span : (so_start so_end : ℕ) → Missing

-- an entry of a status report
pub record Entry : Type 0 where
  pub nack_sn : ℕ
  pub missing : Missing

pub data Pdu : Type 0 where
  amd : Amd → Pdu
  status : (ack_sn : ℕ) (entries : List Entry) → Pdu

-- the SI field
abbrev pub si : Segment → ℕ
si whole = 0
si first = 1
si (last so) = 2
si (middle so) = 3

-- the SO field, if any
abbrev pub so_field : Segment → Bytes
so_field whole = []
so_field first = []
so_field (last so) = word_bytes so
so_field (middle so) = word_bytes so

-- D/C 1 bit (1), P 1, SI 2, SN 12, SO 16 if any, the data
abbrev pub encode_amd : Amd → Bytes
encode_amd a =
    (128 + 64 * flag a.poll + 16 * si a.segment + a.sn / 256) ∷ (a.sn % 256) ∷ (so_field a.segment ++ a.payload)

-- the E2 field
abbrev pub e2 : Missing → ℕ
e2 every = 0
e2 (span so_start so_end) = 1

-- the SOstart and SOend fields, if any
abbrev pub span_fields : Missing → Bytes
span_fields every = []
span_fields (span so_start so_end) = word_bytes so_start ++ word_bytes so_end

-- NACK_SN 12, E1 (whether another entry follows), E2, E3 (0), R 1 (0), SOstart 16 and SOend 16 if any
abbrev pub encode_entry : Bool → Entry → Bytes
encode_entry e1 e =
    (e.nack_sn / 16) ∷ (16 * (e.nack_sn % 16) + 8 * flag e1 + 4 * e2 e.missing) ∷ span_fields e.missing

-- the E1 field before these entries
abbrev pub more : List Entry → Bool
more [] = false
more (e ∷ es) = true

abbrev pub encode_entries : List Entry → Bytes
encode_entries [] = []
encode_entries (e ∷ es) = encode_entry (more es) e ++ encode_entries es

-- D/C 1 bit (0), CPT 3 (0), ACK_SN 12, E1 1, R 7 (0), the entries
abbrev pub encode_status : ℕ → List Entry → Bytes
encode_status ack_sn es = ack_sn / 256 ∷ ack_sn % 256 ∷ (128 * flag (more es)) ∷ encode_entries es

abbrev pub encode : Pdu → Bytes
encode (amd a) = encode_amd a
encode (status ack_sn es) = encode_status ack_sn es

-- PDCP's data PDU, which is RLC's SDU: D/C 1 bit (1), R 3 (0), SN 12, the packet
abbrev pub encode_pdcp : ℕ → Bytes → Bytes
encode_pdcp sn packet = (128 + sn / 256) ∷ (sn % 256) ∷ packet
