-- What writing a PDU into a lent buffer answers, and what it leaves there.
use Rattle.std.specs.Prelude.{ℕ, ◌+◌, true, cond, List, [], ◌∷◌, length, Some, None, Ok, Err, Option, Result, ◌==◌, nat_lt}
use Rattle.protocol.specs.Bytes.{Bytes, put}
use Rattle.protocol.specs.Pdus.{Segment, Entry, Pdu, amd, status, so_field, encode, encode_entry}
use Rattle.protocol.specs.Reading.{offset_fault, valid}
use Rattle.protocol.specs.Refusals.{at}
use Rattle.protocol.specs.declared.faults.End.{End}
use Rattle.protocol.specs.declared.faults.End.TheVariants.{Near, Far}
use Rattle.protocol.specs.declared.faults.Fault.{Fault}
use Rattle.protocol.specs.declared.faults.Refusal.TheVariants.{ShortBuffer, Malformed, InvalidEntry}

-- the end that reads a PDU
abbrev pub reader : Pdu → End
reader (amd a) = Far
reader (status ack_sn es) = Near

-- n bytes of data: an AMD PDU carries some, at an offset that its SDU has
abbrev pub data_fault : Segment → ℕ → Option Fault
data_fault segment n =
    cond (n == 0) (Some (at Malformed (2 + length (so_field segment)))) (offset_fault segment n)

-- the first invalid entry, the first of all standing at `place`
abbrev pub entries_fault : ℕ → ℕ → List Entry → Option Fault
entries_fault ack_sn place [] = None
entries_fault ack_sn place (e ∷ es) =
    cond (valid ack_sn e) (entries_fault ack_sn (place + length (encode_entry true e)) es) (Some (at InvalidEntry place))

-- why a PDU is neither written nor read
abbrev pub pdu_fault : Pdu → Option Fault
pdu_fault (amd a) = data_fault a.segment (length a.payload)
pdu_fault (status ack_sn es) = entries_fault ack_sn 3 es

-- Refused with nothing written, or all written: then the answer is the length.
abbrev pub written : Option Fault → Bytes → Bytes → Result ℕ Fault × Bytes
written (Some fault) bytes buffer = (Err fault, buffer)
written None bytes buffer = (Ok (length bytes), put bytes buffer)

abbrev pub write : Pdu → Bytes → Result ℕ Fault × Bytes
write pdu buffer =
    cond (nat_lt (length buffer) (length (encode pdu))) (Err (at ShortBuffer 0), buffer)
    (written (pdu_fault pdu) (encode pdu) buffer)
