-- A status report as it is built: a draft is opened, takes entries, and is closed with its ACK_SN. The bytes are in
-- a buffer that is lent for each step.
use Rattle.std.specs.Prelude.{ℕ, ◌+◌, ◌-◌, ◌*◌, ◌/◌, ◌%◌, true, cond, List, [], ◌∷◌, length, take, drop, Ok, Err, Result, nat_lt, slice_set}
use Rattle.protocol.specs.Bytes.{Bytes, byte, flag, put_at}
use Rattle.protocol.specs.Pdus.{Entry, Pdu, encode_entry}
use Rattle.protocol.specs.Reading.{in_order, decode}
use Rattle.protocol.specs.Refusals.{at}
use Rattle.protocol.specs.declared.faults.End.TheVariants.{Near}
use Rattle.protocol.specs.declared.faults.Fault.{Fault}
use Rattle.protocol.specs.declared.faults.Refusal.TheVariants.{ShortBuffer, InvalidEntry}

-- the bytes that the PDU has so far, and where its last entry begins, once there is one
pub record Draft : Type 0 where
  pub size : ℕ
  pub last : ℕ

-- what a step answers, and leaves of the draft and of the buffer
pub record Step (A : Type 0) : Type 0 where
  pub answer : Result A Fault
  pub draft : Draft
  pub buffer : Bytes

-- the header's place is kept free
abbrev pub opened : Draft
opened = record { size = 3; last = 0 }

-- An entry is written with E1 set, as if another would follow.
abbrev pub add : Entry → Draft → Bytes → Step (Unit {0})
add e d buffer =
    cond (nat_lt (length buffer) (d.size + length (encode_entry true e)))
    (record { answer = Err (at ShortBuffer 0); draft = d; buffer = buffer })
    (cond (in_order e.missing)
    (record {
      answer = Ok tt;
      draft = record { size = d.size + length (encode_entry true e); last = d.size };
      buffer = put_at d.size (encode_entry true e) buffer;
    })
    (record { answer = Err (at InvalidEntry d.size); draft = d; buffer = buffer }))

-- the buffer with the header written and E1 of the last entry cleared
abbrev pub sealed : ℕ → Draft → Bytes → Bytes
sealed ack_sn d buffer =
    ack_sn / 256 ∷ ack_sn % 256 ∷ (128 * flag (nat_lt 3 d.size))
    ∷ drop 3 (cond (nat_lt 3 d.size) (slice_set buffer (d.last + 1) (byte buffer (d.last + 1) - 8 * (byte buffer (d.last + 1) / 8 % 2))) buffer)

-- a draft is closed if the near end reads the sealed PDU
abbrev pub closed_if : Result Pdu Fault → ℕ → Draft → Bytes → Step ℕ
closed_if (Ok pdu) ack_sn d buffer = record { answer = Ok d.size; draft = d; buffer = sealed ack_sn d buffer }
closed_if (Err fault) ack_sn d buffer = record { answer = Err fault; draft = d; buffer = buffer }

abbrev pub close : ℕ → Draft → Bytes → Step ℕ
close ack_sn d buffer =
    cond (nat_lt (length buffer) d.size) (record { answer = Err (at ShortBuffer 0); draft = d; buffer = buffer })
    (closed_if (decode Near (take d.size (sealed ack_sn d buffer))) ack_sn d buffer)

-- goes on after a step that was not refused
abbrev pub then : Result (Unit {0}) Fault → Step (Unit {0}) → Step (Unit {0}) → Step (Unit {0})
then (Ok done) step next = next
then (Err fault) step next = step

-- a draft that takes entries in their order, up to the first that is refused
abbrev pub fill : List Entry → Draft → Bytes → Step (Unit {0})
fill [] d buffer = record { answer = Ok tt; draft = d; buffer = buffer }
fill (e ∷ es) d buffer =
    then (add e d buffer).answer (add e d buffer) (fill es (add e d buffer).draft (add e d buffer).buffer)
