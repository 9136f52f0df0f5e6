-- What spending a grant at the far end answers, and leaves of the buffer.
use Rattle.std.specs.Prelude.{◌≡◌, ℕ, length, Some, None, Ok, Err, Option, Result}
use Rattle.protocol.specs.Bytes.{Bytes, put}
use Rattle.protocol.specs.Drafts.{Draft, fill}
use Rattle.protocol.specs.Receiving.{Far, Report, spends}
use Rattle.protocol.specs.declared.faults.Fault.{Fault}
use Rattle.rlc_rx.specs.Views.{State}
use Rattle.wire.specs.Counts.{count_of}
use Rattle.wire.specs.declared.counts.Count.{Count}
use Rattle.wire.specs.declared.counts.Rlc.{Rlc}

-- A report's entries were added to a draft, up to the first that is refused; the answer is the count acknowledged up to.
abbrev pub Listed : Report → Draft → Bytes → Result (Count Rlc) Fault → Draft → Bytes → Type 0
Listed report draft buffer (Ok ack) draft' buffer' =
    (count_of ack ≡ report.ack) × (fill report.entries draft buffer ≡ record { answer = Ok tt; draft = draft'; buffer = buffer' })
Listed report draft buffer (Err fault) draft' buffer' = fill report.entries draft buffer ≡ record { answer = Err fault; draft = draft'; buffer = buffer' }

-- the answer, the buffer and the state that are left: none is sent, or a PDU stands at the buffer's start
abbrev pub spent : State → Bytes → Result (Option (Bytes × Far)) Fault → Result ℕ Fault × Bytes × State
spent state buffer (Err fault) = (Err fault, buffer, state)
spent state buffer (Ok None) = (Ok 0, buffer, state)
spent state buffer (Ok (Some (pdu, f))) = (Ok (length pdu), put pdu buffer, (state.0, f))

-- ... of a grant of this size
abbrev pub spending : ℕ → Bytes → State → Result ℕ Fault × Bytes × State
spending size buffer state = spent state buffer (spends state.0 size (length buffer) state.1)
