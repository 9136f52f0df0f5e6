-- What drafts of status reports stand for, and what their steps answer.
use Rattle.std.specs.Prelude.{ℕ, Ok, Err, Result}
use Rattle.protocol.specs.Bytes.{Bytes}
use Rattle.protocol.specs.Drafts as protocol
use Rattle.protocol.specs.declared.faults.Fault.{Fault}
use Rattle.wire.specs.declared.drafts.NotClosed.{NotClosed}
use Rattle.wire.specs.declared.drafts.Closed.{Closed}
use Rattle.wire.specs.declared.drafts.Draft.{Draft}

abbrev pub draft_of : Draft → protocol.Draft
draft_of d = record { size = d.size; last = d.last }

abbrev pub added : Result (Unit {0}) Fault → protocol.Draft → Bytes → protocol.Step (Unit {0})
added answer draft buffer = record { answer = answer; draft = draft; buffer = buffer }

-- closing `draft`: where it is refused, the draft comes back
abbrev pub closing : protocol.Draft → Result Closed NotClosed → Bytes → protocol.Step ℕ
closing draft (Ok closed) buffer = record { answer = Ok closed.size; draft = draft; buffer = buffer }
closing draft (Err back) buffer = record { answer = Err back.fault; draft = draft_of back.draft; buffer = buffer }
