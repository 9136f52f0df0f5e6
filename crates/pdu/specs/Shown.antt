-- What this program's types stand for.
use Rattle.std.specs.Prelude.{◌≡◌, map, Ok, Err, vec_items, Result}
use Rattle.protocol.specs.Pdus.{Pdu, amd, status}
use Rattle.protocol.specs.declared.faults.Fault.{Fault}
use Rattle.pdu.specs.declared.contents.Content.{Content}
use Rattle.pdu.specs.declared.contents.Content.TheVariants.{Amd, Status}
use Rattle.pdu.specs.declared.contents.Failure.{Failure}
use Rattle.pdu.specs.declared.contents.Failure.TheVariants.{Refused, NoMemory}
use Rattle.wire.specs.Counts.{sn_of}
use Rattle.wire.specs.Views.{entry_of, amd_of}

abbrev pub content_of : Content → Pdu
content_of (Amd header part) = amd (amd_of header part.bytes.now)
content_of (Status ack_sn entries) = status (sn_of ack_sn) (map entry_of (vec_items entries))

-- what was read is the PDU or the refusal, unless memory fails
abbrev pub Reads : Result Pdu Fault → Result Content Failure → Type 0
Reads read (Ok content) = read ≡ Ok (content_of content)
Reads read (Err (Refused fault)) = read ≡ Err fault
Reads read (Err NoMemory) = Unit {0}
