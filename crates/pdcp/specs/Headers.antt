-- What the reader of PDCP's header answers.
use Rattle.std.specs.Prelude.{ℕ, Ok, Err, Result}
use Rattle.pdcp.specs.declared.headers.DataPdu.{DataPdu}
use Rattle.protocol.specs.Bytes.{Bytes}
use Rattle.protocol.specs.declared.faults.Fault.{Fault}
use Rattle.wire.specs.Counts.{sn_of}
use Rattle.wire.specs.Views.{Begins}

abbrev pub read_of : Result DataPdu Fault → Result (ℕ × Bytes) Fault
read_of (Ok pdu) = Ok (sn_of pdu.sn, pdu.packet.bytes.now)
read_of (Err fault) = Err fault

-- the packet stands behind the header
abbrev pub Placed : Bytes → Result DataPdu Fault → Type 0
Placed sdu (Ok pdu) = Begins sdu 2 pdu.packet
Placed sdu (Err fault) = Unit {0}
