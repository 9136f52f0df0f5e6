-- The sixteen refusals by number and layer. Their grounds are the rules that name them.
use Rattle.std.specs.Prelude.{ℕ, Some, None, Err, Option, Result}
use Rattle.protocol.specs.declared.faults.Fault.{Fault}
use Rattle.protocol.specs.declared.faults.Layer.{Layer}
use Rattle.protocol.specs.declared.faults.Layer.TheVariants.{Rlc, Pdcp, Link}
use Rattle.protocol.specs.declared.faults.Refusal.{Refusal}
use Rattle.protocol.specs.declared.faults.Refusal.TheVariants.{LinkFailed, PacketLength, WindowFull, PacketLimit, GrantSize, ShortBuffer, PacketDue, WrongKind, Malformed, Offset, EndClash, InvalidEntry, NotPdcpData, CountRange, ShortCollect, Setting}

abbrev pub number : Refusal → ℕ
number LinkFailed = 1
number PacketLength = 2
number WindowFull = 3
number PacketLimit = 4
number GrantSize = 5
number ShortBuffer = 6
number PacketDue = 7
number WrongKind = 8
number Malformed = 9
number Offset = 10
number EndClash = 11
number InvalidEntry = 12
number NotPdcpData = 13
number CountRange = 14
number ShortCollect = 15
number Setting = 16

abbrev pub layer : Refusal → Layer
layer LinkFailed = Rlc
layer PacketLength = Pdcp
layer WindowFull = Rlc
layer PacketLimit = Pdcp
layer GrantSize = Rlc
layer ShortBuffer = Rlc
layer PacketDue = Rlc
layer WrongKind = Rlc
layer Malformed = Rlc
layer Offset = Rlc
layer EndClash = Rlc
layer InvalidEntry = Rlc
layer NotPdcpData = Pdcp
layer CountRange = Pdcp
layer ShortCollect = Pdcp
layer Setting = Link

-- refused on this ground, at this place
abbrev pub at : Refusal → ℕ → Fault
at refusal place = record { refusal = refusal; place = place }

-- the first fault found decides, and otherwise the answer
abbrev pub unless : {A : Type 0} → Option Fault → Result A Fault → Result A Fault
unless (Some fault) answer = Err fault
unless None answer = answer
