-- Which Puts a fade lets through to the air below.
use Rattle.std.specs.Prelude.{ℕ, ◌+◌, ◌%◌, Bool, cond, not, ◌&&◌}
use Rattle.protocol.specs.Airs.{carries}
use Rattle.protocol.specs.Bytes.{Bytes, bit}

-- the Put of this number goes through to the air below, and otherwise becomes a Skip there
abbrev pub passes : ℕ → ℕ → Bytes → Bool
passes mask number pdu = carries pdu && not (bit number mask)

-- the number of the Put that follows: a PDU that no air carries is not counted
abbrev pub number_after : Bytes → ℕ → ℕ
number_after pdu number = cond (carries pdu) ((number + 1) % 64) number
