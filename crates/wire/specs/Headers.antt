-- A status report's header and last entry, as closing writes them.
use Rattle.std.specs.Prelude.{ℕ, ◌+◌, ◌-◌, ◌*◌, ◌/◌, ◌%◌, Bool, ◌∷◌, drop, slice_set}
use Rattle.protocol.specs.Bytes.{Bytes, byte, flag}

-- a buffer with a status report's header written
abbrev pub headed : ℕ → Bool → Bytes → Bytes
headed ack_sn more buffer = ack_sn / 256 ∷ ack_sn % 256 ∷ (128 * flag more) ∷ drop 3 buffer

-- a buffer with E1 cleared in the entry at `place`
abbrev pub ended : ℕ → Bytes → Bytes
ended place buffer = slice_set buffer (place + 1) (byte buffer (place + 1) - 8 * (byte buffer (place + 1) / 8 % 2))
