use Rattle.std.proofs.Common.{◌≡◌, ◌*◌, length, take}
use Rattle.hex_digits.proofs.spell.Given as goal
use Rattle.hex_digits.specs.Digits.{text_of}

abbrev pub invariant-loop-i : goal.invariant-loop-i
invariant-loop-i l = (length l.digits ≡ 64) × (take (2 * l.i) l.digits ≡ text_of (take l.i l.bytes))
