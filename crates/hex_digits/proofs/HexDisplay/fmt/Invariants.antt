use Rattle.std.proofs.Common.{◌≡◌, ℕ, List, ◌++◌}
use Rattle.std.specs.Fmt.{HasWritten, IsPlainFormatter}
use Rattle.hex_digits.proofs.HexDisplay.fmt.Given as goal
use Rattle.hex_digits.specs.Digits.{text_of}

-- What came before the rest was written.
abbrev pub invariant-loop-bytes : goal.invariant-loop-bytes
invariant-loop-bytes g l =
    (l.bytes-iterator.size ≡ 32) × (done : List ℕ) × (l.initial.self.0.now ≡ done ++ l.bytes-iterator.rest.now)
    × (IsPlainFormatter l.initial.f → HasWritten g.W.Write.write_str_gives l.initial.f (text_of done) l.f)
