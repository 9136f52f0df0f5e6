use Rattle.std.proofs.Common.{◌≡◌, ◌*◌, ◌≤◌, length, drop, vec_len}
use Rattle.hex_digits.specs.Digits.{Spelt}
use Rattle.hex_digits.proofs.decode.Given as goal

abbrev pub invariant-loop-pair : goal.invariant-loop-pair
invariant-loop-pair l =
    (l.pair-iterator.size ≡ 2) × (l.pair-iterator.rest.now ≡ drop (2 * vec_len l.bytes) l.digits)
    × (2 * vec_len l.bytes ≤ length l.digits) × Spelt l.digits l.bytes.items
