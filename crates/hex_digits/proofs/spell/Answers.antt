use Rattle.std.proofs.Common.{arith, rules}
use Rattle.hex_digits.proofs.Spelling.{spelt_on}
use Rattle.hex_digits.proofs.spell.Goals as goal

pub loop-i-preserved : goal.loop-i-preserved
loop-i-preserved c =
    let on = spelt_on c.loop-i.digits c.args.bytes.now c.loop-i.i (omega arith) (omega arith) c.loop-i.invariant.1 in
    (search rules, search (rules, on))
