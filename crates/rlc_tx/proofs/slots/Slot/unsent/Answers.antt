use Rattle.std.proofs.Common.{false, take, None, refl, ap, arith, rules}
use Rattle.protocol.specs.Sending as protocol
use Rattle.rlc_tx.proofs.Fresh.{fresh}
use Rattle.rlc_tx.proofs.slots.Slot.unsent.Goals as goal

pub invariant_of-result : goal.invariant_of-result
invariant_of-result c =
    record {
      stored = search rules;
      placed = refl;
      short = c.requires;
      within = omega arith;
      begun = λ i l. absurd (omega (arith, l));
      unbegun = λ i l. ap protocol.is_unsent (fresh 502 i);
      counted = refl;
      low_begun = omega arith;
      none_below = λ i l. absurd (omega (arith, l));
      few = refl;
    }

pub returns : goal.returns
returns c =
    λ i. record { bytes = take c.args.size c.args.bytes; mark = λ k. fresh 502 k i; acknowledged = false; retx_count = None }
