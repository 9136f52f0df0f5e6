use Rattle.std.proofs.Common.{◌-◌, true, take, refl, arith}
use Rattle.rlc_tx.proofs.Changes.{sent_again}
use Rattle.rlc_tx.proofs.OfSlot.{marked, facts}
use Rattle.rlc_tx.proofs.Ranges.{count_within}
use Rattle.rlc_tx.proofs.Sends.{settled_marks}
use Rattle.rlc_tx.proofs.slots.Slot.acknowledge.Goals as goal
use Rattle.rlc_tx.specs.Marks.{is_pending}

pub overflow_sub-self : goal.overflow_sub-self
overflow_sub-self c =
    let s = c.args.self.now in
    omega (arith, c.replace.ensures.changed, count_within is_pending s.marks s.low (s.sent - s.low), s.counted)

pub invariant_of-self : goal.invariant_of-self
invariant_of-self c =
    let s = c.args.self.now in
    facts s.stored
    (sent_again s.marks c.replace.new.marks s.size s.sent s.pending s.low s.low s.sent (marked s) s.low_begun (omega arith) s.none_below c.replace.ensures.after
    c.replace.result c.replace.ensures.changed s.low s.low_begun)
    (refl {a = true})

pub returns-then-self-gt0 : goal.returns-then-self-gt0
returns-then-self-gt0 c =
    let s = c.args.self.now in
    λ i. record { bytes = take s.size s.bytes; mark = λ k. settled_marks s c.replace.new.marks c.replace.ensures.after k i; acknowledged = true; retx_count = s.retx_count }
