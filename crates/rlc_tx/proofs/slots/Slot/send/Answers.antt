use Rattle.std.proofs.Common.{◌+◌, ◌-◌, true, false, take, subst, arith}
use Rattle.rlc_tx.proofs.OfSlot.{facts, bounded_more}
use Rattle.rlc_tx.proofs.Ranges.{count_within}
use Rattle.rlc_tx.proofs.Sends.{sent_marks, marked_new, marked_again}
use Rattle.rlc_tx.proofs.slots.Slot.send.Goals as goal
use Rattle.rlc_tx.specs.Marks.{is_pending}
use Rattle.rlc_tx.specs.Plans.{Front, served_as}
use Rattle.rlc_tx.specs.Slots.{sdu_of}

pub invariant_of-self : goal.invariant_of-self
invariant_of-self c =
    let s = c.args.self.now in
    let run = c.args.run in
    let front = subst (λ new. Front (served_as new) (sdu_of s) run.from run.size) c.if-new.true c.requires.front in
    facts s.stored (marked_new s run.from run.size front c.replace.new.marks c.replace.ensures.after) s.few

pub overflow_sub-self : goal.overflow_sub-self
overflow_sub-self c =
    let s = c.args.self.now in
    let from = c.args.run.from in
    omega (arith, c.replace-else-new.ensures.changed, count_within is_pending s.marks from (from + c.args.run.size - from), s.counted)

pub invariant_of-self-else-new : goal.invariant_of-self-else-new
invariant_of-self-else-new c =
    let s = c.args.self.now in
    let run = c.args.run in
    let front = subst (λ new. Front (served_as new) (sdu_of s) run.from run.size) c.if-new.false c.requires.front in
    facts s.stored
    (marked_again s run.from run.size front c.replace-else-new.new.marks c.replace-else-new.ensures.after c.replace-else-new.result c.replace-else-new.ensures.changed)
    (bounded_more s.acknowledged 0 (s.pending - c.replace-else-new.result) s.retx_count (omega arith) c.requires.few)

pub returns-then-new : goal.returns-then-new
returns-then-new c =
    let s = c.args.self.now in
    let run = c.args.run in
    let front = subst (λ new. Front (served_as new) (sdu_of s) run.from run.size) c.if-new.true c.requires.front in
    λ i. record { bytes = take s.size s.bytes; mark = λ k. sent_marks s true run.from run.size front c.replace.new.marks c.replace.ensures.after k i; acknowledged = s.acknowledged; retx_count = s.retx_count }

pub returns-else-new : goal.returns-else-new
returns-else-new c =
    let s = c.args.self.now in
    let run = c.args.run in
    let front = subst (λ new. Front (served_as new) (sdu_of s) run.from run.size) c.if-new.false c.requires.front in
    λ i. record { bytes = take s.size s.bytes; mark = λ k. sent_marks s false run.from run.size front c.replace-else-new.new.marks c.replace-else-new.ensures.after k i; acknowledged = s.acknowledged; retx_count = s.retx_count }
