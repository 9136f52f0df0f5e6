use Rattle.std.proofs.Common.{◌+◌, ◌-◌, drop, false, arith}
use Rattle.protocol.specs.Sending as near
use Rattle.rlc_tx.proofs.Marked.{leading_take}
use Rattle.rlc_tx.proofs.OfSlot.{slot_pending_to, run_is}
use Rattle.rlc_tx.proofs.slots.Slot.pending_run.Goals as goal
use Rattle.rlc_tx.specs.Marks.{is_pending}
use Rattle.rlc_tx.specs.Slots.{sdu_of}
use Rattle.wire.specs.Counts.{count_of}

pub returns : goal.returns
returns c =
    let s = c.args.self.now in
    let from = c.first_pending-from.result in
    let most = c.min-most.result in
    run_is false near.is_pending (sdu_of s) c.args.grant (count_of c.args.count) from c.count_front.result c.first_pending-from.ensures.value
    (omega (
      arith,
      c.count_front.ensures,
      leading_take is_pending (from + most - from) (drop from s.marks),
      c.min-most.ensures,
      c.room.ensures,
      c.first_pending-from.ensures.within,
      slot_pending_to s from (omega (arith, c.first_pending-from.ensures.within)),
    ))
