use Rattle.std.proofs.Common.{true, sym, arith}
use Rattle.protocol.specs.Sending as near
use Rattle.rlc_tx.proofs.OfSlot.{slot_first_unsent, slot_unsent_to, run_is}
use Rattle.rlc_tx.proofs.slots.Slot.unsent_run.Goals as goal
use Rattle.rlc_tx.specs.Slots.{sdu_of}
use Rattle.wire.specs.Counts.{count_of}

pub returns : goal.returns
returns c =
    let s = c.args.self.now in
    run_is true near.is_unsent (sdu_of s) c.args.grant (count_of c.args.count) s.sent c.min.result (sym (slot_first_unsent s))
    (omega (arith, c.min.ensures, c.room.ensures, slot_unsent_to s))
