use Rattle.std.proofs.Common.{sym}
use Rattle.rlc_tx.proofs.OfSlot.{slot_pending}
use Rattle.rlc_tx.proofs.slots.Slot.has_pending.Goals as goal

pub returns : goal.returns
returns c = sym (slot_pending c.args.self.now)
