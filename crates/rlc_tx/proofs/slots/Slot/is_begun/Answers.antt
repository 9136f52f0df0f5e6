use Rattle.std.proofs.Common.{sym}
use Rattle.rlc_tx.proofs.OfSlot.{slot_begun}
use Rattle.rlc_tx.proofs.slots.Slot.is_begun.Goals as goal

pub returns : goal.returns
returns c = sym (slot_begun c.args.self.now)
