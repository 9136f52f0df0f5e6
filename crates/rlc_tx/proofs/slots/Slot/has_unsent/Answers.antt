use Rattle.std.proofs.Common.{sym}
use Rattle.rlc_tx.proofs.OfSlot.{slot_unsent}
use Rattle.rlc_tx.proofs.slots.Slot.has_unsent.Goals as goal

pub returns : goal.returns
returns c = sym (slot_unsent c.args.self.now)
