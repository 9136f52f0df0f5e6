use Rattle.std.proofs.Common.{ltb, sym, ap, ◌∙◌}
use Rattle.rlc_tx.proofs.OfSlot.{slot_left}
use Rattle.rlc_tx.proofs.slots.Slot.has_left.Goals as goal

pub returns : goal.returns
returns c = ap (ltb 0) c.left.ensures ∙ sym (slot_left c.args.self.now)
