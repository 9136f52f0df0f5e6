use Rattle.rlc_rx.proofs.Gaps.{empty_is}
use Rattle.rlc_rx.proofs.slots.Slot.is_empty.Goals as goal

pub returns : goal.returns
returns c = empty_is c.args.self.now
