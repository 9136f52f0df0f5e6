use Rattle.std.proofs.Common.{◌∙◌}
use Rattle.rlc_rx.proofs.Pieces.{count_completes}
use Rattle.rlc_rx.proofs.slots.Slot.is_complete.Goals as goal

pub returns : goal.returns
returns c = c.eq.ensures ∙ count_completes c.args.self.now
