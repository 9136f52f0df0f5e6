use Rattle.std.proofs.Common.{ap, ◌∙◌}
use Rattle.rlc_rx.proofs.WindowSteps.{takes_kept}
use Rattle.rlc_rx.proofs.windows.Window.keep.Goals as goal
use Rattle.rlc_rx.specs.DataPdus.{data_pdu_of}
use Rattle.rlc_rx.specs.Slots.{partials, polls}
use Rattle.wire.specs.Counts.{count_of}

pub returns : goal.returns
returns c =
    let s = c.see.ensures in
    takes_kept c.args.self.now (count_of c.args.x) c.requires.inside _ _ _ c.value-seen.ensures c.value-count.ensures c.max.ensures (partials c.clear.new.slots) c.clear.ensures.sdus
    (polls c.clear.new.slots) c.clear.ensures.flags c.see.new.self s.next s.highest s.status s.trigger (data_pdu_of c.args.pdu.now)
    (ap partials s.slots ∙ c.receive.ensures.sdus) (ap polls s.slots ∙ c.receive.ensures.flags)
