use Rattle.std.proofs.Common.{ap, ◌∙◌}
use Rattle.protocol.specs.Sending.{acknowledge}
use Rattle.rlc_tx.proofs.InWindow.{stands_at, changed_at}
use Rattle.rlc_tx.proofs.windows.Window.acknowledge.Goals as goal
use Rattle.wire.specs.Counts.{count_of}

pub returns : goal.returns
returns c =
    let w = c.args.self.now in
    let place = c.place.result in
    changed_at w (count_of c.args.count) place c.place.ensures c.requires _ _
    (c.acknowledge.ensures ∙ ap acknowledge (stands_at w (count_of c.args.count) place c.place.ensures c.requires _))
