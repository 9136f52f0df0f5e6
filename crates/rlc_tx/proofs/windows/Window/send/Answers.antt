use Rattle.std.proofs.Common.{ap, ◌∙◌}
use Rattle.protocol.specs.Sending.{sent_run}
use Rattle.rlc_tx.proofs.InWindow.{stands_at, changed_at}
use Rattle.rlc_tx.proofs.windows.Window.send.Goals as goal
use Rattle.rlc_tx.specs.Plans.{run_of}
use Rattle.wire.specs.Counts.{count_of}

pub returns : goal.returns
returns c =
    let run = c.args.run in
    let w = c.args.self.now in
    let place = c.place.result in
    changed_at w (count_of run.count) place c.place.ensures c.requires.held _ _
    (c.send.ensures ∙ ap (sent_run (run_of run)) (stands_at w (count_of run.count) place c.place.ensures c.requires.held _))
