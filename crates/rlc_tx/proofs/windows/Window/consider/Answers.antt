use Rattle.std.proofs.Common.{ap, ◌∙◌}
use Rattle.protocol.specs.Sending.{names_byte}
use Rattle.rlc_tx.proofs.InWindow.{stands_at, changed_at}
use Rattle.rlc_tx.proofs.windows.Window.consider.Goals as goal
use Rattle.rlc_tx.specs.Considered.{considered_next}
use Rattle.wire.specs.Counts.{count_of}
use Rattle.wire.specs.Views.{missing_of}

pub returns-clause-after : goal.returns-clause-after
returns-clause-after c =
    let w = c.args.self.now in
    let place = c.place.result in
    let names = names_byte (missing_of c.args.missing) in
    changed_at w (count_of c.args.count) place c.place.ensures c.requires.held _ _
    (c.consider.ensures.after ∙ ap (considered_next c.args.counted names) (stands_at w (count_of c.args.count) place c.place.ensures c.requires.held _))
