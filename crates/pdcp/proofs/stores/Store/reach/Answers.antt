use Rattle.std.proofs.Common.{arith}
use Rattle.pdcp.proofs.Windows.{held_down, held_up}
use Rattle.pdcp.proofs.stores.Store.reach.Goals as goal

pub returns-then-count-self-clause-same : goal.returns-then-count-self-clause-same
returns-then-count-self-clause-same c =
    let s = c.args.self.now in
    held_down s.places s.first c.args.count c.requires.near (omega arith)

pub returns-then-count-self-ge-WINDOW-clause-same : goal.returns-then-count-self-ge-WINDOW-clause-same
returns-then-count-self-ge-WINDOW-clause-same c =
    let s = c.args.self.now in
    held_up s.places s.first c.args.count c.requires.near (omega arith)
