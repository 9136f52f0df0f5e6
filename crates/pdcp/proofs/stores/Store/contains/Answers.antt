use Rattle.std.proofs.Common.{sym, ◌∙◌}
use Rattle.pdcp.proofs.Windows.{stored_inside, stored_outside}
use Rattle.pdcp.proofs.stores.Store.contains.Goals as goal

pub returns-then-reaches : goal.returns-then-reaches
returns-then-reaches c =
    let s = c.args.self.now in
    c.is_full.ensures ∙ sym (stored_inside s.places s.first c.args.count (sym c.if-reaches.ensures))

pub returns-else-reaches : goal.returns-else-reaches
returns-else-reaches c =
    let s = c.args.self.now in
    c.if-reaches.false ∙ sym (stored_outside s.places s.first c.args.count (sym c.if-reaches.ensures))
