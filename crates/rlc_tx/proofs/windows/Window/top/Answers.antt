use Rattle.std.proofs.Common.{not, rules, ap, ◌∙◌}
use Rattle.protocol.proofs.Marks.{begun}
use Rattle.rlc_tx.proofs.Found.{found_by, unwrap_mapped, top_ends}
use Rattle.rlc_tx.proofs.OfEnd.{bare_ordered}
use Rattle.rlc_tx.proofs.windows.Window.top.Goals as goal
use Rattle.rlc_tx.specs.Windows.{bare}
use Rattle.std.specs.Option.{option_map}
use Rattle.wire.specs.Counts.{count_of}

pub returns : goal.returns
returns c =
    let w = c.args.self.now in
    let found = found_by _ _ w (λ x s. not (begun s)) (option_map count_of c.first.result) c.first.ensures (λ count slot b at p. search rules) in
    ap count_of c.unwrap_or.ensures ∙ unwrap_mapped count_of c.first.result w.tx_next ∙ top_ends (bare w) (bare_ordered w) (option_map count_of c.first.result) found
