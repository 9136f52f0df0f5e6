use Rattle.std.proofs.Common.{◌≡◌, ap, ◌∙◌, sym, Some, arith}
use Rattle.pdcp.proofs.Windows.{lowest_held}
use Rattle.pdcp.proofs.stores.Store.lowest.Goals as goal
use Rattle.std.specs.Option.{option_map}
use Rattle.wire.specs.Counts.{count_of}

pub returns-in_err-lowest : goal.returns-in_err-lowest
returns-in_err-lowest c =
    let s = c.args.self.now in
    ap (option_map count_of) c.from_residual.ensures ∙ sym c.in_err-lowest.was ∙ c.first_full.ensures ∙ lowest_held s.places s.first

pub returns : goal.returns
returns c =
    let s = c.args.self.now in
    let counted : c.saturating_plus.result.value ≡ c.in_ok-lowest.lowest = omega (arith, c.saturating_plus.ensures, c.first.ensures) in
    ap Some counted ∙ sym c.in_ok-lowest.was ∙ c.first_full.ensures ∙ lowest_held s.places s.first
