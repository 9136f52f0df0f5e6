use Rattle.std.proofs.Common.{sym, ap, ◌∙◌}
use Rattle.protocol.specs.Sending.{Sdu, names_byte, with_sdus}
use Rattle.protocol.specs.Searching.{update}
use Rattle.rlc_tx.proofs.Entered.{named_once}
use Rattle.rlc_tx.proofs.InWindow.{same_sdus}
use Rattle.rlc_tx.proofs.Touched.{counted_is}
use Rattle.rlc_tx.proofs.windows.Window.consider_named.Goals as goal
use Rattle.rlc_tx.specs.Considered.{considered_next}
use Rattle.rlc_tx.specs.Touches.{counted_of}
use Rattle.rlc_tx.specs.Windows.{sdus_in, bare}
use Rattle.wire.specs.Counts.{count_of}
use Rattle.wire.specs.Views.{missing_of}

pub returns-clause-sdus : goal.returns-clause-sdus
returns-clause-sdus c =
    let w = c.args.self.now in
    c.consider.ensures.after
    ∙ ap (λ counted. with_sdus (bare w) (update (sdus_in w) (count_of c.args.count) (considered_next counted (names_byte (missing_of c.args.entry.missing)) (sdus_in w (count_of c.args.count))))) (c.eq-counted.ensures ∙ counted_is c.args.touch)
    ∙ same_sdus (bare w) _ _
    (named_once (count_of c.args.count) (names_byte (missing_of c.args.entry.missing)) (counted_of c.args.touch) (sdus_in w)
    (ap (λ (s : Sdu). s.acknowledged) (sym c.slot.ensures) ∙ sym c.is_acknowledged.ensures ∙ c.if-is_acknowledged.false))
