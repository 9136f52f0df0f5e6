use Rattle.std.proofs.Common.{◌≡◌, get_or, ap, ◌∙◌, arith, rules}
use Rattle.protocol.specs.Sending.{tx_count}
use Rattle.rlc_tx.proofs.Entered.{held_is, entered_as}
use Rattle.rlc_tx.proofs.InWindow.{same_sdus}
use Rattle.rlc_tx.proofs.windows.Window.consider_entry.Goals as goal
use Rattle.rlc_tx.specs.Windows.{bare, Holds}
use Rattle.rlc_tx.specs.declared.reporting.Touch.TheVariants.{Unnamed}
use Rattle.wire.specs.Counts.{count_of}
use Rattle.wire.specs.Views.{entry_of}

pub returns-clause-sdus : goal.returns-clause-sdus
returns-clause-sdus c =
    let w = c.args.self.now in
    let e = entry_of c.args.entry in
    let touches = c.args.touches.now in
    let count = count_of c.in-Some.count in
    let place = c.place-place.result in
    let is : count ≡ tx_count (bare w) e.nack_sn = held_is _ _ c.in-Some.ensures in
    let held : Holds w count = record { from = omega (arith, is); to = search rules } in
    c.consider_named.ensures.sdus
    ∙ same_sdus (bare w) _ _ (entered_as w e touches count is held (get_or touches place Unnamed) (ap (λ i. get_or touches i Unnamed) c.place-place.ensures))
