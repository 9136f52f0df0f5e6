use Rattle.std.proofs.Common.{◌≡◌, ◌+◌, get_or, refl, ap, ◌∙◌}
use Rattle.protocol.specs.Sending.{Near}
use Rattle.rlc_tx.proofs.InWindow.{same_sdus}
use Rattle.rlc_tx.proofs.Settled.{settled_more}
use Rattle.rlc_tx.proofs.windows.Window.acknowledge_all.Goals as goal
use Rattle.rlc_tx.specs.Touches.{named_of, settled, settled_to}
use Rattle.rlc_tx.specs.Windows.{sdus_in, bare, with_sdu}
use Rattle.rlc_tx.specs.declared.reporting.Touch.TheVariants.{Unnamed}
use Rattle.std.proofs.Common.{ltb}
use Rattle.wire.specs.Counts.{count_of}

pub loop-k-preserved : goal.loop-k-preserved
loop-k-preserved c =
    let w = c.args.self.now in
    let touches = c.args.touches.now in
    let count = count_of c.count-count.result in
    let ack = count_of c.args.ack in
    let touch = get_or touches c.place.result Unnamed in
    let at : count ≡ count_of w.tx_next_ack + c.loop-k.k = c.count-count.ensures ∙ ap (λ (m : Near). m.tx_next_ack + c.loop-k.k) c.loop-k.invariant in
    c.acknowledge_one.ensures ∙ ap (λ (m : Near). with_sdu m count (settled (ltb count ack) (named_of touch) (m.sdu count))) c.loop-k.invariant
    ∙ same_sdus (bare w) _ _
    (settled_more (count_of w.tx_next_ack) c.loop-k.k ack count touches (sdus_in w) (settled_to (count_of w.tx_next_ack) (count_of w.tx_next_ack + c.loop-k.k) ack touches (sdus_in w)) touch at
    (ap (λ i. get_or touches i Unnamed) c.place.ensures) (λ x. refl))
