use Rattle.std.proofs.Common.{◌≡◌, ◌-◌, ◌<◌, ap, ◌∙◌, subst, arith}
use Rattle.protocol.specs.Receiving as far
use Rattle.rlc_rx.proofs.Gaps.{gap_longer}
use Rattle.rlc_rx.proofs.slots.Slot.gap_from.Goals as goal
use Rattle.rlc_rx.specs.Slots.{partial_of}
use Rattle.protocol.proofs.Seeks.{seek_to}

pub gap_end-requires : goal.gap_end-requires
gap_end-requires c =
    let p = partial_of c.args.self.now in
    let i = c.args.from in
    let lim = c.limit-limit.result in
    let a = c.missing_from-start.ensures in
    let b = c.held_from-stop.ensures in
    let start : c.missing_from-start.result < lim = c.if-start-limit.true in
    let long = gap_longer p lim i (subst (λ m. m < lim) a start) in
    let stop : c.held_from-stop.result ≡ far.held_from p (lim - far.missing_from p (lim - i) i) (far.missing_from p (lim - i) i) =
    b ∙ ap (λ m. far.held_from p (lim - m) m) a in
    record {
      some = omega (arith, long, stop);
      short = omega (arith, b, seek_to (far.holds p) (lim - c.missing_from-start.result) c.missing_from-start.result, start, c.limit-limit.ensures.short);
    }
