use Rattle.std.proofs.Common.{sym, ap, ◌∙◌}
use Rattle.protocol.specs.Receiving.{complete}
use Rattle.rlc_rx.proofs.Moves.{past_moves}
use Rattle.rlc_rx.proofs.WindowSteps.{moved_keeps}
use Rattle.rlc_rx.proofs.windows.Window.move_past.Goals as goal
use Rattle.rlc_rx.specs.Windows.{sdus_of}
use Rattle.wire.specs.Counts.{count_of}

pub invariant_of-self : goal.invariant_of-self
invariant_of-self c =
    let w = c.args.self.now in
    let x = count_of c.args.x in
    let high = count_of w.rx_next_highest in
    let done = ap (λ y. complete (sdus_of w y)) (sym c.value.ensures) ∙ ap complete (sym c.slot.ensures) ∙ sym c.is_complete.ensures ∙ c.if-not-is_complete.false in
    let k = moved_keeps w x c.requires.seen c.requires.waits (count_of c.moved-self.result) (count_of c.moved-self-2.result)
    (c.moved-self.ensures ∙ past_moves (sdus_of w) high x (count_of w.rx_next) _ done c.incomplete_from-to.ensures)
    (c.moved-self-2.ensures ∙ past_moves (sdus_of w) high x (count_of w.rx_highest_status) _ done c.incomplete_from-to.ensures) in
    record { places = w.places; status_from = k.status_from; status_to = k.status_to; window = k.window; seen = w.seen; trigger = w.trigger }
