use Rattle.std.proofs.Common.{◌≡◌, ◌+◌, map, set, ap, ◌∙◌, arith}
use Rattle.rlc_tx.proofs.InWindow.{slot_given}
use Rattle.rlc_tx.proofs.windows.Window.push.Goals as goal
use Rattle.rlc_tx.specs.Slots.{sdu_of}
use Rattle.rlc_tx.specs.Windows.{sdu_at}
use Rattle.wire.specs.Counts.{count_of}

pub returns-clause-sdus : goal.returns-clause-sdus
returns-clause-sdus c x =
    let w = c.args.self.now in
    let first = count_of w.tx_next_ack in
    let next = count_of w.tx_next in
    let slot = c.args.slot in
    let more : count_of c.saturating_plus-self.result ≡ next + 1 = omega (arith, c.saturating_plus-self.ensures, c.requires.few) in
    ap (λ k. sdu_at (map sdu_of (set w.slots c.place.result slot)) first k x) more ∙ ap (λ i. sdu_at (map sdu_of (set w.slots i slot)) first (next + 1) x) c.place.ensures
    ∙ slot_given w.slots first next slot w.ring w.ordered c.requires.room x
