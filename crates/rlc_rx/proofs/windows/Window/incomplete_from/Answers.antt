use Rattle.std.proofs.Common.{◌≡◌, ◌-◌, ◌≤◌, not, ap, ◌∙◌, arith}
use Rattle.protocol.specs.Receiving.{nothing_held, complete}
use Rattle.protocol.specs.Rings.{in_ring}
use Rattle.protocol.specs.Searching.{seek}
use Rattle.protocol.proofs.Seeks.{seek_from}
use Rattle.rlc_rx.proofs.Moves.{open_is}
use Rattle.rlc_rx.proofs.windows.Window.incomplete_from.Goals as goal
use Rattle.rlc_rx.specs.Slots.{partials}
use Rattle.wire.specs.Counts.{count_of}

pub overflow_sub-found : goal.overflow_sub-found
overflow_sub-found c =
    omega (arith, c.incomplete_from-found.ensures, seek_from (λ y. not (complete (in_ring (partials c.args.self.now.slots) y nothing_held))) (c.value.result - c.value-start.result) c.value-start.result)

pub returns : goal.returns
returns c =
    let w = c.args.self.now in
    let high = count_of w.rx_next_highest in
    let x = count_of c.args.from in
    let ring = partials w.slots in
    let found = c.incomplete_from-found.ensures ∙ ap (λ z. seek (λ y. not (complete (in_ring ring y nothing_held))) (z - c.value-start.result) c.value-start.result) c.value.ensures
    ∙ ap (λ z. seek (λ y. not (complete (in_ring ring y nothing_held))) (high - z) z) c.value-start.ensures in
    let low : x ≤ c.incomplete_from-found.result = omega (arith, found, seek_from (λ y. not (complete (in_ring ring y nothing_held))) (high - x) x) in
    let reached : count_of c.saturating_plus.result ≡ c.incomplete_from-found.result = omega (arith, c.saturating_plus.ensures, c.value-start.ensures, low) in
    reached ∙ found ∙ open_is (count_of w.rx_next) high x ring c.requires.from
