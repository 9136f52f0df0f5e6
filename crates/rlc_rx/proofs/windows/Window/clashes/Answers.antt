use Rattle.std.proofs.Common.{◌≡◌, ltb, sym, ap, ◌∙◌, rules}
use Rattle.protocol.specs.Receiving as far
use Rattle.rlc_rx.proofs.Pieces.{nothing_clashes}
use Rattle.rlc_rx.proofs.Places.{window_unseen}
use Rattle.rlc_rx.proofs.windows.Window.clashes.Goals as goal
use Rattle.rlc_rx.specs.DataPdus.{data_pdu_of}
use Rattle.rlc_rx.specs.Slots.{partials}
use Rattle.std.proofs.lemmas.Bool.{ltb-false}
use Rattle.wire.specs.Counts.{count_of}

pub returns-else-lt : goal.returns-else-lt
returns-else-lt c =
    let w = c.args.self.now in
    let x = count_of c.args.x in
    let a = data_pdu_of c.args.pdu.now in
    let less : c.lt.result ≡ ltb x (count_of w.rx_next_highest) = search rules in
    let unseen = ltb-false x (count_of w.rx_next_highest) (sym less ∙ c.if-lt.false) in
    c.if-lt.false
    ∙ sym
    (ap (λ p. far.clashes p a) (window_unseen far.complete_sdu far.nothing_held (count_of w.rx_next) (count_of w.rx_next_highest) (partials w.slots) x c.requires unseen)
    ∙ nothing_clashes a c.args.pdu.now.short)
