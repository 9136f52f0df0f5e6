use Rattle.std.proofs.Common.{◌%◌, false, ◌||◌, set, sym, ap, ◌∙◌}
use Rattle.protocol.specs.Receiving.{nothing_held, received}
use Rattle.rlc_rx.proofs.Places.{ring_read}
use Rattle.rlc_rx.proofs.rings.receive.Goals as goal
use Rattle.rlc_rx.specs.DataPdus.{data_pdu_of}
use Rattle.rlc_rx.specs.Slots.{partial_of, partials, polls}
use Rattle.std.proofs.lemmas.List.{map-set}

pub returns-clause-sdus : goal.returns-clause-sdus
returns-clause-sdus c =
    let slots = c.args.slots.now in
    let x = c.args.x in
    map-set partial_of slots (x % 16) c.receive.new.self
    ∙ ap (set (partials slots) (x % 16)) (c.receive.ensures.sdu ∙ ap (received (data_pdu_of c.args.pdu.now)) (sym (ring_read partial_of slots x nothing_held c.index-slots-x.result c.told-slots)))

pub returns-clause-flags : goal.returns-clause-flags
returns-clause-flags c =
    let slots = c.args.slots.now in
    let x = c.args.x in
    map-set (λ s. s.poll) slots (x % 16) c.receive.new.self
    ∙ ap (set (polls slots) (x % 16)) (c.receive.ensures.poll ∙ ap (λ b. b || c.args.pdu.now.header.poll) (sym (ring_read (λ s. s.poll) slots x false c.index-slots-x.result c.told-slots)))
