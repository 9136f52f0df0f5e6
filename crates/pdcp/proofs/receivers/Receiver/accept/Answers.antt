use Rattle.std.proofs.Common.{◌≡◌, sym, ap, ◌∙◌, arith}
use Rattle.pdcp.proofs.Orders.{missing_within}
use Rattle.pdcp.proofs.receivers.Receiver.accept.Goals as goal
use Rattle.pdcp.proofs.receivers.Receiver.accept.Goals.{then-eq, else-eq}
use Rattle.pdcp.specs.Stores.{stored_of}
use Rattle.std.proofs.lemmas.Bool.{eqb-true}
use Rattle.wire.proofs.Orders.{count_eq}
use Rattle.wire.specs.Counts.{count_of}

pub deliver-requires : goal.deliver-requires
deliver-requires c =
    let r = c.keep.new.self in
    let n = c.args.count.value in
    elim c.if-eq.branch [
      | then-eq w ↦ let here : n ≡ r.rx_deliv.value = eqb-true n r.rx_deliv.value (sym (c.eq.ensures ∙ count_eq n r.rx_deliv.value) ∙ w.if-eq.true) in let same = ap count_of w.deliv-is ∙ w.next_missing-deliv.ensures in let bounds = missing_within (stored_of r.store) r.rx_next.value n (omega (arith, here, r.delivered)) in record { from = omega (arith, same, bounds.0, here); to = omega (arith, same, bounds.1) }
      | else-eq w ↦ let same = ap count_of w.deliv-is in record { from = omega (arith, same); to = omega (arith, same, r.delivered) }
    ]
