use Rattle.std.proofs.Common.{◌+◌, sym, subst, arith, ◌∙◌}
use Rattle.pdcp.proofs.Orders.{none_due, below_insert}
use Rattle.pdcp.proofs.Rising.{store_rises}
use Rattle.pdcp.proofs.receivers.Receiver.keep.Goals as goal
use Rattle.std.proofs.lemmas.Bool.{leb-true}
use Rattle.wire.proofs.Orders.{count_le}
use Rattle.pdcp.specs.Stores.{stored_of, Below}

pub insert-requires-clause-near : goal.insert-requires-clause-near
insert-requires-clause-near c k is =
    let r = c.args.self.now in
    let from = none_due r.rx_deliv.value 0 (stored_of r.store) k (store_rises r.store) c.requires.collected is in
    (omega (arith, r.within k is, c.requires.from), omega (arith, from, c.requires.to))

pub invariant_of-self : goal.invariant_of-self
invariant_of-self c =
    let r = c.args.self.now in
    let below = subst (Below (r.rx_deliv.value + 16)) (sym c.insert.ensures) (below_insert (r.rx_deliv.value + 16) _ (stored_of r.store) r.within c.requires.to) in
    let past = leb-true r.rx_next.value c.args.count.value (sym (c.le.ensures ∙ count_le _ _) ∙ c.if-le.true) in
    let step = c.saturating_plus-self.ensures in
    record {
      delivered = omega (arith, past, step, r.delivered, c.requires.limit);
      begun = omega (arith, past, step, r.begun, c.requires.limit);
      limited = omega (arith, step, c.requires.limit);
      timed = r.timed;
      within = below;
    }

pub invariant_of-self-else-le : goal.invariant_of-self-else-le
invariant_of-self-else-le c =
    let r = c.args.self.now in
    let below = subst (Below (r.rx_deliv.value + 16)) (sym c.insert.ensures) (below_insert (r.rx_deliv.value + 16) _ (stored_of r.store) r.within c.requires.to) in
    record { delivered = r.delivered; begun = r.begun; limited = r.limited; timed = r.timed; within = below }
