use Rattle.std.proofs.Common.{◌+◌, sym, ap, subst}
use Rattle.pdcp.proofs.Takings.{below_taken}
use Rattle.pdcp.proofs.receivers.Receiver.collect.Goals as goal
use Rattle.pdcp.specs.Stores.{stored_of, Below}

pub invariant_of-self : goal.invariant_of-self
invariant_of-self c =
    let r = c.args.self.now in
    let high = r.rx_deliv.value + 16 in
    let left = ap (λ t. t.2) c.take-length.ensures in
    let below = subst (Below high) (sym left) (below_taken high _ c.args.buffer.now (stored_of r.store) r.within) in
    record { delivered = r.delivered; begun = r.begun; limited = r.limited; timed = r.timed; within = below }
