use Rattle.air.proofs.Pushes.{parts_pushed, waits_pushed}
use Rattle.air.proofs.queues.Queue.push.Goals as goal

pub invariant_of-self : goal.invariant_of-self
invariant_of-self c =
    let p = parts_pushed c.args.self.now c.args.pdu.now c.requires.room c.requires.carried c.write_at.new.store c.write_at.ensures c.requires.old in
    record { room = p.room; bounded = p.bounded; placed = p.placed; apart = p.apart; carried = p.carried; older = p.older }

pub returns : goal.returns
returns c = waits_pushed c.args.self.now c.args.pdu.now c.requires.room c.requires.carried c.write_at.new.store c.write_at.ensures
