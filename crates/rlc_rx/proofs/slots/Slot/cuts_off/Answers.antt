use Rattle.std.proofs.Common.{◌-◌, ◌&&◌, ltb, sym, ap, ◌∙◌}
use Rattle.protocol.specs.Receiving.{held_from}
use Rattle.rlc_rx.proofs.Tallies.{held_beyond}
use Rattle.rlc_rx.proofs.slots.Slot.cuts_off.Goals as goal
use Rattle.rlc_rx.specs.Slots.{partial_of}

pub returns-then-marked : goal.returns-then-marked
returns-then-marked c =
    let s = c.args.self.now in
    let end = c.args.end in
    held_beyond s.held s.bytes s.known_end 502 end s.top c.requires s.short s.beyond s.highest
    ∙ sym (ap (λ b. b && ltb (held_from (partial_of s) (502 - end) end) 502) c.if-marked.true)
