use Rattle.std.proofs.Common.{ltb, ap, ◌∙◌, arith}
use Rattle.rlc_rx.proofs.Tallies.{hole_is}
use Rattle.rlc_rx.proofs.slots.Slot.has_hole.Goals as goal

pub returns : goal.returns
returns c =
    let s = c.args.self.now in
    ap (λ n. ltb n s.top) s.counted
    ∙ hole_is s.held s.bytes s.known_end 502 s.top s.short (omega (arith, s.room.1)) s.beyond s.highest
