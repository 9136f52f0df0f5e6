use Rattle.std.proofs.Common.{◌≡◌, ◌-◌, false, ltb, subst, arith}
use Rattle.protocol.specs.Rings.{in_ring}
use Rattle.protocol.specs.Searching.{seek}
use Rattle.rlc_rx.proofs.WindowSteps.{polls_from, waits_moved, advanced_is}
use Rattle.rlc_rx.proofs.windows.Window.advance.Goals as goal
use Rattle.rlc_rx.specs.Rings.{Cleared}
use Rattle.rlc_rx.specs.Slots.{partials, polls}
use Rattle.wire.specs.Counts.{count_of}

pub answer_polls-requires-clause-ordered : goal.answer_polls-requires-clause-ordered
answer_polls-requires-clause-ordered c =
    let r = c.requires in
    omega (arith, c.value-low.ensures, c.value.ensures, polls_from c.args.self.now (count_of c.args.x) r.seen r.waits c.move_past.new.self c.move_past.ensures)

pub returns-clause-state : goal.returns-clause-state
returns-clause-state c =
    let r = c.requires in
    let w' = c.move_past.new.self in
    let a = c.answer_polls.ensures in
    let slots = c.answer_polls.new.slots in
    let low = c.value-low.result in
    let found = subst (λ z. c.answer_polls.result ≡ ltb (seek (λ y. in_ring (polls w'.slots) y false) (z - low) low) z) c.value.ensures a.answer in
    let cleared = subst (λ z. Cleared false low z (polls w'.slots) (polls slots)) c.value.ensures a.flags in
    advanced_is c.args.self.now (count_of c.args.x) r.seen r.waits w' c.move_past.ensures (partials slots) a.sdus (polls slots) c.answer_polls.result low c.value-low.ensures found cleared

pub returns-clause-waits : goal.returns-clause-waits
returns-clause-waits c =
    waits_moved c.args.self.now (count_of c.args.x) c.requires.seen c.requires.waits c.move_past.new.self c.move_past.ensures (partials c.answer_polls.new.slots) c.answer_polls.ensures.sdus
