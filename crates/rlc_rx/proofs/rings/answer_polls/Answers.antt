use Rattle.std.proofs.Common.{◌≡◌, ◌+◌, ◌-◌, ◌%◌, ◌<◌, false, ◌||◌, ltb, set, sym, ap, ◌∙◌, subst, arith}
use Rattle.protocol.specs.Rings.{in_ring}
use Rattle.protocol.specs.Searching.{seek}
use Rattle.rlc_rx.proofs.Places.{ring_read, cleared_more}
use Rattle.rlc_rx.proofs.Seeking.{seek_more}
use Rattle.rlc_rx.proofs.rings.answer_polls.Goals as goal
use Rattle.rlc_rx.specs.Slots.{partial_of, partials, polls}
use Rattle.rlc_rx.specs.Rings.{Cleared}
use Rattle.std.proofs.lemmas.List.{length-map, length-set, map-set, set-get_or, get_or-map}

pub loop-x-preserved : goal.loop-x-preserved
loop-x-preserved c =
    let from = c.args.from in
    let x = c.loop-x.x in
    let old = c.args.slots.now in
    let slots = c.loop-x.slots in
    let slot = c.answer_poll-answered.new.self in
    let d = c.index-slots-x.result in
    let near : x < from + 16 = omega (arith, c.loop-x-test.true, c.requires.window) in
    let size = c.loop-x.invariant.3 in
    let asked : c.answer_poll-answered.result ≡ in_ring (polls old) x false =
    c.answer_poll-answered.ensures.answer ∙ sym (ring_read (λ s. s.poll) slots x false d size) ∙ c.loop-x.invariant.2.behind x (omega arith) near in
    let same : partials (set slots (x % 16) slot) ≡ partials old =
    map-set partial_of slots (x % 16) slot
    ∙ ap (set (partials slots) (x % 16)) (c.answer_poll-answered.ensures.sdu ∙ sym (get_or-map partial_of slots (x % 16) d (partial_of d) (omega (arith, size))))
    ∙ set-get_or (partials slots) (x % 16) (partial_of d) ∙ c.loop-x.invariant.1 in
    let flags = cleared_more false from x (polls old) (polls slots) slot.poll (length-map old (λ s. s.poll) ∙ c.told-slots) c.loop-x.auto.x near c.answer_poll-answered.ensures.poll c.loop-x.invariant.2 in (
      ap (λ b. b || c.answer_poll-answered.result) c.loop-x.invariant.0
          ∙ ap (λ b. ltb (seek (λ y. in_ring (polls old) y false) (x - from) from) x || b) asked ∙ sym (seek_more (λ y. in_ring (polls old) y false) from x c.loop-x.auto.x),
      same,
      subst (λ ps. Cleared false from (x + 1) (polls old) ps) (sym (map-set (λ s. s.poll) slots (x % 16) slot)) flags,
      length-set slots (x % 16) slot ∙ size,
    )
