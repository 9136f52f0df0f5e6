use Rattle.std.proofs.Common.{◌+◌, ◌%◌, ◌<◌, false, sym, ◌∙◌, subst, arith}
use Rattle.protocol.specs.Receiving.{nothing_held}
use Rattle.rlc_rx.proofs.Places.{cleared_more}
use Rattle.rlc_rx.proofs.rings.clear.Goals as goal
use Rattle.rlc_rx.specs.Slots.{partial_of, partials, polls}
use Rattle.rlc_rx.specs.Rings.{Cleared}
use Rattle.std.proofs.lemmas.List.{length-map, length-set, map-set}

pub loop-x-preserved : goal.loop-x-preserved
loop-x-preserved c =
    let x = c.loop-x.x in
    let old = c.args.slots.now in
    let slots = c.loop-x.slots in
    let slot = c.reset.new.self in
    let near : x < c.args.from + 16 = omega (arith, c.loop-x-test.true, c.requires.window) in
    let sdus = cleared_more nothing_held c.args.from x (partials old) (partials slots) (partial_of slot) (length-map old partial_of ∙ c.told-slots) c.loop-x.auto.x near c.reset.ensures.0 c.loop-x.invariant.0 in
    let flags = cleared_more false c.args.from x (polls old) (polls slots) slot.poll (length-map old (λ s. s.poll) ∙ c.told-slots) c.loop-x.auto.x near c.reset.ensures.1 c.loop-x.invariant.1 in (
      subst (λ ps. Cleared nothing_held c.args.from (x + 1) (partials old) ps) (sym (map-set partial_of slots (x % 16) slot)) sdus,
      subst (λ ps. Cleared false c.args.from (x + 1) (polls old) ps) (sym (map-set (λ s. s.poll) slots (x % 16) slot)) flags,
      length-set slots (x % 16) slot ∙ c.loop-x.invariant.2,
    )
