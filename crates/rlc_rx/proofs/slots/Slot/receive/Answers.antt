use Rattle.std.proofs.Common.{◌≡◌, ◌+◌, ◌≤◌, max, cond, length, Some, sym, ap, ◌∙◌, subst, arith}
use Rattle.protocol.specs.Pdus.{Amd}
use Rattle.protocol.specs.Receiving.{data_end, marks_end}
use Rattle.rlc_rx.proofs.Pieces.{grown_beyond, grown_highest, received_is, bounds_after}
use Rattle.rlc_rx.proofs.slots.Slot.receive.Goals as goal
use Rattle.std.proofs.lemmas.List.Sums.{count_by-le-length}
use Rattle.rlc_rx.specs.DataPdus.{data_pdu_of}
use Rattle.rlc_rx.specs.Flags.{Merged, NoneFrom, EndsAt, bounds}

pub overflow_add-self : goal.overflow_add-self
overflow_add-self c =
    let s = c.args.self.now in
    let m = c.put.ensures in
    let few : s.count + c.put.result ≤ 502 = omega (arith, s.counted, m.counted, count_by-le-length (λ flag. flag) c.put.new.held, m.sizes.1, s.room.1) in
    omega arith

pub invariant_of-self : goal.invariant_of-self
invariant_of-self c =
    let s = c.args.self.now in
    let pdu = c.args.pdu.now in
    let a : Amd = data_pdu_of pdu in
    let m = subst (λ o. Merged o (length a.payload) a.payload s.bytes c.put.new.bytes s.held c.put.new.held c.put.result) c.offset.ensures c.put.ensures in
    let top : max s.top (data_end a) ≡ c.max-self.result = sym (c.max-self.ensures ∙ ap (max s.top) c.end.ensures) in
    let beyond = subst (λ t. NoneFrom t c.put.new.held) top (grown_beyond a _ _ _ _ _ s.top s.known_end m s.beyond) in
    let highest = subst (λ t. EndsAt t c.put.new.held) top (grown_highest a _ _ _ _ _ s.top s.known_end m pdu.some s.highest) in
    let bounded = bounds_after a s.bytes s.held s.top s.known_end s.short s.beyond s.highest s.bounded pdu.short c.requires in
    record {
      room = (m.sizes.0 ∙ s.room.0, m.sizes.1 ∙ s.room.1);
      counted = omega (arith, s.counted, m.counted);
      short = omega (arith, top, s.short, pdu.short);
      beyond = beyond;
      highest = highest;
      bounded = ap (λ e. bounds e c.max-self.result) c.end_after-self.ensures ∙ ap (bounds (cond (marks_end a.segment) (Some (data_end a)) s.known_end)) (sym top) ∙ bounded;
    }

pub returns-clause-sdu : goal.returns-clause-sdu
returns-clause-sdu c =
    let s = c.args.self.now in
    let a : Amd = data_pdu_of c.args.pdu.now in
    let m = subst (λ o. Merged o (length a.payload) a.payload s.bytes c.put.new.bytes s.held c.put.new.held c.put.result) c.offset.ensures c.put.ensures in
    received_is a _ _ _ _ _ s.top s.known_end m c.end_after-self.result c.end_after-self.ensures
