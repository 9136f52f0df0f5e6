use Rattle.std.proofs.Common.{◌≡◌, ◌<◌, true, leb, length, sym, ◌∙◌, arith}
use Rattle.air.proofs.Fronts.{length_waits}
use Rattle.air.specs.Soundness.{sound_waits}
use Rattle.air.proofs.Lets.{all_nth, took_none, took_some}
use Rattle.std.proofs.lemmas.Option.{slice_get_within}
use Rattle.air.proofs.queues.Queue.take.Goals as goal
use Rattle.air.specs.Kept.{left_by}
use Rattle.air.specs.Waits.{waits}
use Rattle.protocol.specs.Airs.{Waiting, carries, max_draw, max_pdu, age_limit}
use Rattle.std.proofs.lemmas.Bool.{and_parts, leb-true, cond-true, cond-false}
use Rattle.std.specs.List.{remove}

pub returns-in_default : goal.returns-in_default
returns-in_default c =
    let ws = waits c.args.self.now in
    let buffer = c.args.buffer.now in
    took_none c.args.k c.args.keeps c.args.draw buffer ws (sym c.in_default.ensures)

pub write-requires : goal.write-requires
write-requires c =
    let q = c.args.self.now in
    let pdu = c.in-Some.pdu.now in
    let w : Waiting = record { pdu = pdu; age = c.in-Some.field-0-1 } in
    let sound = all_nth (λ w. (carries w.pdu ≡ true) × (w.age < age_limit)) (waits q) c.args.k w (sym c.in-Some.ensures) (sound_waits q) in
    let short = and_parts (leb 1 (length pdu)) (leb (length pdu) max_pdu) sound.0 in
    let room = and_parts (leb c.args.draw max_draw) (leb max_pdu (length c.args.buffer.now)) (sym c.if-not-takes.ensures) in
    omega (arith, leb-true (length pdu) max_pdu short.1, leb-true max_pdu (length c.args.buffer.now) room.1)

pub remove-requires : goal.remove-requires
remove-requires c =
    let q = c.args.self.now in
    let w : Waiting = record { pdu = c.in-Some.pdu.now; age = c.in-Some.field-0-1 } in
    omega (arith, slice_get_within (waits q) c.args.k w (sym c.in-Some.ensures), length_waits q)

pub returns-then-not-keeps : goal.returns-then-not-keeps
returns-then-not-keeps c =
    let ws = waits c.args.self.now in
    let pdu = c.in-Some.pdu.now in
    let removes : waits c.remove.new.self ≡ left_by c.args.k c.args.keeps ws =
    c.remove.ensures.after ∙ sym (cond-false c.args.keeps ws (remove ws c.args.k) c.if-not-keeps.true) in
    took_some c.args.k c.args.keeps c.args.draw c.args.buffer.now c.write.new.buffer ws (waits c.remove.new.self) (record { pdu = pdu; age = c.in-Some.field-0-1 })
    (sym c.if-not-takes.ensures) (sym c.in-Some.ensures) c.write.ensures removes

pub returns-else-not-keeps : goal.returns-else-not-keeps
returns-else-not-keeps c =
    let ws = waits c.args.self.now in
    let pdu = c.in-Some.pdu.now in
    let keeps : ws ≡ left_by c.args.k c.args.keeps ws = sym (cond-true c.args.keeps ws (remove ws c.args.k) c.if-not-keeps.false) in
    took_some c.args.k c.args.keeps c.args.draw c.args.buffer.now c.write.new.buffer ws ws (record { pdu = pdu; age = c.in-Some.field-0-1 })
    (sym c.if-not-takes.ensures) (sym c.in-Some.ensures) c.write.ensures keeps
