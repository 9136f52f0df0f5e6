use Rattle.std.proofs.Common.{◌≡◌, ◌+◌, ◌-◌, ◌<◌, true, false, Ok, Err, Result, sym, ap, ◌∙◌, subst, arith}
use Rattle.protocol.specs.Drafts.{fill}
use Rattle.protocol.specs.Receiving as far
use Rattle.protocol.specs.declared.faults.Fault.{Fault}
use Rattle.rlc_rx.proofs.Listing.{report_at, fill_behind, report_complete, report_stops, report_lists}
use Rattle.rlc_rx.proofs.ends.FarEnd.list_missing.Goals as goal
use Rattle.rlc_rx.specs.Slots.{partial_of}
use Rattle.rlc_rx.specs.Entries.{entries_left}
use Rattle.rlc_rx.specs.Spending.{Listed}
use Rattle.rlc_rx.specs.Views.{far_of}
use Rattle.std.proofs.lemmas.Result.{err_from_is_err_and}
use Rattle.wire.specs.Drafted.{draft_of}
use Rattle.wire.specs.Counts.{count_of}
use Rattle.wire.specs.declared.counts.Count.{Count}
use Rattle.wire.specs.declared.counts.Rlc.{Rlc}

pub loop-x-preserved-then-is_complete : goal.loop-x-preserved-then-is_complete
loop-x-preserved-then-is_complete c =
    let f = far_of c.args.self.now in
    let x = c.loop-x.x in
    let room = c.loop-x.room in
    let inv = c.loop-x.invariant in
    let more : x < f.rx_highest_status = omega (arith, c.value-x-end.ensures, c.loop-x-test.true) in
    let done : far.complete (f.sdu x) ≡ true = sym (ap far.complete c.slot-slot.ensures) ∙ sym c.is_complete.ensures ∙ c.if-is_complete.true in
    let on = report_complete f f.rx_highest_status x room more done in
    (inv.0 ∙ ap (λ r. r.ack) on, inv.1 ∙ ap (λ r. fill r.entries (draft_of c.loop-x.draft) c.loop-x.buffer) on, inv.2)

pub returns-then-length-room : goal.returns-then-length-room
returns-then-length-room c =
    let f = far_of c.args.self.now in
    let x = c.loop-x.x in
    let room = c.loop-x.room in
    let inv = c.loop-x.invariant in
    let more : x < f.rx_highest_status = omega (arith, c.value-x-end.ensures, c.loop-x-test.true) in
    let lacks : far.complete (f.sdu x) ≡ false = sym (ap far.complete c.slot-slot.ensures) ∙ sym c.is_complete.ensures ∙ c.if-is_complete.false in
    let at : count_of c.saturating_plus-count.result ≡ x = omega (arith, c.saturating_plus-count.ensures, c.value-start.ensures, c.loop-x.auto.x) in
    let own-is : entries_left c.new.result ≡ far.sdu_entries x (f.sdu x) =
    c.new.ensures ∙ ap (λ y. far.sdu_entries y (partial_of c.slot-slot.result.now)) at ∙ ap (far.sdu_entries x) c.slot-slot.ensures in
    let long : room < far.entries_length (far.sdu_entries x (f.sdu x)) = omega (arith, c.if-length-room.true, c.bytes-length.ensures, ap far.entries_length own-is) in
    let stops = report_stops f f.rx_highest_status x room more lacks long in
    (at ∙ sym (inv.0 ∙ ap (λ r. r.ack) stops), inv.1 ∙ ap (λ r. fill r.entries (draft_of c.loop-x.draft) c.loop-x.buffer) stops)

pub returns-in_err-add_to : goal.returns-in_err-add_to
returns-in_err-add_to c =
    let f = far_of c.args.self.now in
    let x = c.loop-x.x in
    let room = c.loop-x.room in
    let inv = c.loop-x.invariant in
    let d = draft_of c.loop-x.draft in
    let b = c.loop-x.buffer in
    let d' = draft_of c.add_to.new.draft in
    let b' = c.add_to.new.buffer in
    let fault = c.in_err-add_to.field-0.0 in
    let own = far.sdu_entries x (f.sdu x) in
    let more : x < f.rx_highest_status = omega (arith, c.value-x-end.ensures, c.loop-x-test.true) in
    let lacks : far.complete (f.sdu x) ≡ false = sym (ap far.complete c.slot-slot.ensures) ∙ sym c.is_complete.ensures ∙ c.if-is_complete.false in
    let at : count_of c.saturating_plus-count.result ≡ x = omega (arith, c.saturating_plus-count.ensures, c.value-start.ensures, c.loop-x.auto.x) in
    let own-is : entries_left c.new.result ≡ far.sdu_entries x (f.sdu x) =
    c.new.ensures ∙ ap (λ y. far.sdu_entries y (partial_of c.slot-slot.result.now)) at ∙ ap (far.sdu_entries x) c.slot-slot.ensures in
    let size : c.bytes-length.result ≡ far.entries_length own = c.bytes-length.ensures ∙ ap far.entries_length own-is in
    let lists = report_lists f f.rx_highest_status x room more lacks (omega (arith, c.if-length-room.false, size)) in
    let adds = c.in_err-add_to.ensures ∙ ap (λ es. fill es d b) (c.new-in-loop-x.ensures ∙ sym c.new.ensures ∙ own-is) in
    let rest = (report_at f f.rx_highest_status (x + 1) (room - far.entries_length own)).entries in
    let out = err_from_is_err_and c.from_residual.result c.from_residual.ensures.1 in
    let is : c.from_residual.result ≡ Err fault = out.1 ∙ ap {B = Result (Count Rlc) Fault} Err out.2 in
    let whole = inv.1 ∙ ap (λ r. fill r.entries d b) lists ∙ fill_behind own rest d d' b b' (Err fault) adds in
    subst (λ r. Listed (report_at f f.rx_highest_status f.rx_next c.args.most) (draft_of c.args.draft.now) c.args.buffer.now r d' b') (sym is) whole

pub loop-x-preserved : goal.loop-x-preserved
loop-x-preserved c =
    let f = far_of c.args.self.now in
    let x = c.loop-x.x in
    let room = c.loop-x.room in
    let inv = c.loop-x.invariant in
    let d = draft_of c.loop-x.draft in
    let b = c.loop-x.buffer in
    let d' = draft_of c.add_to.new.draft in
    let b' = c.add_to.new.buffer in
    let own = far.sdu_entries x (f.sdu x) in
    let more : x < f.rx_highest_status = omega (arith, c.value-x-end.ensures, c.loop-x-test.true) in
    let lacks : far.complete (f.sdu x) ≡ false = sym (ap far.complete c.slot-slot.ensures) ∙ sym c.is_complete.ensures ∙ c.if-is_complete.false in
    let at : count_of c.saturating_plus-count.result ≡ x = omega (arith, c.saturating_plus-count.ensures, c.value-start.ensures, c.loop-x.auto.x) in
    let own-is : entries_left c.new.result ≡ far.sdu_entries x (f.sdu x) =
    c.new.ensures ∙ ap (λ y. far.sdu_entries y (partial_of c.slot-slot.result.now)) at ∙ ap (far.sdu_entries x) c.slot-slot.ensures in
    let size : c.bytes-length.result ≡ far.entries_length own = c.bytes-length.ensures ∙ ap far.entries_length own-is in
    let lists = report_lists f f.rx_highest_status x room more lacks (omega (arith, c.if-length-room.false, size))
    ∙ ap (λ n. far.behind own (report_at f f.rx_highest_status (x + 1) (room - n))) (sym size) in
    let adds = c.in_ok-add_to.ensures ∙ ap (λ es. fill es d b) (c.new-in-loop-x.ensures ∙ sym c.new.ensures ∙ own-is) in
    let rest = (report_at f f.rx_highest_status (x + 1) (room - c.bytes-length.result)).entries in
    (inv.0 ∙ ap (λ r. r.ack) lists, inv.1 ∙ ap (λ r. fill r.entries d b) lists ∙ fill_behind own rest d d' b b' (Ok tt) adds, omega (arith, inv.2))
