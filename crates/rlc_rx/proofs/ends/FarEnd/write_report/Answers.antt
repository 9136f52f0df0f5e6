use Rattle.std.proofs.Common.{◌≡◌, ℕ, ◌+◌, ◌%◌, ◌<◌, ◌≤◌, length, Ok, Err, Result, sym, refl, ap, ◌∙◌, arith, rules}
use Rattle.protocol.specs.Drafts.{Draft, Step, opened, fill, close}
use Rattle.protocol.specs.Receiving as far
use Rattle.protocol.specs.declared.faults.Fault.{Fault}
use Rattle.rlc_rx.proofs.Writes.{sdus_short, filled, closes}
use Rattle.rlc_rx.proofs.ends.FarEnd.write_report.Goals as goal
use Rattle.rlc_rx.specs.Views.{far_of}
use Rattle.rlc_rx.specs.declared.ends.FarEnd.{FarEnd}
use Rattle.wire.specs.Drafted.{draft_of, closing}
use Rattle.wire.specs.Counts.{count_of, sn_of}
use Rattle.wire.specs.declared.drafts.Closed.{Closed}
use Rattle.wire.specs.declared.drafts.NotClosed.{NotClosed}
use Rattle.protocol.specs.Bytes.{Bytes, put}
use Rattle.protocol.specs.Pdus.{encode}

short : (e : FarEnd) (y : ℕ) → (far_of e).rx_next ≤ y → y < (far_of e).rx_highest_status → far.limit ((far_of e).sdu y) < 65536
short e y lo hi = sdus_short (count_of e.window.rx_next) (count_of e.window.rx_next_highest) e.window.slots y lo (omega (arith, hi, e.window.status_to))

near : (e : FarEnd) → (far_of e).rx_highest_status ≤ (far_of e).rx_next + 16
near e = omega (arith, e.window.status_to, e.window.window)

pub returns-in_err-ack : goal.returns-in_err-ack
returns-in_err-ack c =
    let e = c.args.self.now in
    let f = far_of e in
    let b = c.args.buffer.now in
    let ok = filled f c.args.size b (short e) e.window.status_from (near e) c.requires.least c.requires.room in
    let refused = c.in_err-ack.ensures in
    let same = ap (λ d. fill (far.report f c.args.size).entries d b) c.open-draft.ensures in
    let clash : ◌≡◌ {A = Result (Unit {0}) Fault} (Ok tt) (Err c.in_err-ack.field-0.0) = sym ok ∙ sym (ap (λ s. s.answer) same) ∙ ap (λ s. s.answer) refused in
    absurd (let z : ◌≡◌ {A = ℕ} 0 1 = cc in omega arith)

-- how the draft that was filled is closed
closing_is : (e : FarEnd) (size ack sn : ℕ) (b b' : Bytes) (start d : Draft) (step : Step ℕ) → 5 ≤ size → size ≤ length b → start ≡ opened → ack ≡ (far.report (far_of e) size).ack
    → sn ≡ ack % 4096 → fill (far.report (far_of e) size).entries start b ≡ record { answer = Ok tt; draft = d; buffer = b' } → step ≡ close sn d b'
    → (step.answer ≡ Ok (length (encode (far.report_pdu (far.report (far_of e) size))))) × (step.buffer ≡ put (encode (far.report_pdu (far.report (far_of e) size))) b)
closing_is e size ack sn b b' start d step least room open_is ack-is sn-is fills closing =
    let f = far_of e in
    let number : sn ≡ (far.report f size).ack % 4096 = omega (arith, sn-is, ack-is) in
    let full = sym (ap (λ s. fill (far.report f size).entries s b) open_is) ∙ fills in
    let w = closes f size b (short e) e.window.status_from (near e) least room d b' full in
    let is = closing ∙ ap (λ n. close n d b') number in
    (ap (λ s. s.answer) is ∙ w.0, ap (λ s. s.buffer) is ∙ w.1)

closing-buffer : (d : Draft) (r : Result Closed NotClosed) (b : Bytes) → (closing d r b).buffer ≡ b
closing-buffer d (Ok closed) b = refl
closing-buffer d (Err refused) b = refl

pub returns : goal.returns
returns c =
    let listed = c.in_ok-ack.ensures in
    let w = closing_is c.args.self.now c.args.size (count_of c.in_ok-ack.ack) (sn_of c.sn.result) c.args.buffer.now c.list_missing.new.buffer
    (draft_of c.open-draft.result) (draft_of c.list_missing.new.draft) _ c.requires.least c.requires.room c.open-draft.ensures listed.0 c.sn.ensures listed.1 c.close.ensures in
    let same : c.map_err.result ≡ (closing (draft_of c.list_missing.new.draft) c.close.result c.close.new.buffer).answer = search rules in
    record { answer = same ∙ w.0; written = sym (closing-buffer _ c.close.result _) ∙ w.1 }
