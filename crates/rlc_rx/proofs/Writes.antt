-- A report of the far end is written: neither the draft nor its closing refuses.
use Rattle.std.proofs.Common.{◌≡◌, ℕ, zero, suc, ◌+◌, ◌-◌, ◌%◌, ◌<◌, ◌≤◌, true, List, [], ◌∷◌, length, get_or, is_ok, None, Ok, sym, refl, ap, ◌∙◌, subst, mod-lt, arith}
use Rattle.protocol.specs.Bytes.{Bytes, put}
use Rattle.protocol.specs.Drafts.{Draft, Step, opened, then, fill, close}
use Rattle.protocol.specs.Laws.{Fits}
use Rattle.protocol.specs.Pdus.{Entry, encode, encode_entry}
use Rattle.protocol.specs.Receiving as far
use Rattle.protocol.specs.Writing.{write, written, pdu_fault}
use Rattle.protocol.proofs.Drafting.{draft_writes, length-put_at}
use Rattle.protocol.proofs.Reports.{EntryBetween, Reports, report_from_right, entries_bytes, entries_fit, entries_valid}
use Rattle.rlc_rx.proofs.Gaps.{limit_short}
use Rattle.rlc_rx.specs.Slots.{partials}
use Rattle.rlc_rx.specs.Rings.{sdus_in}
use Rattle.rlc_rx.specs.declared.slots.Slot.{Slot}
use Rattle.rlc_rx.proofs.Places.{window_seen}
use Rattle.std.proofs.lemmas.Bool.{cond-true, cond-false, le-ltb}
use Rattle.std.specs.List.{AllByRecursion}

-- entries in order are added while there is room
fill_fine : (low high : ℕ) (es : List Entry) (d : Draft) (b : Bytes) → AllByRecursion (EntryBetween low high) es → d.size + far.entries_length es ≤ length b
    → (fill es d b).answer ≡ Ok tt
fill_fine low high [] d b all room = refl
fill_fine low high (e ∷ es) d b all room =
    let n = length (encode_entry true e) in
    let one = cond-false _ _ _ (le-ltb (length b) (d.size + n) (omega (arith, room))) ∙ cond-true _ _ _ all.0.entry.ordered in
    ap (λ (s : Step (Unit {0})). (then s.answer s (fill es s.draft s.buffer)).answer) one
    ∙ fill_fine low high es (record { size = d.size + n; last = d.size }) _ all.1
    (omega (arith, room, length-put_at d.size (encode_entry true e) b (omega (arith, room))))

-- what stands in a ring of slots is short enough for the fields of an entry
pub ring_short : (slots : List Slot) (i : ℕ) → far.limit (get_or (partials slots) i far.nothing_held) ≤ 502
ring_short [] i = omega arith
ring_short (s ∷ slots) zero = limit_short s
ring_short (s ∷ slots) (suc i) = ring_short slots i

pub sdus_short : (next high : ℕ) (slots : List Slot) (y : ℕ) → next ≤ y → y < high → far.limit (sdus_in next high (partials slots) y) < 65536
sdus_short next high slots y from to =
    omega (arith, ap far.limit (window_seen far.complete_sdu far.nothing_held next high (partials slots) y from to), ring_short slots (y % 16))

module _ (f : far.Far) (grant : ℕ) (b : Bytes) (small : (y : ℕ) → f.rx_next ≤ y → y < f.rx_highest_status → far.limit (f.sdu y) < 65536)
    (low : f.rx_next ≤ f.rx_highest_status) (window : f.rx_highest_status ≤ f.rx_next + 16) (least : 5 ≤ grant) (room : grant ≤ length b) where
  abbrev bytes : Bytes
  bytes = encode (far.report_pdu (far.report f grant))

  right : Reports f f.rx_next f.rx_highest_status (grant - 3) (far.report f grant)
  right =
      subst (λ high. Reports f f.rx_next high (grant - 3) (far.report f grant)) (omega (arith, low))
      (report_from_right f (f.rx_highest_status - f.rx_next) f.rx_next (grant - 3) (λ y lo hi. small y lo (omega (arith, hi, low))))

  pub filled : (fill (far.report f grant).entries opened b).answer ≡ Ok tt
  filled = fill_fine f.rx_next (far.report f grant).ack (far.report f grant).entries opened b right.true_entries (omega (arith, right.in_room, least, room))

  fits : Fits (far.report_pdu (far.report f grant))
  fits = (mod-lt (far.report f grant).ack {m = 4096} (omega arith), entries_fit _ _ _ right.true_entries)

  no_fault : pdu_fault (far.report_pdu (far.report f grant)) ≡ None
  no_fault = entries_valid f.rx_next (far.report f grant).ack 3 (far.report f grant).entries (omega (arith, right.ack_to, window)) right.true_entries

  writes : write (far.report_pdu (far.report f grant)) b ≡ (Ok (length bytes), put bytes b)
  writes =
      cond-false _ _ _ (le-ltb (length b) (length bytes) (omega (arith, entries_bytes (far.report f grant).entries, right.in_room, least, room)))
      ∙ ap (λ o. written o bytes b) no_fault

  pub closes : (d : Draft) (b' : Bytes) → fill (far.report f grant).entries opened b ≡ record { answer = Ok tt; draft = d; buffer = b' }
      → ((close ((far.report f grant).ack % 4096) d b').answer ≡ Ok (length bytes)) × ((close ((far.report f grant).ack % 4096) d b').buffer ≡ put bytes b)
  closes d b' e =
      let w = draft_writes ((far.report f grant).ack % 4096) (far.report f grant).entries b fits filled in
      let n = (far.report f grant).ack % 4096 in (
        sym (ap (λ (s : Step (Unit {0})). (close n s.draft s.buffer).answer) e) ∙ w.0 ∙ ap (λ r. r.0) writes,
        sym (ap (λ (s : Step (Unit {0})). (close n s.draft s.buffer).buffer) e) ∙ w.1 (ap (λ r. is_ok r.0) writes) ∙ ap (λ r. r.1) writes,
      )
