-- What either end put, the other reads: no PDU of a lawful series is refused for its content.
use Rattle.std.proofs.Common.{◌≡◌, ℕ, ◌+◌, ◌%◌, ◌<◌, ◌≤◌, Bool, true, false, cond, ◌||◌, ltb, leb, List, [], ◌∷◌, ◌++◌, length, Some, None, Ok, MatchBool, Option, sym, refl, ap, ◌∙◌, subst, inl, inr, ⊎_elim, arith}
use Rattle.protocol.proofs.Between.{Data, Told, LinkSound, link_new, next_behind, top_window, all_at}
use Rattle.protocol.proofs.Calls.{data_read, data_arrives}
use Rattle.protocol.proofs.Delivered.{event_keeps}
use Rattle.protocol.proofs.FarKept.{Taken}
use Rattle.protocol.proofs.Formats.{written_reads_back}
use Rattle.protocol.proofs.PdcpKept.{Handed, handed_sound}
use Rattle.protocol.specs.Airs.{Waiting, LetsOut, takes, Takes, laid, max_pdu}
use Rattle.protocol.specs.Bytes.{Bytes}
use Rattle.protocol.specs.Delivery.{ReadsWell, ArrivesWell, AllArriveWell, NothingRefused}
use Rattle.protocol.specs.Links as link
use Rattle.protocol.specs.Numbers.{stale}
use Rattle.protocol.specs.Pdus.{amd, status}
use Rattle.protocol.specs.Reading.{decode}
use Rattle.protocol.specs.Receiving as far
use Rattle.protocol.specs.Refusals.{at, unless}
use Rattle.protocol.specs.Reordering as pdcp
use Rattle.protocol.specs.Runs.{State, Event, next, new_state, AirsKeep, Lawful, accepted_by, collected_by, gives_up, outcome, Still}
use Rattle.protocol.specs.Sending as near
use Rattle.protocol.specs.Settings.{Settings}
use Rattle.protocol.specs.declared.faults.End.TheVariants.{Near, Far}
use Rattle.protocol.specs.declared.faults.Refusal.TheVariants.{ShortBuffer, PacketDue, EndClash}
use Rattle.std.proofs.lemmas.Bool.{both_ways, cond-false}

module _ {acc got : List Bytes} {ran : Bool} {r : State} (sound : LinkSound acc got ran r) (s : Settings) (buffer : Bytes) where
  -- a report is stale or taken
  report_well : (w : Waiting) → Told r.link.far sound.most w → ReadsWell (link.reads s Near w.pdu buffer r.link).answer
  report_well w t =
      subst (λ a. ReadsWell (link.reads_near s a buffer r.link).answer) (sym read)
      (by_stale (stale r.link.near.tx_next (near.tx_count r.link.near (t.ack % 4096))))
    where
      read : decode Near w.pdu ≡ Ok (status (t.ack % 4096) t.entries)
      read =
          ap (decode Near) t.pdu_is ∙ written_reads_back (status (t.ack % 4096) t.entries) (omega arith, t.fit)
          ∙ ap (λ f. unless f (Ok (status (t.ack % 4096) t.entries))) t.readable

      by_stale : (old : Bool)
          → ReadsWell
          (cond old (link.answering r.link (link.arrived link.stale_report (link.number_due r.link)) buffer)
          (link.answering (link.with_near r.link (near.reported s (near.tx_count r.link.near (t.ack % 4096)) t.entries r.link.near)) (link.arrived link.taken (link.number_due r.link)) buffer)
          ).answer
      by_stale true = tt
      by_stale false = tt

  -- data is discarded, kept or handed up
  data_well : (w : Waiting) → Data acc (near.top r.link.near) w → ReadsWell (link.reads s Far w.pdu buffer r.link).answer
  data_well w d =
      subst (λ a. ReadsWell (link.reads_far s a buffer r.link).answer) (sym (data_read acc got ran r sound w d ∙ ap (λ f. unless f (Ok (amd d.part))) d.readable))
      (by_discard (far.discards r.link.far (far.rx_count r.link.far d.part.sn) d.part) refl)
    where
      complete_well : (x : ℕ) → Taken acc x d.part r.link.far (far.taken s x d.part r.link.far) → x < near.top r.link.near → near.top r.link.near ≤ x + 79
          → ReadsWell (link.takes_in s x d.part buffer r.link).answer
      complete_well x k begun young = go (far.complete (far.received d.part (r.link.far.sdu x))) refl
        where
          handed : Handed acc got ran s x r.link.pdcp
          handed =
              handed_sound acc got ran s x r.link.pdcp sound.near_sound.packets sound.pdcp_sound
              (omega (arith, begun, sound.near_sound.begun, sound.near_sound.next)) (omega (arith, begun, top_window sound, next_behind sound))
              (omega (arith, young, sound.pdcp_sound.deliv_to, sound.next, sound.seen))

          go : (whole : Bool) → far.complete (far.received d.part (r.link.far.sdu x)) ≡ whole
              → ReadsWell
              (cond whole
              (link.hands_up (pdcp.handed_up s (far.sdu_bytes (far.received d.part (r.link.far.sdu x))) r.link.pdcp) buffer (link.with_far r.link (far.taken s x d.part r.link.far)))
              (link.answering (link.with_far r.link (far.taken s x d.part r.link.far)) (link.arrived link.kept 0) buffer)
              ).answer
          go true e =
              subst (λ a. ReadsWell (link.hands_up a buffer (link.with_far r.link (far.taken s x d.part r.link.far))).answer)
              (sym (ap (λ bytes. pdcp.handed_up s bytes r.link.pdcp) (k.completed e).1 ∙ handed.answer)) tt
          go false e = tt

      by_discard : (old : Bool) → far.discards r.link.far (far.rx_count r.link.far d.part.sn) d.part ≡ old
          → ReadsWell
          (cond old (link.answering (link.with_far r.link (far.discarded d.part r.link.far)) (link.arrived link.discarded 0) buffer)
          (cond (far.clashes (r.link.far.sdu (far.rx_count r.link.far d.part.sn)) d.part || leb near.packet_limit (far.rx_count r.link.far d.part.sn))
          (link.refusing r.link (at EndClash (link.so_place d.part.segment)) buffer)
          (link.takes_in s (far.rx_count r.link.far d.part.sn) d.part buffer r.link))
          ).answer
      by_discard true e = tt
      by_discard false e =
          ⊎_elim (λ old. absurd (both_ways _ e old))
          (λ new.
          subst (λ (o : link.Outcome). ReadsWell o.answer) (sym (cond-false _ _ _ new.1))
          (complete_well (far.rx_count r.link.far d.part.sn) new.2 (omega (arith, new.0, d.begun)) (omega (arith, new.0, d.young, d.recent))))
          (data_arrives acc got ran r sound s w d)

-- every arrival -----------------------------------------------------------------------------------------------------

module _ {acc got : List Bytes} {ran : Bool} {r : State} (sound : LinkSound acc got ran r) (s : Settings) where
  near_well : (draw : ℕ) (buffer : Bytes) (out : Option Bytes) (back : List Waiting) → Takes draw buffer out r.back back → ReadsWell (link.arrives s Near out buffer r.link).answer
  near_well draw buffer out back took = go (ltb (length buffer) max_pdu) (takes draw buffer) out took
    where
      go : (short t : Bool) (o : Option Bytes) → MatchBool t (LetsOut o r.back back) ((o ≡ None) × (back ≡ r.back))
          → ReadsWell (cond short (link.refusing r.link (at ShortBuffer 0) buffer) (link.lets_in s Near o buffer r.link)).answer
      go true t o lets = inl refl
      go false t None lets = tt
      go false true (Some pdu) lets =
          report_well sound s (laid (Some pdu) buffer) (record { pdu = pdu; age = lets.0.0 })
          (all_at (Told r.link.far sound.most) (record { pdu = pdu; age = lets.0.0 }) r.back lets.0.1 sound.back)
      go false false (Some pdu) still = let z : ◌≡◌ {A = ℕ} 0 1 = cc still.0 in absurd (omega (arith, z))

  far_well : (draw : ℕ) (buffer : Bytes) (out : Option Bytes) (forward : List Waiting)
      → MatchBool (link.something_due r.link) (out ≡ None) (Takes draw buffer out r.forward forward) → ReadsWell (link.arrives s Far out buffer r.link).answer
  far_well draw buffer out forward kept = go (ltb (length buffer) max_pdu) (link.something_due r.link) (takes draw buffer) out kept
    where
      go : (short due t : Bool) (o : Option Bytes) → MatchBool due (o ≡ None) (MatchBool t (LetsOut o r.forward forward) ((o ≡ None) × (forward ≡ r.forward)))
          → ReadsWell
          (cond short (link.refusing r.link (at ShortBuffer 0) buffer)
          (cond due (link.refusing r.link (at PacketDue 0) buffer) (link.lets_in s Far o buffer r.link))
          ).answer
      go true due t o lets = inl refl
      go false true t o lets = inr refl
      go false false t None lets = tt
      go false false true (Some pdu) lets =
          data_well sound s (laid (Some pdu) buffer) (record { pdu = pdu; age = lets.0.0 })
          (all_at (Data acc (near.top r.link.near)) (record { pdu = pdu; age = lets.0.0 }) r.forward lets.0.1 sound.forward)
      go false false false (Some pdu) still = let z : ◌≡◌ {A = ℕ} 0 1 = cc still.0 in absurd (omega (arith, z))

  event_well : (e : Event) (call : link.Call) → AirsKeep s r e call → ArrivesWell call (link.does s call e.out r.link).answer
  event_well e (link.give packet) keep = tt
  event_well e (link.spend end size buffer) keep = tt
  event_well e (link.arrive Near draw buffer) keep = near_well draw buffer e.out e.back keep.1
  event_well e (link.arrive Far draw buffer) keep = far_well draw buffer e.out e.forward (part (link.something_due r.link) keep)
    where
      part : (due : Bool) → MatchBool due (Still r e) (Takes draw buffer e.out r.forward e.forward × (e.back ≡ r.back))
          → MatchBool due (e.out ≡ None) (Takes draw buffer e.out r.forward e.forward)
      part true still = still.0
      part false took = took.0
  event_well e (link.tick end) keep = tt
  event_well e (link.collect buffer) keep = tt
  event_well e (link.read end bytes) keep = tt

series_well : (s : Settings) (es : List Event) (acc got : List Bytes) (ran : Bool) (r : State) → LinkSound acc got ran r → Lawful s r es → AllArriveWell s r es
series_well s [] acc got ran r sound lawful = tt
series_well s (e ∷ es) acc got ran r sound lawful = (
  event_well sound s e e.call lawful.0,
  series_well s es (acc ++ accepted_by e.call (outcome s r e).answer) (got ++ collected_by (outcome s r e).answer (outcome s r e).buffer) (ran || gives_up r.link e.call)
      (next s r e) (event_keeps acc got ran s r e e.call refl sound lawful.0) lawful.1,
)

pub nothing_refused : NothingRefused
nothing_refused s es lawful = series_well s es [] [] false new_state link_new lawful
