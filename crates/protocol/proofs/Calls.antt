-- Each call keeps the invariant of the link.
use Rattle.std.proofs.Common.{◌≡◌, ℕ, suc, ◌+◌, ◌-◌, ◌%◌, ◌<◌, ◌≤◌, max, Bool, true, false, cond, ◌||◌, eqb, ltb, leb, ◌⊎◌, List, [], ◌∷◌, ◌++◌, length, Some, None, Ok, Option, sym, refl, ap, ◌∙◌, subst, ⊎_elim, arith}
use Rattle.protocol.proofs.Between.{read_ahead, read_behind, Data, Told, LinkSound, next_behind, top_window, ack_most, put_all, all_map}
use Rattle.protocol.proofs.FarKept.{SameSdus, Taken, far_given, sdu_given, sdu_short, far_arrives, far_discarded, far_reported, far_ticked}
use Rattle.protocol.proofs.Formats.{written_reads_back}
use Rattle.protocol.proofs.Invariants.{PartOf, sdu, FarSound, PdcpSound}
use Rattle.protocol.proofs.NearKept.{near_given, given_acknowledged, given_top}
use Rattle.protocol.proofs.NearMoved.{ReportedKept, near_reported, TickedKept, near_ticked}
use Rattle.protocol.proofs.NearSpent.{SpentKept, near_spent}
use Rattle.protocol.proofs.PdcpKept.{Held, given_sound, Handed, handed_sound, collected_sound, collected_keeps, ticked_sound, ticked_keeps}
use Rattle.protocol.proofs.Reports.{Reports, report_right, report_pdu, report_fits, entries_valid, unnamed_complete, named_in}
use Rattle.protocol.proofs.Strikes.{all_within}
use Rattle.protocol.specs.Airs.{Waiting, Within}
use Rattle.protocol.specs.Bytes.{Bytes}
use Rattle.protocol.specs.Laws.{SegmentFits}
use Rattle.protocol.specs.Links as link
use Rattle.protocol.specs.Pdus.{Segment, whole, first, middle, last, Amd, amd, status, encode}
use Rattle.protocol.specs.Reading.{decode, offset_fault}
use Rattle.protocol.specs.Receiving as far
use Rattle.protocol.specs.Refusals.{at, unless}
use Rattle.protocol.specs.Reordering as pdcp
use Rattle.protocol.specs.Runs.{State, Puts}
use Rattle.protocol.specs.Sending as near
use Rattle.protocol.specs.Settings.{Settings}
use Rattle.protocol.specs.Timers.{runs_out}
use Rattle.protocol.specs.Writing.{pdu_fault}
use Rattle.protocol.specs.declared.faults.End.TheVariants.{Near, Far}
use Rattle.protocol.specs.declared.faults.Fault.{Fault}
use Rattle.protocol.specs.declared.faults.Refusal.TheVariants.{EndClash}
use Rattle.std.proofs.lemmas.Bool.{both_ways, cases_lt, cond-false, ltb-false, le-ltb, ne_eqb, or_from}
use Rattle.std.specs.List.{AllByRecursion}

-- a segment that begins behind byte 0 has an SO that is not 0
pub segment_readable : (from size sdu_length n : ℕ) → far.offset (near.segment_at from size sdu_length) + n ≤ 502
    → offset_fault (near.segment_at from size sdu_length) n ≡ None
segment_readable from size sdu_length n = go (eqb from 0) refl (eqb size sdu_length) (eqb (from + size) sdu_length)
  where
    go : (start : Bool) → eqb from 0 ≡ start → (all end : Bool)
        → let segment = cond start (cond all whole first) (cond end (last from) (middle from)) in
        far.offset segment + n ≤ 502 → offset_fault segment n ≡ None
    go true e true end h = cond-false _ _ _ (le-ltb 502 n (omega (arith, h)))
    go true e false end h = cond-false _ _ _ (le-ltb 502 n (omega (arith, h)))
    go false e all true h = cond-false _ _ _ (or_from (eqb from 0) (ltb 502 (from + n)) e (le-ltb 502 (from + n) h))
    go false e all false h = cond-false _ _ _ (or_from (eqb from 0) (ltb 502 (from + n)) e (le-ltb 502 (from + n) h))

run_readable : (s : Settings) (acc : List Bytes) (run : near.Run) (n : near.Near) → PartOf (sdu acc run.count) run.count (near.amd_of_run s run n)
    → length (sdu acc run.count) ≤ 502 → pdu_fault (amd (near.amd_of_run s run n)) ≡ None
run_readable s acc run n part short =
    cond-false _ _ _ (ne_eqb (length (near.amd_of_run s run n).payload) 0 (λ none. omega (arith, part.some, none)))
    ∙ segment_readable run.from run.size (length (n.sdu run.count).bytes) (length (near.amd_of_run s run n).payload) (omega (arith, part.inside, short))

-- the state after a call
abbrev pub state : link.Link → List Waiting → List Waiting → State
state l forward back = record { link = l; forward = forward; back = back }

module _ (acc got : List Bytes) (ran : Bool) (r : State) (sound : LinkSound acc got ran r) where
  -- a call that changes neither an end nor an air
  pub unchanged : (forward back : List Waiting) → forward ≡ r.forward → back ≡ r.back → LinkSound acc got ran (state r.link forward back)
  unchanged forward back f b =
      subst (λ xs. LinkSound acc got ran (state r.link xs back)) (sym f)
      (subst (λ ys. LinkSound acc got ran (state r.link r.forward ys)) (sym b) sound)

  -- PDUs that are no longer there are not missed
  pub fewer : (forward back : List Waiting) → Within forward r.forward → Within back r.back → LinkSound acc got ran (state r.link forward back)
  fewer forward back f b =
      record {
        near_sound = sound.near_sound;
        far_sound = sound.far_sound;
        pdcp_sound = sound.pdcp_sound;
        acknowledged = sound.acknowledged;
        complete = sound.complete;
        seen = sound.seen;
        next = sound.next;
        forward = all_within (Data acc (near.top r.link.near)) f sound.forward;
        most = sound.most;
        most_to = sound.most_to;
        acknowledged_to = sound.acknowledged_to;
        back = all_within (Told r.link.far sound.most) b sound.back;
      }

  -- giving a packet -------------------------------------------------------------------------------------------------

  pub gave : (p : Bytes) → 1 ≤ length p → length p ≤ 500 → r.link.near.tx_next < r.link.near.tx_next_ack + 16 → length acc < 1000000
      → LinkSound (acc ++ p ∷ []) got ran (state (link.with_near r.link (near.given p r.link.near)) r.forward r.back)
  gave p some short room few =
      record {
        near_sound = near_given acc n p sound.near_sound some short room few;
        far_sound = far_given acc p r.link.far sound.far_sound;
        pdcp_sound = given_sound acc got ran p r.link.pdcp sound.pdcp_sound;
        acknowledged = λ x e. sound.acknowledged x (sym (given_acknowledged acc n p sound.near_sound x) ∙ e);
        complete = sound.complete;
        seen = omega (arith, sound.seen, top_same);
        next = sound.next;
        forward = all_map (Data acc (near.top n)) (Data (acc ++ p ∷ []) (near.top (near.given p n))) r.forward kept_data sound.forward;
        most = sound.most;
        most_to = sound.most_to;
        acknowledged_to = λ x e. sound.acknowledged_to x (sym (given_acknowledged acc n p sound.near_sound x) ∙ e);
        back = sound.back;
      }
    where
      n : near.Near
      n = r.link.near

      top_same : near.top (near.given p r.link.near) ≡ near.top r.link.near
      top_same = given_top acc r.link.near p sound.near_sound

      kept_data : (w : Waiting) → Data acc (near.top r.link.near) w → Data (acc ++ p ∷ []) (near.top (near.given p r.link.near)) w
      kept_data w d =
          record {
            count = d.count;
            part = d.part;
            pdu_is = d.pdu_is;
            true_part =
                subst (λ bytes. PartOf bytes d.count d.part)
                (sym (sdu_given acc p d.count (omega (arith, d.begun, sound.near_sound.begun, sound.near_sound.next)))) d.true_part;
            readable = d.readable;
            begun = omega (arith, d.begun, top_same);
            young = omega (arith, d.young, top_same);
            recent = d.recent;
          }

  -- spending a grant at the near end --------------------------------------------------------------------------------------

  pub sent : (s : Settings) (g : ℕ) (run : near.Run) → 5 ≤ g → near.served r.link.near g ≡ Some run → (forward : List Waiting)
      → Puts (Some (encode (amd (near.amd_of_run s run r.link.near)))) r.forward forward
      → LinkSound acc got ran (state (link.with_near r.link (near.spent s run r.link.near)) forward r.back)
  sent s g run big served forward puts =
      record {
        near_sound = after.sound;
        far_sound = sound.far_sound;
        pdcp_sound = sound.pdcp_sound;
        acknowledged = λ x e. sound.acknowledged x (sym (after.same_acknowledged x) ∙ e);
        complete = sound.complete;
        seen = omega (arith, sound.seen, after.top_grows);
        next = sound.next;
        forward = put_all (Data acc (near.top n)) (Data acc (near.top (near.spent s run n))) older (encode (amd (near.amd_of_run s run n))) r.forward forward sound.forward new puts;
        most = sound.most;
        most_to = sound.most_to;
        acknowledged_to = λ x e. sound.acknowledged_to x (sym (after.same_acknowledged x) ∙ e);
        back = sound.back;
      }
    where
      n : near.Near
      n = r.link.near

      after : SpentKept s acc r.link.near g run
      after = near_spent s acc r.link.near g run sound.near_sound big served

      older : (w : Waiting) → suc w.age < 64 → Data acc (near.top r.link.near) w → Data acc (near.top (near.spent s run r.link.near)) (record { pdu = w.pdu; age = suc w.age })
      older w recent d =
          record {
            count = d.count;
            part = d.part;
            pdu_is = d.pdu_is;
            true_part = d.true_part;
            readable = d.readable;
            begun = omega (arith, d.begun, (near_spent s acc r.link.near g run sound.near_sound big served).top_grows);
            young = omega (arith, d.young, (near_spent s acc r.link.near g run sound.near_sound big served).top_by_one);
            recent = recent;
          }

      new : Data acc (near.top (near.spent s run r.link.near)) (record { pdu = encode (amd (near.amd_of_run s run r.link.near)); age = 0 })
      new =
          let k = near_spent s acc r.link.near g run sound.near_sound big served in
          record {
            count = run.count;
            part = near.amd_of_run s run r.link.near;
            pdu_is = refl;
            true_part = k.part;
            readable = run_readable s acc run r.link.near k.part (sdu_short acc run.count sound.near_sound.packets (omega (arith, k.high, sound.near_sound.next)));
            begun = k.begun;
            young = omega (arith, k.sound.begun, k.sound.window, k.same_first, k.low);
            recent = omega arith;
          }

  -- spending a grant at the far end -----------------------------------------------------------------------------------------

  pub reported : (s : Settings) (g : ℕ) → (back : List Waiting)
      → Puts (Some (encode (report_pdu (far.report r.link.far g)))) r.back back
      → LinkSound acc got ran (state (link.with_far r.link (far.reported s r.link.far)) r.forward back)
  reported s g back puts =
      record {
        near_sound = sound.near_sound;
        far_sound = far_reported s acc r.link.far sound.far_sound;
        pdcp_sound = sound.pdcp_sound;
        acknowledged = sound.acknowledged;
        complete = sound.complete;
        seen = sound.seen;
        next = sound.next;
        forward = sound.forward;
        most = max sound.most (far.report r.link.far g).ack;
        most_to = omega (arith, sound.most_to, right.ack_to, sound.far_sound.status_to);
        acknowledged_to = λ x e. omega (arith, sound.acknowledged_to x e);
        back =
            put_all (Told r.link.far sound.most) (Told (far.reported s r.link.far) (max sound.most (far.report r.link.far g).ack)) older
            (encode (report_pdu (far.report r.link.far g))) r.back back sound.back new puts;
      }
    where
      right : Reports r.link.far r.link.far.rx_next r.link.far.rx_highest_status (g - 3) (far.report r.link.far g)
      right = report_right acc r.link.far g sound.near_sound.packets sound.far_sound

      -- no report is more than a window ahead of what was acknowledged
      close : (far.report r.link.far g).ack ≤ sound.most + 16
      close =
          omega (arith, (report_right acc r.link.far g sound.near_sound.packets sound.far_sound).ack_to, sound.far_sound.status_to, sound.seen, sound.near_sound.begun, sound.near_sound.window, ack_most sound)

      older : (w : Waiting) → suc w.age < 64 → Told r.link.far sound.most w
          → Told (far.reported s r.link.far) (max sound.most (far.report r.link.far g).ack) (record { pdu = w.pdu; age = suc w.age })
      older w recent t =
          record {
            ack = t.ack;
            entries = t.entries;
            pdu_is = t.pdu_is;
            fit = t.fit;
            readable = t.readable;
            ack_to = omega (arith, t.ack_to);
            young = omega (arith, t.young, close);
            recent = recent;
            true_report = t.true_report;
          }

      new : Told (far.reported s r.link.far) (max sound.most (far.report r.link.far g).ack) (record { pdu = encode (report_pdu (far.report r.link.far g)); age = 0 })
      new =
          record {
            ack = (far.report r.link.far g).ack;
            entries = (far.report r.link.far g).entries;
            pdu_is = refl;
            fit = (report_fits acc r.link.far g sound.near_sound.packets sound.far_sound).1;
            readable = entries_valid r.link.far.rx_next (far.report r.link.far g).ack 3 (far.report r.link.far g).entries (omega (arith, right.ack_to, sound.far_sound.status_to, sound.far_sound.window)) right.true_entries;
            ack_to = omega arith;
            young = omega (arith, right.ack_from, sound.most_to, sound.far_sound.window);
            recent = omega arith;
            true_report = λ x l unnamed. unnamed_complete acc r.link.far g x sound.near_sound.packets sound.far_sound l unnamed;
          }

  -- Ticks -----------------------------------------------------------------------------------------------------------

  pub ticked_near : (s : Settings) → LinkSound acc got ran (state (link.ticks s Near r.link) r.forward r.back)
  ticked_near s =
      record {
        near_sound = k.sound;
        far_sound = sound.far_sound;
        pdcp_sound = sound.pdcp_sound;
        acknowledged = λ x e. sound.acknowledged x (sym (k.same_acknowledged x) ∙ e);
        complete = sound.complete;
        seen = omega (arith, sound.seen, k.same_top);
        next = sound.next;
        forward = subst (λ top. AllByRecursion (Data acc top) r.forward) (sym k.same_top) sound.forward;
        most = sound.most;
        most_to = sound.most_to;
        acknowledged_to = λ x e. sound.acknowledged_to x (sym (k.same_acknowledged x) ∙ e);
        back = sound.back;
      }
    where
      k : TickedKept acc r.link.near (near.tick_near s r.link.near)
      k = near_ticked s acc r.link.near sound.near_sound

  -- what is told of SDUs that are as they were
  told_same : (most : ℕ) (f g : far.Far) → ((x : ℕ) → far.complete (f.sdu x) ≡ true → far.complete (g.sdu x) ≡ true) → (w : Waiting) → Told f most w → Told g most w
  told_same most f g stays w t =
      record {
        ack = t.ack;
        entries = t.entries;
        pdu_is = t.pdu_is;
        fit = t.fit;
        readable = t.readable;
        ack_to = t.ack_to;
        young = t.young;
        recent = t.recent;
        true_report = λ x l unnamed. stays x (t.true_report x l unnamed);
      }

  pub ticked_far : (s : Settings)
      → LinkSound acc got (ran || runs_out r.link.pdcp.t_reordering) (state (link.ticks s Far r.link) r.forward r.back)
  ticked_far s =
      record {
        near_sound = sound.near_sound;
        far_sound = k.0;
        pdcp_sound = ticked_sound acc got ran s r.link.pdcp sound.pdcp_sound;
        acknowledged = λ x e. ap far.complete (k.1.sdus_same x) ∙ sound.acknowledged x e;
        complete = λ x e. holds.0 x (sound.complete x (ap far.complete (sym (k.1.sdus_same x)) ∙ e));
        seen = omega (arith, sound.seen, k.1.highest_same);
        next = omega (arith, sound.next, k.1.highest_same, holds.1);
        forward = sound.forward;
        most = sound.most;
        most_to = omega (arith, sound.most_to, k.1.highest_same);
        acknowledged_to = sound.acknowledged_to;
        back =
            all_map (Told r.link.far sound.most) (Told (far.tick_far s r.link.far) sound.most) r.back
            (told_same sound.most r.link.far (far.tick_far s r.link.far) (λ x e. ap far.complete ((far_ticked s acc r.link.far sound.far_sound).1.sdus_same x) ∙ e)) sound.back;
      }
    where
      k : FarSound acc (far.tick_far s r.link.far) × SameSdus r.link.far (far.tick_far s r.link.far)
      k = far_ticked s acc r.link.far sound.far_sound

      holds : ((x : ℕ) → Held acc got ran r.link.pdcp x → Held acc got ran (pdcp.tick_pdcp s r.link.pdcp) x) × ((pdcp.tick_pdcp s r.link.pdcp).pdcp_rx_next ≡ r.link.pdcp.pdcp_rx_next)
      holds = ticked_keeps acc got ran s r.link.pdcp sound.pdcp_sound

  -- a status report arrives at the near end --------------------------------------------------------------------------------

  -- one that is not stale is read with the counts that it was written with
  pub acknowledged_by : (s : Settings) (w : Waiting) (t : Told r.link.far sound.most w)
      → ltb r.link.near.tx_next (near.tx_count r.link.near (t.ack % 4096)) ≡ false
      → LinkSound acc got ran
      (state (link.with_near r.link (near.reported s (near.tx_count r.link.near (t.ack % 4096)) t.entries r.link.near)) r.forward r.back)
  acknowledged_by s w t fresh =
      subst (λ a. LinkSound acc got ran (state (link.with_near r.link (near.reported s a t.entries r.link.near)) r.forward r.back)) (sym as_written)
      (record {
        near_sound = k.sound;
        far_sound = sound.far_sound;
        pdcp_sound = sound.pdcp_sound;
        acknowledged = λ x e. ⊎_elim (sound.acknowledged x) (λ new. newly x new e) (k.was_reported x e);
        complete = sound.complete;
        seen = omega (arith, sound.seen, k.same_top);
        next = sound.next;
        forward = subst (λ top. AllByRecursion (Data acc top) r.forward) (sym k.same_top) sound.forward;
        most = sound.most;
        most_to = sound.most_to;
        acknowledged_to = λ x e. ⊎_elim (sound.acknowledged_to x) (λ new. omega (arith, new.0, t.ack_to)) (k.was_reported x e);
        back = sound.back;
      })
    where
      n : near.Near
      n = r.link.near

      -- a report from before the window would be read far beyond TX_Next
      not_late : r.link.near.tx_next_ack ≤ t.ack
      not_late =
          ⊎_elim
          (λ late.
          let read = read_behind r.link.near.tx_next_ack t.ack late (omega (arith, ack_most sound, t.young, t.recent)) in
          absurd (omega (arith, ltb-false _ _ fresh, read, ack_most sound, t.young, t.recent, sound.near_sound.window)))
          (λ h. h) (cases_lt t.ack r.link.near.tx_next_ack)

      inside : t.ack ≤ r.link.near.tx_next
      inside = omega (arith, t.ack_to, sound.most_to, sound.seen, sound.near_sound.begun)

      as_written : near.tx_count r.link.near (t.ack % 4096) ≡ t.ack
      as_written = read_ahead r.link.near.tx_next_ack t.ack not_late (omega (arith, inside, sound.near_sound.window))

      k : ReportedKept s acc r.link.near t.ack t.entries
      k = near_reported s acc r.link.near t.ack t.entries sound.near_sound inside

      -- what it acknowledges it does not name, and an entry with the number of x would name x
      newly : (x : ℕ) → (x < t.ack) × (near.named r.link.near t.entries x ≡ false)
          → ((near.reported s t.ack t.entries r.link.near).sdu x).acknowledged ≡ true → far.complete (r.link.far.sdu x) ≡ true
      newly x new e =
          ⊎_elim (λ below. sound.acknowledged x (ap (λ sdu. sdu.acknowledged) (sound.near_sound.below x below)))
          (λ from.
          let begun = k.sound.acknowledged x e in
          let count = read_ahead r.link.near.tx_next_ack x from (omega (arith, begun, k.same_top, sound.near_sound.begun, sound.near_sound.window)) in
          t.true_report x new.0 (λ names. both_ways _ new.1 (named_in r.link.near t.entries x count names)))
          (cases_lt x r.link.near.tx_next_ack)

  pub read_near : (s : Settings) (buffer : Bytes) (w : Waiting) → Told r.link.far sound.most w
      → LinkSound acc got ran (state (link.reads s Near w.pdu buffer r.link).link r.forward r.back)
  read_near s buffer w t =
      subst (λ a. LinkSound acc got ran (state (link.reads_near s a buffer r.link).link r.forward r.back)) (sym read)
      (by_fault (pdu_fault (status (t.ack % 4096) t.entries)))
    where
      read : decode Near w.pdu ≡ unless (pdu_fault (status (t.ack % 4096) t.entries)) (Ok (status (t.ack % 4096) t.entries))
      read = ap (decode Near) t.pdu_is ∙ written_reads_back (status (t.ack % 4096) t.entries) (omega arith, t.fit)

      by_stale : (old : Bool) → ltb r.link.near.tx_next (near.tx_count r.link.near (t.ack % 4096)) ≡ old
          → LinkSound acc got ran
          (state
          (cond old (link.answering r.link (link.arrived link.stale_report (link.number_due r.link)) buffer)
          (link.answering (link.with_near r.link (near.reported s (near.tx_count r.link.near (t.ack % 4096)) t.entries r.link.near)) (link.arrived link.taken (link.number_due r.link)) buffer)
          ).link
          r.forward r.back)
      by_stale true e = sound
      by_stale false e = acknowledged_by s w t e

      by_fault : (fault : Option Fault) → LinkSound acc got ran (state (link.reads_near s (unless fault (Ok (status (t.ack % 4096) t.entries))) buffer r.link).link r.forward r.back)
      by_fault (Some fault) = sound
      by_fault None = by_stale (ltb r.link.near.tx_next (near.tx_count r.link.near (t.ack % 4096))) refl

  -- data arrives at the far end ---------------------------------------------------------------------------------------

  -- RLC takes the PDU, and PDCP what is complete then
  taken_in : (s : Settings) (x : ℕ) (a : Amd) (p : pdcp.Pdcp) → Taken acc x a r.link.far (far.taken s x a r.link.far) → x < near.top r.link.near
      → PdcpSound acc got ran p → ((k : ℕ) → Held acc got ran r.link.pdcp k → Held acc got ran p k)
      → p.pdcp_rx_next ≤ max r.link.pdcp.pdcp_rx_next (x + 1) → (far.complete (far.received a (r.link.far.sdu x)) ≡ true → Held acc got ran p x)
      → LinkSound acc got ran (state (record { near = r.link.near; far = far.taken s x a r.link.far; pdcp = p }) r.forward r.back)
  taken_in s x a p k begun p_sound keeps next held =
      record {
        near_sound = sound.near_sound;
        far_sound = k.sound;
        pdcp_sound = p_sound;
        acknowledged = λ y e. k.completes y (sound.acknowledged y e);
        complete = λ y e. ⊎_elim (λ old. keeps y (sound.complete y old)) (λ new. subst (Held acc got ran p) (sym new.0) (held new.1)) (k.no_other y e);
        seen = omega (arith, sound.seen, k.highest_is, begun);
        next = omega (arith, next, sound.next, k.highest_is);
        forward = sound.forward;
        most = sound.most;
        most_to = omega (arith, sound.most_to, k.highest_is);
        acknowledged_to = sound.acknowledged_to;
        back = all_map (Told r.link.far sound.most) (Told (far.taken s x a r.link.far) sound.most) r.back (told_same sound.most r.link.far (far.taken s x a r.link.far) k.completes) sound.back;
      }

  received_in : (s : Settings) (buffer : Bytes) (x : ℕ) (a : Amd) → Taken acc x a r.link.far (far.taken s x a r.link.far) → x < near.top r.link.near
      → near.top r.link.near ≤ x + 79 → LinkSound acc got ran (state (link.takes_in s x a buffer r.link).link r.forward r.back)
  received_in s buffer x a k begun young = go (far.complete (far.received a (r.link.far.sdu x))) refl
    where
      handed : Handed acc got ran s x r.link.pdcp
      handed =
          handed_sound acc got ran s x r.link.pdcp sound.near_sound.packets sound.pdcp_sound
          (omega (arith, begun, sound.near_sound.begun, sound.near_sound.next)) (omega (arith, begun, top_window sound, next_behind sound))
          (omega (arith, young, sound.pdcp_sound.deliv_to, sound.next, sound.seen))

      go : (whole : Bool) → far.complete (far.received a (r.link.far.sdu x)) ≡ whole
          → LinkSound acc got ran
          (state
          (cond whole
          (link.hands_up (pdcp.handed_up s (far.sdu_bytes (far.received a (r.link.far.sdu x))) r.link.pdcp) buffer (link.with_far r.link (far.taken s x a r.link.far)))
          (link.answering (link.with_far r.link (far.taken s x a r.link.far)) (link.arrived link.kept 0) buffer)
          ).link
          r.forward r.back)
      go true e =
          subst (λ a'. LinkSound acc got ran (state (link.hands_up a' buffer (link.with_far r.link (far.taken s x a r.link.far))).link r.forward r.back))
          (sym (ap (λ bytes. pdcp.handed_up s bytes r.link.pdcp) (k.completed e).1 ∙ handed.answer))
          (taken_in s x a handed.after k begun handed.sound handed.keeps handed.next (λ c. handed.held))
      go false e = taken_in s x a r.link.pdcp k begun sound.pdcp_sound (λ y h. h) (omega arith) (λ c. absurd (both_ways _ e c))

  discarded_in : (a : Amd) → LinkSound acc got ran (state (link.with_far r.link (far.discarded a r.link.far)) r.forward r.back)
  discarded_in a =
      record {
        near_sound = sound.near_sound;
        far_sound = far_discarded acc r.link.far a sound.far_sound;
        pdcp_sound = sound.pdcp_sound;
        acknowledged = sound.acknowledged;
        complete = sound.complete;
        seen = sound.seen;
        next = sound.next;
        forward = sound.forward;
        most = sound.most;
        most_to = sound.most_to;
        acknowledged_to = sound.acknowledged_to;
        back = all_map (Told r.link.far sound.most) (Told (far.discarded a r.link.far) sound.most) r.back (told_same sound.most r.link.far (far.discarded a r.link.far) (λ x e. e)) sound.back;
      }

  -- the far end reads the PDU as it was written, and what it does with it
  pub data_read : (w : Waiting) (d : Data acc (near.top r.link.near) w) → decode Far w.pdu ≡ unless (pdu_fault (amd d.part)) (Ok (amd d.part))
  data_read w d =
      ap (decode Far) d.pdu_is
      ∙ written_reads_back (amd d.part)
      (omega (arith, d.true_part.number), so_fits d.part.segment (omega (arith, d.true_part.inside, sdu_short acc d.count sound.near_sound.packets small)))
    where
      small : d.count < length acc
      small = omega (arith, d.begun, sound.near_sound.begun, sound.near_sound.next)

      so_fits : (segment : Segment) → far.offset segment + length d.part.payload ≤ 502 → SegmentFits segment
      so_fits whole h = tt
      so_fits first h = tt
      so_fits (middle so) h = omega (arith, h)
      so_fits (last so) h = omega (arith, h)

  pub data_arrives : (s : Settings) (w : Waiting) (d : Data acc (near.top r.link.near) w)
      → let x = far.rx_count r.link.far d.part.sn in
      (far.discards r.link.far x d.part ≡ true)
      ⊎ ((x ≡ d.count) × ((far.clashes (r.link.far.sdu x) d.part || leb near.packet_limit x) ≡ false)
      × Taken acc x d.part r.link.far (far.taken s x d.part r.link.far))
  data_arrives s w d =
      far_arrives s acc r.link.far d.count d.part sound.near_sound.packets sound.far_sound
      (omega (arith, d.begun, sound.near_sound.begun, sound.near_sound.next)) d.true_part
      (omega (arith, sound.far_sound.status_from, sound.far_sound.status_to, sound.seen, d.young, d.recent)) (omega (arith, d.begun, top_window sound))

  pub read_far : (s : Settings) (buffer : Bytes) (w : Waiting) → Data acc (near.top r.link.near) w
      → LinkSound acc got ran (state (link.reads s Far w.pdu buffer r.link).link r.forward r.back)
  read_far s buffer w d =
      subst (λ a. LinkSound acc got ran (state (link.reads_far s a buffer r.link).link r.forward r.back)) (sym (data_read w d)) (by_fault (pdu_fault (amd d.part)))
    where
      by_discard : (old : Bool) → far.discards r.link.far (far.rx_count r.link.far d.part.sn) d.part ≡ old
          → LinkSound acc got ran
          (state
          (cond old (link.answering (link.with_far r.link (far.discarded d.part r.link.far)) (link.arrived link.discarded 0) buffer)
          (cond (far.clashes (r.link.far.sdu (far.rx_count r.link.far d.part.sn)) d.part || leb near.packet_limit (far.rx_count r.link.far d.part.sn))
          (link.refusing r.link (at EndClash (link.so_place d.part.segment)) buffer)
          (link.takes_in s (far.rx_count r.link.far d.part.sn) d.part buffer r.link))
          ).link
          r.forward r.back)
      by_discard true e = discarded_in d.part
      by_discard false e =
          ⊎_elim (λ old. absurd (both_ways _ e old))
          (λ new.
          subst (λ (o : link.Outcome). LinkSound acc got ran (state o.link r.forward r.back)) (sym (cond-false _ _ _ new.1))
          (received_in s buffer (far.rx_count r.link.far d.part.sn) d.part new.2 (omega (arith, new.0, d.begun)) (omega (arith, new.0, d.young, d.recent))))
          (data_arrives s w d)

      by_fault : (fault : Option Fault) → LinkSound acc got ran (state (link.reads_far s (unless fault (Ok (amd d.part))) buffer r.link).link r.forward r.back)
      by_fault (Some fault) = sound
      by_fault None = by_discard (far.discards r.link.far (far.rx_count r.link.far d.part.sn) d.part) refl

  -- collecting --------------------------------------------------------------------------------------------------------

  pub collected_in : (s : pdcp.Stored) (rest : List pdcp.Stored) → r.link.pdcp.store ≡ s ∷ rest → s.count < r.link.pdcp.rx_deliv
      → LinkSound acc (got ++ s.packet ∷ []) ran (state (link.with_pdcp r.link (pdcp.collected r.link.pdcp rest)) r.forward r.back)
  collected_in s rest is due_now =
      record {
        near_sound = sound.near_sound;
        far_sound = sound.far_sound;
        pdcp_sound = collected_sound acc got ran r.link.pdcp s rest sound.pdcp_sound is due_now;
        acknowledged = sound.acknowledged;
        complete = λ x e. collected_keeps acc got (got ++ s.packet ∷ []) ran r.link.pdcp s rest is due_now x (sound.complete x e);
        seen = sound.seen;
        next = sound.next;
        forward = sound.forward;
        most = sound.most;
        most_to = sound.most_to;
        acknowledged_to = sound.acknowledged_to;
        back = sound.back;
      }
