-- A status report of a sound far end: what is not complete below its ACK count is named, and it is read as it was made.
use Rattle.std.proofs.Common.{◌≡◌, ℕ, zero, suc, ◌+◌, ◌-◌, ◌%◌, ◌<◌, ◌≤◌, Bool, true, false, cond, not, ◌&&◌, eqb, ltb, leb, ◌⊎◌, List, [], ◌∷◌, ◌++◌, length, is_some, Some, None, Ok, Option, sym, refl, ap, ◌∙◌, subst, inl, inr, ⊎_elim, mod-lt, arith, length-append}
use Rattle.protocol.specs.Bytes.{Bytes}
use Rattle.protocol.specs.Laws.{MissingFits, EntriesFit, Fits}
use Rattle.protocol.specs.Numbers.{sn_modulus, ahead}
use Rattle.protocol.specs.Pdus.{every, Entry, Pdu, status, encode, encode_entry, encode_entries, encode_status, more}
use Rattle.protocol.specs.Reading.{in_order, valid, decode}
use Rattle.protocol.specs.Receiving as far
use Rattle.protocol.specs.Refusals.{unless}
use Rattle.protocol.specs.Sending as near
use Rattle.protocol.specs.Writing.{entries_fault, pdu_fault}
use Rattle.protocol.specs.declared.faults.End.TheVariants.{Near}
use Rattle.protocol.proofs.FarKept.{sdu_short}
use Rattle.protocol.proofs.Formats.{written_reads_back}
use Rattle.protocol.proofs.Invariants.{Packets, sdu, PartialSound, FarSound}
use Rattle.protocol.proofs.Seeks.{seek_from, seek_to, seek_found}
use Rattle.std.proofs.ByRecursion.{All-append, All-weaker}
use Rattle.std.proofs.lemmas.Bool.{both_ways, cases_eq, cases_lt, cond-true, cond_both, eq-eqb, le-leb, leb-true, ltb-true, ltb-false, not-true, and_from, or_left, or_right}
use Rattle.std.specs.List.{AllByRecursion}

-- some entry names count y
abbrev pub Names : ℕ → List Entry → Type 0
Names y [] = ⊥
Names y (e ∷ es) = (e.nack_sn ≡ y % sn_modulus) ⊎ Names y es

-- an entry of count y that can be written and is read back
pub record EntryOf (y : ℕ) (e : Entry) : Type 0 where
  pub number : e.nack_sn ≡ y % sn_modulus
  pub fits : MissingFits e.missing
  pub ordered : in_order e.missing ≡ true

names_left : (y : ℕ) (es fs : List Entry) → Names y es → Names y (es ++ fs)
names_left y [] fs n = absurd n
names_left y (e ∷ es) fs (inl here) = inl here
names_left y (e ∷ es) fs (inr there) = inr (names_left y es fs there)

names_right : (y : ℕ) (es fs : List Entry) → Names y fs → Names y (es ++ fs)
names_right y [] fs n = n
names_right y (e ∷ es) fs n = inr (names_right y es fs n)

-- one SDU ------------------------------------------------------------------------------------------------------------

pub limit_is : (p : far.Partial) (o : Option ℕ) → p.known_end ≡ o → far.limit p ≡ far.limit (record { held = p.held; known_end = o })
limit_is p o e = ap (λ k. far.limit (record { held = p.held; known_end = k })) e

module _ (p : far.Partial) (x : ℕ) (small : far.limit p < 65536) where
  -- a gap has a first byte, and ends after it
  gap_right : (i : ℕ) → far.missing_from p (far.limit p - i) i < far.limit p
      → EntryOf x (far.gap_entry x (far.missing_from p (far.limit p - i) i) (far.gap_end p (far.gap_stop p i)))
  gap_right i l = record { number = refl; fits = (omega (arith, l, small), ends.0); ordered = le-leb _ _ ends.1 }
    where
      m : ℕ
      m = far.missing_from p (far.limit p - i) i

      stop : ℕ
      stop = far.gap_stop p i

      missing : far.holds p m ≡ false
      missing =
          not-true _ (seek_found (λ j. not (far.holds p j)) (far.limit p - i) i (omega (arith, l, seek_from (λ j. not (far.holds p j)) (far.limit p - i) i)))

      longer : m < stop
      longer = ⊎_elim (λ h. h) (λ h. absurd (empty h)) (cases_lt m stop)
        where
          empty : stop ≤ m → ⊥
          empty h =
              let same : stop ≡ m = omega (arith, h, seek_from (far.holds p) (far.limit p - m) m) in
              let found : far.holds p stop ≡ true = seek_found (far.holds p) (far.limit p - m) m (omega (arith, h, l)) in
              both_ways _ missing (sym (ap (far.holds p) same) ∙ found)

      inside : stop ≤ far.limit p
      inside = omega (arith, l, seek_to (far.holds p) (far.limit p - m) m)

      ends : (far.gap_end p stop < 65536) × (m ≤ far.gap_end p stop)
      ends =
          cond_both (eqb stop (far.limit p) && not (is_some p.known_end)) 65535 (stop - 1) (λ z. (z < 65536) × (m ≤ z))
          (λ e. (omega arith, omega (arith, l, small))) (λ e. (omega (arith, inside, small), omega (arith, longer)))

  gaps_right : (fuel i : ℕ) → AllByRecursion (EntryOf x) (far.gaps p x fuel i)
  gaps_right zero i = tt
  gaps_right (suc fuel) i = go _ refl (gaps_right fuel (far.gap_stop p i))
    where
      go : (b : Bool) → ltb (far.missing_from p (far.limit p - i) i) (far.limit p) ≡ b
          → AllByRecursion (EntryOf x) (far.gaps p x fuel (far.gap_stop p i))
          → AllByRecursion (EntryOf x)
          (cond b
          (far.gap_entry x (far.missing_from p (far.limit p - i) i) (far.gap_end p (far.gap_stop p i))
          ∷ cond (eqb (far.gap_stop p i) (far.limit p)) [] (far.gaps p x fuel (far.gap_stop p i)))
          (cond (is_some p.known_end) [] (far.gap_entry x (far.limit p) far.to_the_end ∷ [])))
      go true e rest = (
        gap_right i (ltb-true _ _ e),
        cond_both (eqb (far.gap_stop p i) (far.limit p)) [] (far.gaps p x fuel (far.gap_stop p i)) (AllByRecursion (EntryOf x)) (λ s. tt) (λ s. rest),
      )
      go false e rest =
          cond_both (is_some p.known_end) [] (far.gap_entry x (far.limit p) far.to_the_end ∷ []) (AllByRecursion (EntryOf x)) (λ s. tt)
          (λ s. (record { number = refl; fits = (small, omega arith); ordered = le-leb _ _ (omega (arith, small)) }, tt))

  sdu_entries_right : AllByRecursion (EntryOf x) (far.sdu_entries x p)
  sdu_entries_right =
      cond_both (eqb (far.held_from p 502 0) 502) (record { nack_sn = x % sn_modulus; missing = every } ∷ []) (far.gaps p x 502 0)
      (AllByRecursion (EntryOf x)) (λ e. (record { number = refl; fits = tt; ordered = refl }, tt)) (λ e. gaps_right 502 0)

-- an SDU that is not complete has a gap, or an end that is not known
gaps_name : (p : far.Partial) (x fuel : ℕ) → far.complete p ≡ false → Names x (far.gaps p x (suc fuel) 0)
gaps_name p x fuel c = go _ refl
  where
    all_held : (n : ℕ) → p.known_end ≡ Some n → far.limit p ≤ far.missing_from p (far.limit p - 0) 0 → ⊥
    all_held n e h =
        let limit : far.limit p ≡ n = limit_is p (Some n) e in
        let reached : n ≤ far.missing_from p n 0 =
        subst (λ k. k ≤ far.missing_from p k 0) limit (subst (λ k. far.limit p ≤ far.missing_from p k 0) (omega arith) h) in
        let whole : far.complete p ≡ true = ap (far.complete_to p) e ∙ eq-eqb _ n (omega (arith, reached, seek_to (λ j. not (far.holds p j)) n 0)) in
        both_ways _ c whole

    by_end : (o : Option ℕ) → p.known_end ≡ o → far.limit p ≤ far.missing_from p (far.limit p - 0) 0
        → Names x (cond (is_some o) [] (far.gap_entry x (far.limit p) far.to_the_end ∷ []))
    by_end None e h = inl refl
    by_end (Some n) e h = absurd (all_held n e h)

    go : (b : Bool) → ltb (far.missing_from p (far.limit p - 0) 0) (far.limit p) ≡ b
        → Names x
        (cond b
        (far.gap_entry x (far.missing_from p (far.limit p - 0) 0) (far.gap_end p (far.gap_stop p 0))
        ∷ cond (eqb (far.gap_stop p 0) (far.limit p)) [] (far.gaps p x fuel (far.gap_stop p 0)))
        (cond (is_some p.known_end) [] (far.gap_entry x (far.limit p) far.to_the_end ∷ [])))
    go true e = inl refl
    go false e = by_end p.known_end refl (ltb-false _ _ e)

sdu_entries_name : (p : far.Partial) (x : ℕ) → far.complete p ≡ false → Names x (far.sdu_entries x p)
sdu_entries_name p x c =
    cond_both (eqb (far.held_from p 502 0) 502) (record { nack_sn = x % sn_modulus; missing = every } ∷ []) (far.gaps p x 502 0)
    (Names x) (λ e. inl refl) (λ e. gaps_name p x 501 c)

-- a report -------------------------------------------------------------------------------------------------------------

-- an entry of some count from `low` to below `high`
pub record EntryBetween (low high : ℕ) (e : Entry) : Type 0 where
  pub count : ℕ
  pub from : low ≤ count
  pub to : count < high
  pub entry : EntryOf count e

-- A report on the counts from `low` on, `high` at most, in this room. What is not complete below its ACK count is named.
pub record Reports (f : far.Far) (low high room : ℕ) (r : far.Report) : Type 0 where
  pub ack_from : low ≤ r.ack
  pub ack_to : r.ack ≤ high
  pub in_room : far.entries_length r.entries ≤ room
  pub true_entries : AllByRecursion (EntryBetween low r.ack) r.entries
  pub named : (y : ℕ) → low ≤ y → y < r.ack → far.complete (f.sdu y) ≡ false → Names y r.entries

entries_length-append : (es fs : List Entry) → far.entries_length (es ++ fs) ≡ far.entries_length es + far.entries_length fs
entries_length-append [] fs = omega arith
entries_length-append (e ∷ es) fs = omega (arith, entries_length-append es fs)

-- seen from one count earlier
lower : (low high : ℕ) (es : List Entry) → AllByRecursion (EntryBetween (suc low) high) es → AllByRecursion (EntryBetween low high) es
lower low high =
    All-weaker (EntryBetween (suc low) high) (EntryBetween low high)
    (λ e b. record { count = b.count; from = omega (arith, b.from); to = b.to; entry = b.entry })

pub report_from_right : (f : far.Far) (fuel x room : ℕ) → ((y : ℕ) → x ≤ y → y < x + fuel → far.limit (f.sdu y) < 65536)
    → Reports f x (x + fuel) room (far.report_from f fuel x room)
report_from_right f zero x room small =
    record {
      ack_from = omega arith;
      ack_to = omega arith;
      in_room = omega arith;
      true_entries = tt;
      named = λ y lo hi c. absurd (omega (arith, lo, hi));
    }
report_from_right f (suc fuel) x room small =
    go (far.complete (f.sdu x)) refl (leb (far.entries_length own) room) refl (λ room'. report_from_right f fuel (suc x) room' (λ y lo hi. small y (omega (arith, lo)) (omega (arith, hi))))
  where
    own : List Entry
    own = far.sdu_entries x (f.sdu x)

    left : ℕ
    left = room - far.entries_length own

    go : (done : Bool) → far.complete (f.sdu x) ≡ done → (room_left : Bool) → leb (far.entries_length own) room ≡ room_left
        → ((room' : ℕ) → Reports f (suc x) (suc x + fuel) room' (far.report_from f fuel (suc x) room'))
        → Reports f x (x + suc fuel) room
        (cond done (far.report_from f fuel (suc x) room)
        (cond room_left (far.behind own (far.report_from f fuel (suc x) left)) (record { ack = x; entries = [] })))
    go true c room_left e again =
        let r = again room in
        record {
          ack_from = omega (arith, r.ack_from);
          ack_to = omega (arith, r.ack_to);
          in_room = r.in_room;
          true_entries = lower x _ _ r.true_entries;
          named = λ y lo hi o. ⊎_elim (λ s. absurd (both_ways _ o (ap (λ z. far.complete (f.sdu z)) s ∙ c)))
              (λ d. r.named y (omega (arith, lo, d)) hi o) (cases_eq y x);
        }
    go false c true e again =
        let r = again left in
        let rest = far.report_from f fuel (suc x) left in
        let room_is : far.entries_length own ≤ room = leb-true _ _ e in
        record {
          ack_from = omega (arith, r.ack_from);
          ack_to = omega (arith, r.ack_to);
          in_room = omega (arith, r.in_room, entries_length-append own rest.entries, room_is);
          true_entries =
              All-append (EntryBetween x rest.ack) own rest.entries
              (All-weaker (EntryOf x) (EntryBetween x rest.ack)
              (λ k b. record { count = x; from = omega arith; to = omega (arith, r.ack_from); entry = b }) own
              (sdu_entries_right (f.sdu x) x (small x (omega arith) (omega arith))))
              (lower x rest.ack rest.entries r.true_entries);
          named = λ y lo hi o.
              ⊎_elim (λ s. subst (λ z. Names z (own ++ rest.entries)) (sym s) (names_left x own rest.entries (sdu_entries_name (f.sdu x) x c)))
              (λ d. names_right y own rest.entries (r.named y (omega (arith, lo, d)) hi o)) (cases_eq y x);
        }
    go false c false e again =
        record {
          ack_from = omega arith;
          ack_to = omega arith;
          in_room = omega arith;
          true_entries = tt;
          named = λ y lo hi o. absurd (omega (arith, lo, hi));
        }

limit_small : (bytes : Bytes) (p : far.Partial) → length bytes ≤ 502 → PartialSound bytes p → far.limit p < 65536
limit_small bytes p short sound = go p.known_end refl
  where
    go : (o : Option ℕ) → p.known_end ≡ o → far.limit p < 65536
    go None e = omega (arith, limit_is p None e)
    go (Some n) e = omega (arith, limit_is p (Some n) e, sound.end n e, short)

pub report_right : (acc : List Bytes) (f : far.Far) (grant : ℕ) → Packets acc → FarSound acc f
    → Reports f f.rx_next f.rx_highest_status (grant - 3) (far.report f grant)
report_right acc f grant packets h =
    subst (λ high. Reports f f.rx_next high (grant - 3) (far.report f grant)) (omega (arith, h.status_from))
    (report_from_right f (f.rx_highest_status - f.rx_next) f.rx_next (grant - 3)
    (λ y lo hi.
    let seen : y < f.rx_next_highest = omega (arith, hi, h.status_from, h.status_to) in
    limit_small (sdu acc y) (f.sdu y) (sdu_short acc y packets (omega (arith, seen, h.seen))) (h.true_sdus y lo seen)))

-- below the ACK count, what no entry names is complete
pub unnamed_complete : (acc : List Bytes) (f : far.Far) (grant y : ℕ) → Packets acc → FarSound acc f → y < (far.report f grant).ack
    → (Names y (far.report f grant).entries → ⊥) → far.complete (f.sdu y) ≡ true
unnamed_complete acc f grant y packets h l unnamed = ⊎_elim below (λ lo. inside lo _ refl) (cases_lt y f.rx_next)
  where
    below : y < f.rx_next → far.complete (f.sdu y) ≡ true
    below lo = ap far.complete (h.below y lo)

    inside : f.rx_next ≤ y → (b : Bool) → far.complete (f.sdu y) ≡ b → far.complete (f.sdu y) ≡ true
    inside lo true e = e
    inside lo false e = absurd (unnamed ((report_right acc f grant packets h).named y lo l e))

-- a near end in whose window count y lies finds it named
pub named_in : (n : near.Near) (es : List Entry) (y : ℕ) → near.tx_count n (y % sn_modulus) ≡ y → Names y es → near.named n es y ≡ true
named_in n [] y count names = absurd names
named_in n (e ∷ es) y count (inl here) = or_left _ _ (eq-eqb _ y (ap (near.tx_count n) here ∙ count))
named_in n (e ∷ es) y count (inr there) = or_right _ _ (named_in n es y count there)

-- as bytes -----------------------------------------------------------------------------------------------------------

pub entries_bytes : (es : List Entry) → length (encode_entries es) ≡ far.entries_length es
entries_bytes [] = refl
entries_bytes (e ∷ es) = omega (arith, length-append (encode_entry (more es) e) (encode_entries es), entries_bytes es)

pub report_length : (acc : List Bytes) (f : far.Far) (grant : ℕ) → Packets acc → FarSound acc f → 5 ≤ grant
    → length (encode_status ((far.report f grant).ack % sn_modulus) (far.report f grant).entries) ≤ grant
report_length acc f grant packets h g =
    omega (arith, entries_bytes (far.report f grant).entries, (report_right acc f grant packets h).in_room)

-- the PDU of a report
abbrev pub report_pdu : far.Report → Pdu
report_pdu r = status (r.ack % sn_modulus) r.entries

pub entries_fit : (low high : ℕ) (es : List Entry) → AllByRecursion (EntryBetween low high) es → EntriesFit es
entries_fit low high [] all = tt
entries_fit low high (e ∷ es) all =
    (omega (arith, all.0.entry.number, mod-lt all.0.count {m = sn_modulus} (omega arith)), all.0.entry.fits, entries_fit low high es all.1)

pub report_fits : (acc : List Bytes) (f : far.Far) (grant : ℕ) → Packets acc → FarSound acc f → Fits (report_pdu (far.report f grant))
report_fits acc f grant packets h =
    (mod-lt (far.report f grant).ack {m = sn_modulus} (omega arith), entries_fit _ _ _ (report_right acc f grant packets h).true_entries)

-- numbers of counts that lie close are as far apart as the counts
ahead_by : (y ack : ℕ) → y < ack → ack ≤ y + 16 → ahead sn_modulus (y % sn_modulus) (ack % sn_modulus) ≡ ack - y
ahead_by y ack l h = omega (arith, l, h)

pub entries_valid : (low high place : ℕ) (es : List Entry) → high ≤ low + 16 → AllByRecursion (EntryBetween low high) es
    → entries_fault (high % sn_modulus) place es ≡ None
entries_valid low high place [] w all = refl
entries_valid low high place (e ∷ es) w all =
    let here = all.0 in
    let far_by : ahead sn_modulus e.nack_sn (high % sn_modulus) ≡ high - here.count =
    ap (λ n. ahead sn_modulus n (high % sn_modulus)) here.entry.number ∙ ahead_by here.count high here.to (omega (arith, here.from, w)) in
    let some : 1 ≤ ahead sn_modulus e.nack_sn (high % sn_modulus) = omega (arith, far_by, here.to) in
    let near_by : ahead sn_modulus e.nack_sn (high % sn_modulus) ≤ 2048 = omega (arith, far_by, here.from, w) in
    let ok : valid (high % sn_modulus) e ≡ true = and_from _ _ (and_from _ _ (le-leb 1 _ some) (le-leb _ 2048 near_by)) here.entry.ordered in
    cond-true _ _ _ ok ∙ entries_valid low high (place + length (encode_entry true e)) es w all.1

-- the near end reads the report that was made
pub report_reads : (acc : List Bytes) (f : far.Far) (grant : ℕ) → Packets acc → FarSound acc f
    → decode Near (encode (report_pdu (far.report f grant))) ≡ Ok (report_pdu (far.report f grant))
report_reads acc f grant packets h =
    let r = report_right acc f grant packets h in
    let no_fault : pdu_fault (report_pdu (far.report f grant)) ≡ None =
    entries_valid f.rx_next (far.report f grant).ack 3 (far.report f grant).entries
    (omega (arith, r.ack_to, h.status_to, h.window)) r.true_entries in
    written_reads_back (report_pdu (far.report f grant)) (report_fits acc f grant packets h)
    ∙ ap (λ o. unless o (Ok (report_pdu (far.report f grant)))) no_fault
