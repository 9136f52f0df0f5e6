-- PDCP at the far end keeps its invariant: packets are stored under the COUNT that they were accepted under, and
-- collected in its order.
use Rattle.std.proofs.Common.{◌≡◌, ℕ, ◌+◌, ◌-◌, ◌%◌, ◌<◌, ◌≤◌, max, Bool, true, false, cond, not, ◌&&◌, ◌||◌, eqb, ltb, leb, ◌⊎◌, List, [], ◌∷◌, ◌++◌, length, take, Some, Ok, Result, sym, refl, ap, ◌∙◌, subst, inl, inr, ⊎_elim, arith, length-append}
use Rattle.protocol.proofs.Counts.{one_pdcp_count}
use Rattle.protocol.proofs.Formats.{pdcp_round_trip}
use Rattle.protocol.proofs.Invariants.{Packets, packet, sdu, StoreSound, PdcpSound}
use Rattle.protocol.proofs.Seeks.{seek_from, seek_to, seek_found, seek_before}
use Rattle.protocol.proofs.Strikes.{within_append, within_longer}
use Rattle.protocol.specs.Airs.{Within, done}
use Rattle.protocol.specs.Bytes.{Bytes}
use Rattle.protocol.specs.Numbers.{pdcp_count}
use Rattle.protocol.specs.Reading.{decode_pdcp}
use Rattle.protocol.specs.declared.faults.Fault.{Fault}
use Rattle.protocol.specs.Reordering.{Stored, Pdcp, new_pdcp, is_stored, insert, unstored_from, reordering, storing, delivering, accepted, counted, numbered, handed_up, collected, tick_pdcp}
use Rattle.protocol.specs.Searching.{seek}
use Rattle.protocol.specs.Settings.{Settings}
use Rattle.protocol.specs.Timers.{Timer, stopped, running, endless, started, runs, runs_out, ticked}
use Rattle.std.proofs.lemmas.List.{take_more, take-append-le, get_or_append_left}
use Rattle.std.proofs.lemmas.Bool.{both_ways, cases_lt, cases_Bool, cond-true, cond-false, eq-eqb, eqb-true, eqb-false, ltb-true, ltb-false, leb-false, lt-leb, or_left, or_right, or_parts, or_cases, or_from, not-true, not-false}

-- the store ---------------------------------------------------------------------------------------------------------

-- stored counts lie between the bounds
pub stored_from : (acc : List Bytes) (low high : ℕ) (ss : List Stored) → StoreSound acc low high ss → (c : ℕ) → is_stored ss c ≡ true → (low ≤ c) × (c < high)
stored_from acc low high [] sound c e = absurd (both_ways false refl e)
stored_from acc low high (s ∷ ss) sound c e =
    ⊎_elim (λ h. let same = eqb-true s.count c h in (omega (arith, sound.0), omega (arith, sound.1)))
    (λ h. let rest = stored_from acc (s.count + 1) high ss sound.3 c h in (omega (arith, sound.0, rest.0), rest.1))
    (or_cases (eqb s.count c) (is_stored ss c) e)

-- a wider range serves
store_wider : (acc : List Bytes) (low high low' high' : ℕ) (ss : List Stored) → StoreSound acc low high ss → low' ≤ low → high ≤ high' → StoreSound acc low' high' ss
store_wider acc low high low' high' [] sound l h = tt
store_wider acc low high low' high' (s ∷ ss) sound l h =
    (omega (arith, sound.0), omega (arith, sound.1), sound.2, store_wider acc (s.count + 1) high (s.count + 1) high' ss sound.3 (omega arith) h)

insert_sound : (acc : List Bytes) (low high : ℕ) (ss : List Stored) (c : ℕ) → StoreSound acc low high ss → is_stored ss c ≡ false → low ≤ c → c < high
    → StoreSound acc low high (insert (record { count = c; packet = packet acc c }) ss)
insert_sound acc low high [] c sound new l h = (l, h, refl, tt)
insert_sound acc low high (s ∷ ss) c sound new l h =
    go (ltb c s.count) refl
    (λ after. insert_sound acc (s.count + 1) high ss c sound.3 (or_parts (eqb s.count c) (is_stored ss c) new).1 after h)
  where
    go : (before : Bool) → ltb c s.count ≡ before
        → (s.count + 1 ≤ c → StoreSound acc (s.count + 1) high (insert (record { count = c; packet = packet acc c }) ss))
        → StoreSound acc low high
        (cond before (record { count = c; packet = packet acc c } ∷ s ∷ ss) (s ∷ insert (record { count = c; packet = packet acc c }) ss))
    go true e behind =
        let lt = ltb-true c s.count e in
        (l, h, refl, (omega arith, sound.1, sound.2, sound.3))
    go false e behind =
        let ge = ltb-false c s.count e in
        let other = eqb-false s.count c (or_parts (eqb s.count c) (is_stored ss c) new).0 in
        (sound.0, sound.1, sound.2, behind (omega (arith, ge, other)))

pub insert_stored : (new : Stored) (ss : List Stored) (c : ℕ) → is_stored (insert new ss) c ≡ (eqb new.count c || is_stored ss c)
insert_stored new [] c = refl
insert_stored new (s ∷ ss) c = go (ltb new.count s.count) (insert_stored new ss c)
  where
    swapped : (x y z : Bool) → (x || (y || z)) ≡ (y || (x || z))
    swapped true true z = refl
    swapped true false z = refl
    swapped false true z = refl
    swapped false false z = refl

    go : (before : Bool) → is_stored (insert new ss) c ≡ (eqb new.count c || is_stored ss c)
        → is_stored (cond before (new ∷ s ∷ ss) (s ∷ insert new ss)) c ≡ (eqb new.count c || (eqb s.count c || is_stored ss c))
    go true e = refl
    go false e = ap (λ b. eqb s.count c || b) e ∙ swapped (eqb s.count c) (eqb new.count c) (is_stored ss c)

-- the first COUNT from c on that is not stored
next_missing : (acc : List Bytes) (low high : ℕ) (ss : List Stored) (c : ℕ) → StoreSound acc low high ss → c ≤ high
    → let r = seek (λ k. not (is_stored ss k)) (high - c) c in
    (c ≤ r) × (r ≤ high) × (is_stored ss r ≡ false) × ((k : ℕ) → c ≤ k → k < r → is_stored ss k ≡ true)
next_missing acc low high ss c sound le =
    (from, to, ⊎_elim found past (cases_lt r high), λ k lo hi. not-false (is_stored ss k) (seek_before missing (high - c) c k lo hi))
  where
    missing : ℕ → Bool
    missing k = not (is_stored ss k)

    r : ℕ
    r = seek (λ k. not (is_stored ss k)) (high - c) c

    from : c ≤ seek (λ k. not (is_stored ss k)) (high - c) c
    from = seek_from (λ k. not (is_stored ss k)) (high - c) c

    to : seek (λ k. not (is_stored ss k)) (high - c) c ≤ high
    to = omega (arith, seek_to (λ k. not (is_stored ss k)) (high - c) c)

    found : seek (λ k. not (is_stored ss k)) (high - c) c < high → is_stored ss (seek (λ k. not (is_stored ss k)) (high - c) c) ≡ false
    found h = not-true _ (seek_found (λ k. not (is_stored ss k)) (high - c) c (omega arith))

    past : high ≤ seek (λ k. not (is_stored ss k)) (high - c) c → is_stored ss (seek (λ k. not (is_stored ss k)) (high - c) c) ≡ false
    past h = ⊎_elim (λ e. let inside = stored_from acc low high ss sound _ e in absurd (omega (arith, inside.1, h))) (λ e. e) (cases_Bool (is_stored ss (seek (λ k. not (is_stored ss k)) (high - c) c)))

-- PDCP's variables ------------------------------------------------------------------------------------------------------

module _ (acc got : List Bytes) (ran : Bool) where
  reordering_sound : (s : Settings) (p : Pdcp) → PdcpSound acc got ran p → PdcpSound acc got ran (reordering s p)
  reordering_sound s p sound = go (not (runs p.t_reordering) && ltb p.rx_deliv p.pdcp_rx_next)
    where
      go : (b : Bool)
          → PdcpSound acc got ran
          (cond b
          (record { rx_deliv = p.rx_deliv; pdcp_rx_next = p.pdcp_rx_next; rx_reord = p.pdcp_rx_next; store = p.store; t_reordering = started s.t_reordering })
          p)
      go true =
          record {
            low = sound.low;
            low_to = sound.low_to;
            deliv_to = sound.deliv_to;
            next_to = sound.next_to;
            store = sound.store;
            awaited = sound.awaited;
            reorder = λ on. (sound.deliv_to, omega arith);
            in_order = sound.in_order;
            first_ones = sound.first_ones;
            no_gap = sound.no_gap;
          }
      go false = sound

  -- RX_DELIV moved to a COUNT that is missing, with none missing in between
  delivering_sound : (p : Pdcp) (deliv low : ℕ) → low ≤ deliv → deliv ≤ p.pdcp_rx_next → p.pdcp_rx_next ≤ length acc
      → StoreSound acc low p.pdcp_rx_next p.store → is_stored p.store deliv ≡ false
      → (runs p.t_reordering ≡ true → p.rx_reord ≤ p.pdcp_rx_next) → Within got (take low acc) → (ran ≡ false → got ≡ take low acc)
      → (ran ≡ false → (c : ℕ) → low ≤ c → c < deliv → is_stored p.store c ≡ true)
      → PdcpSound acc got ran (delivering deliv p)
  delivering_sound p deliv low lowto to next store awaited reord order firsts gaps =
      record {
        low = low;
        low_to = lowto;
        deliv_to = to;
        next_to = next;
        store = store;
        awaited = awaited;
        reorder = on (leb p.rx_reord deliv) refl;
        in_order = order;
        first_ones = firsts;
        no_gap = gaps;
      }
    where
      on : (b : Bool) → leb p.rx_reord deliv ≡ b → runs (cond b stopped p.t_reordering) ≡ true → (deliv ≤ p.rx_reord) × (p.rx_reord ≤ p.pdcp_rx_next)
      on true e r = absurd (both_ways false refl r)
      on false e r = (omega (arith, leb-false p.rx_reord deliv e), reord r)

  -- a COUNT is held once its packet was handed up: it is below RX_DELIV, or stored
  abbrev pub Held : Pdcp → ℕ → Type 0
  Held p c = (c < p.rx_deliv) ⊎ (is_stored p.store c ≡ true)

  accepted_sound : (s : Settings) (p : Pdcp) (c : ℕ) → PdcpSound acc got ran p → c < length acc → p.rx_deliv ≤ c → is_stored p.store c ≡ false
      → PdcpSound acc got ran (accepted s c (packet acc c) p)
  accepted_sound s p c sound small from new = reordering_sound s _ (go (eqb c p.rx_deliv) refl)
    where
      wide : StoreSound acc sound.low (max p.pdcp_rx_next (c + 1)) (insert (record { count = c; packet = packet acc c }) p.store)
      wide =
          insert_sound acc sound.low (max p.pdcp_rx_next (c + 1)) p.store c
          (store_wider acc sound.low p.pdcp_rx_next sound.low (max p.pdcp_rx_next (c + 1)) p.store sound.store (omega arith) (omega arith)) new
          (omega (arith, sound.low_to, from)) (omega arith)

      -- what was stored stays so
      stays : (k : ℕ) → is_stored p.store k ≡ true → is_stored (insert (record { count = c; packet = packet acc c }) p.store) k ≡ true
      stays k h = insert_stored (record { count = c; packet = packet acc c }) p.store k ∙ or_right (eqb c k) (is_stored p.store k) h

      go : (b : Bool) → eqb c p.rx_deliv ≡ b
          → PdcpSound acc got ran (delivering (cond b (unstored_from (storing c (packet acc c) p) c) p.rx_deliv) (storing c (packet acc c) p))
      go true e =
          let same = eqb-true c p.rx_deliv e in
          let next = next_missing acc sound.low (max p.pdcp_rx_next (c + 1)) (insert (record { count = c; packet = packet acc c }) p.store) c wide (omega arith) in
          delivering_sound (storing c (packet acc c) p) (unstored_from (storing c (packet acc c) p) c) sound.low
          (omega (arith, sound.low_to, from, next.0)) next.1 (omega (arith, sound.next_to, small)) wide next.2
          (λ on. omega (arith, (sound.reorder on).1)) sound.in_order sound.first_ones
          (λ still k lo hi.
          ⊎_elim (λ h. stays k (sound.no_gap still k lo (omega (arith, h, same)))) (λ h. next.3 k h hi) (cases_lt k c))
      go false e =
          let other = eqb-false c p.rx_deliv e in
          delivering_sound (storing c (packet acc c) p) p.rx_deliv sound.low sound.low_to (omega (arith, sound.deliv_to)) (omega (arith, sound.next_to, small)) wide
          (insert_stored (record { count = c; packet = packet acc c }) p.store p.rx_deliv ∙ or_from (eqb c p.rx_deliv) (is_stored p.store p.rx_deliv) e sound.awaited)
          (λ on. omega (arith, (sound.reorder on).1)) sound.in_order sound.first_ones (λ still k lo hi. stays k (sound.no_gap still k lo hi))

  -- what is held stays held, and a packet that was accepted is held
  abbrev pub HoldsOn : Pdcp → Pdcp → Type 0
  HoldsOn p q = (k : ℕ) → Held p k → Held q k

  reordering_keeps : (s : Settings) (p : Pdcp) → ((reordering s p).rx_deliv ≡ p.rx_deliv) × ((reordering s p).store ≡ p.store) × ((reordering s p).pdcp_rx_next ≡ p.pdcp_rx_next)
  reordering_keeps s p = go (not (runs p.t_reordering) && ltb p.rx_deliv p.pdcp_rx_next)
    where
      go : (b : Bool) → let q = cond b
          (record { rx_deliv = p.rx_deliv; pdcp_rx_next = p.pdcp_rx_next; rx_reord = p.pdcp_rx_next; store = p.store; t_reordering = started s.t_reordering })
          p in
          (q.rx_deliv ≡ p.rx_deliv) × (q.store ≡ p.store) × (q.pdcp_rx_next ≡ p.pdcp_rx_next)
      go true = (refl, refl, refl)
      go false = (refl, refl, refl)

  held_by : (p q : Pdcp) → q.rx_deliv ≡ p.rx_deliv → q.store ≡ p.store → HoldsOn p q
  held_by p q d st k (inl h) = inl (subst (λ n. k < n) (sym d) h)
  held_by p q d st k (inr h) = inr (ap (λ ss. is_stored ss k) st ∙ h)

  accepted_holds : (s : Settings) (p : Pdcp) (c : ℕ) → p.rx_deliv ≤ c → HoldsOn p (accepted s c (packet acc c) p) × Held (accepted s c (packet acc c) p) c
  accepted_holds s p c from = (
    λ k h. held_by moved (reordering s moved) (reordering_keeps s moved).0 (reordering_keeps s moved).1 k (on k h),
    held_by moved (reordering s moved) (reordering_keeps s moved).0 (reordering_keeps s moved).1 c (inr here),
  )
    where
      moved : Pdcp
      moved = delivering (cond (eqb c p.rx_deliv) (unstored_from (storing c (packet acc c) p) c) p.rx_deliv) (storing c (packet acc c) p)

      here : is_stored (insert (record { count = c; packet = packet acc c }) p.store) c ≡ true
      here = insert_stored (record { count = c; packet = packet acc c }) p.store c ∙ or_left (eqb c c) (is_stored p.store c) (eq-eqb c c refl)

      further : (b : Bool) → p.rx_deliv ≤ cond b (unstored_from (storing c (packet acc c) p) c) p.rx_deliv
      further true = omega (arith, from, seek_from (λ k. not (is_stored (insert (record { count = c; packet = packet acc c }) p.store) k)) (max p.pdcp_rx_next (c + 1) - c) c)
      further false = omega arith

      on : (k : ℕ) → Held p k → Held (delivering (cond (eqb c p.rx_deliv) (unstored_from (storing c (packet acc c) p) c) p.rx_deliv) (storing c (packet acc c) p)) k
      on k (inl h) = inl (omega (arith, h, further (eqb c p.rx_deliv)))
      on k (inr h) = inr (insert_stored (record { count = c; packet = packet acc c }) p.store k ∙ or_right (eqb c k) (is_stored p.store k) h)

  -- the lowest stored packet is due, and is collected
  pub lowest_stored : (low high : ℕ) (s : Stored) (ss : List Stored) → StoreSound acc low high (s ∷ ss) → (c : ℕ) → is_stored (s ∷ ss) c ≡ true → s.count ≤ c
  lowest_stored low high s ss sound c e =
      ⊎_elim (λ h. omega (arith, eqb-true s.count c h)) (λ h. omega (arith, (stored_from acc (s.count + 1) high ss sound.3 c h).0))
      (or_cases (eqb s.count c) (is_stored ss c) e)

  pub other_stored : (s : Stored) (ss : List Stored) (c : ℕ) → s.count < c → is_stored (s ∷ ss) c ≡ true → is_stored ss c ≡ true
  other_stored s ss c lt e =
      ⊎_elim (λ h. absurd (omega (arith, lt, eqb-true s.count c h))) (λ h. h) (or_cases (eqb s.count c) (is_stored ss c) e)

-- One more packet collected: the packet of COUNT c, the lowest that is stored.
module _ (acc got : List Bytes) (ran : Bool) (p : Pdcp) (s : Stored) (rest : List Stored) (sound : PdcpSound acc got ran p) where
  pub collected_sound : p.store ≡ s ∷ rest → s.count < p.rx_deliv → PdcpSound acc (got ++ s.packet ∷ []) ran (collected p rest)
  collected_sound is due_now =
      let store : StoreSound acc sound.low p.pdcp_rx_next (s ∷ rest) = subst (StoreSound acc sound.low p.pdcp_rx_next) is sound.store in
      let inside : s.count < length acc = omega (arith, sound.next_to, sound.deliv_to, due_now) in
      let one_more : take (s.count + 1) acc ≡ take s.count acc ++ s.packet ∷ [] =
      take_more acc s.count [] inside ∙ ap (λ x. take s.count acc ++ x ∷ []) (sym store.2) in
      record {
        low = s.count + 1;
        low_to = omega (arith, due_now);
        deliv_to = sound.deliv_to;
        next_to = sound.next_to;
        store = store.3;
        awaited =
            ⊎_elim (λ e. absurd (both_ways (is_stored p.store p.rx_deliv) sound.awaited (ap (λ ss. is_stored ss p.rx_deliv) is ∙ or_right (eqb s.count p.rx_deliv) (is_stored rest p.rx_deliv) e)))
            (λ e. e) (cases_Bool (is_stored rest p.rx_deliv));
        reorder = sound.reorder;
        in_order =
            subst (Within (got ++ s.packet ∷ [])) (sym one_more)
            (within_append (s.packet ∷ []) (within_longer got acc sound.low s.count store.0 sound.in_order));
        first_ones = λ still.
            let same : s.count ≡ sound.low = first_is still store in
            ap (λ front. front ++ s.packet ∷ []) (sound.first_ones still ∙ ap (λ n. take n acc) (sym same)) ∙ sym one_more;
        no_gap = λ still c lo hi.
            other_stored acc got ran s rest c (omega (arith, lo)) (ap (λ ss. is_stored ss c) (sym is) ∙ sound.no_gap still c (omega (arith, lo, store.0)) hi);
      }
    where
      -- nothing is missing below RX_DELIV, so the lowest stored COUNT is the first that was not collected
      first_is : ran ≡ false → StoreSound acc sound.low p.pdcp_rx_next (s ∷ rest) → s.count ≡ sound.low
      first_is still store =
          let here = sound.no_gap still sound.low (omega arith) (omega (arith, store.0, due_now)) in
          omega (arith, store.0, lowest_stored acc got ran sound.low p.pdcp_rx_next s rest store sound.low (ap (λ ss. is_stored ss sound.low) (sym is) ∙ here))

-- a Tick: t-Reordering may run out, and then packets may be given up
pub runs_before : (t : Timer) → runs_out t ≡ true → runs t ≡ true
runs_before stopped e = absurd (both_ways false refl e)
runs_before (running left) e = refl
runs_before endless e = absurd (both_ways false refl e)

ran_before : (t : Timer) → runs (ticked t) ≡ true → runs t ≡ true
ran_before stopped e = e
ran_before (running left) e = refl
ran_before endless e = refl

pub ticked_sound : (acc got : List Bytes) (ran : Bool) (s : Settings) (p : Pdcp) → PdcpSound acc got ran p
    → PdcpSound acc got (ran || runs_out p.t_reordering) (tick_pdcp s p)
ticked_sound acc got ran s p sound = go (runs_out p.t_reordering) refl
  where
    go : (out : Bool) → runs_out p.t_reordering ≡ out
        → PdcpSound acc got (ran || out)
        (cond out
        (reordering s (record { rx_deliv = unstored_from p p.rx_reord; pdcp_rx_next = p.pdcp_rx_next; rx_reord = p.rx_reord; store = p.store; t_reordering = stopped }))
        (record { rx_deliv = p.rx_deliv; pdcp_rx_next = p.pdcp_rx_next; rx_reord = p.rx_reord; store = p.store; t_reordering = ticked p.t_reordering }))
    go true e =
        let bounds = sound.reorder (runs_before p.t_reordering e) in
        let next = next_missing acc sound.low p.pdcp_rx_next p.store p.rx_reord sound.store bounds.1 in
        let over : (ran || true) ≡ true = or_right ran true refl in
        reordering_sound acc got (ran || true) s
        (record { rx_deliv = unstored_from p p.rx_reord; pdcp_rx_next = p.pdcp_rx_next; rx_reord = p.rx_reord; store = p.store; t_reordering = stopped })
        (record {
          low = sound.low;
          low_to = omega (arith, sound.low_to, bounds.0, next.0);
          deliv_to = next.1;
          next_to = sound.next_to;
          store = sound.store;
          awaited = next.2;
          reorder = λ on. absurd (both_ways false refl on);
          in_order = sound.in_order;
          first_ones = λ still. absurd (both_ways (ran || true) still over);
          no_gap = λ still. absurd (both_ways (ran || true) still over);
        })
    go false e =
        record {
          low = sound.low;
          low_to = sound.low_to;
          deliv_to = sound.deliv_to;
          next_to = sound.next_to;
          store = sound.store;
          awaited = sound.awaited;
          reorder = λ on. sound.reorder (ran_before p.t_reordering on);
          in_order = sound.in_order;
          first_ones = λ still. sound.first_ones (or_parts ran false still).0;
          no_gap = λ still. sound.no_gap (or_parts ran false still).0;
        }

-- packets accepted later change nothing that is stored or was collected
packet_earlier : (acc : List Bytes) (q : Bytes) (c : ℕ) → c < length acc → packet acc c ≡ packet (acc ++ q ∷ []) c
packet_earlier acc q c h = sym (get_or_append_left acc (q ∷ []) [] c h)

store_given : (acc : List Bytes) (q : Bytes) (low high : ℕ) (ss : List Stored) → high ≤ length acc → StoreSound acc low high ss → StoreSound (acc ++ q ∷ []) low high ss
store_given acc q low high [] h sound = tt
store_given acc q low high (s ∷ ss) h sound =
    (sound.0, sound.1, sound.2 ∙ packet_earlier acc q s.count (omega (arith, sound.1, h)), store_given acc q (s.count + 1) high ss h sound.3)

pub given_sound : (acc got : List Bytes) (ran : Bool) (q : Bytes) (p : Pdcp) → PdcpSound acc got ran p → PdcpSound (acc ++ q ∷ []) got ran p
given_sound acc got ran q p sound =
    let front : take sound.low (acc ++ q ∷ []) ≡ take sound.low acc =
    take-append-le sound.low acc (q ∷ []) (omega (arith, sound.low_to, sound.deliv_to, sound.next_to)) in
    record {
      low = sound.low;
      low_to = sound.low_to;
      deliv_to = sound.deliv_to;
      next_to = omega (arith, sound.next_to, length-append acc (q ∷ []));
      store = store_given acc q sound.low p.pdcp_rx_next p.store sound.next_to sound.store;
      awaited = sound.awaited;
      reorder = sound.reorder;
      in_order = subst (Within got) (sym front) sound.in_order;
      first_ones = λ still. sound.first_ones still ∙ sym front;
      no_gap = sound.no_gap;
    }

pub new_sound : PdcpSound [] [] false new_pdcp
new_sound =
    record {
      low = 0;
      low_to = omega arith;
      deliv_to = omega arith;
      next_to = omega arith;
      store = tt;
      awaited = refl;
      reorder = λ on. absurd (both_ways false refl on);
      in_order = done;
      first_ones = λ still. refl;
      no_gap = λ still c lo hi. absurd (omega (arith, hi));
    }

-- an SDU handed up: the one of a COUNT that is at most 15 ahead of RX_DELIV and not far behind is not refused
pub record Handed (acc got : List Bytes) (ran : Bool) (s : Settings) (c : ℕ) (p : Pdcp) : Type 0 where
  pub after : Pdcp
  pub answer : handed_up s (sdu acc c) p ≡ Ok after
  pub sound : PdcpSound acc got ran after
  pub keeps : (k : ℕ) → Held acc got ran p k → Held acc got ran after k
  pub held : Held acc got ran after c
  pub next : after.pdcp_rx_next ≤ max p.pdcp_rx_next (c + 1)

pub handed_sound : (acc got : List Bytes) (ran : Bool) (s : Settings) (c : ℕ) (p : Pdcp) → Packets acc → PdcpSound acc got ran p
    → c < length acc → c < p.rx_deliv + 16 → p.rx_deliv ≤ c + 2048 → Handed acc got ran s c p
handed_sound acc got ran s c p packets sound small near_front near_back =
    go (ltb c p.rx_deliv || is_stored p.store c) refl
  where
    read : decode_pdcp (sdu acc c) ≡ Ok (c % 4096, packet acc c)
    read = pdcp_round_trip.0 (c % 4096) (packet acc c) (omega arith) (packets.short c small).0

    count : pdcp_count 4096 2048 p.rx_deliv (c % 4096) ≡ Some c
    count = (one_pdcp_count 2048 p.rx_deliv (c % 4096) c (omega arith)).1 (refl, near_back, omega (arith, near_front))

    in_range : (leb (p.rx_deliv + 16) c || leb 1000000 c) ≡ false
    in_range = or_from (leb (p.rx_deliv + 16) c) (leb 1000000 c) (lt-leb (p.rx_deliv + 16) c near_front) (lt-leb 1000000 c (omega (arith, small, packets.few)))

    outcome : handed_up s (sdu acc c) p ≡ Ok (cond (ltb c p.rx_deliv || is_stored p.store c) p (accepted s c (packet acc c) p))
    outcome = ap (λ r. numbered s r p) read ∙ ap (λ o. counted s o (packet acc c) p) count ∙ cond-false _ _ _ in_range

    next_by : (accepted s c (packet acc c) p).pdcp_rx_next ≡ max p.pdcp_rx_next (c + 1)
    next_by =
        (reordering_keeps acc got ran s
        (delivering (cond (eqb c p.rx_deliv) (unstored_from (storing c (packet acc c) p) c) p.rx_deliv) (storing c (packet acc c) p))).2

    go : (b : Bool) → (ltb c p.rx_deliv || is_stored p.store c) ≡ b → Handed acc got ran s c p
    go true e =
        record {
          after = p;
          answer = outcome ∙ ap {B = Result Pdcp Fault} Ok (cond-true _ _ _ e);
          sound = sound;
          keeps = λ k h. h;
          held = ⊎_elim (λ h. inl (ltb-true c p.rx_deliv h)) inr (or_cases (ltb c p.rx_deliv) (is_stored p.store c) e);
          next = omega arith;
        }
    go false e =
        let from = ltb-false c p.rx_deliv (or_parts (ltb c p.rx_deliv) (is_stored p.store c) e).0 in
        let holds = accepted_holds acc got ran s p c from in
        record {
          after = accepted s c (packet acc c) p;
          answer = outcome ∙ ap {B = Result Pdcp Fault} Ok (cond-false _ _ _ e);
          sound = accepted_sound acc got ran s p c sound small from (or_parts (ltb c p.rx_deliv) (is_stored p.store c) e).1;
          keeps = holds.0;
          held = holds.1;
          next = omega (arith, next_by);
        }

-- a Tick and a Collect let go of nothing that is held
pub ticked_keeps : (acc got : List Bytes) (ran : Bool) (s : Settings) (p : Pdcp) → PdcpSound acc got ran p
    → ((k : ℕ) → Held acc got ran p k → Held acc got ran (tick_pdcp s p) k) × ((tick_pdcp s p).pdcp_rx_next ≡ p.pdcp_rx_next)
ticked_keeps acc got ran s p sound = go (runs_out p.t_reordering) refl
  where
    moved : Pdcp
    moved = record { rx_deliv = unstored_from p p.rx_reord; pdcp_rx_next = p.pdcp_rx_next; rx_reord = p.rx_reord; store = p.store; t_reordering = stopped }

    go : (out : Bool) → runs_out p.t_reordering ≡ out
        → let q = cond out
        (reordering s (record { rx_deliv = unstored_from p p.rx_reord; pdcp_rx_next = p.pdcp_rx_next; rx_reord = p.rx_reord; store = p.store; t_reordering = stopped }))
        (record { rx_deliv = p.rx_deliv; pdcp_rx_next = p.pdcp_rx_next; rx_reord = p.rx_reord; store = p.store; t_reordering = ticked p.t_reordering }) in
        ((k : ℕ) → Held acc got ran p k → Held acc got ran q k) × (q.pdcp_rx_next ≡ p.pdcp_rx_next)
    go true e =
        let same = reordering_keeps acc got ran s moved in
        let bounds = sound.reorder (runs_before p.t_reordering e) in
        let further = seek_from (λ c. not (is_stored p.store c)) (p.pdcp_rx_next - p.rx_reord) p.rx_reord in (
          λ k h. held_by acc got ran moved (reordering s moved) same.0 same.1 k (⊎_elim (λ l. inl (omega (arith, l, bounds.0, further))) inr h),
          same.2,
        )
    go false e = (λ k h. h, refl)

pub collected_keeps : (acc got got' : List Bytes) (ran : Bool) (p : Pdcp) (s : Stored) (rest : List Stored) → p.store ≡ s ∷ rest → s.count < p.rx_deliv
    → (k : ℕ) → Held acc got ran p k → Held acc got' ran (collected p rest) k
collected_keeps acc got got' ran p s rest is due_now k (inl h) = inl h
collected_keeps acc got got' ran p s rest is due_now k (inr h) =
    ⊎_elim (λ e. inl (omega (arith, due_now, eqb-true s.count k e))) inr
    (or_cases (eqb s.count k) (is_stored rest k) (ap (λ ss. is_stored ss k) (sym is) ∙ h))
