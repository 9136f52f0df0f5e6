-- The invariant delivers.
use Rattle.std.proofs.Common.{◌≡◌, ℕ, suc, ◌+◌, ◌-◌, ◌<◌, ◌≤◌, true, false, eqb, List, [], ◌∷◌, ◌++◌, length, get_or, take, drop, sym, refl, ap, ◌∙◌, subst, inl, inr, ⊎_elim, arith}
use Rattle.protocol.proofs.Between.{LinkSound, link_new}
use Rattle.protocol.proofs.Delivered.{series_keeps}
use Rattle.protocol.proofs.Invariants.{packet, StoreSound}
use Rattle.protocol.proofs.PdcpKept.{Held, lowest_stored, other_stored}
use Rattle.protocol.proofs.Strikes.{within_none, within_longer}
use Rattle.protocol.specs.Airs.{Within, kept, struck}
use Rattle.protocol.specs.Bytes.{Bytes}
use Rattle.protocol.specs.Delivery.{accepted, collected, link_after, passed, InTime, Acknowledged, Delivers, Finished, Delivery}
use Rattle.protocol.specs.Reordering.{Stored, is_stored, due_of}
use Rattle.protocol.specs.Runs.{Event, new_state, Lawful, end_of, ran_out, packets, due_packets}
use Rattle.protocol.specs.Settings.{Settings}
use Rattle.std.proofs.lemmas.List.{append-nil, take_all, take-take, take-append-drop, drop-take, drop_more, length-take-le}
use Rattle.std.proofs.lemmas.Bool.{both_ways, cases_lt, cond-true, cond-false, lt-ltb, le-ltb, eqb-true, or_cases}

-- a stored COUNT has its packet
stored_packet : (acc : List Bytes) (low high : ℕ) (ss : List Stored) → StoreSound acc low high ss → (c : ℕ) → is_stored ss c ≡ true
    → Within (record { count = c; packet = packet acc c } ∷ []) ss
stored_packet acc low high [] sound c e = absurd (both_ways false refl e)
stored_packet acc low high (s ∷ ss) sound c e =
    ⊎_elim here (λ later. struck s (stored_packet acc (s.count + 1) high ss sound.3 c later)) (or_cases (eqb s.count c) (is_stored ss c) e)
  where
    here : eqb s.count c ≡ true → Within (record { count = c; packet = packet acc c } ∷ []) (s ∷ ss)
    here h =
        let same = eqb-true s.count c h in
        let it : ◌≡◌ {A = Stored} s (record { count = c; packet = packet acc c }) =
        ap (λ p. record { count = s.count; packet = p }) sound.2 ∙ ap (λ n. record { count = n; packet = packet acc n }) same in
        subst (λ x. Within (x ∷ []) (s ∷ ss)) it (kept s (within_none ss))

-- Where no COUNT from `low` below RX_DELIV is missing, what is due are the packets of these.
due_are : (acc : List Bytes) (low high deliv : ℕ) (ss : List Stored) → StoreSound acc low high ss → low ≤ deliv → deliv ≤ length acc
    → ((c : ℕ) → low ≤ c → c < deliv → is_stored ss c ≡ true) → packets (due_of deliv ss) ≡ take (deliv - low) (drop low acc)
due_are acc low high deliv [] sound from to all =
    ⊎_elim (λ lt. absurd (both_ways false refl (all low (omega arith) lt))) (λ ge. ap (λ n. take n (drop low acc)) (none ge)) (cases_lt low deliv)
  where
    none : deliv ≤ low → 0 ≡ deliv - low
    none ge = omega arith
due_are acc low high deliv (s ∷ ss) sound from to all =
    ⊎_elim (some (λ next le rest. due_are acc (low + 1) high deliv ss next le to rest)) none (cases_lt low deliv)
  where
    none : deliv ≤ low → packets (due_of deliv (s ∷ ss)) ≡ take (deliv - low) (drop low acc)
    none ge =
        let zero_left : 0 ≡ deliv - low = omega arith in
        ap packets (cond-false _ _ _ (le-ltb s.count deliv (omega (arith, ge, sound.0)))) ∙ ap (λ n. take n (drop low acc)) zero_left

    some : (StoreSound acc (low + 1) high ss → low + 1 ≤ deliv → ((c : ℕ) → low + 1 ≤ c → c < deliv → is_stored ss c ≡ true)
        → packets (due_of deliv ss) ≡ take (deliv - (low + 1)) (drop (low + 1) acc))
        → low < deliv → packets (due_of deliv (s ∷ ss)) ≡ take (deliv - low) (drop low acc)
    some again lt =
        let first : s.count ≡ low = omega (arith, sound.0, lowest_stored acc [] false low high s ss sound low (all low (omega arith) lt)) in
        let next : StoreSound acc (low + 1) high ss = subst (λ n. StoreSound acc (n + 1) high ss) first sound.3 in
        let rest = again next (omega arith) (λ c lo hi. other_stored acc [] false s ss c (omega (arith, first, lo)) (all c (omega arith) hi)) in
        let count : deliv - low ≡ suc (deliv - (low + 1)) = omega arith in
        let here : s.packet ≡ get_or acc low [] = sound.2 ∙ ap (packet acc) first in
        ap packets (cond-true _ _ _ (lt-ltb s.count deliv (omega (arith, first, lt))))
        ∙ ap (λ x. x ∷ packets (due_of deliv ss)) here ∙ ap (λ xs. get_or acc low [] ∷ xs) rest
        ∙ sym (ap (λ n. take n (drop low acc)) count ∙ ap (take (suc (deliv - (low + 1)))) (drop_more acc low [] (omega arith)))

-- one series --------------------------------------------------------------------------------------------------------

module _ (s : Settings) (es : List Event) (lawful : Lawful s new_state es) where
  sound : LinkSound (accepted s es) (collected s es) (ran_out s new_state es) (end_of s new_state es)
  sound = series_keeps s es [] [] false new_state link_new lawful

  deliv : ℕ
  deliv = (link_after s es).pdcp.rx_deliv

  deliv_to : (link_after s es).pdcp.rx_deliv ≤ length (accepted s es)
  deliv_to = omega (arith, sound.pdcp_sound.deliv_to, sound.pdcp_sound.next_to)

  -- collected and due together are the packets below RX_DELIV
  passed_are : InTime s es → passed s es ≡ take (link_after s es).pdcp.rx_deliv (accepted s es)
  passed_are in-time =
      let p = sound.pdcp_sound in
      let all = p.low in
      let d = (link_after s es).pdcp.rx_deliv in
      let due = due_are (accepted s es) p.low (link_after s es).pdcp.pdcp_rx_next d (link_after s es).pdcp.store p.store p.low_to deliv_to (p.no_gap in-time) in
      let count : p.low + (d - p.low) ≡ d = omega (arith, p.low_to) in
      ap (λ xs. xs ++ due_packets (link_after s es)) (p.first_ones in-time) ∙ ap (λ ys. take p.low (accepted s es) ++ ys) due
      ∙ ap (λ front. front ++ take (d - p.low) (drop p.low (accepted s es))) (sym (take-take p.low d (accepted s es) p.low_to))
      ∙ ap (λ back. take p.low (take d (accepted s es)) ++ back) (sym (drop-take p.low (d - p.low) (accepted s es)) ∙ ap (λ n. drop p.low (take n (accepted s es))) count)
      ∙ take-append-drop p.low (take d (accepted s es))

  passed_length : InTime s es → length (passed s es) ≡ (link_after s es).pdcp.rx_deliv
  passed_length in-time = ap length (passed_are in-time) ∙ length-take-le (link_after s es).pdcp.rx_deliv (accepted s es) deliv_to

  held : (c : ℕ) → Acknowledged (link_after s es) c → Held (accepted s es) (collected s es) (ran_out s new_state es) (link_after s es).pdcp c
  held c e = sound.complete c (sound.acknowledged c e)

  delivers : Delivers s es
  delivers =
      record {
        in_order =
            subst (Within (collected s es)) (take_all (length (accepted s es)) (accepted s es) (omega arith))
            (within_longer (collected s es) (accepted s es) sound.pdcp_sound.low (length (accepted s es)) (omega (arith, sound.pdcp_sound.low_to, deliv_to)) sound.pdcp_sound.in_order);
        first_ones = λ in-time. passed_are in-time ∙ ap (λ n. take n (accepted s es)) (sym (passed_length in-time));
        none_lost = λ in-time c small acked.
            ⊎_elim (λ below. inl (omega (arith, below, passed_length in-time)))
            (λ stored. inr (stored_packet (accepted s es) sound.pdcp_sound.low (link_after s es).pdcp.pdcp_rx_next (link_after s es).pdcp.store sound.pdcp_sound.store c stored))
            (held c acked);
      }

  -- a series that finished collected all that it accepted
  finished : InTime s es → Finished s es → collected s es ≡ accepted s es
  finished in-time done_all =
      sym (append-nil (collected s es)) ∙ ap (λ ds. collected s es ++ ds) (sym done_all.1) ∙ passed_are in-time
      ∙ take_all (link_after s es).pdcp.rx_deliv (accepted s es) all_below
    where
      not_held : Held (accepted s es) (collected s es) (ran_out s new_state es) (link_after s es).pdcp (link_after s es).pdcp.rx_deliv → ⊥
      not_held (inl h) = omega (arith, h)
      not_held (inr h) = both_ways _ sound.pdcp_sound.awaited h

      all_below : length (accepted s es) ≤ (link_after s es).pdcp.rx_deliv
      all_below =
          ⊎_elim (λ lt. absurd (not_held (held (link_after s es).pdcp.rx_deliv (done_all.0 (link_after s es).pdcp.rx_deliv lt)))) (λ ge. ge)
          (cases_lt (link_after s es).pdcp.rx_deliv (length (accepted s es)))

pub delivery : Delivery
delivery = (
  delivers,
  λ s es t fs lawful lawful' same in-time in-time' done_all done_all'.
      (finished s es lawful in-time done_all, finished t fs lawful' in-time' done_all' ∙ sym same),
)
