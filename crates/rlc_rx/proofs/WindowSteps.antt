-- The steps of the far end on its window.
use Rattle.std.proofs.Common.{◌≡◌, ℕ, ◌+◌, ◌-◌, ◌%◌, ◌≤◌, max, Bool, false, cond, not, ◌&&◌, ◌||◌, ltb, ◌≢◌, List, set, sym, ap, ◌∙◌, subst, arith}
use Rattle.protocol.specs.Pdus.{Amd}
use Rattle.protocol.specs.Receiving as far
use Rattle.protocol.specs.Rings.{in_ring}
use Rattle.protocol.specs.Searching.{seek, update}
use Rattle.protocol.specs.Timers.{Timer, stopped}
use Rattle.protocol.proofs.Seeks.{update_same, update_other}
use Rattle.rlc_rx.specs.Rings.{sdus_in, polls_in, far_in, Cleared}
use Rattle.rlc_rx.specs.Slots.{partial_of, partials, polls}
use Rattle.rlc_rx.specs.Windows.{sdus_of, far_with, window_of, Takes, stored, Waits, IsInWindow, IsSeen, MovesPast}
use Rattle.rlc_rx.specs.declared.windows.Window.{Window}
use Rattle.rlc_rx.proofs.Moves.{open_from, open_low, open_high, open_open, past, past_from, past_to, past_ordered, past_open, sdus_raised, sdus_same, polls_found}
use Rattle.rlc_rx.proofs.Places.{window_seen, window_unseen, window_now, seen_was, polls_answered}
use Rattle.std.proofs.lemmas.List.{length-map}
use Rattle.wire.specs.Counts.{count_of}

abbrev pub next : Window → ℕ
next w = count_of w.rx_next

abbrev pub high : Window → ℕ
high w = count_of w.rx_next_highest

abbrev pub status : Window → ℕ
status w = count_of w.rx_highest_status

abbrev pub trigger : Window → ℕ
trigger w = count_of w.rx_next_status_trigger

abbrev polls_of : Window → ℕ → Bool
polls_of w = polls_in (next w) (high w) (polls w.slots)

-- the counts as the code has them
cleared_at : {A : Type 0} (none : A) (high seen x n to : ℕ) (ring ring' : List A) → seen ≡ high → n ≡ x → to ≡ max seen (n + 1)
    → Cleared none seen to ring ring' → Cleared none high (max high (x + 1)) ring ring'
cleared_at none high seen x n to ring ring' h c t m =
    subst (λ z. Cleared none high z ring ring') (t ∙ ap (λ z. max z (n + 1)) h ∙ ap (λ z. max high (z + 1)) c) (subst (λ z. Cleared none z to ring ring') h m)

-- the data of a count is kept ---------------------------------------------------------------------------------------------

module _ (w : Window) (x : ℕ) (i : IsInWindow w x) (seen n to : ℕ) (seen_is : seen ≡ high w) (n_is : n ≡ x) (to_is : to ≡ max seen (n + 1))
    (sdus : List far.Partial) (sdus_cleared : Cleared far.nothing_held seen to (partials w.slots) sdus) where
  sdus_clear : Cleared far.nothing_held (high w) (max (high w) (x + 1)) (partials w.slots) sdus
  sdus_clear = cleared_at far.nothing_held (high w) seen x n to (partials w.slots) sdus seen_is n_is to_is sdus_cleared

  -- what the count had
  pub had : in_ring sdus n far.nothing_held ≡ sdus_of w x
  had =
      ap (λ z. in_ring sdus z far.nothing_held) n_is
      ∙ seen_was far.complete_sdu far.nothing_held (next w) (next w) (high w) x (partials w.slots) sdus (length-map w.slots partial_of ∙ w.places) (omega arith) w.window i.from i.to
      sdus_clear i.from

  module _ (flags : List Bool) (flags_cleared : Cleared false seen to (polls w.slots) flags) (w' : Window) (next_is : next w' ≡ next w) (high_is : high w' ≡ max (high w) (x + 1))
      (status_is : status w' ≡ status w) (trigger_is : trigger w' ≡ trigger w) (a : Amd)
      (sdus_are : partials w'.slots ≡ set sdus (n % 16) (far.received a (in_ring sdus n far.nothing_held)))
      (flags_are : polls w'.slots ≡ set flags (n % 16) (in_ring flags n false || a.poll)) where
    polled : in_ring flags n false ≡ polls_of w x
    polled =
        ap (λ z. in_ring flags z false) n_is
        ∙ seen_was false false (next w) (next w) (high w) x (polls w.slots) flags (length-map w.slots (λ s. s.poll) ∙ w.places) (omega arith) w.window i.from i.to
        (cleared_at false (high w) seen x n to (polls w.slots) flags seen_is n_is to_is flags_cleared) i.from

    sdus_kept : sdus_of w' ≡ update (sdus_of w) x (far.received a (sdus_of w x))
    sdus_kept =
        ap (λ z. sdus_in z (high w') (partials w'.slots)) next_is ∙ ap (λ z. sdus_in (next w) z (partials w'.slots)) high_is
        ∙ ap (sdus_in (next w) (max (high w) (x + 1))) (sdus_are ∙ ap (λ p. set sdus (n % 16) (far.received a p)) had ∙ ap (λ z. set sdus (z % 16) (far.received a (sdus_of w x))) n_is)
        ∙ window_now far.complete_sdu far.nothing_held (next w) (high w) x (partials w.slots) sdus (far.received a (sdus_of w x)) (length-map w.slots partial_of ∙ w.places) w.window i.from
        i.to sdus_clear

    polls_kept : polls_of w' ≡ update (polls_of w) x (polls_of w x || a.poll)
    polls_kept =
        ap (λ z. polls_in z (high w') (polls w'.slots)) next_is ∙ ap (λ z. polls_in (next w) z (polls w'.slots)) high_is
        ∙ ap (polls_in (next w) (max (high w) (x + 1))) (flags_are ∙ ap (λ p. set flags (n % 16) (p || a.poll)) polled ∙ ap (λ z. set flags (z % 16) (polls_of w x || a.poll)) n_is)
        ∙ window_now false false (next w) (high w) x (polls w.slots) flags (polls_of w x || a.poll) (length-map w.slots (λ s. s.poll) ∙ w.places) w.window i.from i.to
        (cleared_at false (high w) seen x n to (polls w.slots) flags seen_is n_is to_is flags_cleared)

    pub takes_kept : Takes (far.kept x a) w w'
    takes_kept =
        λ t r p k. record {
          rx_next = next_is k;
          rx_next_highest = high_is k;
          rx_highest_status = status_is k;
          rx_next_status_trigger = trigger_is k;
          sdu = sdus_kept k;
          poll = polls_kept k;
          t_reassembly = t;
          reporting = r;
          t_status_prohibit = p;
        }

-- what holds of the window once it has kept the data of a count
module _ (w w' : Window) (x : ℕ) (a : Amd) (i : IsInWindow w x) (k : Takes (far.kept x a) w w') where
  abbrev was : far.Far
  was = window_of w

  kept_is : window_of w' ≡ far.kept x a was
  kept_is = k stopped far.quiet stopped

  pub seen_kept : IsSeen w' x
  seen_kept = record { from = omega (arith, ap (λ f. f.rx_next) kept_is, i.from); to = omega (arith, ap (λ f. f.rx_next_highest) kept_is) }

  pub waits_kept : Waits w → status w' ≢ x → Waits w'
  waits_kept waits d =
      ap (λ f. far.complete (f.sdu f.rx_highest_status)) kept_is
      ∙ ap far.complete (update_other (sdus_of w) x (far.received a (sdus_of w x)) (status w) (λ e. d (ap (λ f. f.rx_highest_status) kept_is ∙ e))) ∙ waits

  -- the slots have the SDU as it was received
  pub stored_kept : stored w' x ≡ far.received a (sdus_of w x)
  stored_kept =
      sym (window_seen far.complete_sdu far.nothing_held (next w') (high w') (partials w'.slots) x seen_kept.from seen_kept.to) ∙ ap (λ f. f.sdu x) kept_is
      ∙ update_same (sdus_of w) x (far.received a (sdus_of w x))

-- the variables move past a count -----------------------------------------------------------------------------------------

module _ (w : Window) (x : ℕ) (seen : IsSeen w x) (waits : status w ≢ x → Waits w) where
  abbrev next' : ℕ
  next' = past (sdus_of w) (high w) x (next w)

  abbrev status' : ℕ
  status' = past (sdus_of w) (high w) x (status w)

  to : x ≤ high w
  to = omega (arith, seen.to)

  raised : next w ≤ next'
  raised = past_from (sdus_of w) (high w) x to (next w)

  ordered : next' ≤ status'
  ordered = past_ordered (sdus_of w) (high w) x to (next w) (status w) seen.from w.status_from waits

  top : status' ≤ high w
  top = past_to (sdus_of w) (high w) x to (status w) w.status_to

  pub record Moved (next'' status'' : ℕ) : Type 0 where
    pub status_from : next'' ≤ status''
    pub status_to : status'' ≤ high w
    pub window : high w ≤ next'' + 16

  pub moved_keeps : (next'' status'' : ℕ) → next'' ≡ next' → status'' ≡ status' → Moved next'' status''
  moved_keeps next'' status'' n s =
      record {
        status_from = omega (arith, n, s, ordered);
        status_to = omega (arith, s, top);
        window = omega (arith, n, raised, w.window);
      }

  module _ (w' : Window) (m : MovesPast x w w') where
    pub polls_from : next w ≤ status w'
    polls_from = omega (arith, m.status, raised, ordered)

    -- what the slots hold stays
    module _ (sdus : List far.Partial) (sdus_are : sdus ≡ partials w'.slots) where
      same : sdus ≡ partials w.slots
      same = sdus_are ∙ ap partials m.slots

      unseen : far.complete (sdus_of w (high w)) ≡ false
      unseen = ap far.complete (window_unseen far.complete_sdu far.nothing_held (next w) (high w) (partials w.slots) (high w) (omega (arith, seen.from, seen.to)) (omega arith))

      pub waits_moved : far.complete (sdus_in (next w') (high w') sdus (status w')) ≡ false
      waits_moved =
          ap (λ ps. far.complete (sdus_in (next w') (high w') ps (status w'))) same ∙ ap (λ z. far.complete (sdus_in z (high w') (partials w.slots) (status w'))) m.next
          ∙ ap (λ z. far.complete (sdus_in next' z (partials w.slots) (status w'))) m.highest ∙ ap (λ z. far.complete (sdus_in next' (high w) (partials w.slots) z)) m.status
          ∙ ap far.complete (sdus_same (next w) next' (high w) (partials w.slots) status' raised ordered) ∙ past_open (sdus_of w) (high w) x to (status w) unseen waits

      module _ (flags : List Bool) (answered : Bool) (low : ℕ) (low_is : low ≡ next w)
          (answered_is : answered ≡ ltb (seek (λ y. in_ring (polls w'.slots) y false) (status w' - low) low) (status w')) (cleared : Cleared false low (status w') (polls w'.slots) flags) where
        sdus_moved : sdus_in (next w') (high w') sdus ≡ (λ y. cond (ltb y next') far.complete_sdu (sdus_of w y))
        sdus_moved =
            ap (sdus_in (next w') (high w')) same ∙ ap (λ z. sdus_in z (high w') (partials w.slots)) m.next ∙ ap (λ z. sdus_in next' z (partials w.slots)) m.highest
            ∙ sym (sdus_raised (next w) next' (high w) (partials w.slots) raised)

        cleared' : Cleared false (next w) status' (polls w.slots) flags
        cleared' =
            subst (λ z. Cleared false z status' (polls w.slots) flags) low_is
            (subst (λ z. Cleared false low z (polls w.slots) flags) m.status (subst (λ slots. Cleared false low (status w') (polls slots) flags) m.slots cleared))

        polls_moved : polls_in (next w') (high w') flags ≡ (λ y. not (ltb y status') && polls_of w y)
        polls_moved =
            ap (λ z. polls_in z (high w') flags) m.next ∙ ap (λ z. polls_in next' z flags) m.highest
            ∙ polls_answered (next w) next' status' (high w) (polls w.slots) flags raised ordered top w.window cleared'

        answers : answered ≡ ltb (seek (polls_of w) (status' - next w) (next w)) status'
        answers =
            answered_is ∙ ap (λ slots. ltb (seek (λ y. in_ring (polls slots) y false) (status w' - low) low) (status w')) m.slots
            ∙ ap (λ z. ltb (seek (λ y. in_ring (polls w.slots) y false) (status w' - z) z) (status w')) low_is
            ∙ ap (λ z. ltb (seek (λ y. in_ring (polls w.slots) y false) (z - next w) (next w)) z) m.status
            ∙ polls_found (next w) status' (high w) (polls w.slots) (omega (arith, raised, ordered)) top

        pub advanced_is : (t : Timer) (r : far.Reporting) (p : Timer)
            → far_in (next w') (high w') (status w') (trigger w') sdus flags t (far.triggered_if answered r) p
            ≡ far.answering (next w) (far.advanced x (far_with w t r p))
        advanced_is t r p =
            λ k. record {
              rx_next = m.next k;
              rx_next_highest = m.highest k;
              rx_highest_status = m.status k;
              rx_next_status_trigger = m.trigger k;
              sdu = sdus_moved k;
              poll = polls_moved k;
              t_reassembly = t;
              reporting = far.triggered_if (answers k) r;
              t_status_prohibit = p;
            }

-- the trigger is passed -----------------------------------------------------------------------------------------------------

module _ (w : Window) (from : next w ≤ trigger w) (reached : ℕ) (reached_is : reached ≡ open_from (sdus_of w) (high w) (trigger w)) where
  pub reached_low : next w ≤ reached
  reached_low = omega (arith, reached_is, from, open_low (sdus_of w) (high w) (trigger w) w.trigger)

  pub reached_high : reached ≤ high w
  reached_high = omega (arith, reached_is, open_high (sdus_of w) (high w) (trigger w) w.trigger)

  module _ (sdus : List far.Partial) (sdus_are : sdus ≡ partials w.slots) where
    pub waits_reached : far.complete (sdus_in (next w) (high w) sdus reached) ≡ false
    waits_reached =
        ap (λ ps. far.complete (sdus_in (next w) (high w) ps reached)) sdus_are ∙ ap (λ z. far.complete (sdus_of w z)) reached_is
        ∙ open_open (sdus_of w) (high w) (trigger w) w.trigger
        (ap far.complete (window_unseen far.complete_sdu far.nothing_held (next w) (high w) (partials w.slots) (high w) (omega (arith, from, w.trigger)) (omega arith)))
