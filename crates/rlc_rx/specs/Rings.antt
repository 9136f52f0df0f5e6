-- The window of SDUs, in a ring of sixteen places: what stands under each count.
use Rattle.std.specs.Prelude.{◌≡◌, ℕ, ◌+◌, ◌<◌, ◌≤◌, Bool, false, cond, List, length, nat_lt}
use Rattle.protocol.specs.Receiving.{Partial, Reporting, Far, complete_sdu, nothing_held}
use Rattle.protocol.specs.Rings.{in_ring}
use Rattle.protocol.specs.Timers.{Timer}

-- what stands under the count x: the ring has it from `low` to before `high`
abbrev pub window_in : {A : Type 0} → (below none : A) → (low high : ℕ) → List A → ℕ → A
window_in below none low high ring x = cond (nat_lt x low) below (cond (nat_lt x high) (in_ring ring x none) none)

-- below RX_Next all is complete, and from RX_Next_Highest on nothing was seen
abbrev pub sdus_in : (next highest : ℕ) → List Partial → ℕ → Partial
sdus_in next highest ring = window_in complete_sdu nothing_held next highest ring

-- polls that wait for their answer
abbrev pub polls_in : (next highest : ℕ) → List Bool → ℕ → Bool
polls_in next highest ring = window_in false false next highest ring

-- the state whose SDUs and polls stand in rings
abbrev pub far_in : (next highest status trigger : ℕ) → List Partial → List Bool → (t_reassembly : Timer) → Reporting → (t_status_prohibit : Timer) → Far
far_in next highest status trigger sdus polls t_reassembly reporting t_status_prohibit =
    record {
      rx_next = next;
      rx_next_highest = highest;
      rx_highest_status = status;
      rx_next_status_trigger = trigger;
      sdu = sdus_in next highest sdus;
      poll = polls_in next highest polls;
      t_reassembly = t_reassembly;
      reporting = reporting;
      t_status_prohibit = t_status_prohibit;
    }

-- The places of the counts from `from` to before `to` were cleared; other counts of the same window are as they were.
pub record Cleared {A : Type 0} (none : A) (from to : ℕ) (ring ring' : List A) : Type 0 where
  pub size : length ring' ≡ length ring
  pub cleared : (x : ℕ) → from ≤ x → x < to → in_ring ring' x none ≡ none
  pub before : (x : ℕ) → x < from → to ≤ x + 16 → in_ring ring' x none ≡ in_ring ring x none
  pub behind : (x : ℕ) → to ≤ x → x < from + 16 → in_ring ring' x none ≡ in_ring ring x none
