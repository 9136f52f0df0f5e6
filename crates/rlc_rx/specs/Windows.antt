-- The receiving window: what stands under each count, and the far end that has this window.
use Rattle.std.specs.Prelude.{◌≡◌, ℕ, ◌+◌, ◌<◌, ◌≤◌, Bool, false}
use Rattle.protocol.specs.Receiving.{Partial, Reporting, quiet, Far, nothing_held, complete, incomplete_from, moved_past, with_reporting, with_highest_status, answering, triggered_if}
use Rattle.protocol.specs.Rings.{in_ring}
use Rattle.protocol.specs.Timers.{Timer, stopped}
use Rattle.rlc_rx.specs.Rings.{sdus_in, far_in}
use Rattle.rlc_rx.specs.Slots.{partials, polls}
use Rattle.rlc_rx.specs.declared.windows.Window.{Window}
use Rattle.wire.specs.Counts.{count_of}

abbrev pub sdus_of : Window → ℕ → Partial
sdus_of w = sdus_in (count_of w.rx_next) (count_of w.rx_next_highest) (partials w.slots)

-- the far end with this window
abbrev pub far_with : Window → (t_reassembly : Timer) → Reporting → (t_status_prohibit : Timer) → Far
far_with w t_reassembly reporting t_status_prohibit =
    far_in (count_of w.rx_next) (count_of w.rx_next_highest) (count_of w.rx_highest_status) (count_of w.rx_next_status_trigger)
    (partials w.slots) (polls w.slots) t_reassembly reporting t_status_prohibit

-- ... which is quiet, and whose timers are stopped
abbrev pub window_of : Window → Far
window_of w = far_with w stopped quiet stopped

-- the window takes this step of the far end, whatever its timers and its reporting are
abbrev pub Takes : (Far → Far) → Window → Window → Type 0
Takes step old new = (t_reassembly : Timer) (reporting : Reporting) (t_status_prohibit : Timer) → far_with new t_reassembly reporting t_status_prohibit ≡ step (far_with old t_reassembly reporting t_status_prohibit)

-- ... and where it has answered a poll, a status report is asked for
abbrev pub Answers : Bool → (Far → Far) → Window → Window → Type 0
Answers answered step old new =
    (t_reassembly : Timer) (reporting : Reporting) (t_status_prohibit : Timer) → far_with new t_reassembly (triggered_if answered reporting) t_status_prohibit ≡ step (far_with old t_reassembly reporting t_status_prohibit)

-- what the slots have under the count x, also once the window has passed it
abbrev pub stored : Window → ℕ → Partial
stored w x = in_ring (partials w.slots) x nothing_held

-- the count that a report speaks up to is not complete
abbrev pub Waits : Window → Type 0
Waits w = complete (sdus_of w (count_of w.rx_highest_status)) ≡ false

-- The count x lies in the window, and a link has a packet of it.
pub record IsInWindow (w : Window) (x : ℕ) : Type 0 where
  pub from : count_of w.rx_next ≤ x
  pub to : x < count_of w.rx_next + 16
  pub few : x < 1000000

-- The count x lies in the window, and no higher than the highest that was seen.
pub record IsSeen (w : Window) (x : ℕ) : Type 0 where
  pub from : count_of w.rx_next ≤ x
  pub to : x < count_of w.rx_next_highest

-- ... or is the next one.
pub record IsInRange (w : Window) (x : ℕ) : Type 0 where
  pub from : count_of w.rx_next ≤ x
  pub to : x ≤ count_of w.rx_next_highest

-- RX_Next and RX_Highest_Status have moved past the count x, if that is complete.
pub record MovesPast (x : ℕ) (old new : Window) : Type 0 where
  pub next : count_of new.rx_next ≡ moved_past x (window_of old) (count_of old.rx_next)
  pub highest : count_of new.rx_next_highest ≡ count_of old.rx_next_highest
  pub status : count_of new.rx_highest_status ≡ moved_past x (window_of old) (count_of old.rx_highest_status)
  pub trigger : count_of new.rx_next_status_trigger ≡ count_of old.rx_next_status_trigger
  pub slots : new.slots ≡ old.slots

-- RX_Highest_Status has moved to the first count from the trigger on that is not complete, and polls are answered
abbrev pub trigger_passed : Far → Far
trigger_passed f = with_reporting (answering f.rx_next (with_highest_status f (incomplete_from f f.rx_next_status_trigger))) f.reporting
