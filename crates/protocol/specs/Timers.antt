-- Timers count the Ticks of their own end. A timer of n runs out in the n-th Tick after its start.
use Rattle.std.specs.Prelude.{ℕ, ◌-◌, Bool, true, false, cond, Some, None, Option, nat_le}

pub data Timer : Type 0 where
  stopped : Timer
  running : (left : ℕ) → Timer
  -- it runs, and never runs out
  endless : Timer

-- a timer just started; without a setting it never runs out
abbrev pub started : Option ℕ → Timer
started (Some n) = running n
started None = endless

abbrev pub runs : Timer → Bool
runs stopped = false
runs (running left) = true
runs endless = true

-- it runs out in this Tick
abbrev pub runs_out : Timer → Bool
runs_out stopped = false
runs_out (running left) = nat_le left 1
runs_out endless = false

-- after a Tick
abbrev pub ticked : Timer → Timer
ticked stopped = stopped
ticked (running left) = cond (nat_le left 1) stopped (running (left - 1))
ticked endless = endless

abbrev pub stopped_if : Bool → Timer → Timer
stopped_if b timer = cond b stopped timer
