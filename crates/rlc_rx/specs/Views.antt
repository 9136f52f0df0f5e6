-- What a far end stands for.
use Rattle.protocol.specs.Receiving.{Far}
use Rattle.protocol.specs.Settings.{Settings}
use Rattle.rlc_rx.specs.Reports.{reporting_of}
use Rattle.rlc_rx.specs.Windows.{far_with}
use Rattle.rlc_rx.specs.declared.ends.FarEnd.{FarEnd}
use Rattle.timers.specs.Views.{settings_of, timer_of}

abbrev pub far_of : FarEnd → Far
far_of e = far_with e.window (timer_of e.t_reassembly) (reporting_of e.reporting) (timer_of e.t_status_prohibit)

-- the settings, which stay, and the state
abbrev pub State : Type 0
State = Settings × Far

abbrev pub state_of : FarEnd → State
state_of e = (settings_of e.settings, far_of e)

-- the state after a rule
abbrev pub state_after : (Settings → Far → Far) → State → State
state_after rule state = (state.0, rule state.0 state.1)
