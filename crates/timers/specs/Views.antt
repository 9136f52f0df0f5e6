-- What the types of this crate stand for.
use Rattle.protocol.specs.Settings as protocol
use Rattle.protocol.specs.Timers as timers
use Rattle.timers.specs.declared.settings.Settings.{Settings}
use Rattle.timers.specs.declared.timers.Timer.{Timer}
use Rattle.timers.specs.declared.timers.Timer.TheVariants.{Stopped, Running, Endless}

abbrev pub timer_of : Timer → timers.Timer
timer_of Stopped = timers.stopped
timer_of (Running left) = timers.running left
timer_of Endless = timers.endless

abbrev pub settings_of : Settings → protocol.Settings
settings_of s =
    record {
      poll_pdu = s.poll_pdu;
      max_retx = s.max_retx;
      t_poll_retransmit = s.t_poll_retransmit;
      t_reassembly = s.t_reassembly;
      t_status_prohibit = s.t_status_prohibit;
      t_reordering = s.t_reordering;
    }
