-- What a receiver stands for, and what each of its calls answers and leaves.
use Rattle.std.specs.Prelude.{◌≡◌, ℕ, ◌+◌, ◌<◌, ◌≤◌, false, cond, [], length, Some, None, Ok, Err, Option, Result, nat_lt}
use Rattle.pdcp.specs.Stores.{stored_of}
use Rattle.pdcp.specs.declared.receivers.Receiver.{Receiver}
use Rattle.protocol.specs.Bytes.{Bytes, put}
use Rattle.protocol.specs.Reading.{max_sdu}
use Rattle.protocol.specs.Reordering.{Pdcp, is_stored, due, takes, collects}
use Rattle.protocol.specs.Sending.{window_size, packet_limit}
use Rattle.protocol.specs.Settings.{Settings}
use Rattle.protocol.specs.declared.faults.Fault.{Fault}
use Rattle.timers.specs.Views.{settings_of, timer_of}
use Rattle.wire.specs.Counts.{count_of}

abbrev pub pdcp_of : Receiver → Pdcp
pdcp_of r =
    record {
      rx_deliv = count_of r.rx_deliv;
      pdcp_rx_next = count_of r.rx_next;
      rx_reord = count_of r.rx_reord;
      store = stored_of r.store;
      t_reordering = timer_of r.t_reordering;
    }

-- the settings, which stay, and the state
abbrev pub State : Type 0
State = Settings × Pdcp

abbrev pub state_of : Receiver → State
state_of r = (settings_of r.settings, pdcp_of r)

-- the state after a rule
abbrev pub after : (Settings → Pdcp → Pdcp) → State → State
after rule state = (state.0, rule state.0 state.1)

-- A packet that is not discarded, at a time when none is due: its COUNT is one of the next 16, and not stored.
pub record Awaited (count : ℕ) (p : Pdcp) : Type 0 where
  pub collected : due p ≡ []
  pub new : is_stored p.store count ≡ false
  pub from : p.rx_deliv ≤ count
  pub to : count < p.rx_deliv + window_size
  pub limit : count < packet_limit

-- Bytes longer than the longest SDU are none.
abbrev pub sdu_in : Bytes → Bytes
sdu_in bytes = cond (nat_lt max_sdu (length bytes)) [] bytes

-- the answer, and the state left: a refusal changes nothing
abbrev pub answered : Result Pdcp Fault → State → Result (Unit {0}) Fault × State
answered (Ok p) state = (Ok tt, (state.0, p))
answered (Err fault) state = (Err fault, state)

abbrev pub receives : Bytes → State → Result (Unit {0}) Fault × State
receives bytes state = answered (takes state.0 (sdu_in bytes) state.1) state

-- the answer, the buffer and the state left
abbrev pub collecting : Result (Option (Bytes × Pdcp)) Fault → Bytes → State → Result (Option ℕ) Fault × Bytes × State
collecting (Err fault) buffer state = (Err fault, buffer, state)
collecting (Ok None) buffer state = (Ok None, buffer, state)
collecting (Ok (Some (packet, p))) buffer state = (Ok (Some (length packet)), put packet buffer, (state.0, p))

abbrev pub collects_into : Bytes → State → Result (Option ℕ) Fault × Bytes × State
collects_into buffer state = collecting (collects (length buffer) state.1) buffer state
