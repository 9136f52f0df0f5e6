-- The near end that the code's state stands for.
use Rattle.std.specs.Prelude.{ℕ, ◌-◌, Bool, false, cond, length, Some, None, Ok, Err, Option, Result}
use Rattle.protocol.specs.Bytes.{Bytes, put}
use Rattle.protocol.specs.Sending.{Near, Polling as Polls, top, counted, reached}
use Rattle.protocol.specs.Settings.{Settings}
use Rattle.protocol.specs.Timers.{running}
use Rattle.protocol.specs.declared.faults.Fault.{Fault}
use Rattle.rlc_tx.specs.Windows.{sdus_in}
use Rattle.rlc_tx.specs.declared.ends.NearEnd.{NearEnd}
use Rattle.rlc_tx.specs.declared.ends.Polling.{Polling}
use Rattle.rlc_tx.specs.declared.ends.Report.{Report}
use Rattle.rlc_tx.specs.declared.ends.Report.TheVariants.{Stale, Taken}
use Rattle.timers.specs.Views.{timer_of, settings_of}
use Rattle.wire.specs.Counts.{count_of}
use Rattle.wire.specs.declared.counts.Count.{Count}
use Rattle.wire.specs.declared.counts.Pdcp.{Pdcp}

abbrev pub polling_of : Polling → Polls
polling_of p =
    record {
      poll_sn = count_of p.poll_sn;
      pdu_without_poll = p.pdu_without_poll;
      owed = p.owed;
      t_poll_retransmit = timer_of p.t_poll_retransmit;
    }

abbrev pub near_of : NearEnd → Near
near_of n =
    record {
      pdcp_tx_next = count_of n.pdcp_tx_next;
      tx_next = count_of n.window.tx_next;
      tx_next_ack = count_of n.window.tx_next_ack;
      sdu = sdus_in n.window;
      polling = polling_of n.polling;
      failed = n.failed;
    }

abbrev pub set_by : NearEnd → Settings
set_by n = settings_of n.settings

-- an end's settings, and what it does by them
abbrev pub State : Type 0
State = Settings × Near

abbrev pub state_of : NearEnd → State
state_of n = (set_by n, near_of n)

-- the state after a rule
abbrev pub after : (Settings → Near → Near) → State → State
after rule state = (state.0, rule state.0 state.1)

-- the COUNT that giving a packet answers
abbrev pub count_answered : Result (Count Pdcp) Fault → Result ℕ Fault
count_answered (Ok count) = Ok (count_of count)
count_answered (Err fault) = Err fault

-- what giving a packet answers and leaves
abbrev pub given_by : Result Near Fault → State → Result ℕ Fault × State
given_by (Ok n) state = (Ok state.1.pdcp_tx_next, (state.0, n))
given_by (Err fault) state = (Err fault, state)

-- what spending a grant answers and leaves
abbrev pub spent_by : Result (Option (Bytes × Near)) Fault → State → Bytes → Result ℕ Fault × State × Bytes
spent_by (Err fault) state buffer = (Err fault, state, buffer)
spent_by (Ok None) state buffer = (Ok 0, state, buffer)
spent_by (Ok (Some (pdu, n))) state buffer = (Ok (length pdu), (state.0, n), put pdu buffer)

-- polls once the marks of a PDU's bytes were changed
abbrev pub polled_by : Settings → (poll new : Bool) → Near → Polls
polled_by s poll new n =
    cond poll
    (record {
      poll_sn = top n - 1;
      pdu_without_poll = 0;
      owed = false;
      t_poll_retransmit = running s.t_poll_retransmit;
    })
    (record {
      poll_sn = n.polling.poll_sn;
      pdu_without_poll = counted s.poll_pdu new n.polling.pdu_without_poll;
      owed = n.polling.owed;
      t_poll_retransmit = n.polling.t_poll_retransmit;
    })

-- a number of PDUs without a poll, below pollPDU
abbrev pub unless_reached : Option ℕ → ℕ → Option ℕ
unless_reached poll_pdu without = cond (reached poll_pdu without) None (Some without)

-- what reading a PDU answers and leaves
abbrev pub read_by : Result (Option Near) Fault → State → Result Report Fault × State
read_by (Err fault) state = (Err fault, state)
read_by (Ok None) state = (Ok Stale, state)
read_by (Ok (Some n)) state = (Ok Taken, (state.0, n))
