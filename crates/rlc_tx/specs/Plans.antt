-- The runs that plans stand for.
use Rattle.std.specs.Prelude.{◌≡◌, ℕ, ◌+◌, ◌<◌, ◌≤◌, Bool, true, false, cond, length, Option, ◌==◌}
use Rattle.protocol.specs.Sending as protocol
use Rattle.protocol.specs.Settings.{Settings}
use Rattle.rlc_tx.specs.declared.plans.Plan.{Plan}
use Rattle.rlc_tx.specs.declared.plans.Run.{Run}
use Rattle.std.specs.Option.{option_map}
use Rattle.wire.specs.Counts.{count_of}

abbrev pub run_of : Run → protocol.Run
run_of r = record { count = count_of r.count; from = r.from; size = r.size; new = r.new }

-- the first run of such bytes of an SDU that a grant holds
abbrev pub run_at : Bool → (protocol.Mark → Bool) → protocol.Sdu → (grant count : ℕ) → protocol.Run
run_at new test s grant count =
    record { count = count; from = protocol.byte_from test s 0; size = protocol.run_from test s (protocol.byte_from test s 0) grant; new = new }

-- a run, and P
abbrev pub plan_of : Option Plan → Option (protocol.Run × Bool)
plan_of plan = option_map (λ p. (run_of p.run, p.poll)) plan

-- the run that a grant serves, and the P of its PDU
abbrev pub planned : Settings → protocol.Near → ℕ → Option (protocol.Run × Bool)
planned s n grant = option_map (λ run. (run, protocol.polls s run n)) (protocol.served n grant)

-- the bytes that a run is of
abbrev pub served_as : Bool → protocol.Mark → Bool
served_as true = protocol.is_unsent
served_as false = protocol.is_pending

-- the first bytes of an SDU whose marks pass
pub record Front (test : protocol.Mark → Bool) (s : protocol.Sdu) (from size : ℕ) : Type 0 where
  pub none_before : (i : ℕ) → i < from → test (s.mark i) ≡ false
  pub all : (i : ℕ) → from ≤ i → i < from + size → test (s.mark i) ≡ true
  pub some : 1 ≤ size
  pub inside : from + size ≤ length s.bytes

-- ... as a run of an SDU is
abbrev pub Leads : protocol.Run → protocol.Sdu → Type 0
Leads run s = Front (served_as run.new) s run.from run.size

-- a run that is served lies in the window, and fits its grant
pub record Serves (n : protocol.Near) (grant : ℕ) (run : protocol.Run) : Type 0 where
  pub front : Leads run (n.sdu run.count)
  pub low : n.tx_next_ack ≤ run.count
  pub high : run.count < n.tx_next
  pub fits : cond (run.from == 0) 2 4 + run.size ≤ grant
