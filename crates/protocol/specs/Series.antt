-- Playing a series of calls by the rules, and showing what it did: for worked series.
use Rattle.std.specs.Prelude.{ℕ, zero, suc, ◌-◌, ◌/◌, ◌%◌, ◌^◌, Bool, cond, List, [], ◌∷◌, length, take, replicate, Some, None, Option}
use Rattle.protocol.specs.Airs.{max_pdu}
use Rattle.protocol.specs.Bytes.{Bytes}
use Rattle.protocol.specs.Links.{Link, Call, Answer, accepted, sent, arrived, ticked, collected, nothing_due, refused, Outcome, give, spend, arrive, tick, collect, does}
use Rattle.protocol.specs.Pdus.{Entry}
use Rattle.protocol.specs.Receiving as far
use Rattle.protocol.specs.Reordering as pdcp
use Rattle.protocol.specs.Sending as near
use Rattle.protocol.specs.Settings.{Settings}
use Rattle.protocol.specs.Timers.{Timer}
use Rattle.protocol.specs.declared.faults.End.TheVariants.{Near, Far}

-- the n bytes of a number, most significant first
abbrev pub hex : ℕ → ℕ → Bytes
hex zero v = []
hex (suc n) v = v / 256 ^ n % 256 ∷ hex n v

-- a buffer that is long enough for every call
abbrev pub room : Bytes
room = replicate max_pdu 0

-- a call, and what the air let out in it
pub record Turn : Type 0 where
  pub call : Call
  pub out : Option Bytes

abbrev pub quiet : Call → Turn
quiet call = record { call = call; out = None }

abbrev pub gives : Bytes → Turn
gives packet = quiet (give packet)

abbrev pub near_grant : ℕ → Turn
near_grant size = quiet (spend Near size room)

abbrev pub far_grant : ℕ → Turn
far_grant size = quiet (spend Far size room)

abbrev pub near_arrival : Option Bytes → Turn
near_arrival out = record { call = arrive Near 0 room; out = out }

abbrev pub far_arrival : Option Bytes → Turn
far_arrival out = record { call = arrive Far 0 room; out = out }

abbrev pub near_tick : Turn
near_tick = quiet (tick Near)

abbrev pub far_tick : Turn
far_tick = quiet (tick Far)

abbrev pub collects : Turn
collects = quiet (collect room)

-- what a call answered, the PDU that it put, if any, and the packet that it collected, if any
pub record Seen : Type 0 where
  pub answer : Answer
  pub puts : Option Bytes
  pub packet : Bytes

-- the packet in the buffer after a Collect
abbrev pub packet_in : Answer → Bytes → Bytes
packet_in (accepted count) buffer = []
packet_in (sent size) buffer = []
packet_in (arrived arrival due) buffer = []
packet_in ticked buffer = []
packet_in (collected size) buffer = take size buffer
packet_in nothing_due buffer = []
packet_in (refused fault) buffer = []

abbrev pub seen_in : Outcome → Seen
seen_in o = record { answer = o.answer; puts = o.puts; packet = packet_in o.answer o.buffer }

-- what is seen of a series, and the link at its end
pub record Played : Type 0 where
  pub seen : List Seen
  pub link : Link

abbrev pub first_seen : Seen → Played → Played
first_seen s p = record { seen = s ∷ p.seen; link = p.link }

abbrev pub play : Settings → List Turn → Link → Played
play s [] l = record { seen = []; link = l }
play s (t ∷ ts) l =
    first_seen (seen_in (does s t.call t.out l)) (play s ts (does s t.call t.out l).link)

-- the state of a link, with its windows as lists ------------------------------------------------------------------------

-- f at each of n numbers from i on
abbrev pub each : {A : Type 0} → (ℕ → A) → (n i : ℕ) → List A
each f zero i = []
each f (suc n) i = f i ∷ each f n (suc i)

-- of these n numbers, those that pass
abbrev pub those : (ℕ → Bool) → (n i : ℕ) → List ℕ
those test zero i = []
those test (suc n) i = cond (test i) (i ∷ those test n (suc i)) (those test n (suc i))

pub record ShownSdu : Type 0 where
  pub acknowledged : Bool
  pub marks : List near.Mark
  pub retx_count : Option ℕ

abbrev pub shown_sdu : near.Sdu → ShownSdu
shown_sdu s =
    record {
      acknowledged = s.acknowledged;
      marks = each s.mark (length s.bytes) 0;
      retx_count = s.retx_count;
    }

-- a count of the receiving window: complete, or its entries in a report
abbrev pub shown_gaps : far.Far → ℕ → Option (List Entry)
shown_gaps f x = cond (far.complete (f.sdu x)) None (Some (far.sdu_entries x (f.sdu x)))

abbrev pub counts : List pdcp.Stored → List ℕ
counts [] = []
counts (s ∷ ss) = s.count ∷ counts ss

pub record Shown : Type 0 where
  pub pdcp_tx_next : ℕ
  pub tx_next : ℕ
  pub tx_next_ack : ℕ
  pub polling : near.Polling
  pub failed : Bool
  pub sdus : List ShownSdu
  pub rx_next : ℕ
  pub rx_next_highest : ℕ
  pub rx_highest_status : ℕ
  pub rx_next_status_trigger : ℕ
  pub t_reassembly : Timer
  pub reporting : far.Reporting
  pub t_status_prohibit : Timer
  pub polls : List ℕ
  pub gaps : List (Option (List Entry))
  pub rx_deliv : ℕ
  pub pdcp_rx_next : ℕ
  pub rx_reord : ℕ
  pub t_reordering : Timer
  pub due : List ℕ
  pub stored : List ℕ

abbrev pub shown : Link → Shown
shown l =
    record {
      pdcp_tx_next = l.near.pdcp_tx_next;
      tx_next = l.near.tx_next;
      tx_next_ack = l.near.tx_next_ack;
      polling = l.near.polling;
      failed = l.near.failed;
      sdus = each (λ x. shown_sdu (l.near.sdu x)) (l.near.tx_next - l.near.tx_next_ack) l.near.tx_next_ack;
      rx_next = l.far.rx_next;
      rx_next_highest = l.far.rx_next_highest;
      rx_highest_status = l.far.rx_highest_status;
      rx_next_status_trigger = l.far.rx_next_status_trigger;
      t_reassembly = l.far.t_reassembly;
      reporting = l.far.reporting;
      t_status_prohibit = l.far.t_status_prohibit;
      polls = those l.far.poll near.window_size l.far.rx_next;
      gaps = each (shown_gaps l.far) (l.far.rx_next_highest - l.far.rx_next) l.far.rx_next;
      rx_deliv = l.pdcp.rx_deliv;
      pdcp_rx_next = l.pdcp.pdcp_rx_next;
      rx_reord = l.pdcp.rx_reord;
      t_reordering = l.pdcp.t_reordering;
      due = counts (pdcp.due l.pdcp);
      stored = those (λ c. pdcp.is_stored l.pdcp.store c) (l.pdcp.pdcp_rx_next - l.pdcp.rx_deliv) l.pdcp.rx_deliv;
    }
