-- The far end's RLC: its receiving side puts SDUs together from segments and reports what is missing.
use Rattle.std.specs.Prelude.{ℕ, zero, suc, ◌+◌, ◌-◌, ◌%◌, max, Bool, true, false, cond, not, ◌&&◌, ◌||◌, List, [], ◌∷◌, ◌++◌, length, is_some, Some, None, Ok, Err, Option, Result, ◌==◌, nat_le, nat_lt, slice_index}
use Rattle.protocol.specs.Bytes.{Bytes}
use Rattle.protocol.specs.Numbers.{sn_modulus, count_from}
use Rattle.protocol.specs.Pdus.{Segment, whole, first, middle, last, Amd, every, span, Entry, Pdu, amd, status, encode, encode_entry}
use Rattle.protocol.specs.Reading.{max_sdu}
use Rattle.protocol.specs.Refusals.{at}
use Rattle.protocol.specs.Searching.{seek, update}
use Rattle.protocol.specs.Sending.{window_size, packet_limit}
use Rattle.protocol.specs.Settings.{Settings}
use Rattle.protocol.specs.Timers.{Timer, stopped, running, runs, runs_out, ticked, stopped_if}
use Rattle.protocol.specs.declared.faults.Fault.{Fault}
use Rattle.protocol.specs.declared.faults.Refusal.TheVariants.{ShortBuffer, WrongKind, EndClash}

-- the state -------------------------------------------------------------------------------------------------------

-- an SDU as far as it was received: its bytes, and its length once an end was marked
pub record Partial : Type 0 where
  pub held : ℕ → Option ℕ
  pub known_end : Option ℕ

-- whether a status report is wanted, and whether t-StatusProhibit bars it
pub data Reporting : Type 0 where
  quiet wanted barred barred_wanted : Reporting

-- SDUs by their count. The window begins at RX_Next, the lowest count that is not complete; RX_Next_Highest is one
-- past the highest count seen; a report speaks of the counts below RX_Highest_Status. `poll` marks the counts whose
-- poll is answered only once RX_Highest_Status has passed them.
pub record Far : Type 0 where
  pub rx_next : ℕ
  pub rx_next_highest : ℕ
  pub rx_highest_status : ℕ
  pub rx_next_status_trigger : ℕ
  pub sdu : ℕ → Partial
  pub poll : ℕ → Bool
  pub t_reassembly : Timer
  pub reporting : Reporting
  pub t_status_prohibit : Timer

-- below the window
abbrev pub complete_sdu : Partial
complete_sdu = record { held = λ i. None; known_end = Some 0 }

abbrev pub nothing_held : Partial
nothing_held = record { held = λ i. None; known_end = None }

abbrev pub new_far : Far
new_far =
    record {
      rx_next = 0;
      rx_next_highest = 0;
      rx_highest_status = 0;
      rx_next_status_trigger = 0;
      sdu = λ x. nothing_held;
      poll = λ x. false;
      t_reassembly = stopped;
      reporting = quiet;
      t_status_prohibit = stopped;
    }

abbrev pub holds : Partial → ℕ → Bool
holds p i = is_some (p.held i)

-- the first byte that is missing, of the n bytes from i on
abbrev pub missing_from : Partial → (n i : ℕ) → ℕ
missing_from p n i = seek (λ j. not (holds p j)) n i

-- the first byte that is held, of the n bytes from i on
abbrev pub held_from : Partial → (n i : ℕ) → ℕ
held_from p n i = seek (holds p) n i

abbrev pub complete_to : Partial → Option ℕ → Bool
complete_to p None = false
complete_to p (Some n) = missing_from p n 0 == n

abbrev pub complete : Partial → Bool
complete p = complete_to p p.known_end

-- a hole: a byte is missing before one that is held
abbrev pub has_hole : Partial → Bool
has_hole p = nat_lt (held_from p (max_sdu - missing_from p max_sdu 0) (missing_from p max_sdu 0)) max_sdu

-- the first count from x on that is not complete
abbrev pub incomplete_from : Far → ℕ → ℕ
incomplete_from f x = seek (λ y. not (complete (f.sdu y))) (f.rx_next_highest - x) x

-- a data PDU against what is held ------------------------------------------------------------------------------------

-- the number of the first data byte
abbrev pub offset : Segment → ℕ
offset whole = 0
offset first = 0
offset (middle so) = so
offset (last so) = so

-- whether the last data byte is the SDU's last
abbrev pub marks_end : Segment → Bool
marks_end whole = true
marks_end first = false
marks_end (middle so) = false
marks_end (last so) = true

-- one past the last data byte
abbrev pub data_end : Amd → ℕ
data_end a = offset a.segment + length a.payload

abbrev pub rx_count : Far → ℕ → ℕ
rx_count f sn = count_from sn_modulus f.rx_next sn

-- outside the window, or with no byte that is new
abbrev pub discards : Far → ℕ → Amd → Bool
discards f x a =
    nat_le (f.rx_next + window_size) x || nat_le (data_end a) (missing_from (f.sdu x) (length a.payload) (offset a.segment))

-- It passes the known end, reaches it unmarked, or marks another one.
abbrev pub clashes_with : Option ℕ → ℕ → Bool → Bool
clashes_with None end marked = false
clashes_with (Some known) end marked = nat_lt known end || (cond marked (not (end == known)) (end == known))

-- ... or marks an end before a byte that is held
abbrev pub clashes : Partial → Amd → Bool
clashes p a =
    clashes_with p.known_end (data_end a) (marks_end a.segment)
    || (marks_end a.segment && nat_lt (held_from p (max_sdu - data_end a) (data_end a)) max_sdu)

-- bytes that are held stay
abbrev pub received : Amd → Partial → Partial
received a p =
    record {
      held = λ i.
          cond (holds p i || (nat_lt i (offset a.segment) || nat_le (data_end a) i)) (p.held i) (Some (slice_index a.payload (i - offset a.segment)));
      known_end = cond (marks_end a.segment) (Some (data_end a)) p.known_end;
    }

abbrev pub byte_of : Option ℕ → ℕ
byte_of (Some b) = b
byte_of None = 0

-- n bytes from byte i on
abbrev pub bytes_from : Partial → (n i : ℕ) → Bytes
bytes_from p zero i = []
bytes_from p (suc n) i = byte_of (p.held i) ∷ bytes_from p n (suc i)

-- the bytes up to the known end
abbrev pub bytes_to : Partial → Option ℕ → Bytes
bytes_to p None = []
bytes_to p (Some n) = bytes_from p n 0

-- the bytes of a complete SDU
abbrev pub sdu_bytes : Partial → Bytes
sdu_bytes p = bytes_to p p.known_end

-- the reporting machine ---------------------------------------------------------------------------------------------

abbrev pub triggered : Reporting → Reporting
triggered quiet = wanted
triggered wanted = wanted
triggered barred = barred_wanted
triggered barred_wanted = barred_wanted

-- t-StatusProhibit has run out
abbrev pub unbarred : Reporting → Reporting
unbarred quiet = quiet
unbarred wanted = wanted
unbarred barred = quiet
unbarred barred_wanted = wanted

abbrev pub reports : Reporting → Bool
reports quiet = false
reports wanted = true
reports barred = false
reports barred_wanted = false

abbrev pub triggered_if : Bool → Reporting → Reporting
triggered_if b r = cond b (triggered r) r

-- the steps after a PDU was taken -------------------------------------------------------------------------------------

abbrev pub with_reporting : Far → Reporting → Far
with_reporting f reporting =
    record {
      rx_next = f.rx_next;
      rx_next_highest = f.rx_next_highest;
      rx_highest_status = f.rx_highest_status;
      rx_next_status_trigger = f.rx_next_status_trigger;
      sdu = f.sdu;
      poll = f.poll;
      t_reassembly = f.t_reassembly;
      reporting = reporting;
      t_status_prohibit = f.t_status_prohibit;
    }

-- 1: the new bytes are kept, and the count is seen
abbrev pub kept : ℕ → Amd → Far → Far
kept x a f =
    record {
      rx_next = f.rx_next;
      rx_next_highest = max f.rx_next_highest (x + 1);
      rx_highest_status = f.rx_highest_status;
      rx_next_status_trigger = f.rx_next_status_trigger;
      sdu = update f.sdu x (received a (f.sdu x));
      poll = update f.poll x (f.poll x || a.poll);
      t_reassembly = f.t_reassembly;
      reporting = f.reporting;
      t_status_prohibit = f.t_status_prohibit;
    }

-- 2: where the count x is complete, RX_Highest_Status and RX_Next move past it
abbrev pub moved_past : ℕ → Far → ℕ → ℕ
moved_past x f variable = cond (complete (f.sdu x) && variable == x) (incomplete_from f x) variable

abbrev pub advanced : ℕ → Far → Far
advanced x f =
    record {
      rx_next = moved_past x f f.rx_next;
      rx_next_highest = f.rx_next_highest;
      rx_highest_status = moved_past x f f.rx_highest_status;
      rx_next_status_trigger = f.rx_next_status_trigger;
      sdu = λ y. cond (nat_lt y (moved_past x f f.rx_next)) complete_sdu (f.sdu y);
      poll = f.poll;
      t_reassembly = f.t_reassembly;
      reporting = f.reporting;
      t_status_prohibit = f.t_status_prohibit;
    }

abbrev pub with_reassembly : Far → ℕ → Timer → Far
with_reassembly f trigger timer =
    record {
      rx_next = f.rx_next;
      rx_next_highest = f.rx_next_highest;
      rx_highest_status = f.rx_highest_status;
      rx_next_status_trigger = trigger;
      sdu = f.sdu;
      poll = f.poll;
      t_reassembly = timer;
      reporting = f.reporting;
      t_status_prohibit = f.t_status_prohibit;
    }

-- 3: t-Reassembly stops once nothing below the trigger is missing
abbrev pub reassembled : Far → Far
reassembled f =
    with_reassembly f f.rx_next_status_trigger
    (stopped_if
    (nat_le f.rx_next_status_trigger f.rx_next
    || (f.rx_next_status_trigger == f.rx_next + 1 && not (has_hole (f.sdu f.rx_next))))
    f.t_reassembly)

-- 4: it starts if it does not run and something from `low` on is missing
abbrev pub awaited : Settings → ℕ → Far → Far
awaited s low f =
    cond
    (not (runs f.t_reassembly)
    && (nat_lt (low + 1) f.rx_next_highest || (f.rx_next_highest == low + 1 && has_hole (f.sdu low))))
    (with_reassembly f f.rx_next_highest (running s.t_reassembly)) f

-- the polls that RX_Highest_Status has passed are answered; the window began at `low`
abbrev pub answers_poll : ℕ → Far → Bool
answers_poll low f = nat_lt (seek f.poll (f.rx_highest_status - low) low) f.rx_highest_status

abbrev pub answering : ℕ → Far → Far
answering low f =
    record {
      rx_next = f.rx_next;
      rx_next_highest = f.rx_next_highest;
      rx_highest_status = f.rx_highest_status;
      rx_next_status_trigger = f.rx_next_status_trigger;
      sdu = f.sdu;
      poll = λ x. not (nat_lt x f.rx_highest_status) && f.poll x;
      t_reassembly = f.t_reassembly;
      reporting = triggered_if (answers_poll low f) f.reporting;
      t_status_prohibit = f.t_status_prohibit;
    }

-- all steps
abbrev pub taken : Settings → ℕ → Amd → Far → Far
taken s x a f = answering f.rx_next (stepped (advanced x (kept x a f)))
  where
    stepped : Far → Far
    stepped g = awaited s g.rx_next (reassembled g)

-- a PDU that is discarded: only its poll counts
abbrev pub discarded : Amd → Far → Far
discarded a f = with_reporting f (triggered_if a.poll f.reporting)

-- what became of a data PDU: it was discarded, kept, or made its SDU complete
pub data Reception : Type 0 where
  nothing_new part_kept : Reception
  whole_sdu : (sdu : Bytes) → Reception

abbrev pub reception : Partial → Reception
reception p = cond (complete p) (whole_sdu (sdu_bytes p)) part_kept

-- the place of SO, if there is one
abbrev pub so_place : Segment → ℕ
so_place whole = 0
so_place first = 0
so_place (middle so) = 2
so_place (last so) = 2

-- a data PDU of the count x
abbrev pub receives : Settings → ℕ → Amd → Far → Result (Reception × Far) Fault
receives s x a f =
    cond (discards f x a) (Ok (nothing_new, discarded a f))
    (cond (clashes (f.sdu x) a || nat_le packet_limit x) (Err (at EndClash (so_place a.segment)))
    (Ok (reception (received a (f.sdu x)), taken s x a f)))

abbrev pub reads : Settings → Result Pdu Fault → Far → Result (Reception × Far) Fault
reads s (Err fault) f = Err fault
reads s (Ok (status ack_sn es)) f = Err (at WrongKind 0)
reads s (Ok (amd a)) f = receives s (rx_count f a.sn) a f

-- status reports --------------------------------------------------------------------------------------------------

-- SOend of a gap that reaches the last byte, where that is not known
abbrev pub to_the_end : ℕ
to_the_end = 65535

-- the bytes that an SDU may still get: to its known end, or to the longest SDU's
abbrev pub limit : Partial → ℕ
limit p = known p.known_end
  where
    known : Option ℕ → ℕ
    known (Some n) = n
    known None = max_sdu

abbrev pub gap_entry : ℕ → ℕ → ℕ → Entry
gap_entry x from to = record { nack_sn = x % sn_modulus; missing = span from to }

-- one past the gap that begins at the first missing byte from i on
abbrev pub gap_stop : Partial → ℕ → ℕ
gap_stop p i = held_from p (limit p - missing_from p (limit p - i) i) (missing_from p (limit p - i) i)

-- SOend of a gap that ends before byte `next`
abbrev pub gap_end : Partial → ℕ → ℕ
gap_end p next = cond (next == limit p && not (is_some p.known_end)) to_the_end (next - 1)

-- The gaps from byte i on, in order. Where the end is not known there is one that reaches it.
abbrev pub gaps : Partial → (x fuel i : ℕ) → List Entry
gaps p x zero i = []
gaps p x (suc fuel) i =
    cond (nat_lt (missing_from p (limit p - i) i) (limit p))
    (gap_entry x (missing_from p (limit p - i) i) (gap_end p (gap_stop p i))
    ∷ cond (gap_stop p i == limit p) [] (gaps p x fuel (gap_stop p i)))
    (cond (is_some p.known_end) [] (gap_entry x (limit p) to_the_end ∷ []))

-- the entries of an SDU that is not complete
abbrev pub sdu_entries : ℕ → Partial → List Entry
sdu_entries x p =
    cond (held_from p max_sdu 0 == max_sdu) (record { nack_sn = x % sn_modulus; missing = every } ∷ [])
    (gaps p x max_sdu 0)

abbrev pub entries_length : List Entry → ℕ
entries_length [] = 0
entries_length (e ∷ es) = length (encode_entry true e) + entries_length es

-- a report, by the count that ACK_SN stands for
pub record Report : Type 0 where
  pub ack : ℕ
  pub entries : List Entry

abbrev pub behind : List Entry → Report → Report
behind es r = record { ack = r.ack; entries = es ++ r.entries }

-- The incomplete SDUs from x on: the first whose entries do not all fit ends the list, and is acknowledged up to.
abbrev pub report_from : Far → (fuel x room : ℕ) → Report
report_from f zero x room = record { ack = x; entries = [] }
report_from f (suc fuel) x room =
    cond (complete (f.sdu x)) (report_from f fuel (suc x) room)
    (cond (nat_le (entries_length (sdu_entries x (f.sdu x))) room)
    (behind (sdu_entries x (f.sdu x)) (report_from f fuel (suc x) (room - entries_length (sdu_entries x (f.sdu x)))))
    (record { ack = x; entries = [] }))

-- the report that a grant holds
abbrev pub report : Far → ℕ → Report
report f grant = report_from f (f.rx_highest_status - f.rx_next) f.rx_next (grant - 3)

-- the far end after it sent one
abbrev pub reported : Settings → Far → Far
reported s f =
    record {
      rx_next = f.rx_next;
      rx_next_highest = f.rx_next_highest;
      rx_highest_status = f.rx_highest_status;
      rx_next_status_trigger = f.rx_next_status_trigger;
      sdu = f.sdu;
      poll = f.poll;
      t_reassembly = f.t_reassembly;
      reporting = barred;
      t_status_prohibit = running s.t_status_prohibit;
    }

abbrev pub report_pdu : Report → Pdu
report_pdu r = status (r.ack % sn_modulus) r.entries

-- the report that a grant sends, and the far end once it was sent; none: none is wanted, or it is barred
abbrev pub sends : Settings → ℕ → Far → Option (Bytes × Far)
sends s grant f = cond (reports f.reporting) (Some (encode (report_pdu (report f grant)), reported s f)) None

-- ... into a buffer of `room` bytes
abbrev pub spends : Settings → (grant room : ℕ) → Far → Result (Option (Bytes × Far)) Fault
spends s grant room f = cond (nat_lt room grant) (Err (at ShortBuffer 0)) (Ok (sends s grant f))

-- a Tick ------------------------------------------------------------------------------------------------------------

abbrev pub with_highest_status : Far → ℕ → Far
with_highest_status f highest =
    record {
      rx_next = f.rx_next;
      rx_next_highest = f.rx_next_highest;
      rx_highest_status = highest;
      rx_next_status_trigger = f.rx_next_status_trigger;
      sdu = f.sdu;
      poll = f.poll;
      t_reassembly = stopped;
      reporting = f.reporting;
      t_status_prohibit = f.t_status_prohibit;
    }

-- t-Reassembly has run out: what is missing below the trigger is reported, and what lies beyond is waited for
abbrev pub given_up : Settings → Far → Far
given_up s f = again (with_highest_status f (incomplete_from f f.rx_next_status_trigger))
  where
    again : Far → Far
    again g = with_reporting (answering g.rx_next (awaited s g.rx_highest_status g)) (triggered g.reporting)

abbrev pub tick_reassembly : Settings → Far → Far
tick_reassembly s f =
    cond (runs_out f.t_reassembly) (given_up s f) (with_reassembly f f.rx_next_status_trigger (ticked f.t_reassembly))

abbrev pub tick_prohibit : Far → Far
tick_prohibit f =
    record {
      rx_next = f.rx_next;
      rx_next_highest = f.rx_next_highest;
      rx_highest_status = f.rx_highest_status;
      rx_next_status_trigger = f.rx_next_status_trigger;
      sdu = f.sdu;
      poll = f.poll;
      t_reassembly = f.t_reassembly;
      reporting = cond (runs_out f.t_status_prohibit) (unbarred f.reporting) f.reporting;
      t_status_prohibit = ticked f.t_status_prohibit;
    }

abbrev pub tick_far : Settings → Far → Far
tick_far s f = tick_prohibit (tick_reassembly s f)
