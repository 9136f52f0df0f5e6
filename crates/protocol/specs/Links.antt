-- The link: its calls, what each answers, leaves in both ends and in the lent buffer, and puts into an air.
use Rattle.std.specs.Prelude.{ℕ, ◌+◌, ◌%◌, Bool, cond, not, ◌||◌, List, [], ◌∷◌, length, Some, None, Ok, Err, Option, Result, nat_le, nat_lt}
use Rattle.protocol.specs.Airs.{laid, max_pdu}
use Rattle.protocol.specs.Bytes.{Bytes, put}
use Rattle.protocol.specs.Numbers.{sn_modulus, stale}
use Rattle.protocol.specs.Pdus.{Segment, whole, first, middle, last, Amd, Pdu, amd, status, encode}
use Rattle.protocol.specs.Reading.{decode}
use Rattle.protocol.specs.Receiving as far
use Rattle.protocol.specs.Refusals.{at}
use Rattle.protocol.specs.Reordering as pdcp
use Rattle.protocol.specs.Sending as near
use Rattle.protocol.specs.Settings.{Settings, between, in_range}
use Rattle.protocol.specs.declared.faults.End.{End}
use Rattle.protocol.specs.declared.faults.End.TheVariants.{Near, Far}
use Rattle.protocol.specs.declared.faults.Fault.{Fault}
use Rattle.protocol.specs.declared.faults.Refusal.TheVariants.{LinkFailed, PacketLength, WindowFull, PacketLimit, GrantSize, ShortBuffer, PacketDue, WrongKind, EndClash, ShortCollect, Setting}

pub record Link : Type 0 where
  pub near : near.Near
  pub far : far.Far
  pub pdcp : pdcp.Pdcp

abbrev pub new_link : Link
new_link = record { near = near.new_near; far = far.new_far; pdcp = pdcp.new_pdcp }

-- what asking for a new link answers: settings out of range are refused
abbrev pub opens : Settings → Result Link Fault
opens s = cond (in_range s) (Ok new_link) (Err (at Setting 0))

-- A grant is opened with its size and spent at an end; an arrival takes one PDU from the air, with a draw; reading
-- is of bytes that came from elsewhere. Buffers are lent.
pub data Call : Type 0 where
  give : (packet : Bytes) → Call
  spend : (end : End) (size : ℕ) (buffer : Bytes) → Call
  arrive : (end : End) (draw : ℕ) (buffer : Bytes) → Call
  tick : (end : End) → Call
  collect : (buffer : Bytes) → Call
  read : (end : End) (bytes : Bytes) → Call

-- what became of a PDU that arrived, if one did
pub data Arrival : Type 0 where
  none stale_report taken discarded kept handed_up : Arrival

pub data Answer : Type 0 where
  accepted : (count : ℕ) → Answer
  sent : (size : ℕ) → Answer
  arrived : (arrival : Arrival) (due : ℕ) → Answer
  ticked : Answer
  collected : (size : ℕ) → Answer
  nothing_due : Answer
  refused : Fault → Answer

-- what a call does: the link afterwards, its answer, the lent buffer afterwards, and the PDU that it puts into the
-- outgoing air of its end, if any
pub record Outcome : Type 0 where
  pub link : Link
  pub answer : Answer
  pub buffer : Bytes
  pub puts : Option Bytes

abbrev pub answering : Link → Answer → Bytes → Outcome
answering l answer buffer = record { link = l; answer = answer; buffer = buffer; puts = None }

abbrev pub refusing : Link → Fault → Bytes → Outcome
refusing l fault buffer = answering l (refused fault) buffer

abbrev pub with_near : Link → near.Near → Link
with_near l n = record { near = n; far = l.far; pdcp = l.pdcp }

abbrev pub with_far : Link → far.Far → Link
with_far l f = record { near = l.near; far = f; pdcp = l.pdcp }

abbrev pub with_pdcp : Link → pdcp.Pdcp → Link
with_pdcp l p = record { near = l.near; far = l.far; pdcp = p }

abbrev pub number_due : Link → ℕ
number_due l = length (pdcp.due l.pdcp)

-- Give --------------------------------------------------------------------------------------------------------------

abbrev pub gives : Bytes → Link → Outcome
gives packet l =
    cond l.near.failed (refusing l (at LinkFailed 0) [])
    (cond (not (between 1 500 (length packet))) (refusing l (at PacketLength 0) [])
    (cond (nat_le (l.near.tx_next_ack + near.window_size) l.near.tx_next) (refusing l (at WindowFull 0) [])
    (cond (nat_le near.packet_limit l.near.pdcp_tx_next) (refusing l (at PacketLimit 0) [])
    (answering (with_near l (near.given packet l.near)) (accepted l.near.pdcp_tx_next) []))))

-- spending a grant --------------------------------------------------------------------------------------------------

abbrev pub putting : Link → Bytes → Bytes → Outcome
putting l pdu buffer = record { link = l; answer = sent (length pdu); buffer = put pdu buffer; puts = Some pdu }

abbrev pub sends : Settings → Option near.Run → Bytes → Link → Outcome
sends s None buffer l = answering l (sent 0) buffer
sends s (Some run) buffer l =
    putting (with_near l (near.spent s run l.near)) (encode (amd (near.amd_of_run s run l.near))) buffer

abbrev pub reporting : Settings → ℕ → Bytes → Link → Outcome
reporting s size buffer l =
    cond (far.reports l.far.reporting)
    (putting (with_far l (far.reported s l.far))
    (encode (status ((far.report l.far size).ack % sn_modulus) (far.report l.far size).entries)) buffer)
    (answering l (sent 0) buffer)

abbrev pub spends : Settings → End → ℕ → Bytes → Link → Outcome
spends s Near size buffer l =
    cond (not (between 5 512 size)) (refusing l (at GrantSize 0) buffer)
    (cond l.near.failed (refusing l (at LinkFailed 0) buffer)
    (cond (nat_lt (length buffer) size) (refusing l (at ShortBuffer 0) buffer)
    (sends s (near.served l.near size) buffer l)))
spends s Far size buffer l =
    cond (not (between 5 512 size)) (refusing l (at GrantSize 0) buffer)
    (cond (nat_lt (length buffer) size) (refusing l (at ShortBuffer 0) buffer)
    (reporting s size buffer l))

-- reading a PDU -----------------------------------------------------------------------------------------------------

-- the near end reads status reports
abbrev pub reads_near : Settings → Result Pdu Fault → Bytes → Link → Outcome
reads_near s (Err fault) buffer l = refusing l fault buffer
reads_near s (Ok (amd a)) buffer l = refusing l (at WrongKind 0) buffer
reads_near s (Ok (status ack_sn es)) buffer l =
    cond (stale l.near.tx_next (near.tx_count l.near ack_sn)) (answering l (arrived stale_report (number_due l)) buffer)
    (answering (with_near l (near.reported s (near.tx_count l.near ack_sn) es l.near)) (arrived taken (number_due l)) buffer)

-- the place of SO, if there is one
abbrev pub so_place : Segment → ℕ
so_place whole = 0
so_place first = 0
so_place (middle so) = 2
so_place (last so) = 2

-- PDCP takes a complete SDU. Where it refuses, RLC's step is done.
abbrev pub hands_up : Result pdcp.Pdcp Fault → Bytes → Link → Outcome
hands_up (Err fault) buffer l = refusing l fault buffer
hands_up (Ok p) buffer l = answering (with_pdcp l p) (arrived handed_up (number_due (with_pdcp l p))) buffer

-- the SDU of a count that has just been received
abbrev pub sdu_now : ℕ → Amd → far.Far → far.Partial
sdu_now x a f = far.received a (f.sdu x)

abbrev pub takes_in : Settings → ℕ → Amd → Bytes → Link → Outcome
takes_in s x a buffer l =
    cond (far.complete (sdu_now x a l.far))
    (hands_up (pdcp.handed_up s (far.sdu_bytes (sdu_now x a l.far)) l.pdcp) buffer (with_far l (far.taken s x a l.far)))
    (answering (with_far l (far.taken s x a l.far)) (arrived kept 0) buffer)

abbrev pub receives : Settings → ℕ → Amd → Bytes → Link → Outcome
receives s x a buffer l =
    cond (far.discards l.far x a) (answering (with_far l (far.discarded a l.far)) (arrived discarded 0) buffer)
    (cond (far.clashes (l.far.sdu x) a || nat_le near.packet_limit x) (refusing l (at EndClash (so_place a.segment)) buffer)
    (takes_in s x a buffer l))

-- the far end reads data
abbrev pub reads_far : Settings → Result Pdu Fault → Bytes → Link → Outcome
reads_far s (Err fault) buffer l = refusing l fault buffer
reads_far s (Ok (status ack_sn es)) buffer l = refusing l (at WrongKind 0) buffer
reads_far s (Ok (amd a)) buffer l = receives s (far.rx_count l.far a.sn) a buffer l

-- a far end takes nothing while a packet is due
abbrev pub something_due : Link → Bool
something_due l = nat_lt 0 (number_due l)

abbrev pub reads : Settings → End → Bytes → Bytes → Link → Outcome
reads s Near bytes buffer l = reads_near s (decode Near bytes) buffer l
reads s Far bytes buffer l = reads_far s (decode Far bytes) buffer l

abbrev pub reads_other : Settings → End → Bytes → Link → Outcome
reads_other s Near bytes l = reads s Near bytes [] l
reads_other s Far bytes l = cond (something_due l) (refusing l (at PacketDue 0) []) (reads s Far bytes [] l)

-- what the air let out is read in the buffer, where it stays
abbrev pub lets_in : Settings → End → Option Bytes → Bytes → Link → Outcome
lets_in s Near None buffer l = answering l (arrived none (number_due l)) buffer
lets_in s Far None buffer l = answering l (arrived none 0) buffer
lets_in s end (Some pdu) buffer l = reads s end pdu (laid (Some pdu) buffer) l

abbrev pub arrives : Settings → End → Option Bytes → Bytes → Link → Outcome
arrives s end out buffer l =
    cond (nat_lt (length buffer) max_pdu) (refusing l (at ShortBuffer 0) buffer) (ready end)
  where
    ready : End → Outcome
    ready Near = lets_in s Near out buffer l
    ready Far = cond (something_due l) (refusing l (at PacketDue 0) buffer) (lets_in s Far out buffer l)

-- Tick and Collect --------------------------------------------------------------------------------------------------

abbrev pub ticks : Settings → End → Link → Link
ticks s Near l = with_near l (near.tick_near s l.near)
ticks s Far l = record { near = l.near; far = far.tick_far s l.far; pdcp = pdcp.tick_pdcp s l.pdcp }

-- the lowest due packet, which is the first one stored
abbrev pub collects_from : List pdcp.Stored → List pdcp.Stored → Bytes → Link → Outcome
collects_from [] store buffer l = answering l nothing_due buffer
collects_from (lowest ∷ others) [] buffer l = answering l nothing_due buffer
collects_from (lowest ∷ others) (s ∷ rest) buffer l =
    cond (nat_lt (length buffer) (length lowest.packet)) (refusing l (at ShortCollect 0) buffer)
    (answering (with_pdcp l (pdcp.collected l.pdcp rest)) (collected (length lowest.packet)) (put lowest.packet buffer))

abbrev pub collects : Bytes → Link → Outcome
collects buffer l = collects_from (pdcp.due l.pdcp) l.pdcp.store buffer l

-- all calls; `out` is what the air let out in an arrival
abbrev pub does : Settings → Call → Option Bytes → Link → Outcome
does s (give packet) out l = gives packet l
does s (spend end size buffer) out l = spends s end size buffer l
does s (arrive end draw buffer) out l = arrives s end out buffer l
does s (tick end) out l = answering (ticks s end l) ticked []
does s (collect buffer) out l = collects buffer l
does s (read end bytes) out l = reads_other s end bytes l
