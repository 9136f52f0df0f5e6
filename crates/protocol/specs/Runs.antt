-- Series of calls over two airs: which are lawful, and what they accept, collect and leave.
use Rattle.std.specs.Prelude.{◌≡◌, Bool, false, ◌||◌, List, [], ◌∷◌, ◌++◌, take, Some, None, MatchBool, Option}
use Rattle.protocol.specs.Airs.{Waiting, Within, after_put, Takes}
use Rattle.protocol.specs.Bytes.{Bytes}
use Rattle.protocol.specs.Links.{Link, Call, give, spend, arrive, tick, collect, read, Answer, accepted, sent, arrived, ticked, collected, nothing_due, refused, Outcome, new_link, does, something_due}
use Rattle.protocol.specs.Reordering.{Stored, due}
use Rattle.protocol.specs.Settings.{Settings}
use Rattle.protocol.specs.Timers.{runs_out}
use Rattle.protocol.specs.declared.faults.End.TheVariants.{Near, Far}

-- a call, with what the airs did in it: what a Take let out, and what waits afterwards
pub record Event : Type 0 where
  pub call : Call
  pub out : Option Bytes
  pub forward : List Waiting
  pub back : List Waiting

-- a link between its two airs
pub record State : Type 0 where
  pub link : Link
  pub forward : List Waiting
  pub back : List Waiting

abbrev pub new_state : State
new_state = record { link = new_link; forward = []; back = [] }

abbrev pub outcome : Settings → State → Event → Outcome
outcome s r e = does s e.call e.out r.link

abbrev pub next : Settings → State → Event → State
next s r e = record { link = (outcome s r e).link; forward = e.forward; back = e.back }

-- lawful series ---------------------------------------------------------------------------------------------------

-- what an air may hold after a call that puts a PDU, or none
abbrev pub Puts : Option Bytes → List Waiting → List Waiting → Type 0
Puts None before after = after ≡ before
Puts (Some pdu) before after = Within after (after_put pdu before)

-- a call that reaches no air
abbrev pub Still : State → Event → Type 0
Still r e = (e.out ≡ None) × (e.forward ≡ r.forward) × (e.back ≡ r.back)

-- Both airs kept their meaning in this call. The far end takes nothing while a packet is due. Reading bytes that
-- came from elsewhere is no part of a lawful series.
abbrev pub AirsKeep : Settings → State → Event → Call → Type 0
AirsKeep s r e (give packet) = Still r e
AirsKeep s r e (spend Near size buffer) =
    (e.out ≡ None) × Puts (outcome s r e).puts r.forward e.forward × (e.back ≡ r.back)
AirsKeep s r e (spend Far size buffer) =
    (e.out ≡ None) × (e.forward ≡ r.forward) × Puts (outcome s r e).puts r.back e.back
AirsKeep s r e (arrive Near draw buffer) = (e.forward ≡ r.forward) × Takes draw buffer e.out r.back e.back
AirsKeep s r e (arrive Far draw buffer) =
    MatchBool (something_due r.link) (Still r e) (Takes draw buffer e.out r.forward e.forward × (e.back ≡ r.back))
AirsKeep s r e (tick end) = Still r e
AirsKeep s r e (collect buffer) = Still r e
AirsKeep s r e (read end bytes) = ⊥

abbrev pub Lawful : Settings → State → List Event → Type 0
Lawful s r [] = Unit {0}
Lawful s r (e ∷ es) = AirsKeep s r e e.call × Lawful s (next s r e) es

-- what a series does ------------------------------------------------------------------------------------------------

abbrev pub end_of : Settings → State → List Event → State
end_of s r [] = r
end_of s r (e ∷ es) = end_of s (next s r e) es

-- the packet that a call accepted, if any
abbrev pub accepted_by : Call → Answer → List Bytes
accepted_by (give packet) (accepted count) = packet ∷ []
accepted_by (give packet) (sent size) = []
accepted_by (give packet) (arrived arrival number) = []
accepted_by (give packet) ticked = []
accepted_by (give packet) (collected size) = []
accepted_by (give packet) nothing_due = []
accepted_by (give packet) (refused fault) = []
accepted_by (spend end size buffer) answer = []
accepted_by (arrive end draw buffer) answer = []
accepted_by (tick end) answer = []
accepted_by (collect buffer) answer = []
accepted_by (read end bytes) answer = []

-- the packet that a call collected, if any: it stands at the start of the buffer
abbrev pub collected_by : Answer → Bytes → List Bytes
collected_by (accepted count) buffer = []
collected_by (sent size) buffer = []
collected_by (arrived arrival number) buffer = []
collected_by ticked buffer = []
collected_by (collected size) buffer = take size buffer ∷ []
collected_by nothing_due buffer = []
collected_by (refused fault) buffer = []

-- in the order of the calls
abbrev pub accepted_in : Settings → State → List Event → List Bytes
accepted_in s r [] = []
accepted_in s r (e ∷ es) = accepted_by e.call (outcome s r e).answer ++ accepted_in s (next s r e) es

abbrev pub collected_in : Settings → State → List Event → List Bytes
collected_in s r [] = []
collected_in s r (e ∷ es) = collected_by (outcome s r e).answer (outcome s r e).buffer ++ collected_in s (next s r e) es

-- t-Reordering runs out in this call
abbrev pub gives_up : Link → Call → Bool
gives_up l (give packet) = false
gives_up l (spend end size buffer) = false
gives_up l (arrive end draw buffer) = false
gives_up l (tick Near) = false
gives_up l (tick Far) = runs_out l.pdcp.t_reordering
gives_up l (collect buffer) = false
gives_up l (read end bytes) = false

abbrev pub ran_out : Settings → State → List Event → Bool
ran_out s r [] = false
ran_out s r (e ∷ es) = gives_up r.link e.call || ran_out s (next s r e) es

abbrev pub packets : List Stored → List Bytes
packets [] = []
packets (s ∷ ss) = s.packet ∷ packets ss

-- the packets that wait to be collected, the lowest COUNT first
abbrev pub due_packets : Link → List Bytes
due_packets l = packets (due l.pdcp)
