-- The near end: PDCP numbers packets, and RLC's transmitting side sends them as SDUs, in segments, until they are
-- acknowledged.
use Rattle.std.specs.Prelude.{ℕ, ◌+◌, ◌-◌, ◌%◌, min, Bool, true, false, cond, not, ◌&&◌, ◌||◌, List, [], ◌∷◌, length, take, drop, Some, None, Ok, Err, Option, Result, ◌==◌, nat_le, nat_lt}
use Rattle.protocol.specs.Bytes.{Bytes}
use Rattle.protocol.specs.Numbers.{sn_modulus, count_from, stale}
use Rattle.protocol.specs.Pdus.{Segment, whole, first, middle, last, Amd, Missing, every, span, Entry, Pdu, amd, status, encode, encode_pdcp}
use Rattle.protocol.specs.Refusals.{at}
use Rattle.protocol.specs.Searching.{seek, update}
use Rattle.protocol.specs.Settings.{Settings, between}
use Rattle.protocol.specs.Timers.{Timer, stopped, running, runs_out, ticked, stopped_if}
use Rattle.protocol.specs.declared.faults.Fault.{Fault}
use Rattle.protocol.specs.declared.faults.Refusal.TheVariants.{LinkFailed, PacketLength, WindowFull, PacketLimit, ShortBuffer, WrongKind}

-- the state -------------------------------------------------------------------------------------------------------

-- a byte of an SDU: pending is sent and to be sent again
pub data Mark : Type 0 where
  unsent sent pending : Mark

pub record Sdu : Type 0 where
  pub bytes : Bytes
  pub mark : ℕ → Mark
  pub acknowledged : Bool
  -- none: it was never considered for retransmission
  pub retx_count : Option ℕ

-- polls: POLL_SN is the highest count of which a byte had been sent when the last poll was
pub record Polling : Type 0 where
  pub poll_sn : ℕ
  pub pdu_without_poll : ℕ
  pub owed : Bool
  pub t_poll_retransmit : Timer

-- SDUs by their count. The window begins at TX_Next_Ack, and TX_Next is the count of the next SDU; TX_NEXT is the
-- COUNT of the next packet.
pub record Near : Type 0 where
  pub pdcp_tx_next : ℕ
  pub tx_next : ℕ
  pub tx_next_ack : ℕ
  pub sdu : ℕ → Sdu
  pub polling : Polling
  pub failed : Bool

-- the number of SDUs in a window
abbrev pub window_size : ℕ
window_size = 16

-- the packets that a link accepts in all
abbrev pub packet_limit : ℕ
packet_limit = 1000000

-- below the window
abbrev pub gone : Sdu
gone = record { bytes = []; mark = λ i. sent; acknowledged = true; retx_count = None }

-- from TX_Next on
abbrev pub none_yet : Sdu
none_yet = record { bytes = []; mark = λ i. unsent; acknowledged = false; retx_count = None }

abbrev pub new_near : Near
new_near =
    record {
      pdcp_tx_next = 0;
      tx_next = 0;
      tx_next_ack = 0;
      sdu = λ x. none_yet;
      polling = record { poll_sn = 0; pdu_without_poll = 0; owed = false; t_poll_retransmit = stopped };
      failed = false;
    }

abbrev pub is_unsent : Mark → Bool
is_unsent unsent = true
is_unsent sent = false
is_unsent pending = false

abbrev pub is_sent : Mark → Bool
is_sent unsent = false
is_sent sent = true
is_sent pending = false

abbrev pub is_pending : Mark → Bool
is_pending unsent = false
is_pending sent = false
is_pending pending = true

-- the first byte of an SDU whose mark passes, from byte i on; its length where there is none
abbrev pub byte_from : (Mark → Bool) → Sdu → ℕ → ℕ
byte_from test s i = seek (λ j. test (s.mark j)) (length s.bytes - i) i

abbrev pub has : (Mark → Bool) → Sdu → Bool
has test s = nat_lt (byte_from test s 0) (length s.bytes)

-- the first count in the window whose SDU has such a byte; the window's end where there is none
abbrev pub count_with : (Mark → Bool) → Near → ℕ
count_with test n = seek (λ x. has test (n.sdu x)) window_size n.tx_next_ack

abbrev pub nothing_to_send : Near → Bool
nothing_to_send n = count_with (λ m. is_unsent m || is_pending m) n == n.tx_next_ack + window_size

-- One past the highest count of which a byte was sent. SDUs are begun in their order.
abbrev pub top : Near → ℕ
top n = seek (λ x. not (has (λ m. not (is_unsent m)) (n.sdu x))) window_size n.tx_next_ack

-- giving a packet ---------------------------------------------------------------------------------------------------

-- an SDU of which nothing was sent
abbrev pub unsent_sdu : Bytes → Sdu
unsent_sdu bytes = record { bytes = bytes; mark = λ i. unsent; acknowledged = false; retx_count = None }

-- the packet becomes the next SDU, under the next COUNT
abbrev pub given : Bytes → Near → Near
given packet n =
    record {
      pdcp_tx_next = n.pdcp_tx_next + 1;
      tx_next = n.tx_next + 1;
      tx_next_ack = n.tx_next_ack;
      sdu = update n.sdu n.tx_next (unsent_sdu (encode_pdcp (n.pdcp_tx_next % sn_modulus) packet));
      polling = n.polling;
      failed = n.failed;
    }

-- the near end after a packet was given to it, or why it is refused
abbrev pub gives : Bytes → Near → Result Near Fault
gives packet n =
    cond n.failed (Err (at LinkFailed 0))
    (cond (not (between 1 500 (length packet))) (Err (at PacketLength 0))
    (cond (nat_le (n.tx_next_ack + window_size) n.tx_next) (Err (at WindowFull 0))
    (cond (nat_le packet_limit n.pdcp_tx_next) (Err (at PacketLimit 0)) (Ok (given packet n)))))

-- spending a grant --------------------------------------------------------------------------------------------------

-- `size` bytes of the SDU `count` from byte `from` on; new ones, or ones to be sent again
pub record Run : Type 0 where
  pub count : ℕ
  pub from : ℕ
  pub size : ℕ
  pub new : Bool

-- the longest run of such bytes that a grant holds, from the first of them on; SO is there unless that is byte 0
abbrev pub run_from : (Mark → Bool) → Sdu → ℕ → ℕ → ℕ
run_from test s from grant = min (byte_from (λ m. not (test m)) s from - from) (grant - cond (from == 0) 2 4)

abbrev pub run_of : Bool → (Mark → Bool) → Near → ℕ → ℕ → Run
run_of new test n grant x =
    record {
      count = x;
      from = byte_from test (n.sdu x) 0;
      size = run_from test (n.sdu x) (byte_from test (n.sdu x) 0) grant;
      new = new;
    }

-- What a grant serves: the lowest count with a pending byte, and failing that the lowest with an unsent one.
-- None: there is nothing to send.
abbrev pub served : Near → ℕ → Option Run
served n grant =
    cond (nat_lt (count_with is_pending n) (n.tx_next_ack + window_size))
    (Some (run_of false is_pending n grant (count_with is_pending n)))
    (cond (nat_lt (count_with is_unsent n) (n.tx_next_ack + window_size))
    (Some (run_of true is_unsent n grant (count_with is_unsent n)))
    None)

-- the bytes of a run become sent
abbrev pub sent_run : Run → Sdu → Sdu
sent_run run s =
    record {
      bytes = s.bytes;
      mark = λ i. cond (nat_le run.from i && nat_lt i (run.from + run.size)) sent (s.mark i);
      acknowledged = s.acknowledged;
      retx_count = s.retx_count;
    }

abbrev pub with_sdus : Near → (ℕ → Sdu) → Near
with_sdus n sdu =
    record {
      pdcp_tx_next = n.pdcp_tx_next;
      tx_next = n.tx_next;
      tx_next_ack = n.tx_next_ack;
      sdu = sdu;
      polling = n.polling;
      failed = n.failed;
    }

abbrev pub with_polling : Near → Polling → Near
with_polling n polling =
    record {
      pdcp_tx_next = n.pdcp_tx_next;
      tx_next = n.tx_next;
      tx_next_ack = n.tx_next_ack;
      sdu = n.sdu;
      polling = polling;
      failed = n.failed;
    }

abbrev pub marked : Run → Near → Near
marked run n = with_sdus n (update n.sdu run.count (sent_run run (n.sdu run.count)))

-- PDU_WITHOUT_POLL counts PDUs of new bytes, if pollPDU is present.
abbrev pub counted : Option ℕ → Bool → ℕ → ℕ
counted (Some limit) true without = without + 1
counted (Some limit) false without = without
counted None new without = without

abbrev pub reached : Option ℕ → ℕ → Bool
reached (Some limit) without = nat_le limit without
reached None without = false

-- P: the count of PDUs without one is reached, nothing is left to send, or a poll is owed
abbrev pub polls : Settings → Run → Near → Bool
polls s run n =
    reached s.poll_pdu (counted s.poll_pdu run.new n.polling.pdu_without_poll)
    || (nothing_to_send (marked run n) || n.polling.owed)

abbrev pub polled : Settings → Run → Near → Polling
polled s run n =
    cond (polls s run n)
    (record {
      poll_sn = top (marked run n) - 1;
      pdu_without_poll = 0;
      owed = false;
      t_poll_retransmit = running s.t_poll_retransmit;
    })
    (record {
      poll_sn = n.polling.poll_sn;
      pdu_without_poll = counted s.poll_pdu run.new n.polling.pdu_without_poll;
      owed = n.polling.owed;
      t_poll_retransmit = n.polling.t_poll_retransmit;
    })

-- the near end after the run was sent
abbrev pub spent : Settings → Run → Near → Near
spent s run n = with_polling (marked run n) (polled s run n)

abbrev pub segment_at : ℕ → ℕ → ℕ → Segment
segment_at from size sdu_length =
    cond (from == 0) (cond (size == sdu_length) whole first) (cond (from + size == sdu_length) (last from) (middle from))

-- the PDU that carries a run
abbrev pub amd_of_run : Settings → Run → Near → Amd
amd_of_run s run n =
    record {
      poll = polls s run n;
      sn = run.count % sn_modulus;
      segment = segment_at run.from run.size (length (n.sdu run.count).bytes);
      payload = take run.size (drop run.from (n.sdu run.count).bytes);
    }

abbrev pub sends_run : Settings → Option Run → Near → Option (Bytes × Near)
sends_run s None n = None
sends_run s (Some run) n = Some (encode (amd (amd_of_run s run n)), spent s run n)

-- the PDU that a grant sends, and the near end once it was sent; none: there is nothing to send
abbrev pub sends : Settings → ℕ → Near → Option (Bytes × Near)
sends s grant n = sends_run s (served n grant) n

-- ... into a buffer of `room` bytes
abbrev pub spends : Settings → (grant room : ℕ) → Near → Result (Option (Bytes × Near)) Fault
spends s grant room n =
    cond n.failed (Err (at LinkFailed 0)) (cond (nat_lt room grant) (Err (at ShortBuffer 0)) (Ok (sends s grant n)))

-- considering bytes for retransmission ------------------------------------------------------------------------------

abbrev pub repend : Bool → Mark → Mark
repend named unsent = unsent
repend named sent = cond named pending sent
repend named pending = pending

-- whether a named byte was sent, and so becomes pending
abbrev pub newly_pending : (ℕ → Bool) → Sdu → Bool
newly_pending named s =
    nat_lt (seek (λ i. named i && is_sent (s.mark i)) (length s.bytes) 0) (length s.bytes)

-- The first time sets RETX_COUNT to 0. Later it rises by one, if a byte newly became pending.
abbrev pub considered_count : Option ℕ → Bool → Option ℕ
considered_count None newly = Some 0
considered_count (Some n) newly = cond newly (Some (n + 1)) (Some n)

-- the named bytes of an SDU, considered together
abbrev pub considered : (ℕ → Bool) → Sdu → Sdu
considered named s =
    record {
      bytes = s.bytes;
      mark = λ i. repend (named i) (s.mark i);
      acknowledged = s.acknowledged;
      retx_count = considered_count s.retx_count (newly_pending named s);
    }

abbrev pub exhausted : ℕ → Option ℕ → Bool
exhausted max_retx None = false
exhausted max_retx (Some n) = nat_le max_retx n

-- the link has failed once an SDU's RETX_COUNT reaches maxRetx
abbrev pub fails : Settings → Near → Bool
fails s n =
    nat_lt (seek (λ x. exhausted s.max_retx (n.sdu x).retx_count) window_size n.tx_next_ack) (n.tx_next_ack + window_size)

abbrev pub failed_if : Settings → Near → Near
failed_if s n =
    record {
      pdcp_tx_next = n.pdcp_tx_next;
      tx_next = n.tx_next;
      tx_next_ack = n.tx_next_ack;
      sdu = n.sdu;
      polling = n.polling;
      failed = n.failed || fails s n;
    }

-- reading a status report -------------------------------------------------------------------------------------------

-- the count that a number of a status report stands for
abbrev pub tx_count : Near → ℕ → ℕ
tx_count n sn = count_from sn_modulus n.tx_next_ack sn

abbrev pub names_byte : Missing → ℕ → Bool
names_byte every i = true
names_byte (span so_start so_end) i = nat_le so_start i && nat_le i so_end

-- whether an entry names the SDU x
abbrev pub named : Near → List Entry → ℕ → Bool
named n [] x = false
named n (e ∷ es) x = tx_count n e.nack_sn == x || named n es x

-- ... and byte i of it
abbrev pub named_byte : Near → List Entry → ℕ → ℕ → Bool
named_byte n [] x i = false
named_byte n (e ∷ es) x i = (tx_count n e.nack_sn == x && names_byte e.missing i) || named_byte n es x i

-- An SDU after the entries were considered: those for counts below TX_Next that are not acknowledged.
abbrev pub considered_in : Near → List Entry → ℕ → Sdu
considered_in n es x =
    cond (nat_lt x n.tx_next && (not (n.sdu x).acknowledged && named n es x)) (considered (named_byte n es x) (n.sdu x)) (n.sdu x)

-- nothing of it is pending any more
abbrev pub acknowledge : Sdu → Sdu
acknowledge s =
    record {
      bytes = s.bytes;
      mark = λ i. cond (is_pending (s.mark i)) sent (s.mark i);
      acknowledged = true;
      retx_count = s.retx_count;
    }

-- An SDU below the ACK count that no entry names is acknowledged, if all of it was sent.
abbrev pub acknowledged_in : Near → ℕ → List Entry → ℕ → Sdu → Sdu
acknowledged_in n ack es x s =
    cond (nat_lt x ack && (not (named n es x) && not (has is_unsent s))) (acknowledge s) s

-- the window begins at the lowest count that is not acknowledged
abbrev pub advanced : Near → Near
advanced n = moved (seek (λ x. not (n.sdu x).acknowledged) (n.tx_next - n.tx_next_ack) n.tx_next_ack)
  where
    moved : ℕ → Near
    moved to =
        record {
          pdcp_tx_next = n.pdcp_tx_next;
          tx_next = n.tx_next;
          tx_next_ack = to;
          sdu = λ x. cond (nat_lt x to) gone (n.sdu x);
          polling = n.polling;
          failed = n.failed;
        }

-- t-PollRetransmit stops if the report answers the last poll
abbrev pub answered : ℕ → Polling → Polling
answered ack p =
    record {
      poll_sn = p.poll_sn;
      pdu_without_poll = p.pdu_without_poll;
      owed = p.owed;
      t_poll_retransmit = stopped_if (nat_lt p.poll_sn ack) p.t_poll_retransmit;
    }

-- a report that is not stale
abbrev pub reported : Settings → ℕ → List Entry → Near → Near
reported s ack es n =
    advanced (with_polling
    (with_sdus
    (failed_if s (with_sdus n (considered_in n es)))
    (λ x. acknowledged_in n ack es x (considered_in n es x)))
    (answered ack n.polling))

-- the near end after what it read; none: the report is stale and changes nothing
abbrev pub reads : Settings → Result Pdu Fault → Near → Result (Option Near) Fault
reads s (Err fault) n = Err fault
reads s (Ok (amd a)) n = Err (at WrongKind 0)
reads s (Ok (status ack_sn es)) n =
    Ok (cond (stale n.tx_next (tx_count n ack_sn)) None (Some (reported s (tx_count n ack_sn) es n)))

-- a Tick ------------------------------------------------------------------------------------------------------------

-- the highest count of which a byte was sent and that is not acknowledged; none: there is no such count
abbrev pub highest_sent : Near → Option ℕ
highest_sent n =
    cond (nat_lt back (top n - n.tx_next_ack)) (Some (top n - 1 - back)) None
  where
    back : ℕ
    back = seek (λ k. not (n.sdu (top n - 1 - k)).acknowledged) (top n - n.tx_next_ack) 0

abbrev pub considered_all : Option ℕ → Near → Near
considered_all None n = n
considered_all (Some x) n = with_sdus n (update n.sdu x (considered (λ i. true) (n.sdu x)))

abbrev pub owing : Near → Near
owing n =
    with_polling n
    (record {
      poll_sn = n.polling.poll_sn;
      pdu_without_poll = n.polling.pdu_without_poll;
      owed = true;
      t_poll_retransmit = stopped;
    })

-- When t-PollRetransmit runs out a poll is owed, and something to send it with.
abbrev pub tick_near : Settings → Near → Near
tick_near s n =
    cond (runs_out n.polling.t_poll_retransmit)
    (cond (nothing_to_send n) (failed_if s (considered_all (highest_sent n) (owing n))) (owing n))
    (with_polling n
    (record {
      poll_sn = n.polling.poll_sn;
      pdu_without_poll = n.polling.pdu_without_poll;
      owed = n.polling.owed;
      t_poll_retransmit = ticked n.polling.t_poll_retransmit;
    }))
