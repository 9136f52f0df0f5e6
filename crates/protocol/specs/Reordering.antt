-- PDCP at the far end: packets are stored under their COUNT and handed up in its order.
use Rattle.std.specs.Prelude.{ℕ, ◌+◌, ◌-◌, max, Bool, false, cond, not, ◌&&◌, ◌||◌, List, [], ◌∷◌, length, Some, None, Ok, Err, Option, Result, ◌==◌, nat_le, nat_lt}
use Rattle.protocol.specs.Bytes.{Bytes}
use Rattle.protocol.specs.Numbers.{sn_modulus, pdcp_count, passed}
use Rattle.protocol.specs.Reading.{decode_pdcp}
use Rattle.protocol.specs.Refusals.{at}
use Rattle.protocol.specs.Searching.{seek}
use Rattle.protocol.specs.Sending.{window_size, packet_limit}
use Rattle.protocol.specs.Settings.{Settings}
use Rattle.protocol.specs.Timers.{Timer, stopped, started, runs, runs_out, ticked, stopped_if}
use Rattle.protocol.specs.declared.faults.Fault.{Fault}
use Rattle.protocol.specs.declared.faults.Refusal.TheVariants.{PacketDue, CountRange, ShortCollect}

pub record Stored : Type 0 where
  pub count : ℕ
  pub packet : Bytes

-- RX_DELIV is the lowest COUNT that may still come, RX_NEXT one past the highest that came, RX_REORD where t-Reordering
-- began. Packets are stored by COUNT, the lowest first; those below RX_DELIV are due.
pub record Pdcp : Type 0 where
  pub rx_deliv : ℕ
  pub pdcp_rx_next : ℕ
  pub rx_reord : ℕ
  pub store : List Stored
  pub t_reordering : Timer

abbrev pub new_pdcp : Pdcp
new_pdcp = record { rx_deliv = 0; pdcp_rx_next = 0; rx_reord = 0; store = []; t_reordering = stopped }

abbrev pub is_stored : List Stored → ℕ → Bool
is_stored [] count = false
is_stored (s ∷ ss) count = s.count == count || is_stored ss count

-- in the order of COUNT
abbrev pub insert : Stored → List Stored → List Stored
insert new [] = new ∷ []
insert new (s ∷ ss) = cond (nat_lt new.count s.count) (new ∷ s ∷ ss) (s ∷ insert new ss)

-- the packets below RX_DELIV
abbrev pub due_of : ℕ → List Stored → List Stored
due_of deliv [] = []
due_of deliv (s ∷ ss) = cond (nat_lt s.count deliv) (s ∷ due_of deliv ss) []

abbrev pub due : Pdcp → List Stored
due p = due_of p.rx_deliv p.store

-- the first COUNT from `count` on that is not stored
abbrev pub unstored_from : Pdcp → ℕ → ℕ
unstored_from p count = seek (λ c. not (is_stored p.store c)) (p.pdcp_rx_next - count) count

-- t-Reordering starts if it does not run and a COUNT below RX_NEXT is missing
abbrev pub reordering : Settings → Pdcp → Pdcp
reordering s p =
    cond (not (runs p.t_reordering) && nat_lt p.rx_deliv p.pdcp_rx_next)
    (record {
      rx_deliv = p.rx_deliv;
      pdcp_rx_next = p.pdcp_rx_next;
      rx_reord = p.pdcp_rx_next;
      store = p.store;
      t_reordering = started s.t_reordering;
    })
    p

-- a packet stored, and RX_NEXT past it
abbrev pub storing : ℕ → Bytes → Pdcp → Pdcp
storing count packet p =
    record {
      rx_deliv = p.rx_deliv;
      pdcp_rx_next = max p.pdcp_rx_next (count + 1);
      rx_reord = p.rx_reord;
      store = insert (record { count = count; packet = packet }) p.store;
      t_reordering = p.t_reordering;
    }

-- RX_DELIV moved; t-Reordering stops once it has passed RX_REORD
abbrev pub delivering : ℕ → Pdcp → Pdcp
delivering deliv p =
    record {
      rx_deliv = deliv;
      pdcp_rx_next = p.pdcp_rx_next;
      rx_reord = p.rx_reord;
      store = p.store;
      t_reordering = stopped_if (nat_le p.rx_reord deliv) p.t_reordering;
    }

-- a packet that is not discarded
abbrev pub accepted : Settings → ℕ → Bytes → Pdcp → Pdcp
accepted s count packet p = reordering s (delivering next stored)
  where
    stored : Pdcp
    stored = storing count packet p

    next : ℕ
    next = cond (count == p.rx_deliv) (unstored_from stored count) p.rx_deliv

-- a COUNT that is none of the next 16, or past the last packet, is refused; one below RX_DELIV or stored is discarded
abbrev pub counted : Settings → Option ℕ → Bytes → Pdcp → Result Pdcp Fault
counted s None packet p = Err (at CountRange 0)
counted s (Some count) packet p =
    cond (nat_le (p.rx_deliv + window_size) count || nat_le packet_limit count) (Err (at CountRange 0))
    (Ok (cond (passed p.rx_deliv count || is_stored p.store count) p (accepted s count packet p)))

abbrev pub numbered : Settings → Result (ℕ × Bytes) Fault → Pdcp → Result Pdcp Fault
numbered s (Err fault) p = Err fault
numbered s (Ok (sn, packet)) p = counted s (pdcp_count sn_modulus 2048 p.rx_deliv sn) packet p

-- an SDU handed up by RLC
abbrev pub handed_up : Settings → Bytes → Pdcp → Result Pdcp Fault
handed_up s sdu p = numbered s (decode_pdcp sdu) p

-- nothing is taken while a packet is due
abbrev pub takes : Settings → Bytes → Pdcp → Result Pdcp Fault
takes s sdu p = cond (nat_lt 0 (length (due p))) (Err (at PacketDue 0)) (handed_up s sdu p)

-- without the packet that was collected
abbrev pub collected : Pdcp → List Stored → Pdcp
collected p store =
    record { rx_deliv = p.rx_deliv; pdcp_rx_next = p.pdcp_rx_next; rx_reord = p.rx_reord; store = store; t_reordering = p.t_reordering }

-- the lowest due packet, which is the first one stored
abbrev pub collects_from : List Stored → ℕ → Pdcp → Result (Option (Bytes × Pdcp)) Fault
collects_from [] room p = Ok None
collects_from (s ∷ ss) room p =
    cond (not (nat_lt s.count p.rx_deliv)) (Ok None)
    (cond (nat_lt room (length s.packet)) (Err (at ShortCollect 0)) (Ok (Some (s.packet, collected p ss))))

-- the packet that is collected into a buffer of `room` bytes, and PDCP without it; none: none is due
abbrev pub collects : ℕ → Pdcp → Result (Option (Bytes × Pdcp)) Fault
collects room p = collects_from p.store room p

-- When t-Reordering runs out, the COUNTs below RX_REORD that are missing are given up.
abbrev pub tick_pdcp : Settings → Pdcp → Pdcp
tick_pdcp s p =
    cond (runs_out p.t_reordering)
    (reordering s
    (record {
      rx_deliv = unstored_from p p.rx_reord;
      pdcp_rx_next = p.pdcp_rx_next;
      rx_reord = p.rx_reord;
      store = p.store;
      t_reordering = stopped;
    }))
    (record {
      rx_deliv = p.rx_deliv;
      pdcp_rx_next = p.pdcp_rx_next;
      rx_reord = p.rx_reord;
      store = p.store;
      t_reordering = ticked p.t_reordering;
    })
