-- The SDUs of the window, in a ring of 16 slots.
use Rattle.std.specs.Prelude.{◌≡◌, ℕ, ◌<◌, ◌≤◌, false, cond, List, map, nat_lt}
use Rattle.protocol.specs.Rings.{in_ring}
use Rattle.protocol.specs.Searching.{update}
use Rattle.protocol.specs.Sending.{Sdu, Near, gone, none_yet, new_near, exhausted, with_sdus}
use Rattle.rlc_tx.specs.Slots.{sdu_of}
use Rattle.rlc_tx.specs.declared.windows.Window.{Window}
use Rattle.wire.specs.Counts.{count_of}

-- the SDU of each count: gone below the window, none yet beyond it
abbrev pub sdu_at : List Sdu → (first next : ℕ) → ℕ → Sdu
sdu_at sdus first next x = cond (nat_lt x first) gone (cond (nat_lt x next) (in_ring sdus x none_yet) none_yet)

abbrev pub sdus_in : Window → ℕ → Sdu
sdus_in w = sdu_at (map sdu_of w.slots) (count_of w.tx_next_ack) (count_of w.tx_next)

-- the window has this count
pub record Holds (w : Window) (x : ℕ) : Type 0 where
  pub from : count_of w.tx_next_ack ≤ x
  pub to : x < count_of w.tx_next

-- no SDU was sent too often
abbrev pub Untired : ℕ → (ℕ → Sdu) → Type 0
Untired max_retx sdu = (x : ℕ) → exhausted max_retx (sdu x).retx_count ≡ false

-- a near end with these SDUs, of which nothing else is said
abbrev pub bare : Window → Near
bare w =
    record {
      pdcp_tx_next = 0;
      tx_next = count_of w.tx_next;
      tx_next_ack = count_of w.tx_next_ack;
      sdu = sdus_in w;
      polling = new_near.polling;
      failed = false;
    }

-- a near end with another SDU at the count x
abbrev pub with_sdu : Near → ℕ → Sdu → Near
with_sdu n x s = with_sdus n (update n.sdu x s)
