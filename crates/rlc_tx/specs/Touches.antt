-- What the entries of a status report do, one by one.
use Rattle.std.specs.Prelude.{ℕ, Bool, true, false, cond, not, ◌&&◌, List, ◌==◌, nat_le, nat_lt}
use Rattle.protocol.specs.Pdus.{Entry}
use Rattle.protocol.specs.Rings.{in_ring}
use Rattle.protocol.specs.Sending.{Sdu, Near, tx_count, names_byte, has, is_unsent, acknowledge}
use Rattle.rlc_tx.specs.Considered.{considered_next, counted_by}
use Rattle.rlc_tx.specs.declared.reporting.Touch.{Touch}
use Rattle.rlc_tx.specs.declared.reporting.Touch.TheVariants.{Unnamed, Named, Counted}

abbrev pub named_of : Touch → Bool
named_of Unnamed = false
named_of Named = true
named_of Counted = true

abbrev pub counted_of : Touch → Bool
counted_of Unnamed = false
counted_of Named = false
counted_of Counted = true

abbrev pub touch_at : List Touch → ℕ → Touch
touch_at touches x = in_ring touches x Unnamed

-- an SDU that an entry names is considered unless it is acknowledged
abbrev pub named_sdu : ℕ → (ℕ → Bool) → Bool → (ℕ → Sdu) → ℕ → Sdu
named_sdu count names counted sdu x = cond (not (sdu x).acknowledged && count == x) (considered_next counted names (sdu x)) (sdu x)

abbrev pub counted_if : Bool → Touch
counted_if counted = cond counted Counted Named

abbrev pub named_touch : (ℕ → Bool) → Bool → Sdu → Touch
named_touch names counted s = cond s.acknowledged Named (counted_if (counted_by counted names s))

-- an entry counts for the SDUs of the window
abbrev pub entered : Near → Entry → List Touch → ℕ → Sdu
entered n e touches x =
    cond (nat_lt x n.tx_next) (named_sdu (tx_count n e.nack_sn) (names_byte e.missing) (counted_of (touch_at touches x)) n.sdu x) (n.sdu x)

abbrev pub touched : Near → Entry → List Touch → ℕ → Touch
touched n e touches x =
    cond (tx_count n e.nack_sn == x) (named_touch (names_byte e.missing) (counted_of (touch_at touches x)) (n.sdu x)) (touch_at touches x)

-- an SDU that a report may acknowledge
abbrev pub settled : (below named : Bool) → Sdu → Sdu
settled below named s = cond (below && (not named && not (has is_unsent s))) (acknowledge s) s

-- the SDUs from `first` on and before `next`, by a report of this ACK count
abbrev pub settled_to : (first next ack : ℕ) → List Touch → (ℕ → Sdu) → ℕ → Sdu
settled_to first next ack touches sdu x =
    cond (nat_le first x && nat_lt x next) (settled (nat_lt x ack) (named_of (touch_at touches x)) (sdu x)) (sdu x)
