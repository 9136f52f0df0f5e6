-- Searches in the window.
use Rattle.std.specs.Prelude.{◌≡◌, ℕ, ◌-◌, ◌<◌, Bool, true, false, cond, ◌||◌, is_some, Some, None, Option, nat_lt}
use Rattle.protocol.specs.Searching.{seek}
use Rattle.protocol.specs.Sending as protocol
use Rattle.rlc_tx.specs.Slots.{sdu_of}
use Rattle.rlc_tx.specs.Windows.{sdus_in, Holds}
use Rattle.rlc_tx.specs.declared.slots.Slot.{Slot}
use Rattle.rlc_tx.specs.declared.windows.Window.{Window}
use Rattle.std.specs.Fn.{Shared, FnReturns}
use Rattle.std.specs.Borrow.{Bor}
use Rattle.wire.specs.Counts.{count_of}
use Rattle.wire.specs.declared.counts.Count.{Count}
use Rattle.wire.specs.declared.counts.Rlc.{Rlc}

abbrev pub left : protocol.Mark → Bool
left m = protocol.is_unsent m || protocol.is_pending m

-- what a test gives of the SDU of the count x
pub record GivesAt {F : Type 0} (g : Shared F (Count Rlc × (Bor Slot × Unit {0})) Bool) (f : F) (w : Window) (x : ℕ) (b : Bool) : Type 0 where
  pub count : Count Rlc
  pub is : count_of count ≡ x
  pub slot : Bor Slot
  pub shows : sdu_of slot.now ≡ sdus_in w x
  pub says : FnReturns g f (count, (slot, tt)) b

-- the first count of a window of which true is given
pub record IsFirstAt (gives : ℕ → Bool → Type 0) (w : Window) (k : ℕ) : Type 0 where
  pub holds : Holds w k
  pub here : gives k true
  pub before : (x : ℕ) → Holds w x → x < k → gives x false

abbrev pub IsFirst : (ℕ → Bool → Type 0) → Window → Option ℕ → Type 0
IsFirst gives w (Some k) = IsFirstAt gives w k
IsFirst gives w None = (x : ℕ) → Holds w x → gives x false

-- the first count of the window, from `first` on and before `next`
abbrev pub first_in : (ℕ → Bool) → (first next : ℕ) → Option ℕ
first_in test first next = cond (nat_lt (seek test (next - first) first) next) (Some (seek test (next - first) first)) None

-- an SDU of the window was sent too often
abbrev pub exhausted_in : ℕ → Window → Bool
exhausted_in max_retx w =
    is_some (first_in (λ x. protocol.exhausted max_retx (sdus_in w x).retx_count) (count_of w.tx_next_ack) (count_of w.tx_next))
