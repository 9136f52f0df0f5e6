-- Where a search in the window ends, or the window itself.
use Rattle.std.proofs.Common.{◌≡◌, ℕ, ◌-◌, ◌≤◌, Bool, true, false, not, Some, None, Option, unwrap_or, sym, refl, ap, ◌∙◌, arith}
use Rattle.protocol.proofs.Marks.{begun}
use Rattle.protocol.specs.Searching.{seek}
use Rattle.protocol.specs.Sending as near
use Rattle.rlc_tx.proofs.InWindow.{first_is, first_none}
use Rattle.rlc_tx.proofs.Served.{InOrder, ends_at, ends_past, top_found, top_none}
use Rattle.rlc_tx.specs.Searches.{first_in, GivesAt, IsFirst}
use Rattle.rlc_tx.specs.Slots.{sdu_of}
use Rattle.rlc_tx.specs.Windows.{sdus_in}
use Rattle.rlc_tx.specs.declared.slots.Slot.{Slot}
use Rattle.std.specs.Borrow.{Bor}
use Rattle.std.specs.Fn.{Shared}
use Rattle.wire.specs.declared.counts.Count.{Count}
use Rattle.wire.specs.declared.counts.Rlc.{Rlc}
use Rattle.rlc_tx.specs.declared.windows.Window.{Window}
use Rattle.wire.specs.Counts.{count_of}
use Rattle.std.specs.Option.{option_map}

-- a search by a closure that tests SDUs
pub found_by : {F : Type 0} (g : Shared F (Count Rlc × (Bor Slot × Unit {0})) Bool) (f : F) (w : Window) (test : ℕ → near.Sdu → Bool) (found : Option ℕ) → IsFirst (GivesAt g f w) w found
    → ((count : Count Rlc) (slot : Bor Slot) (b : Bool) → sdu_of slot.now ≡ sdus_in w (count_of count) → g.post f (count, (slot, tt)) b → b ≡ test (count_of count) (sdu_of slot.now))
    → found ≡ first_in (λ x. test x (sdus_in w x)) (count_of w.tx_next_ack) (count_of w.tx_next)
found_by g f w test found is tells = go found is
  where
    gave : (x : ℕ) (b : Bool) → GivesAt g f w x b → test x (sdus_in w x) ≡ b
    gave x b at = sym (tells at.count at.slot b (at.shows ∙ ap (sdus_in w) (sym at.is)) at.says.met ∙ ap (λ y. test y (sdu_of at.slot.now)) at.is ∙ ap (test x) at.shows)

    go : (o : Option ℕ) → IsFirst (GivesAt g f w) w o → o ≡ first_in (λ x. test x (sdus_in w x)) (count_of w.tx_next_ack) (count_of w.tx_next)
    go (Some k) at =
        sym
        (first_is (λ x. test x (sdus_in w x)) _ _ w.ordered k at.holds.from at.holds.to
        (λ x from l. gave x false (at.before x (record { from = from; to = omega (arith, l, at.holds.to) }) l)) (gave k true at.here))
    go None none = sym (first_none (λ x. test x (sdus_in w x)) _ _ w.ordered (λ x from to. gave x false (none x (record { from = from; to = to }))))

pub unwrap_mapped : {A B : Type 0} (f : A → B) (o : Option A) (d : A) → f (unwrap_or o d) ≡ unwrap_or (option_map f o) (f d)
unwrap_mapped f (Some a) d = refl
unwrap_mapped f None d = refl

pub ends : (test : ℕ → Bool) (first next : ℕ) → first ≤ next → (found : Option ℕ) → found ≡ first_in test first next → unwrap_or found next ≡ seek test (next - first) first
ends test first next order (Some k) e = sym (ends_at test first next k order (sym e))
ends test first next order None e = sym (ends_past test first next order (sym e))

pub top_ends : (n : near.Near) → InOrder n → (found : Option ℕ) → found ≡ first_in (λ x. not (begun (n.sdu x))) n.tx_next_ack n.tx_next → unwrap_or found n.tx_next ≡ near.top n
top_ends n ordered (Some k) e = sym (top_found n ordered k (sym e))
top_ends n ordered None e = sym (top_none n ordered (sym e))
