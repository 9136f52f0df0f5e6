-- What a slot's type says of its marks.
use Rattle.std.proofs.Common.{◌≡◌, ℕ, ◌+◌, ◌-◌, ◌<◌, ◌≤◌, min, Bool, true, false, not, ltb, List, length, take, drop, Some, None, Option, refl, ap, ◌∙◌, arith}
use Rattle.protocol.specs.Sending as near
use Rattle.protocol.proofs.Marks.{begun}
use Rattle.rlc_tx.proofs.Marked.{Marked, has_pending, has_unsent, has_begun, has_left, byte_pending, byte_unsent, unsent_to, pending_to, first_pending}
use Rattle.rlc_tx.specs.Searches.{left}
use Rattle.rlc_tx.specs.Slots.{sdu_of}
use Rattle.std.specs.List.{prefix_len}
use Rattle.rlc_tx.specs.Marks.{is_pending, Begun, Unbegun, NoneBelow, pending_in, bounded}
use Rattle.rlc_tx.specs.Plans.{run_at}
use Rattle.rlc_tx.specs.declared.marks.Mark.{Mark}
use Rattle.rlc_tx.specs.declared.slots.Slot.{Slot}
use Rattle.std.proofs.lemmas.List.{length-take-le}
use Rattle.std.proofs.lemmas.Bool.{le-leb, leb-true}

pub marked : (s : Slot) → Marked s.marks s.size s.sent s.pending s.low
marked s =
    record {
      placed = s.placed;
      short = s.short;
      within = s.within;
      begun = s.begun;
      unbegun = s.unbegun;
      counted = s.counted;
      low_begun = s.low_begun;
      none_below = s.none_below;
    }

pub long : (s : Slot) → length (take s.size s.bytes) ≡ s.size
long s = length-take-le s.size s.bytes (omega (arith, s.stored, s.short))

-- the facts of a slot's type, in their order
pub facts : {Stored Few : Type 0} {ms : List Mark} {size sent pending low : ℕ} → Stored → Marked ms size sent pending low → Few
    → record {
      stored : Stored;
      placed : length ms ≡ 502;
      short : size ≤ 502;
      within : sent ≤ size;
      begun : Begun ms sent;
      unbegun : Unbegun ms sent;
      counted : pending ≡ pending_in ms;
      low_begun : low ≤ sent;
      none_below : NoneBelow ms low;
      few : Few;
    }
facts stored m few =
    record {
      stored = stored;
      placed = m.placed;
      short = m.short;
      within = m.within;
      begun = m.begun;
      unbegun = m.unbegun;
      counted = m.counted;
      low_begun = m.low_begun;
      none_below = m.none_below;
      few = few;
    }

-- what the numbers of a slot say of its SDU
module _ (s : Slot) where
  pub slot_pending : near.has near.is_pending (sdu_of s) ≡ ltb 0 s.pending
  slot_pending = has_pending _ _ _ _ _ (marked s) (sdu_of s) (long s) (λ i. refl)

  pub slot_unsent : near.has near.is_unsent (sdu_of s) ≡ ltb s.sent s.size
  slot_unsent = has_unsent _ _ _ _ _ (marked s) (sdu_of s) (long s) (λ i. refl)

  pub slot_begun : begun (sdu_of s) ≡ ltb 0 s.sent
  slot_begun = has_begun _ _ _ _ _ (marked s) (sdu_of s) (long s) (λ i. refl)

  pub slot_left : near.has left (sdu_of s) ≡ ltb 0 (s.pending + (s.size - s.sent))
  slot_left = has_left _ _ _ _ _ (marked s) (sdu_of s) (long s) (λ i. refl)

  pub slot_first_pending : 0 < s.pending → near.byte_from near.is_pending (sdu_of s) 0 ≡ first_pending _ _ _ _ _ (marked s)
  slot_first_pending some = byte_pending _ _ _ _ _ (marked s) (sdu_of s) (long s) (λ i. refl) some

  pub slot_first_unsent : near.byte_from near.is_unsent (sdu_of s) 0 ≡ s.sent
  slot_first_unsent = byte_unsent _ _ _ _ _ (marked s) (sdu_of s) (long s) (λ i. refl)

  pub slot_unsent_to : near.byte_from (λ m. not (near.is_unsent m)) (sdu_of s) s.sent ≡ s.size
  slot_unsent_to = unsent_to _ _ _ _ _ (marked s) (sdu_of s) (long s) (λ i. refl)

  pub slot_pending_to : (from : ℕ) → from ≤ s.size → near.byte_from (λ m. not (near.is_pending m)) (sdu_of s) from ≡ from + min (prefix_len is_pending (drop from s.marks)) (s.size - from)
  slot_pending_to from within = pending_to _ _ _ _ _ (marked s) (sdu_of s) (long s) (λ i. refl) from within

-- the first run of such bytes
pub run_is : (new : Bool) (test : near.Mark → Bool) (s : near.Sdu) (grant count from size : ℕ) → from ≡ near.byte_from test s 0 → size ≡ near.run_from test s from grant
    → ◌≡◌ {A = near.Run} (record { count = count; from = from; size = size; new = new }) (run_at new test s grant count)
run_is new test s grant count from size first long =
    let most = long ∙ ap (λ f. near.run_from test s f grant) first in
    λ i. record { count = count; from = first i; size = most i; new = new }

-- more may be pending
pub bounded_more : (acknowledged : Bool) (few many : ℕ) (retx_count : Option ℕ) → few ≤ many → bounded acknowledged few retx_count ≡ true → bounded acknowledged many retx_count ≡ true
bounded_more true few many retx_count more b = refl
bounded_more false few many None more b = refl
bounded_more false few many (Some n) more b = le-leb n (255 + many) (omega (arith, more, leb-true n (255 + few) b))
