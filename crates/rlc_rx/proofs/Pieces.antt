-- A slot that receives a segment: what its type keeps, and that it holds what the definition says.
use Rattle.std.proofs.Common.{◌≡◌, ℕ, zero, suc, ◌+◌, ◌-◌, ◌<◌, ◌≤◌, max, Bool, true, false, cond, not, ◌&&◌, ◌||◌, eqb, ltb, leb, List, ◌∷◌, length, get_or, take, drop, is_some, IfSome, Some, None, Option, sym, refl, ap, ◌∙◌, inr, ⊎_elim, arith, drop-cons}
use Rattle.protocol.specs.Bytes.{Bytes, byte}
use Rattle.protocol.specs.Pdus.{Amd}
use Rattle.protocol.specs.Receiving as far
use Rattle.rlc_rx.specs.Flags.{is_held, NoneFrom, EndsAt, bounds, in_data, Merged}
use Rattle.protocol.proofs.Seeks.{seek_before}
use Rattle.rlc_rx.specs.Receptions.{handed}
use Rattle.rlc_rx.specs.Slots.{partial, partial_of}
use Rattle.rlc_rx.specs.declared.slots.Slot.{Slot}
use Rattle.std.specs.Bool.{then_some}
use Rattle.std.specs.Option.{option_eq}
use Rattle.rlc_rx.proofs.Merging.{data_outside, data_inside}
use Rattle.protocol.proofs.Seeks.{seek_past}
use Rattle.rlc_rx.proofs.Tallies.{holds_is, held_beyond, bounds_end, complete_is, none_higher}
use Rattle.std.proofs.lemmas.Bool.{both_ways, cases_lt, cases_eq, eq-eqb, ne_eqb, cond-false, ltb-false, le-leb, and_from, or_left, or_right, or_from, or_parts, not-false, cond-true, eqb-true, and_right, le-ltb}

eqb_sym : (m n : ℕ) → eqb m n ≡ eqb n m
eqb_sym m n = ⊎_elim (λ e. eq-eqb m n e ∙ sym (eq-eqb n m (sym e))) (λ d. ne_eqb m n d ∙ sym (ne_eqb n m (λ e. d (sym e)))) (cases_eq m n)

module _ (a : Amd) (bytes bs : Bytes) (held hs : List Bool) (new top : ℕ) (known : Option ℕ)
    (m : Merged (far.offset a.segment) (length a.payload) a.payload bytes bs held hs new) where
  pub grown_beyond : NoneFrom top held → NoneFrom (max top (far.data_end a)) hs
  grown_beyond none i le =
      m.marked i ∙ or_from _ _ (none i (omega (arith, le))) (data_outside (far.offset a.segment) (length a.payload) i (inr (omega (arith, le))))

  pub grown_highest : 1 ≤ length a.payload → EndsAt top held → EndsAt (max top (far.data_end a)) hs
  grown_highest some last k e = m.marked k ∙ ⊎_elim by_old by_data (cases_lt (far.data_end a) top)
    where
      by_old : far.data_end a < top → (is_held held k || in_data (far.offset a.segment) (length a.payload) k) ≡ true
      by_old lt = or_left _ _ (last k (omega (arith, lt, e)))

      by_data : top ≤ far.data_end a → (is_held held k || in_data (far.offset a.segment) (length a.payload) k) ≡ true
      by_data le = or_right _ _ (data_inside (far.offset a.segment) (length a.payload) k (omega (arith, le, e, some)) (omega (arith, le, e, some)))

  -- one place
  place : (h o : Bool) (old fresh : ℕ)
      → cond {A = Option ℕ} (h || not o) (Some (cond (h || not (not o)) old fresh)) None
      ≡ cond (is_some (cond {A = Option ℕ} h (Some old) None) || o) (cond h (Some old) None) (Some fresh)
  place true true old fresh = refl
  place true false old fresh = refl
  place false true old fresh = refl
  place false false old fresh = refl

  received_at : (i : ℕ) → cond {A = Option ℕ} (is_held hs i) (Some (get_or bs i 0)) None ≡ (far.received a (partial held bytes known)).held i
  received_at i =
      ap (λ b. cond {A = Option ℕ} b (Some (get_or bs i 0)) None) (m.marked i)
      ∙ ap (λ v. cond {A = Option ℕ} (is_held held i || in_data (far.offset a.segment) (length a.payload) i) (Some v) None) (m.written i)
      ∙ place (is_held held i) (ltb i (far.offset a.segment) || leb (far.data_end a) i) (byte bytes i) (byte a.payload (i - far.offset a.segment))

  pub received_is : (end : Option ℕ) → end ≡ cond (far.marks_end a.segment) (Some (far.data_end a)) known
      → partial hs bs end ≡ far.received a (partial held bytes known)
  received_is end e = λ k. record { held = λ i. received_at i k; known_end = e k }

-- the end that is known then, against what is held
pub bounds_after : (a : Amd) (bytes : Bytes) (held : List Bool) (top : ℕ) (known : Option ℕ) → top ≤ 502 → NoneFrom top held → EndsAt top held
    → bounds known top ≡ true → far.data_end a ≤ 502 → far.clashes (partial held bytes known) a ≡ false
    → bounds (cond (far.marks_end a.segment) (Some (far.data_end a)) known) (max top (far.data_end a)) ≡ true
bounds_after a bytes held top known short beyond last bounded room fits = go (far.marks_end a.segment) refl
  where
    parts : (far.clashes_with known (far.data_end a) (far.marks_end a.segment) ≡ false)
        × ((far.marks_end a.segment && ltb (far.held_from (partial held bytes known) (502 - far.data_end a) (far.data_end a)) 502) ≡ false)
    parts = or_parts (far.clashes_with known (far.data_end a) (far.marks_end a.segment)) _ fits

    by_end : (o : Option ℕ) → known ≡ o → (marked : Bool) → marked ≡ false → far.clashes_with o (far.data_end a) marked ≡ false
        → bounds o (max top (far.data_end a)) ≡ true
    by_end None e marked unmarked c = refl
    by_end (Some k) e true unmarked c = absurd (both_ways true unmarked refl)
    by_end (Some k) e false unmarked c =
        let within = bounds_end known top k bounded e in
        let both = or_parts (ltb k (far.data_end a)) (eqb (far.data_end a) k) c in
        and_from _ _ (le-leb _ k (omega (arith, within.0, ltb-false k (far.data_end a) both.0))) (le-leb k 502 within.1)

    go : (marked : Bool) → far.marks_end a.segment ≡ marked → bounds (cond marked (Some (far.data_end a)) known) (max top (far.data_end a)) ≡ true
    go true e =
        let none_past : ltb (far.held_from (partial held bytes known) (502 - far.data_end a) (far.data_end a)) 502 ≡ false =
        sym (ap (λ b. b && ltb (far.held_from (partial held bytes known) (502 - far.data_end a) (far.data_end a)) 502) e) ∙ parts.1 in
        let low = ltb-false (far.data_end a) top (held_beyond held bytes known 502 (far.data_end a) top room short beyond last ∙ none_past) in
        and_from _ _ (le-leb _ _ (omega (arith, low))) (le-leb _ 502 room)
    go false e = by_end known refl (far.marks_end a.segment) e parts.0

-- a complete SDU's bytes are the first ones of its slot ---------------------------------------------------------------------

module _ (flags : List Bool) (bytes : Bytes) (end : Option ℕ) where
  bytes_held : (n i : ℕ) → ((k : ℕ) → i ≤ k → k < i + n → is_held flags k ≡ true) → i + n ≤ length bytes
      → far.bytes_from (partial flags bytes end) n i ≡ take n (drop i bytes)
  bytes_held zero i all room = refl
  bytes_held (suc n) i all room =
      ap (λ o. far.byte_of o ∷ far.bytes_from (partial flags bytes end) n (suc i)) (cond-true (is_held flags i) (Some (get_or bytes i 0)) None (all i (omega arith) (omega arith)))
      ∙ ap (λ bs. get_or bytes i 0 ∷ bs) (bytes_held n (suc i) (λ k lo hi. all k (omega (arith, lo)) (omega (arith, hi))) (omega (arith, room)))
      ∙ sym (ap (take (suc n)) (drop-cons bytes i 0 (omega (arith, room))))

  handed_is : (top : ℕ) → length bytes ≡ 502 → bounds end top ≡ true → far.complete (partial flags bytes end) ≡ true
      → handed end bytes ≡ far.reception (partial flags bytes end)
  handed_is top room bounded done = by_end end refl ∙ sym (cond-true _ _ _ done)
    where
      by_end : (o : Option ℕ) → end ≡ o → handed end bytes ≡ far.whole_sdu (far.sdu_bytes (partial flags bytes end))
      by_end None e = absurd (both_ways _ (ap (far.complete_to (partial flags bytes end)) e) done)
      by_end (Some n) e =
          let reached : far.missing_from (partial flags bytes end) n 0 ≡ n = eqb-true _ n (sym (ap (far.complete_to (partial flags bytes end)) e) ∙ done) in
          let all : (k : ℕ) → 0 ≤ k → k < 0 + n → is_held flags k ≡ true =
          λ k lo hi. sym (holds_is flags bytes end k) ∙ not-false _ (seek_before (λ j. not (far.holds (partial flags bytes end) j)) n 0 k lo (omega (arith, hi, reached))) in
          ap (λ o. handed o bytes) e ∙ ap far.whole_sdu (sym (bytes_held n 0 all (omega (arith, room, (bounds_end end top n bounded e).1))))
          ∙ sym (ap (λ o. far.whole_sdu (far.bytes_to (partial flags bytes end) o)) e)

-- a slot, by how many of its bytes are held -------------------------------------------------------------------------------

module _ (s : Slot) where
  pub count_completes : option_eq eqb s.known_end (Some s.count) ≡ far.complete (partial_of s)
  count_completes = go s.known_end refl
    where
      go : (o : Option ℕ) → s.known_end ≡ o → option_eq eqb o (Some s.count) ≡ far.complete_to (partial_of s) o
      go None e = refl
      go (Some end) e =
          let within = bounds_end s.known_end s.top end s.bounded e in
          eqb_sym end s.count ∙ ap (λ n. eqb n end) s.counted
          ∙ complete_is s.held s.bytes s.known_end end (omega (arith, s.room.1, within.1)) (none_higher s.top end s.held within.0 s.beyond)

  -- its length is that count
  pub count_hands : (done : Bool) → done ≡ far.complete (partial_of s) → (handed (then_some done s.count) s.bytes ≡ far.reception (partial_of s)) × (IfSome (then_some done s.count) (λ n. n ≤ 502))
  count_hands true e = (ap (λ o. handed o s.bytes) (sym end) ∙ handed_is s.held s.bytes s.known_end s.top s.room.0 s.bounded (sym e), (bounds_end s.known_end s.top s.count s.bounded end).1)
    where
      end : s.known_end ≡ Some s.count
      end = go s.known_end refl
        where
          go : (o : Option ℕ) → s.known_end ≡ o → o ≡ Some s.count
          go None h = absurd (both_ways false refl (ap (λ p. option_eq eqb p (Some s.count)) (sym h) ∙ count_completes ∙ sym e))
          go (Some n) h = ap {B = Option ℕ} Some (eqb-true n s.count (ap (λ p. option_eq eqb p (Some s.count)) (sym h) ∙ count_completes ∙ sym e))
  count_hands false e = (sym (cond-false _ _ _ (sym e)), tt)

-- where nothing is held ---------------------------------------------------------------------------------------------------

pub nothing_clashes : (a : Amd) → far.data_end a ≤ 502 → far.clashes far.nothing_held a ≡ false
nothing_clashes a room = to 502 room
  where
    to : (n : ℕ) → far.data_end a ≤ n → (far.marks_end a.segment && ltb (far.held_from far.nothing_held (n - far.data_end a) (far.data_end a)) n) ≡ false
    to n le = and_right _ _ (le-ltb _ n (omega (arith, seek_past (far.holds far.nothing_held) (n - far.data_end a) (far.data_end a) (λ j lo hi. refl), le)))
