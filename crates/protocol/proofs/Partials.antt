-- One SDU at the far end: true parts keep it true, and once it is complete it is the SDU that was sent.
use Rattle.std.proofs.Common.{◌≡◌, ℕ, zero, suc, ◌+◌, ◌-◌, ◌<◌, ◌≤◌, Bool, true, false, cond, not, ◌&&◌, ◌||◌, eqb, ltb, leb, ◌∷◌, length, get_or, drop, is_some, Some, None, Option, sym, refl, ap, ◌∙◌, ⊎_elim, arith, drop-cons}
use Rattle.protocol.specs.Bytes.{Bytes}
use Rattle.protocol.specs.Pdus.{Amd}
use Rattle.protocol.specs.Receiving as far
use Rattle.protocol.proofs.Invariants.{PartOf, PartialSound}
use Rattle.protocol.proofs.Seeks.{seek_from, seek_found, seek_before}
use Rattle.protocol.proofs.Walks.{some_none}
use Rattle.std.proofs.lemmas.List.{get_or-take, get_or-drop, drop_all}
use Rattle.std.proofs.lemmas.Bool.{both_ways, cases_lt, eqb-true, eq-eqb, ne_eqb, le-leb, le-ltb, ltb-false, leb-false, not-true, not-false, not_from_true, or_from, or_parts}

some_is : {A : Type 0} {a b : A} → Some a ≡ Some b → a ≡ b
some_is e = cc

-- the byte that a place holds
held_byte : (bytes : Bytes) (p : far.Partial) → PartialSound bytes p → (i : ℕ) → far.holds p i ≡ true
    → (i < length bytes) × (far.byte_of (p.held i) ≡ get_or bytes i 0)
held_byte bytes p sound i h = go (p.held i) refl h
  where
    go : (o : Option ℕ) → p.held i ≡ o → is_some o ≡ true → (i < length bytes) × (far.byte_of o ≡ get_or bytes i 0)
    go (Some b) e k = sound.held i b e
    go None e k = absurd (both_ways false refl k)

-- a complete SDU: its end is the SDU's, and all bytes before it are held
pub record AllHeld (bytes : Bytes) (p : far.Partial) : Type 0 where
  pub end_is : p.known_end ≡ Some (length bytes)
  pub all : (k : ℕ) → k < length bytes → far.holds p k ≡ true

pub complete_all : (bytes : Bytes) (p : far.Partial) → PartialSound bytes p → far.complete p ≡ true → AllHeld bytes p
complete_all bytes p sound c = go p.known_end refl c
  where
    go : (o : Option ℕ) → p.known_end ≡ o → far.complete_to p o ≡ true → AllHeld bytes p
    go None e k = absurd (both_ways false refl k)
    go (Some n) e k =
        let n_is : n ≡ length bytes = sound.end n e in
        let reached : far.missing_from p n 0 ≡ n = eqb-true _ n k in
        record {
          end_is = e ∙ ap {B = Option ℕ} Some n_is;
          all = λ i l. not-false _ (seek_before (λ j. not (far.holds p j)) n 0 i (omega arith) (omega (arith, l, n_is, reached)));
        }

bytes_from_is : (bytes : Bytes) (p : far.Partial) → PartialSound bytes p → ((k : ℕ) → k < length bytes → far.holds p k ≡ true)
    → (n i : ℕ) → i + n ≡ length bytes → far.bytes_from p n i ≡ drop i bytes
bytes_from_is bytes p sound all zero i e = sym (drop_all i bytes (omega (arith, e)))
bytes_from_is bytes p sound all (suc n) i e =
    let l : i < length bytes = omega (arith, e) in
    let here = (held_byte bytes p sound i (all i l)).1 in
    let there = bytes_from_is bytes p sound all n (suc i) (omega (arith, e)) in
    ap (λ b. b ∷ far.bytes_from p n (suc i)) here ∙ ap (λ bs. get_or bytes i 0 ∷ bs) there ∙ sym (drop-cons bytes i 0 l)

pub complete_bytes : (bytes : Bytes) (p : far.Partial) → PartialSound bytes p → far.complete p ≡ true → far.sdu_bytes p ≡ bytes
complete_bytes bytes p sound c =
    let every = complete_all bytes p sound c in
    ap (far.bytes_to p) every.end_is ∙ bytes_from_is bytes p sound every.all (length bytes) 0 (omega arith)

-- a complete SDU has no new byte to get
pub complete_discards : (bytes : Bytes) (x : ℕ) (a : Amd) (p : far.Partial) → PartialSound bytes p → PartOf bytes x a
    → far.complete p ≡ true
    → leb (far.data_end a) (far.missing_from p (length a.payload) (far.offset a.segment)) ≡ true
complete_discards bytes x a p sound part c =
    le-leb _ _ (⊎_elim (λ l. absurd (none_missing l)) (λ h. h) (cases_lt (far.missing_from p n i) (far.data_end a)))
  where
    n : ℕ
    n = length a.payload

    i : ℕ
    i = far.offset a.segment

    none_missing : far.missing_from p n i < i + n → ⊥
    none_missing l =
        let missing = not-true _ (seek_found (λ j. not (far.holds p j)) n i l) in
        both_ways _ missing ((complete_all bytes p sound c).all (far.missing_from p n i) (omega (arith, l, part.inside)))

-- Nothing is held beyond an SDU.
none_beyond : (bytes : Bytes) (p : far.Partial) → PartialSound bytes p → (m e : ℕ) → e ≤ m → length bytes ≤ e
    → m ≤ far.held_from p (m - e) e
none_beyond bytes p sound m e em le = ⊎_elim (λ l. absurd (beyond l)) (λ h. h) (cases_lt (far.held_from p (m - e) e) m)
  where
    beyond : far.held_from p (m - e) e < m → ⊥
    beyond l =
        let found = seek_found (far.holds p) (m - e) e (omega (arith, l, em)) in
        omega (arith, (held_byte bytes p sound (far.held_from p (m - e) e) found).0, seek_from (far.holds p) (m - e) e, le)

-- true parts never clash
pub part_fits : (bytes : Bytes) (x : ℕ) (a : Amd) (p : far.Partial) → length bytes ≤ 502 → PartialSound bytes p → PartOf bytes x a
    → far.clashes p a ≡ false
part_fits bytes x a p short sound part = or_from _ _ (end_fits p.known_end refl) (held_fits 502 short)
  where
    by_mark : (n : ℕ) → n ≡ length bytes → (marked : Bool) → far.marks_end a.segment ≡ marked
        → cond marked (not (eqb (far.data_end a) n)) (eqb (far.data_end a) n) ≡ false
    by_mark n e true m = not_from_true _ (eq-eqb (far.data_end a) n (part.at_end m ∙ sym e))
    by_mark n e false m = ne_eqb (far.data_end a) n (λ q. omega (arith, part.not_at_end m, q, e))

    end_fits : (o : Option ℕ) → p.known_end ≡ o → far.clashes_with o (far.data_end a) (far.marks_end a.segment) ≡ false
    end_fits None k = refl
    end_fits (Some n) k =
        let n_is = sound.end n k in
        or_from _ _ (le-ltb n (far.data_end a) (omega (arith, part.inside, n_is))) (by_mark n n_is (far.marks_end a.segment) refl)

    held_fits : (m : ℕ) → length bytes ≤ m
        → (far.marks_end a.segment && ltb (far.held_from p (m - far.data_end a) (far.data_end a)) m) ≡ false
    held_fits m h = go (far.marks_end a.segment) refl
      where
        go : (marked : Bool) → far.marks_end a.segment ≡ marked
            → (marked && ltb (far.held_from p (m - far.data_end a) (far.data_end a)) m) ≡ false
        go false e = refl
        go true e =
            le-ltb _ m (none_beyond bytes p sound m (far.data_end a) (omega (arith, part.inside, h)) (omega (arith, part.at_end e)))

pub received_sound : (bytes : Bytes) (x : ℕ) (a : Amd) (p : far.Partial) → PartialSound bytes p → PartOf bytes x a
    → PartialSound bytes (far.received a p)
received_sound bytes x a p sound part = record { held = held_true; end = end_true (far.marks_end a.segment) refl }
  where
    n : ℕ
    n = length a.payload

    start : ℕ
    start = far.offset a.segment

    -- a byte of the part
    new_byte : (i : ℕ) → start ≤ i → i < start + n → get_or a.payload (i - start) 0 ≡ get_or bytes i 0
    new_byte i lo hi =
        ap (λ bs. get_or bs (i - start) 0) part.true_bytes ∙ get_or-take n (drop start bytes) (i - start) 0 (omega (arith, lo, hi))
        ∙ get_or-drop start bytes (i - start) 0 ∙ ap (λ k. get_or bytes k 0) (omega (arith, lo))

    by_place : (i b : ℕ) (old : Bool) → (far.holds p i || (ltb i start || leb (far.data_end a) i)) ≡ old
        → cond old (p.held i) (Some (get_or a.payload (i - start) 0)) ≡ Some b → (i < length bytes) × (b ≡ get_or bytes i 0)
    by_place i b true t e = sound.held i b e
    by_place i b false t e =
        let outside : (ltb i start || leb (far.data_end a) i) ≡ false = (or_parts (far.holds p i) _ t).1 in
        let lo : start ≤ i = ltb-false i start (or_parts (ltb i start) (leb (far.data_end a) i) outside).0 in
        let hi : i < far.data_end a = leb-false (far.data_end a) i (or_parts (ltb i start) (leb (far.data_end a) i) outside).1 in
        (omega (arith, hi, part.inside), sym (some_is e) ∙ new_byte i lo hi)

    held_true : (i b : ℕ) → (far.received a p).held i ≡ Some b → (i < length bytes) × (b ≡ get_or bytes i 0)
    held_true i b e = by_place i b _ refl e

    end_true : (marked : Bool) → far.marks_end a.segment ≡ marked → (k : ℕ)
        → cond marked (Some (far.data_end a)) p.known_end ≡ Some k → k ≡ length bytes
    end_true true m k e = sym (some_is e) ∙ part.at_end m
    end_true false m k e = sound.end k e

pub nothing_sound : (bytes : Bytes) → PartialSound bytes far.nothing_held
nothing_sound bytes = record { held = λ i b e. absurd (some_none (sym e)); end = λ n e. absurd (some_none (sym e)) }

pub nothing_incomplete : far.complete far.nothing_held ≡ false
nothing_incomplete = refl

pub complete_is_complete : far.complete far.complete_sdu ≡ true
complete_is_complete = refl
