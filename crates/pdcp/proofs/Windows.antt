-- A ring of places as a function of COUNTs, and the window that it shows.
use Rattle.std.proofs.Common.{◌≡◌, ℕ, ◌+◌, ◌-◌, ◌*◌, ◌%◌, ◌<◌, ◌≤◌, Bool, true, false, cond, ◌&&◌, eqb, ltb, leb, find, count_by, List, [], ◌++◌, map, length, get_or, set, is_some, Some, None, Option, sym, refl, ap, ◌∙◌, ⊎_elim, arith}
use Rattle.pdcp.proofs.Listings.{stored_found, listed_same, listed_none, listed_split, found_outside, found_at, listed_insert, listed_without, lowest_listed, due_listed, due_none}
use Rattle.pdcp.specs.Places.{has_place, packet_in, under, listed, copied_out}
use Rattle.pdcp.specs.Stores.{held_in, Near, found, taken, taken_if, without, lowest_of}
use Rattle.pdcp.specs.declared.places.Place.{Place}
use Rattle.protocol.proofs.Rings.{ring_update}
use Rattle.protocol.specs.Bytes.{Bytes, put}
use Rattle.protocol.specs.Reordering.{Stored, is_stored, insert, due_of}
use Rattle.protocol.specs.Searching.{update}
use Rattle.std.specs.List.{range_with_len}
use Rattle.std.proofs.lemmas.List.{append-nil, length-map, map-set, get_or-map}
use Rattle.std.proofs.lemmas.Bool.{both_ways, cases_lt, eqb-true, leb-true, leb-false, ltb-true, ltb-false, and_parts, and_cases}

-- what stands under a COUNT is what its place holds
pub under_is : (places : List Place) (c : ℕ) (past : Place) → length places ≡ 16 → under places c ≡ packet_in (get_or places (c % 16) past)
under_is places c past sized = get_or-map packet_in places (c % 16) past None (omega (arith, sized))

-- a place changed is a function changed at one COUNT of the window
pub under-set : (places : List Place) (first c : ℕ) (place : Place) → length places ≡ 16 → first ≤ c → c < first + 16
    → listed (under (set places (c % 16) place)) 16 first ≡ listed (update (under places) c (packet_in place)) 16 first
under-set places first c place sized from to =
    listed_same _ _ 16 first (λ k lo hi.
    ap (λ ps. get_or ps (k % 16) None) (map-set packet_in places (c % 16) place)
    ∙ ring_update (map packet_in places) first c k (packet_in place) None (length-map places packet_in ∙ sized) from to lo hi)

-- the window moved past COUNTs under which nothing stands
pub moved : (f : ℕ → Option Bytes) → ((j k : ℕ) → j % 16 ≡ k % 16 → f j ≡ f k) → (n a d : ℕ) → n ≡ 16
    → ((k : ℕ) → a ≤ k → k < a + d → k < a + n → f k ≡ None) → listed f n a ≡ listed f n (a + d)
moved f turns n a d size none = ⊎_elim far near (cases_lt n d)
  where
    far : n < d → listed f n a ≡ listed f n (a + d)
    far h =
        listed_none f n a (λ k lo hi. none k lo (omega (arith, hi, h)) hi)
        ∙ sym (listed_none f n (a + d) (λ k lo hi.
        turns k (a + (k - a) % 16) (omega (arith, lo)) ∙ none (a + (k - a) % 16) (omega arith) (omega (arith, h, size)) (omega (arith, size))))

    near : d ≤ n → listed f n a ≡ listed f n (a + d)
    near h =
        let e = n - d in
        let front : n ≡ d + e = omega (arith, h) in
        let back : e + d ≡ n = omega (arith, h) in
        let end : a + d + e ≡ a + n = omega (arith, h) in
        let none_before : listed f d a ≡ [] = listed_none f d a (λ k lo hi. none k lo hi (omega (arith, hi, h))) in
        let none_behind : listed f d (a + n) ≡ [] =
        listed_none f d (a + n) (λ k lo hi. turns k (k - n) (omega (arith, lo, size)) ∙ none (k - n) (omega (arith, lo)) (omega (arith, lo, hi)) (omega (arith, lo, hi, h))) in
        ap (λ m. listed f m a) front ∙ listed_split f d e a ∙ ap (λ ss. ss ++ listed f e (a + d)) none_before
        ∙ sym (append-nil (listed f e (a + d))) ∙ ap (λ ss. listed f e (a + d) ++ ss) (sym (ap (listed f d) end ∙ none_behind))
        ∙ sym (listed_split f e d (a + d)) ∙ ap (λ m. listed f m (a + d)) back

-- what a ring holds ------------------------------------------------------------------------------------------------

pub found_inside : (places : List Place) (first c : ℕ) → first ≤ c → c < first + 16 → found (held_in places first) c ≡ under places c
unfolding held_in
found_inside places first c lo hi = found_at (under places) 16 first c lo hi

pub found_none : (places : List Place) (first c : ℕ) → (first ≤ c → c < first + 16 → ⊥) → found (held_in places first) c ≡ None
unfolding held_in
found_none places first c out = found_outside (under places) 16 first c out

-- whether a COUNT is stored, by whether it has a place
pub stored_inside : (places : List Place) (first c : ℕ) → has_place first c ≡ true → is_stored (held_in places first) c ≡ is_some (under places c)
stored_inside places first c e =
    let within = and_parts (leb first c) (ltb c (first + 16)) e in
    stored_found (held_in places first) c ∙ ap is_some (found_inside places first c (leb-true first c within.0) (ltb-true c (first + 16) within.1))

pub out_of_window : (first c : ℕ) → has_place first c ≡ false → first ≤ c → c < first + 16 → ⊥
out_of_window first c e lo hi =
    ⊎_elim (λ h. omega (arith, leb-false first c h, lo)) (λ h. omega (arith, ltb-false c (first + 16) h, hi)) (and_cases (leb first c) (ltb c (first + 16)) e)

pub stored_outside : (places : List Place) (first c : ℕ) → has_place first c ≡ false → is_stored (held_in places first) c ≡ false
stored_outside places first c e = stored_found (held_in places first) c ∙ ap is_some (found_none places first c (out_of_window first c e))

none_if : (o : Option Bytes) → (is_some o ≡ true → ⊥) → o ≡ None
none_if None not_some = refl
none_if (Some packet) not_some = absurd (not_some refl)

-- where no stored COUNT may be, nothing stands
none_under : (places : List Place) (first k : ℕ) → first ≤ k → k < first + 16 → (is_stored (held_in places first) k ≡ true → ⊥) → under places k ≡ None
none_under places first k lo hi out = none_if (under places k) (λ some. out (stored_found (held_in places first) k ∙ ap is_some (found_inside places first k lo hi) ∙ some))

turned : (places : List Place) (j k : ℕ) → j % 16 ≡ k % 16 → under places j ≡ under places k
turned places j k e = ap (λ i. get_or (map packet_in places) i None) e

-- the window moved down, and up, to a COUNT that is near what is stored
pub held_down : (places : List Place) (first c : ℕ) → Near c (held_in places first) → c < first → held_in places c ≡ held_in places first
unfolding held_in
held_down places first c near lt =
    let d = first - c in
    let top : c + d ≡ first = omega (arith, lt) in
    moved (under places) (turned places) 16 c d refl (λ k lo hi low.
    let j = first + (k + 15 * first) % 16 in
    turned places k j (omega arith) ∙ none_under places first j (omega arith) (omega arith) (λ is. omega (arith, (near j is).0, lo, hi, low, top)))
    ∙ ap (λ a. listed (under places) 16 a) top

pub held_up : (places : List Place) (first c : ℕ) → Near c (held_in places first) → first + 16 ≤ c → held_in places (c - 15) ≡ held_in places first
unfolding held_in
held_up places first c near far =
    let d = c - 15 - first in
    let top : c - 15 ≡ first + d = omega (arith, far) in
    ap (λ a. listed (under places) 16 a) top
    ∙ sym (moved (under places) (turned places) 16 first d refl (λ k lo hi low. none_under places first k lo low (λ is. omega (arith, (near k is).1, hi, far))))

-- an answer, a buffer and what is left
abbrev three : {X : Type 0} → Option ℕ → Bytes → X → Option ℕ × Bytes × X
three answer written x = (answer, written, x)

-- one place changed
module _ (places : List Place) (first c : ℕ) (sized : length places ≡ 16) (lo : first ≤ c) (hi : c < first + 16) (place : Place) where
  pub held_insert : (packet : Bytes) → packet_in place ≡ Some packet → is_stored (held_in places first) c ≡ false
      → held_in (set places (c % 16) place) first ≡ insert (record { count = c; packet = packet }) (held_in places first)
  unfolding held_in
  held_insert packet is new =
      under-set places first c place sized lo hi ∙ ap (λ o. listed (update (under places) c o) 16 first) is
      ∙ listed_insert (under places) c packet 16 first (none_under places first c lo hi (both_ways _ new)) lo hi

  held_without : (packet : Bytes) → packet_in place ≡ None → under places c ≡ Some packet → held_in (set places (c % 16) place) first ≡ without c (held_in places first)
  unfolding held_in
  held_without packet is some =
      under-set places first c place sized lo hi ∙ ap (λ o. listed (update (under places) c o) 16 first) is ∙ listed_without (under places) c packet 16 first some lo hi

  held_same : packet_in place ≡ under places c → held_in (set places (c % 16) place) first ≡ held_in places first
  unfolding held_in
  held_same is =
      under-set places first c place sized lo hi
      ∙ listed_same _ (under places) 16 first (λ k from to. go k (eqb k c) refl)
    where
      go : (k : ℕ) (b : Bool) → eqb k c ≡ b → cond b (packet_in place) (under places k) ≡ under places k
      go k true e = is ∙ ap (under places) (sym (eqb-true k c e))
      go k false e = refl

  -- what taking the packet of COUNT c out of its place leaves in the ring
  pub held_taken : (answer : Option ℕ) (buffer written : Bytes) → three answer written (packet_in place) ≡ copied_out (under places c) buffer
      → three answer written (held_in (set places (c % 16) place) first) ≡ taken c buffer (held_in places first)
  held_taken answer buffer written e =
      go (under places c) refl e ∙ ap (λ o. taken_if o c buffer (held_in places first)) (sym (found_inside places first c lo hi))
    where
      left : {a : Option ℕ} {w : Bytes} {o : Option Bytes} (ss : List Stored) → three answer written (packet_in place) ≡ three a w o
          → held_in (set places (c % 16) place) first ≡ ss → three answer written (held_in (set places (c % 16) place) first) ≡ three a w ss
      left ss f g = let p = ap (λ t. t.0) f in let q = ap (λ t. t.1) f in cc

      short : (packet : Bytes) (b : Bool) → under places c ≡ Some packet
          → three answer written (packet_in place) ≡ cond b (three None buffer (Some packet)) (three (Some (length packet)) (put packet buffer) None)
          → three answer written (held_in (set places (c % 16) place) first)
          ≡ cond b (three None buffer (held_in places first)) (three (Some (length packet)) (put packet buffer) (without c (held_in places first)))
      short packet true is f = left (held_in places first) f (held_same (ap (λ t. t.2) f ∙ sym is))
      short packet false is f = left (without c (held_in places first)) f (held_without packet (ap (λ t. t.2) f) is)

      go : (o : Option Bytes) → under places c ≡ o → three answer written (packet_in place) ≡ copied_out o buffer
          → three answer written (held_in (set places (c % 16) place) first) ≡ taken_if o c buffer (held_in places first)
      go None is f = left (held_in places first) f (held_same (ap (λ t. t.2) f ∙ sym is))
      go (Some packet) is f = short packet (ltb (length buffer) (length packet)) is f

-- the lowest COUNT of a ring, and how many are due ------------------------------------------------------------------

pub lowest_held : (places : List Place) (first : ℕ) → find (λ c. is_some (under places c)) (range_with_len first 16) ≡ lowest_of (held_in places first)
unfolding held_in
lowest_held places first = lowest_listed (under places) 16 first

pub due_held : (places : List Place) (first deliv : ℕ)
    → count_by (λ c. ltb c deliv && is_some (under places c)) (range_with_len first 16) ≡ length (due_of deliv (held_in places first))
unfolding held_in
due_held places first deliv = due_listed (under places) deliv 16 first

-- nothing stands before the window
pub none_before : (places : List Place) (first deliv : ℕ) → deliv ≤ first → due_of deliv (held_in places first) ≡ []
unfolding held_in
none_before places first deliv before = due_none (under places) deliv 16 first before

-- a ring of empty places holds nothing
pub none_held : (places : List Place) (past : Place) → length places ≡ 16 → ((i : ℕ) → i < 16 → packet_in (get_or places i past) ≡ None)
    → held_in places 0 ≡ []
unfolding held_in
none_held places past sized empty =
    listed_none (under places) 16 0 (λ k lo hi. under_is places k past sized ∙ empty (k % 16) (omega arith))
