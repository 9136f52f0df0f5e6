-- What holds of entries when one is removed, added or turned to the end.
use Rattle.std.specs.Prelude.{◌≡◌, ℕ, zero, suc, ◌+◌, ◌-◌, ◌<◌, ◌≤◌, ◌⊎◌, List, [], ◌∷◌, ◌++◌, map, length, get_or, take, drop, ◌≢◌, nat_lt, slice_index_or, slice_set, refl}
use Rattle.std.proofs.Math.Logic.{inl, inr, ⊎_elim}
use Rattle.std.proofs.Common.{sym, ◌∙◌, ap, add-one, arith, rules, length-drop}
use Rattle.std.proofs.Math.Path.{subst}
use borrow.Rule.Slice.PartMut.{put_mid, mid_of}
use Rattle.air.specs.Queues.{Each, Pairs, Apart, Carried, Older, capacity, no_entry, raised, waiting_at}
use Rattle.air.specs.declared.entries.Entry.{Entry}
use Rattle.protocol.specs.Airs.{age_limit, aged}
use Rattle.protocol.specs.Bytes.{Bytes}
use Rattle.std.proofs.lemmas.List.Edits.{length-remove, get_or-remove_below, get_or-remove_above}
use Rattle.std.proofs.lemmas.List.{places, get_or-append_right, get_or-drop, length-map, length_push, get_or-map, get_or_push, get_or_append_left, get_or-set_other, take-map, drop-map, ext_get_or, get_or-take, length-take-le, map-append}
use Rattle.std.proofs.lemmas.Bool.{cases_lt, cases_order, lt-ltb, le-ltb, cond-true, cond-false}
use Rattle.std.specs.List.{remove}

-- where the element at i of a list without its k-th stood
Moved : ℕ → ℕ → ℕ → Type 0
Moved k i j = ((i < k) × (j ≡ i)) ⊎ ((k ≤ i) × (j ≡ i + 1))

module _ (hs : List Entry) (k : ℕ) (in' : k < length hs) where
  removed_from : (i : ℕ) → (j : ℕ) × (slice_index_or (remove hs k) i no_entry ≡ slice_index_or hs j no_entry) × Moved k i j
  unfolding Moved
  removed_from i =
      ⊎_elim (λ h. (i, get_or-remove_below hs k no_entry i h in', inl (h, refl)))
      (λ h. (i + 1, get_or-remove_above hs k no_entry i h in', inr (h, refl))) (cases_lt i k)

  pub each_removed : (P : Entry → Type 0) → Each P hs → Each P (remove hs k)
  unfolding Moved
  each_removed P all i lt =
      let from = removed_from i in
      let long = length-remove hs k in' in
      let less : from.0 < length hs = grind (arith, from.2) in
      subst P (sym from.1) (all from.0 less)

  pub pairs_removed : (R : Entry → Entry → Type 0) → Pairs R hs → Pairs R (remove hs k)
  unfolding Moved
  pairs_removed R all i j lt less =
      let from_i = removed_from i in
      let from_j = removed_from j in
      let long = length-remove hs k in' in
      let first : from_i.0 < from_j.0 = grind (arith, from_i.2, from_j.2) in
      let second : from_j.0 < length hs = grind (arith, from_j.2) in
      let related = all from_i.0 from_j.0 first second in
      subst (λ e. R e (slice_index_or (remove hs k) j no_entry)) (sym from_i.1) (subst (λ e. R (slice_index_or hs from_i.0 no_entry) e) (sym from_j.1) related)

pub map_removed : {A B : Type 0} (f : A → B) (xs : List A) (k : ℕ) → map f (remove xs k) ≡ remove (map f xs) k
map_removed f xs k =
    map-append f (take k xs) (drop (suc k) xs) ∙ ap (λ ys. ys ++ map f (drop (suc k) xs)) (sym (take-map f k xs))
    ∙ ap (λ ys. take k (map f xs) ++ ys) (sym (drop-map f (suc k) xs))

-- the entries es after their part of n entries from k on became ys
module _ (k n : ℕ) (es ys : List Entry) (fits : k + n ≤ length es) (long : length ys ≡ n) where
  part_below : (i : ℕ) → i < k → slice_index_or (put_mid k n es ys) i no_entry ≡ slice_index_or es i no_entry
  part_below i lt = search (rules, places)

  part_in : (i : ℕ) → k ≤ i → i < k + n → slice_index_or (put_mid k n es ys) i no_entry ≡ slice_index_or ys (i - k) no_entry
  part_in i le lt = search (rules, places)

  part_above : (i : ℕ) → k + n ≤ i → slice_index_or (put_mid k n es ys) i no_entry ≡ slice_index_or es i no_entry
  part_above i le = search (rules, places)

  pub length_part : length (put_mid k n es ys) ≡ length es
  length_part = search (rules, places)

part_of : (k n : ℕ) (es : List Entry) (j : ℕ) → j < n → slice_index_or (mid_of k n es) j no_entry ≡ slice_index_or es (k + j) no_entry
part_of k n es j lt = search (rules, places)

-- the same where ys is that part with its first entry moved to its end
Turned : ℕ → ℕ → ℕ → ℕ → Type 0
Turned k n i j = ((j ≡ i) × ((i < k) ⊎ (k + n ≤ i))) ⊎ (((k ≤ i) × (i + 1 < k + n) × (j ≡ i + 1)) ⊎ ((i + 1 ≡ k + n) × (j ≡ k)))

module _ (k n : ℕ) (es ys : List Entry) (fits : k + n ≤ length es) (pos : 0 < n) (long : length ys ≡ n)
    (next : (j : ℕ) → j + 1 < n → slice_index_or ys j no_entry ≡ slice_index_or (mid_of k n es) (j + 1) no_entry)
    (last : (j : ℕ) → n ≤ j + 1 → j < n → slice_index_or ys j no_entry ≡ slice_index_or (mid_of k n es) (j + 1 - n) no_entry) where
  turned_from : (i : ℕ) → (j : ℕ) × (slice_index_or (put_mid k n es ys) i no_entry ≡ slice_index_or es j no_entry) × Turned k n i j
  unfolding Turned
  turned_from i = ⊎_elim below above (cases_lt i k)
    where
      below : i < k → (j : ℕ) × (slice_index_or (put_mid k n es ys) i no_entry ≡ slice_index_or es j no_entry) × Turned k n i j
      below lt = (i, part_below k n es ys fits long i lt, inl (refl, inl lt))

      inside : k ≤ i → i < k + n → (i + 1 < k + n) ⊎ (k + n ≤ i + 1) → (j : ℕ) × (slice_index_or (put_mid k n es ys) i no_entry ≡ slice_index_or es j no_entry) × Turned k n i j
      inside le lt (inl h) = (
        i + 1,
        part_in k n es ys fits long i le lt ∙ next (i - k) (omega arith) ∙ part_of k n es (i - k + 1) (omega arith) ∙ ap (λ m. get_or es m no_entry) (omega arith),
        inr (inl (le, h, refl)),
      )
      inside le lt (inr h) = (
        k,
        part_in k n es ys fits long i le lt ∙ last (i - k) (omega arith) (omega arith) ∙ part_of k n es (i - k + 1 - n) (omega arith) ∙ ap (λ m. get_or es m no_entry) (omega arith),
        inr (inr (omega arith, refl)),
      )

      above : k ≤ i → (j : ℕ) × (slice_index_or (put_mid k n es ys) i no_entry ≡ slice_index_or es j no_entry) × Turned k n i j
      above le = ⊎_elim (λ lt. inside le lt (cases_lt (i + 1) (k + n))) (λ h. (i, part_above k n es ys fits long i h, inl (refl, inr h))) (cases_lt i (k + n))

  pub each_turned : (P : Entry → Type 0) → Each P es → Each P (put_mid k n es ys)
  unfolding Turned
  each_turned P all i lt =
      let from = turned_from i in
      let same = length_part k n es ys fits long in
      let less : from.0 < length es = grind (arith, from.2) in
      subst P (sym from.1) (all from.0 less)

  -- for a relation that has no direction
  pub pairs_turned : (R : Entry → Entry → Type 0) → ((e f : Entry) → R e f → R f e) → Pairs R es → Pairs R (put_mid k n es ys)
  unfolding Turned
  pairs_turned R back all i j lt less =
      let from_i = turned_from i in
      let from_j = turned_from j in
      let same = length_part k n es ys fits long in
      let in_i : from_i.0 < length es = grind (arith, from_i.2) in
      let in_j : from_j.0 < length es = grind (arith, from_j.2) in
      let other : from_i.0 ≡ from_j.0 → ⊥ = λ e. grind (arith, from_i.2, from_j.2) in
      let related : R (slice_index_or es from_i.0 no_entry) (slice_index_or es from_j.0 no_entry) =
      ⊎_elim (λ e. absurd (other e)) (⊎_elim (λ h. all _ _ h in_j) (λ h. back _ _ (all _ _ h in_i))) (cases_order from_i.0 from_j.0) in
      subst (λ e. R e (slice_index_or (put_mid k n es ys) j no_entry)) (sym from_i.1) (subst (λ e. R (slice_index_or es from_i.0 no_entry) e) (sym from_j.1) related)

  -- what is left of those in front, when the last of them is let go
  pub take_turned : take (k + n - 1) (put_mid k n es ys) ≡ remove (take (k + n) es) k
  unfolding Moved Turned
  take_turned = ext_get_or no_entry (take (k + n - 1) (put_mid k n es ys)) (remove (take (k + n) es) k) lengths places_too
    where
      whole : length (take (k + n) es) ≡ k + n
      whole = length-take-le (k + n) es fits

      front : length (take (k + n - 1) (put_mid k n es ys)) ≡ k + n - 1
      front = length-take-le (k + n - 1) (put_mid k n es ys) (omega (arith, length_part k n es ys fits long))

      lengths : length (take (k + n - 1) (put_mid k n es ys)) ≡ length (remove (take (k + n) es) k)
      lengths = omega (arith, front, whole, length-remove (take (k + n) es) k (omega (arith, whole)))

      places_too : (i : ℕ) → i < length (take (k + n - 1) (put_mid k n es ys))
          → slice_index_or (take (k + n - 1) (put_mid k n es ys)) i no_entry ≡ slice_index_or (remove (take (k + n) es) k) i no_entry
      places_too i lt =
          let less : i < k + n - 1 = omega (arith, front) in
          let turn = turned_from i in
          let move = removed_from (take (k + n) es) k (omega (arith, whole)) i in
          let same : turn.0 ≡ move.0 = grind (arith, turn.2, move.2) in
          let short : move.0 < k + n = grind (arith, move.2) in
          get_or-take (k + n - 1) (put_mid k n es ys) i no_entry less ∙ turn.1 ∙ ap (λ j. get_or es j no_entry) same
          ∙ sym (get_or-take (k + n) es move.0 no_entry short) ∙ sym move.1

-- the same at the part from k up to `held`, by what `rotate_left` says of it
abbrev Rotated : List Entry → List Entry → Type 0
Rotated xs ys =
    ((i : ℕ) (d : Entry) → i + 1 < length xs → slice_index_or ys i d ≡ slice_index_or xs (i + 1) d)
    × ((i : ℕ) (d : Entry) → length xs ≤ i + 1 → i < length xs → slice_index_or ys i d ≡ slice_index_or xs (i + 1 - length xs) d)

module _ (es ys : List Entry) (k held : ℕ) (lt : k < held) (fits : held ≤ length es)
    (long : length ys ≡ length (mid_of k (held - k) es)) (rotated : Rotated (mid_of k (held - k) es) ys) where
  span : length (mid_of k (held - k) es) ≡ held - k
  span = length-take-le (held - k) (drop k es) (omega (arith, length-drop k es))

  next : (j : ℕ) → j + 1 < held - k → slice_index_or ys j no_entry ≡ slice_index_or (mid_of k (held - k) es) (j + 1) no_entry
  next j h = rotated.0 j no_entry (omega (arith, span))

  last : (j : ℕ) → held - k ≤ j + 1 → j < held - k → slice_index_or ys j no_entry ≡ slice_index_or (mid_of k (held - k) es) (j + 1 - (held - k)) no_entry
  last j h less = rotated.1 j no_entry (omega (arith, span)) (omega (arith, span)) ∙ ap (λ m. get_or (mid_of k (held - k) es) (j + 1 - m) no_entry) span

  pub length_rotated : length (put_mid k (held - k) es ys) ≡ length es
  length_rotated = length_part k (held - k) es ys (omega arith) (long ∙ span)

  pub each_rotated : (P : Entry → Type 0) → Each P es → Each P (put_mid k (held - k) es ys)
  each_rotated = each_turned k (held - k) es ys (omega arith) (omega arith) (long ∙ span) next last

  pub pairs_rotated : (R : Entry → Entry → Type 0) → ((e f : Entry) → R e f → R f e) → Pairs R es → Pairs R (put_mid k (held - k) es ys)
  pairs_rotated = pairs_turned k (held - k) es ys (omega arith) (omega arith) (long ∙ span) next last

  pub take_rotated : take (held - 1) (put_mid k (held - k) es ys) ≡ remove (take held es) k
  take_rotated =
      ap (λ m. take (m - 1) (put_mid k (held - k) es ys)) (omega arith)
      ∙ take_turned k (held - k) es ys (omega arith) (omega arith) (long ∙ span) next last
      ∙ ap (λ m. remove (take m es) k) (omega arith)

-- entries with the places of others ----------------------------------------------------------------------------------

module _ (es fs : List Entry) (long : length fs ≡ length es)
    (same : (i : ℕ) → (get_or fs i no_entry).place ≡ (get_or es i no_entry).place) where
  pub each_placed : Each (λ e. e.place < capacity) es → Each (λ e. e.place < capacity) fs
  each_placed all i lt = omega (arith, same i, all i (omega arith))

  pub pairs_placed : Pairs Apart es → Pairs Apart fs
  pairs_placed all i j lt less e = all i j lt (omega arith) (sym (same i) ∙ e ∙ same j)

-- one more Put or Skip -----------------------------------------------------------------------------------------------

pub place_raised : (n : ℕ) (es : List Entry) (i : ℕ) → (get_or (map raised (take n es) ++ drop n es) i no_entry).place ≡ (get_or es i no_entry).place
place_raised zero es i = refl
place_raised (suc n) [] i = refl
place_raised (suc n) (e ∷ es) zero = refl
place_raised (suc n) (e ∷ es) (suc i) = place_raised n es i

pub raised_at : (hs : List Entry) (i : ℕ) → i < length (map raised hs) → (i < length hs) × (slice_index_or (map raised hs) i no_entry ≡ raised (slice_index_or hs i no_entry))
raised_at hs i lt =
    let less : i < length hs = omega (arith, length-map hs raised) in
    (less, get_or-map raised hs i no_entry no_entry less)

pub each_raised : (P Q : Entry → Type 0) → ((e : Entry) → P e → Q (raised e)) → (hs : List Entry) → Each P hs → Each Q (map raised hs)
each_raised P Q more hs all i lt =
    let at = raised_at hs i lt in
    subst Q (sym at.1) (more (slice_index_or hs i no_entry) (all i at.0))

pub older_raised : (hs : List Entry) → Pairs Older hs → Pairs Older (map raised hs)
older_raised hs all i j lt less =
    let at_j = raised_at hs j less in
    let at_i = raised_at hs i (omega arith) in
    omega (arith, all i j lt at_j.0, ap (λ e. e.age) at_i.1, ap (λ e. e.age) at_j.1)

each_tail : (P : Entry → Type 0) (e : Entry) (hs : List Entry) → Each P (e ∷ hs) → Each P hs
each_tail P e hs all i lt = all (suc i) (omega arith)

-- where nothing reaches the limit
pub aged_raised : (store : List Bytes) (hs : List Entry) → Each (λ e. e.age + 1 < age_limit) hs
    → map (waiting_at store) (map raised hs) ≡ aged (map (waiting_at store) hs)
aged_raised store [] young = refl
aged_raised store (e ∷ hs) young =
    let rest = aged_raised store hs (each_tail (λ e. e.age + 1 < age_limit) e hs young) in
    let lt : suc e.age < age_limit = omega (arith, young 0 (omega arith)) in
    let test = lt-ltb (suc e.age) age_limit lt in
    let w = waiting_at store e in
    ap (λ ws. record { pdu = w.pdu; age = e.age + 1 } ∷ ws) rest
    ∙ ap (λ n. record { pdu = w.pdu; age = n } ∷ aged (map (waiting_at store) hs)) (add-one e.age)
    ∙ sym (cond-true (nat_lt (suc e.age) age_limit) (record { pdu = w.pdu; age = suc e.age } ∷ aged (map (waiting_at store) hs)) (aged (map (waiting_at store) hs)) test)

-- where the oldest does
pub aged_expired : (store : List Bytes) (hs : List Entry) → 0 < length hs → (get_or hs 0 no_entry).age + 1 ≡ age_limit
    → aged (map (waiting_at store) (remove hs 0)) ≡ aged (map (waiting_at store) hs)
aged_expired store [] lt old = refl
aged_expired store (e ∷ hs) lt old =
    let test = le-ltb (suc e.age) age_limit (omega arith) in
    sym (cond-false (nat_lt (suc e.age) age_limit) (record { pdu = (waiting_at store e).pdu; age = suc e.age } ∷ aged (map (waiting_at store) hs)) (aged (map (waiting_at store) hs)) test)

-- it alone can
pub young_rest : (hs : List Entry) → Each Carried hs → Pairs Older hs → Each (λ e. e.age + 1 < age_limit) (remove hs 0)
young_rest [] all falls i lt = absurd (omega (arith, lt))
young_rest (e ∷ hs) all falls i lt = omega (arith, (all 0 (omega arith)).2, falls 0 (suc i) (omega arith) (omega arith))

pub young_all : (hs : List Entry) → Each Carried hs → Pairs Older hs → ((get_or hs 0 no_entry).age + 1 ≢ age_limit) → Each (λ e. e.age + 1 < age_limit) hs
young_all hs all falls young zero lt = omega (arith, (all 0 lt).2, young)
young_all hs all falls young (suc i) lt = omega (arith, (all 0 (omega arith)).2, falls 0 (suc i) (omega arith) lt)

-- one entry more -----------------------------------------------------------------------------------------------------

pub place_set : (es : List Entry) (k : ℕ) (e : Entry) → e.place ≡ (get_or es k no_entry).place → (i : ℕ) → (get_or (slice_set es k e) i no_entry).place ≡ (get_or es i no_entry).place
place_set [] k e same i = refl
place_set (f ∷ es) zero e same zero = same
place_set (f ∷ es) zero e same (suc i) = refl
place_set (f ∷ es) (suc k) e same zero = refl
place_set (f ∷ es) (suc k) e same (suc i) = place_set es k e same i

push_at : (hs : List Entry) (e : Entry) (i : ℕ) → i < length (hs ++ e ∷ []) → ((i < length hs) × (slice_index_or (hs ++ e ∷ []) i no_entry ≡ slice_index_or hs i no_entry)) ⊎ ((i ≡ length hs) × (slice_index_or (hs ++ e ∷ []) i no_entry ≡ e))
push_at hs e i lt =
    ⊎_elim (λ less. inl (less, get_or_append_left hs (e ∷ []) no_entry i less))
    (λ le. let here : i ≡ length hs = omega (arith, length_push hs e) in inr (here, get_or_push hs e no_entry i (sym here))) (cases_lt i (length hs))

pub each_push : (P : Entry → Type 0) (hs : List Entry) (e : Entry) → Each P hs → P e → Each P (hs ++ e ∷ [])
each_push P hs e all here i lt =
    ⊎_elim (λ at. subst P (sym at.1) (all i at.0)) (λ at. subst P (sym at.1) here) (push_at hs e i lt)

pub older_push : (hs : List Entry) (e : Entry) → Pairs Older hs → Each (λ f. 1 ≤ f.age) hs → e.age ≡ 0 → Pairs Older (hs ++ e ∷ [])
older_push hs e all old new i j lt less =
    let before : i < length hs = omega (arith, length_push hs e) in
    let at_i = get_or_append_left hs (e ∷ []) no_entry i before in
    ⊎_elim (λ at. omega (arith, all i j lt at.0, ap (λ f. f.age) at.1, ap (λ f. f.age) at_i))
    (λ at. omega (arith, old i before, ap (λ f. f.age) at.1, ap (λ f. f.age) at_i)) (push_at hs e j less)

-- a place that no entry has is written
pub map_other : (store : List Bytes) (place : ℕ) (bytes : Bytes) (hs : List Entry) → Each (λ e. e.place ≢ place) hs
    → map (waiting_at (slice_set store place bytes)) hs ≡ map (waiting_at store) hs
map_other store place bytes [] other = refl
map_other store place bytes (e ∷ hs) other =
    let rest = map_other store place bytes hs (each_tail (λ e. e.place ≢ place) e hs other) in
    let here = get_or-set_other store place e.place bytes [] (other 0 (omega arith)) in
    ap (λ b. record { pdu = take e.length b; age = e.age } ∷ map (waiting_at (slice_set store place bytes)) hs) here ∙ ap (λ ws. waiting_at store e ∷ ws) rest

-- what a loop that raises each entry has still before it
pub age_ahead : (i : ℕ) (es fs : List Entry) → fs ≡ map raised (take i es) ++ drop i es → i < length es → (get_or fs i no_entry).age ≡ (get_or es i no_entry).age
age_ahead i es fs e lt =
    let long : length (map raised (take i es)) ≡ i = length-map (take i es) raised ∙ length-take-le i es (omega arith) in
    ap (λ xs. (get_or xs i no_entry).age) e
    ∙ ap (λ f. f.age) (get_or-append_right (map raised (take i es)) (drop i es) i i no_entry long (omega arith) ∙ get_or-drop i es (i - i) no_entry ∙ ap (λ j. get_or es j no_entry) (omega arith))
