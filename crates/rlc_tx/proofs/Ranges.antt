-- A list with the elements of one range changed.
use borrow.Rule.Slice.PartMut.{put_mid}
use Rattle.std.proofs.Common.{◌≡◌, ℕ, ◌+◌, ◌-◌, ◌<◌, ◌≤◌, Bool, cond, ◌⊎◌, List, ◌++◌, map, length, get_or, take, drop, count_by, ap, ◌∙◌, inl, inr, arith}
use Rattle.std.proofs.lemmas.List.{length-append, get_or-map, get_or-take, get_or-drop, get_or_append_left, get_or-append_right, length-map, length-take-le, length-drop}
use Rattle.std.proofs.lemmas.List.Sums.{sum_by-append, sum_by-take-drop}

-- xs, with its elements from `a` on and before `e` changed
module _ {A : Type 0} (f : A → A) (xs : List A) (a e : ℕ) (lo : a ≤ e) (hi : e ≤ length xs) (d : A) where
  abbrev part : List A
  part = map f (take (e - a) (drop a xs))

  front : length (take a xs) ≡ a
  front = length-take-le a xs (omega arith)

  middle : length (take (e - a) (drop a xs)) ≡ e - a
  middle = length-take-le (e - a) (drop a xs) (omega (arith, length-drop a xs))

  long : length (map f (take (e - a) (drop a xs))) ≡ e - a
  long = length-map (take (e - a) (drop a xs)) f ∙ middle

  pub changed_length : length (put_mid a (e - a) xs (map f (take (e - a) (drop a xs)))) ≡ length xs
  changed_length = omega (arith, length-append (take a xs) (part ++ drop (e - a) (drop a xs)), length-append part (drop (e - a) (drop a xs)), long, front, length-drop (e - a) (drop a xs), length-drop a xs)

  pub changed_outside : (i : ℕ) → (i < a) ⊎ (e ≤ i) → get_or (put_mid a (e - a) xs (map f (take (e - a) (drop a xs)))) i d ≡ get_or xs i d
  changed_outside i (inl l) = get_or_append_left (take a xs) _ d i (omega (arith, l, front)) ∙ get_or-take a xs i d l
  changed_outside i (inr l) =
      get_or-append_right (take a xs) _ a i d front (omega (arith, l))
      ∙ get_or-append_right part (drop (e - a) (drop a xs)) (e - a) (i - a) d long (omega (arith, l))
      ∙ get_or-drop (e - a) (drop a xs) (i - a - (e - a)) d ∙ get_or-drop a xs (e - a + (i - a - (e - a))) d ∙ ap (λ j. get_or xs j d) (omega (arith, l))

  pub changed_inside : (i : ℕ) → a ≤ i → i < e → get_or (put_mid a (e - a) xs (map f (take (e - a) (drop a xs)))) i d ≡ f (get_or xs i d)
  changed_inside i from to =
      get_or-append_right (take a xs) _ a i d front from ∙ get_or_append_left part _ d (i - a) (omega (arith, to, long))
      ∙ get_or-map f (take (e - a) (drop a xs)) (i - a) d d (omega (arith, to, middle))
      ∙ ap f (get_or-take (e - a) (drop a xs) (i - a) d (omega arith) ∙ get_or-drop a xs (i - a) d ∙ ap (λ j. get_or xs j d) (omega (arith, from)))

-- what is counted in it
pub count_part : {A : Type 0} (p : A → Bool) (xs ys : List A) (a k : ℕ) → count_by p (put_mid a k xs ys) + count_by p (take k (drop a xs)) ≡ count_by p xs + count_by p ys
count_part {A = A} p xs ys a k =
    let weight : A → ℕ = λ x. cond (p x) 1 0 in
    omega (arith, sum_by-append weight (take a xs) (ys ++ drop k (drop a xs)), sum_by-append weight ys (drop k (drop a xs)), sum_by-take-drop weight xs a, sum_by-take-drop weight (drop a xs) k)

pub count_within : {A : Type 0} (p : A → Bool) (xs : List A) (a k : ℕ) → count_by p (take k (drop a xs)) ≤ count_by p xs
count_within {A = A} p xs a k =
    let weight : A → ℕ = λ x. cond (p x) 1 0 in
    omega (arith, sum_by-take-drop weight xs a, sum_by-take-drop weight (drop a xs) k)
