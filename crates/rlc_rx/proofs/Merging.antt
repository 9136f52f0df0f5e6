-- Data written among bytes that are held, byte by byte or at once.
use Rattle.std.proofs.Common.{◌≡◌, ℕ, ◌+◌, ◌-◌, ◌<◌, ◌≤◌, Bool, true, false, cond, not, ◌||◌, ltb, leb, ◌≢◌, ◌⊎◌, List, ◌++◌, length, get_or, take, drop, set, replicate, sym, refl, ap, ◌∙◌, inl, inr, ⊎_elim, arith}
use Rattle.protocol.specs.Bytes.{Bytes, byte}
use Rattle.rlc_rx.specs.Flags.{tally, is_held, NoneFrom, in_data, Merged}
use Rattle.rlc_rx.proofs.Tallies.{one, tally_below, tally-set}
use Rattle.std.proofs.lemmas.List.Folds.{sum_by-replicate}
use Rattle.std.proofs.lemmas.List.Sums.{sum_by-append}
use Rattle.std.proofs.lemmas.List.{length-set, length-take-le, length-append, length-drop, length-replicate, get_or-set_same, get_or-set_other, get_or_append_left, get_or-append_right, get_or-take, get_or-drop, get_or-replicate, take-append-drop}
use Rattle.std.proofs.Math.Bool.{or-false}
use Rattle.std.proofs.lemmas.Bool.{cases_lt, cases_eq, cond-true, cond-false, lt-ltb, le-ltb, lt-leb, le-leb, or_left, not_from_false, or_from}

or_nothing : (x y : Bool) → y ≡ false → (x || y) ≡ x
or_nothing x y e = ap (λ b. x || b) e ∙ or-false x

module _ (offset n : ℕ) where
  pub data_outside : (i : ℕ) → (i < offset) ⊎ (offset + n ≤ i) → in_data offset n i ≡ false
  data_outside i = ⊎_elim (λ lt. ap (λ b. not (b || leb (offset + n) i)) (lt-ltb i offset lt))
      (λ ge. before (ltb i offset) (le-leb (offset + n) i ge))
    where
      before : (b : Bool) → leb (offset + n) i ≡ true → not (b || leb (offset + n) i) ≡ false
      before true e = refl
      before false e = ap not e

  pub data_inside : (i : ℕ) → offset ≤ i → i < offset + n → in_data offset n i ≡ true
  data_inside i ge lt = not_from_false _ (or_from _ _ (le-ltb i offset ge) (lt-leb (offset + n) i lt))

  data_more : (i : ℕ) → i ≢ offset + n → in_data offset (n + 1) i ≡ in_data offset n i
  data_more i d = ap (λ b. not (ltb i offset || b)) (⊎_elim below above (cases_lt i (offset + n)))
    where
      below : i < offset + n → leb (offset + (n + 1)) i ≡ leb (offset + n) i
      below lt = lt-leb _ i (omega (arith, lt)) ∙ sym (lt-leb _ i lt)

      above : offset + n ≤ i → leb (offset + (n + 1)) i ≡ leb (offset + n) i
      above ge = le-leb _ i (omega (arith, ge, d)) ∙ sym (le-leb _ i ge)

-- byte by byte --------------------------------------------------------------------------------------------------------

module _ (offset n : ℕ) (payload bytes bs : Bytes) (held hs : List Bool) (new : ℕ) (m : Merged offset n payload bytes bs held hs new) where
  not_yet : in_data offset n (offset + n) ≡ false
  not_yet = data_outside offset n (offset + n) (inr (omega arith))

  now_in : in_data offset (n + 1) (offset + n) ≡ true
  now_in = data_inside offset (n + 1) (offset + n) (omega arith) (omega arith)

  pub as_before : is_held hs (offset + n) ≡ is_held held (offset + n)
  as_before = m.marked (offset + n) ∙ or_nothing _ _ not_yet

  abbrev Marks : List Bool → ℕ → Type 0
  Marks flags i = is_held flags i ≡ (is_held held i || in_data offset (n + 1) i)

  abbrev Writes : Bytes → ℕ → Type 0
  Writes bytes' i = byte bytes' i ≡ cond (is_held held i || not (in_data offset (n + 1) i)) (byte bytes i) (byte payload (i - offset))

  -- at the other places nothing changes
  other_marked : (i : ℕ) → i ≢ offset + n → Marks hs i
  other_marked i d = m.marked i ∙ ap (λ b. is_held held i || b) (sym (data_more offset n i d))

  other_written : (i : ℕ) → i ≢ offset + n → Writes bs i
  other_written i d = m.written i ∙ ap (λ b. cond (is_held held i || not b) (byte bytes i) (byte payload (i - offset))) (sym (data_more offset n i d))

  -- a byte that is held stays
  pub merged_held : is_held hs (offset + n) ≡ true → Merged offset (n + 1) payload bytes bs held hs new
  merged_held h =
      record {
        sizes = m.sizes;
        marked = λ i. ⊎_elim (λ e. here_marked i e) (other_marked i) (cases_eq i (offset + n));
        written = λ i. ⊎_elim (λ e. here_written i e) (other_written i) (cases_eq i (offset + n));
        counted = m.counted;
      }
    where
      was : is_held held (offset + n) ≡ true
      was = sym as_before ∙ h

      here_marked : (i : ℕ) → i ≡ offset + n → Marks hs i
      here_marked i e = ap (is_held hs) e ∙ h ∙ sym (or_left _ _ (ap (is_held held) e ∙ was))

      here_written : (i : ℕ) → i ≡ offset + n → Writes bs i
      here_written i e =
          m.written i ∙ cond-true _ _ _ (or_left _ _ (ap (is_held held) e ∙ was)) ∙ sym (cond-true _ _ _ (or_left _ _ (ap (is_held held) e ∙ was)))

  pub merged_new : offset + n < length bytes → length held ≡ length bytes → is_held hs (offset + n) ≡ false
      → Merged offset (n + 1) payload bytes (set bs (offset + n) (byte payload n)) held (set hs (offset + n) true) (new + 1)
  merged_new room same h =
      record {
        sizes = (length-set bs (offset + n) (byte payload n) ∙ m.sizes.0, length-set hs (offset + n) true ∙ m.sizes.1);
        marked = λ i. ⊎_elim (λ e. here_marked i e) (λ d. get_or-set_other hs (offset + n) i true false d ∙ other_marked i d) (cases_eq i (offset + n));
        written = λ i. ⊎_elim (λ e. here_written i e) (λ d. get_or-set_other bs (offset + n) i (byte payload n) 0 d ∙ other_written i d) (cases_eq i (offset + n));
        counted = omega (arith, tally-set hs (offset + n) fits_flags h, m.counted);
      }
    where
      fits_flags : offset + n < length hs
      fits_flags = omega (arith, m.sizes.1, room, same)

      fits : offset + n < length bs
      fits = omega (arith, m.sizes.0, room)

      was : is_held held (offset + n) ≡ false
      was = sym as_before ∙ h

      here_marked : (i : ℕ) → i ≡ offset + n → Marks (set hs (offset + n) true) i
      here_marked i e =
          ap (is_held (set hs (offset + n) true)) e ∙ get_or-set_same hs (offset + n) true false fits_flags
          ∙ sym (ap (λ j. is_held held j || in_data offset (n + 1) j) e ∙ ap (λ b. b || in_data offset (n + 1) (offset + n)) was ∙ now_in)

      here_written : (i : ℕ) → i ≡ offset + n → Writes (set bs (offset + n) (byte payload n)) i
      here_written i e =
          ap (byte (set bs (offset + n) (byte payload n))) e ∙ get_or-set_same bs (offset + n) (byte payload n) 0 fits
          ∙ sym
          (cond-false _ _ _
          (ap (λ j. is_held held j || not (in_data offset (n + 1) j)) e ∙ ap (λ b. b || not (in_data offset (n + 1) (offset + n))) was ∙ ap not now_in)
          ∙ ap (byte payload) (omega (arith, e)))

-- at once ------------------------------------------------------------------------------------------------------------

none_dropped : (a : ℕ) (flags : List Bool) → NoneFrom a flags → tally (drop a flags) ≡ 0
none_dropped a flags none =
    let low = tally_below 0 (drop a flags) (λ i le. get_or-drop a flags i false ∙ none (a + i) (omega arith)) in
    omega (arith, low)

-- a list with ys in place of what stood from a on
module _ {A : Type 0} (a n : ℕ) (xs ys : List A) (d : A) (size : length ys ≡ n) (room : a + n ≤ length xs) where
  abbrev zs : List A
  zs = take a xs ++ (ys ++ drop (a + n) xs)

  front : length (take a xs) ≡ a
  front = length-take-le a xs (omega (arith, room))

  pub put_below : (i : ℕ) → i < a → get_or zs i d ≡ get_or xs i d
  put_below i lt = get_or_append_left (take a xs) _ d i (omega (arith, front, lt)) ∙ get_or-take a xs i d lt

  past : (i : ℕ) → a ≤ i → get_or zs i d ≡ get_or (ys ++ drop (a + n) xs) (i - a) d
  past i ge = get_or-append_right (take a xs) (ys ++ drop (a + n) xs) a i d front ge

  pub put_inside : (i : ℕ) → a ≤ i → i < a + n → get_or zs i d ≡ get_or ys (i - a) d
  put_inside i ge lt = past i ge ∙ get_or_append_left ys (drop (a + n) xs) d (i - a) (omega (arith, lt, size, ge))

  pub put_above : (i : ℕ) → a + n ≤ i → get_or zs i d ≡ get_or xs i d
  put_above i ge =
      past i (omega (arith, ge)) ∙ get_or-append_right ys (drop (a + n) xs) n (i - a) d size (omega (arith, ge))
      ∙ get_or-drop (a + n) xs (i - a - n) d ∙ ap (λ j. get_or xs j d) (omega (arith, ge))

  pub put_size : length zs ≡ length xs
  put_size =
      omega (arith, length-append (take a xs) (ys ++ drop (a + n) xs), length-append ys (drop (a + n) xs), front, size, length-drop (a + n) xs, room)

pub merged_all : (offset : ℕ) (payload bytes : Bytes) (held : List Bool) → offset + length payload ≤ length bytes → length held ≡ length bytes
    → NoneFrom offset held
    → Merged offset (length payload) payload bytes (take offset bytes ++ (payload ++ drop (offset + length payload) bytes)) held
    (take offset held ++ (replicate (length payload) true ++ drop (offset + length payload) held)) (length payload)
merged_all offset payload bytes held room same none =
    record {
      sizes = (put_size offset n bytes payload 0 refl room, put_size offset n held (replicate n true) false all_set room');
      marked = λ i. ⊎_elim (λ lt. low_marked i lt) (λ ge. ⊎_elim (λ lt. in_marked i ge lt) (λ le. high_marked i le) (cases_lt i (offset + n))) (cases_lt i offset);
      written = λ i. ⊎_elim (λ lt. low_written i lt) (λ ge. ⊎_elim (λ lt. in_written i ge lt) (λ le. high_written i le) (cases_lt i (offset + n))) (cases_lt i offset);
      counted =
          omega (
            arith,
            sum_by-append one (take offset held) (replicate n true ++ drop (offset + n) held),
            sum_by-append one (replicate n true) (drop (offset + n) held),
            sum_by-replicate one n true,
            none_dropped (offset + n) held (λ i le. none i (omega (arith, le))),
            none_dropped offset held none,
            sum_by-append one (take offset held) (drop offset held),
            ap tally (take-append-drop offset held),
          );
    }
  where
    n : ℕ
    n = length payload

    all_set : length (replicate n true) ≡ n
    all_set = length-replicate n true

    room' : offset + n ≤ length held
    room' = omega (arith, room, same)

    held' : List Bool
    held' = take offset held ++ (replicate n true ++ drop (offset + n) held)

    bytes' : Bytes
    bytes' = take offset bytes ++ (payload ++ drop (offset + n) bytes)

    stays : (i : ℕ) → in_data offset n i ≡ false → (is_held held i || not (in_data offset n i)) ≡ true
    stays i e = go (is_held held i)
      where
        go : (b : Bool) → (b || not (in_data offset n i)) ≡ true
        go true = refl
        go false = ap not e

    low_marked : (i : ℕ) → i < offset → is_held held' i ≡ (is_held held i || in_data offset n i)
    low_marked i lt = put_below offset n held (replicate n true) false all_set room' i lt ∙ sym (or_nothing _ _ (data_outside offset n i (inl lt)))

    high_marked : (i : ℕ) → offset + n ≤ i → is_held held' i ≡ (is_held held i || in_data offset n i)
    high_marked i ge = put_above offset n held (replicate n true) false all_set room' i ge ∙ sym (or_nothing _ _ (data_outside offset n i (inr ge)))

    in_marked : (i : ℕ) → offset ≤ i → i < offset + n → is_held held' i ≡ (is_held held i || in_data offset n i)
    in_marked i ge lt =
        put_inside offset n held (replicate n true) false all_set room' i ge lt ∙ get_or-replicate n (i - offset) true false (omega (arith, ge, lt))
        ∙ sym (ap (λ b. b || in_data offset n i) (none i ge) ∙ data_inside offset n i ge lt)

    low_written : (i : ℕ) → i < offset → byte bytes' i ≡ cond (is_held held i || not (in_data offset n i)) (byte bytes i) (byte payload (i - offset))
    low_written i lt = put_below offset n bytes payload 0 refl room i lt ∙ sym (cond-true _ _ _ (stays i (data_outside offset n i (inl lt))))

    high_written : (i : ℕ) → offset + n ≤ i → byte bytes' i ≡ cond (is_held held i || not (in_data offset n i)) (byte bytes i) (byte payload (i - offset))
    high_written i ge = put_above offset n bytes payload 0 refl room i ge ∙ sym (cond-true _ _ _ (stays i (data_outside offset n i (inr ge))))

    in_written : (i : ℕ) → offset ≤ i → i < offset + n
        → byte bytes' i ≡ cond (is_held held i || not (in_data offset n i)) (byte bytes i) (byte payload (i - offset))
    in_written i ge lt =
        put_inside offset n bytes payload 0 refl room i ge lt
        ∙ sym (cond-false _ _ _ (ap (λ b. b || not (in_data offset n i)) (none i ge) ∙ ap not (data_inside offset n i ge lt)))
