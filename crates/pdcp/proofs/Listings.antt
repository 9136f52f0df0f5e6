-- The laws of a list of what stands under COUNTs.
use Rattle.std.proofs.Common.{◌≡◌, ℕ, zero, suc, ◌+◌, ◌<◌, ◌≤◌, Bool, true, false, cond, ◌&&◌, ◌||◌, eqb, ltb, find, count_by, length, List, [], ◌∷◌, ◌++◌, is_some, Some, None, Option, sym, refl, ap, ◌∙◌, subst, ⊎_elim, arith}
use Rattle.pdcp.specs.Places.{noted, listed}
use Rattle.pdcp.specs.Stores.{found, without, lowest_of}
use Rattle.protocol.proofs.Seeks.{update_same, update_other}
use Rattle.protocol.specs.Bytes.{Bytes}
use Rattle.protocol.specs.Reordering.{Stored, is_stored, insert, due_of}
use Rattle.protocol.specs.Searching.{update}
use Rattle.std.specs.List.{range_with_len}
use Rattle.std.proofs.lemmas.List.Sums.{sum_by-cons}
use Rattle.std.proofs.lemmas.Bool.{cases_eq, cond-true, cond-false, ltb-false, eq-eqb, ne_eqb, lt-ltb, le-ltb}

-- one COUNT and the higher ones -------------------------------------------------------------------------------------

found_other : (o : Option Bytes) (from c : ℕ) (rest : List Stored) → (from ≡ c → ⊥) → found (noted o from rest) c ≡ found rest c
found_other None from c rest apart = refl
found_other (Some packet) from c rest apart = cond-false _ _ _ (ne_eqb from c apart)

found_same : (o : Option Bytes) (c : ℕ) (rest : List Stored) → found rest c ≡ None → found (noted o c rest) c ≡ o
found_same None c rest none = none
found_same (Some packet) c rest none = cond-true _ _ _ (eq-eqb c c refl)

noted_before : (o : Option Bytes) (from : ℕ) (front rest : List Stored) → noted o from (front ++ rest) ≡ noted o from front ++ rest
noted_before None from front rest = refl
noted_before (Some packet) from front rest = refl

insert_later : (o : Option Bytes) (from : ℕ) (s : Stored) (rest : List Stored) → from < s.count → insert s (noted o from rest) ≡ noted o from (insert s rest)
insert_later None from s rest later = refl
insert_later (Some packet) from s rest later = cond-false _ _ _ (le-ltb s.count from (omega (arith, later)))

without_later : (o : Option Bytes) (from c : ℕ) (rest : List Stored) → from < c → without c (noted o from rest) ≡ noted o from (without c rest)
without_later None from c rest later = refl
without_later (Some packet) from c rest later = cond-false _ _ _ (ne_eqb from c (λ e. omega (arith, later, e)))

stored_or : (b : Bool) (packet : Bytes) (ss : List Stored) (c : ℕ) → is_stored ss c ≡ is_some (found ss c) → (b || is_stored ss c) ≡ is_some (cond b (Some packet) (found ss c))
stored_or true packet ss c e = refl
stored_or false packet ss c e = e

-- a COUNT is stored if its packet is found
pub stored_found : (ss : List Stored) (c : ℕ) → is_stored ss c ≡ is_some (found ss c)
stored_found [] c = refl
stored_found (s ∷ ss) c = stored_or (eqb s.count c) s.packet ss c (stored_found ss c)

-- a range of COUNTs ------------------------------------------------------------------------------------------------

-- equal functions are listed alike
pub listed_same : (f g : ℕ → Option Bytes) (n from : ℕ) → ((k : ℕ) → from ≤ k → k < from + n → f k ≡ g k) → listed f n from ≡ listed g n from
listed_same f g zero from same = refl
listed_same f g (suc n) from same =
    ap (λ o. noted o from (listed f n (suc from))) (same from (omega arith) (omega arith))
    ∙ ap (noted (g from) from) (listed_same f g n (suc from) (λ k lo hi. same k (omega (arith, lo)) (omega (arith, hi))))

-- where nothing stands, nothing is listed
pub listed_none : (f : ℕ → Option Bytes) (n from : ℕ) → ((k : ℕ) → from ≤ k → k < from + n → f k ≡ None) → listed f n from ≡ []
listed_none f zero from none = refl
listed_none f (suc n) from none =
    ap (λ o. noted o from (listed f n (suc from))) (none from (omega arith) (omega arith))
    ∙ listed_none f n (suc from) (λ k lo hi. none k (omega (arith, lo)) (omega (arith, hi)))

-- two ranges, one behind the other
pub listed_split : (f : ℕ → Option Bytes) (m n from : ℕ) → listed f (m + n) from ≡ listed f m from ++ listed f n (from + m)
listed_split f zero n from =
    let size : 0 + n ≡ n = omega arith in
    let start : from ≡ from + 0 = omega arith in
    ap (λ k. listed f k from) size ∙ ap (listed f n) start
listed_split f (suc m) n from =
    let size : suc m + n ≡ suc (m + n) = omega arith in
    let start : suc from + m ≡ from + suc m = omega arith in
    ap (λ k. listed f k from) size ∙ ap (noted (f from) from) (listed_split f m n (suc from))
    ∙ noted_before (f from) from (listed f m (suc from)) (listed f n (suc from + m)) ∙ ap (λ k. listed f (suc m) from ++ listed f n k) start

-- what is found in a list is what stands there
pub found_outside : (f : ℕ → Option Bytes) (n from c : ℕ) → (from ≤ c → c < from + n → ⊥) → found (listed f n from) c ≡ None
found_outside f zero from c out = refl
found_outside f (suc n) from c out =
    found_other (f from) from c (listed f n (suc from)) (λ e. out (omega (arith, e)) (omega (arith, e)))
    ∙ found_outside f n (suc from) c (λ lo hi. out (omega (arith, lo)) (omega (arith, hi)))

pub found_at : (f : ℕ → Option Bytes) (n from c : ℕ) → from ≤ c → c < from + n → found (listed f n from) c ≡ f c
found_at f zero from c lo hi = absurd (omega (arith, lo, hi))
found_at f (suc n) from c lo hi =
    ⊎_elim
    (λ e. subst (λ k. found (listed f (suc n) k) c ≡ f c) (sym e) (found_same (f c) c (listed f n (suc c)) (found_outside f n (suc c) c (λ l h. omega (arith, l)))))
    (λ d. found_other (f from) from c (listed f n (suc from)) d ∙ found_at f n (suc from) c (omega (arith, lo, d)) (omega (arith, hi)))
    (cases_eq from c)

-- f changed at one COUNT -------------------------------------------------------------------------------------------

listed_past : (f : ℕ → Option Bytes) (c : ℕ) (o : Option Bytes) (n from : ℕ) → c < from → listed (update f c o) n from ≡ listed f n from
listed_past f c o n from h = listed_same (update f c o) f n from (λ k lo hi. update_other f c o k (λ e. omega (arith, h, lo, e)))

-- a packet stored behind the higher ones stands before them
insert_first : (f : ℕ → Option Bytes) (s : Stored) (n from : ℕ) → s.count < from → insert s (listed f n from) ≡ s ∷ listed f n from
insert_first f s zero from h = refl
insert_first f s (suc n) from h = go (f from) (insert_first f s n (suc from) (omega (arith, h)))
  where
    go : (o : Option Bytes) → insert s (listed f n (suc from)) ≡ s ∷ listed f n (suc from)
        → insert s (noted o from (listed f n (suc from))) ≡ s ∷ noted o from (listed f n (suc from))
    go None e = e
    go (Some packet) e = cond-true _ _ _ (lt-ltb s.count from h)

pub listed_insert : (f : ℕ → Option Bytes) (c : ℕ) (packet : Bytes) (n from : ℕ) → f c ≡ None → from ≤ c → c < from + n
    → listed (update f c (Some packet)) n from ≡ insert (record { count = c; packet = packet }) (listed f n from)
listed_insert f c packet zero from none lo hi = absurd (omega (arith, lo, hi))
listed_insert f c packet (suc n) from none lo hi =
    ⊎_elim
    (λ e. subst (λ k. listed (update f c (Some packet)) (suc n) k ≡ insert (record { count = c; packet = packet }) (listed f (suc n) k)) (sym e) here)
    (λ d.
    ap (λ o. noted o from (listed (update f c (Some packet)) n (suc from))) (update_other f c (Some packet) from d)
    ∙ ap (noted (f from) from) (listed_insert f c packet n (suc from) none (omega (arith, lo, d)) (omega (arith, hi)))
    ∙ sym (insert_later (f from) from (record { count = c; packet = packet }) (listed f n (suc from)) (omega (arith, lo, d))))
    (cases_eq from c)
  where
    here : listed (update f c (Some packet)) (suc n) c ≡ insert (record { count = c; packet = packet }) (listed f (suc n) c)
    here =
        ap (λ o. noted o c (listed (update f c (Some packet)) n (suc c))) (update_same f c (Some packet))
        ∙ ap (λ ss. record { count = c; packet = packet } ∷ ss) (listed_past f c (Some packet) n (suc c) (omega arith))
        ∙ sym (insert_first f (record { count = c; packet = packet }) n (suc c) (omega arith))
        ∙ ap (λ o. insert (record { count = c; packet = packet }) (noted o c (listed f n (suc c)))) (sym none)

pub listed_without : (f : ℕ → Option Bytes) (c : ℕ) (packet : Bytes) (n from : ℕ) → f c ≡ Some packet → from ≤ c → c < from + n
    → listed (update f c None) n from ≡ without c (listed f n from)
listed_without f c packet zero from some lo hi = absurd (omega (arith, lo, hi))
listed_without f c packet (suc n) from some lo hi =
    ⊎_elim
    (λ e. subst (λ k. listed (update f c None) (suc n) k ≡ without c (listed f (suc n) k)) (sym e) here)
    (λ d.
    ap (λ o. noted o from (listed (update f c None) n (suc from))) (update_other f c None from d)
    ∙ ap (noted (f from) from) (listed_without f c packet n (suc from) some (omega (arith, lo, d)) (omega (arith, hi)))
    ∙ sym (without_later (f from) from c (listed f n (suc from)) (omega (arith, lo, d))))
    (cases_eq from c)
  where
    here : listed (update f c None) (suc n) c ≡ without c (listed f (suc n) c)
    here =
        ap (λ o. noted o c (listed (update f c None) n (suc c))) (update_same f c None)
        ∙ listed_past f c None n (suc c) (omega arith)
        ∙ sym (cond-true _ _ _ (eq-eqb c c refl))
        ∙ ap (λ o. without c (noted o c (listed f n (suc c)))) (sym some)

-- those below a COUNT ----------------------------------------------------------------------------------------------

pub due_none : (f : ℕ → Option Bytes) (deliv n from : ℕ) → deliv ≤ from → due_of deliv (listed f n from) ≡ []
due_none f deliv zero from h = refl
due_none f deliv (suc n) from h = go (f from) (due_none f deliv n (suc from) (omega (arith, h)))
  where
    go : (o : Option Bytes) → due_of deliv (listed f n (suc from)) ≡ [] → due_of deliv (noted o from (listed f n (suc from))) ≡ []
    go None e = e
    go (Some packet) e = cond-false _ _ _ (le-ltb from deliv h)

-- searching and counting along the COUNTs ---------------------------------------------------------------------------

-- a COUNT, and what is found of those behind it
lowest_here : (o : Option Bytes) (a : ℕ) (behind : Option ℕ) (rest : List Stored) → behind ≡ lowest_of rest
    → cond (is_some o) (Some a) behind ≡ lowest_of (noted o a rest)
lowest_here None a behind rest e = e
lowest_here (Some packet) a behind rest e = refl

pub lowest_listed : (f : ℕ → Option Bytes) (n a : ℕ) → find (λ c. is_some (f c)) (range_with_len a n) ≡ lowest_of (listed f n a)
lowest_listed f zero a = refl
lowest_listed f (suc n) a =
    let next : a + 1 ≡ suc a = omega arith in
    lowest_here (f a) a _ (listed f n (suc a)) (lowest_listed f n (a + 1) ∙ ap (λ k. lowest_of (listed f n k)) next)

due_here : (o : Option Bytes) (deliv a later : ℕ) (rest : List Stored) → later ≡ length (due_of deliv rest)
    → (deliv ≤ a → due_of deliv rest ≡ [])
    → cond (ltb a deliv && is_some o) 1 0 + later ≡ length (due_of deliv (noted o a rest))
due_here o deliv a later rest e none = go o (ltb a deliv) refl
  where
    go : (o : Option Bytes) (b : Bool) → ltb a deliv ≡ b → cond (b && is_some o) 1 0 + later ≡ length (due_of deliv (noted o a rest))
    go None true is = omega (arith, e)
    go None false is = omega (arith, e)
    go (Some packet) true is =
        let s : Stored = record { count = a; packet = packet } in
        let here : due_of deliv (s ∷ rest) ≡ s ∷ due_of deliv rest = cond-true _ _ _ is in
        omega (arith, e, ap length here)
    go (Some packet) false is =
        let here : due_of deliv (record { count = a; packet = packet } ∷ rest) ≡ [] = cond-false _ _ _ is in
        omega (arith, e, ap length here, ap length (none (ltb-false a deliv is)))

pub due_listed : (f : ℕ → Option Bytes) (deliv n a : ℕ)
    → count_by (λ c. ltb c deliv && is_some (f c)) (range_with_len a n) ≡ length (due_of deliv (listed f n a))
due_listed f deliv zero a = refl
due_listed f deliv (suc n) a =
    let next : a + 1 ≡ suc a = omega arith in
    sum_by-cons (λ c. cond (ltb c deliv && is_some (f c)) 1 0) a (range_with_len (a + 1) n)
    ∙ due_here (f a) deliv a _ (listed f n (suc a)) (due_listed f deliv n (a + 1) ∙ ap (λ k. length (due_of deliv (listed f n k))) next)
    (λ past. due_none f deliv n (suc a) (omega (arith, past)))
