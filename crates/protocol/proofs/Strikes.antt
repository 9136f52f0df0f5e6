-- Laws of striking elements out of a list, and of what ages in an air.
use Rattle.std.proofs.Common.{◌≡◌, ℕ, zero, suc, ◌<◌, ◌≤◌, Bool, true, false, cond, ltb, List, [], ◌∷◌, ◌++◌, take, drop, None, MatchBool, Option, sym, refl, ap, ◌∙◌, subst, arith}
use Rattle.protocol.specs.Airs.{Waiting, Within, done, kept, struck, carries, age_limit, aged, after_put, takes, Takes}
use Rattle.protocol.specs.Bytes.{Bytes}
use Rattle.std.proofs.lemmas.List.{take-append-drop, take-take}
use Rattle.std.proofs.lemmas.Bool.{ltb-true, cond-true, cond-false}
use Rattle.std.specs.List.{remove, AllByRecursion}

pub within_all : {A : Type 0} (xs : List A) → Within xs xs
within_all [] = done
within_all (x ∷ xs) = kept x (within_all xs)

pub within_none : {A : Type 0} (xs : List A) → Within [] xs
within_none [] = done
within_none (x ∷ xs) = struck x (within_none xs)

pub within_trans : {A : Type 0} {xs ys zs : List A} → Within xs ys → Within ys zs → Within xs zs
within_trans p done = p
within_trans p (struck z q) = struck z (within_trans p q)
within_trans (kept x p) (kept y q) = kept x (within_trans p q)
within_trans (struck x p) (kept y q) = struck x (within_trans p q)

pub within_front : {A : Type 0} (xs ys : List A) → Within xs (xs ++ ys)
within_front [] ys = within_none ys
within_front (x ∷ xs) ys = kept x (within_front xs ys)

pub within_drop : {A : Type 0} (n : ℕ) (xs : List A) → Within (drop n xs) xs
within_drop zero xs = within_all xs
within_drop (suc n) [] = done
within_drop (suc n) (x ∷ xs) = struck x (within_drop n xs)

pub within_removed : {A : Type 0} (n : ℕ) (xs : List A) → Within (remove xs n) xs
within_removed zero [] = done
within_removed zero (x ∷ xs) = struck x (within_all xs)
within_removed (suc n) [] = done
within_removed (suc n) (x ∷ xs) = kept x (within_removed n xs)

-- the same at the end of both
pub within_append : {A : Type 0} {xs ys : List A} (zs : List A) → Within xs ys → Within (xs ++ zs) (ys ++ zs)
within_append zs done = within_all zs
within_append zs (kept x w) = kept x (within_append zs w)
within_append zs (struck y w) = struck y (within_append zs w)

-- more at the end
pub within_more : {A : Type 0} {xs ys : List A} (zs : List A) → Within xs ys → Within xs (ys ++ zs)
within_more zs done = within_none zs
within_more zs (kept x w) = kept x (within_more zs w)
within_more zs (struck y w) = struck y (within_more zs w)

-- a longer front
pub within_longer : {A : Type 0} (xs ys : List A) (m n : ℕ) → m ≤ n → Within xs (take m ys) → Within xs (take n ys)
within_longer xs ys m n le w =
    subst (Within xs) (ap (λ front. front ++ drop m (take n ys)) (sym (take-take m n ys le)) ∙ take-append-drop m (take n ys))
    (within_more (drop m (take n ys)) w)

-- what holds of each holds of those left
pub all_within : {A : Type 0} (P : A → Type 0) {xs ys : List A} → Within xs ys → AllByRecursion P ys → AllByRecursion P xs
all_within P done all = tt
all_within P (kept x p) all = (all.0, all_within P p all.1)
all_within P (struck y p) all = all_within P p all.1

-- after a Put or Skip everything that waits is older by one, and below the limit
pub aged_older : (n : ℕ) (ws : List Waiting) → AllByRecursion (λ w. n ≤ w.age) ws → AllByRecursion (λ w. (suc n ≤ w.age) × (w.age < age_limit)) (aged ws)
aged_older n [] all = tt
aged_older n (w ∷ ws) all = go (ltb (suc w.age) age_limit) refl (aged_older n ws all.1)
  where
    go : (young : Bool) → ltb (suc w.age) age_limit ≡ young → AllByRecursion (λ w. (suc n ≤ w.age) × (w.age < age_limit)) (aged ws)
        → AllByRecursion (λ w. (suc n ≤ w.age) × (w.age < age_limit)) (cond young (record { pdu = w.pdu; age = suc w.age } ∷ aged ws) (aged ws))
    go true young rest = ((omega (arith, all.0), ltb-true _ _ young), rest)
    go false young rest = rest

-- a Put of a PDU that the air carries, and of another
pub after_put_yes : (pdu : Bytes) (ws : List Waiting) → carries pdu ≡ true → after_put pdu ws ≡ aged ws ++ record { pdu = pdu; age = 0 } ∷ []
after_put_yes pdu ws = cond-true (carries pdu) (aged ws ++ record { pdu = pdu; age = 0 } ∷ []) (aged ws)

pub after_put_no : (pdu : Bytes) (ws : List Waiting) → carries pdu ≡ false → after_put pdu ws ≡ aged ws
after_put_no pdu ws = cond-false (carries pdu) (aged ws ++ record { pdu = pdu; age = 0 } ∷ []) (aged ws)

-- what a Skip may leave, a Put may
pub skip_within_put : (pdu : Bytes) (ws : List Waiting) → Within (aged ws) (after_put pdu ws)
skip_within_put pdu ws = go (carries pdu)
  where
    go : (b : Bool) → Within (aged ws) (cond b (aged ws ++ record { pdu = pdu; age = 0 } ∷ []) (aged ws))
    go true = within_front (aged ws) (record { pdu = pdu; age = 0 } ∷ [])
    go false = within_all (aged ws)

-- a Take may always let nothing out and leave everything
pub takes_nothing : (draw : ℕ) (buffer : Bytes) (ws : List Waiting) → Takes draw buffer None ws ws
takes_nothing draw buffer ws = go (takes draw buffer)
  where
    go : (ready : Bool) → MatchBool ready (Within ws ws) ((◌≡◌ {A = Option Bytes} None None) × (ws ≡ ws))
    go true = within_all ws
    go false = (refl, refl)
