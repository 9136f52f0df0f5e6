-- Packets in the order of COUNT, and the search for the next COUNT that is not stored.
use Rattle.std.proofs.Common.{◌≡◌, ℕ, ◌+◌, ◌-◌, ◌<◌, ◌≤◌, Bool, true, false, cond, not, eqb, ltb, List, [], ◌∷◌, sym, refl, ◌∙◌, ⊎_elim, arith}
use Rattle.pdcp.specs.Stores.{Below}
use Rattle.protocol.proofs.PdcpKept.{insert_stored}
use Rattle.protocol.proofs.Seeks.{seek_from, seek_to}
use Rattle.protocol.specs.Reordering.{Stored, is_stored, insert, due_of}
use Rattle.protocol.specs.Searching.{seek}
use Rattle.std.proofs.lemmas.Bool.{both_ways, eqb-true, ltb-false, or_cases}

-- the COUNTs rise, from `low` on
abbrev pub Ascending : ℕ → List Stored → Type 0
Ascending low [] = Unit {0}
Ascending low (s ∷ ss) = (low ≤ s.count) × Ascending (s.count + 1) ss

pub lower : (low low' : ℕ) (ss : List Stored) → low' ≤ low → Ascending low ss → Ascending low' ss
lower low low' [] h up = tt
lower low low' (s ∷ ss) h up = (omega (arith, h, up.0), up.1)

pub stored_from : (low : ℕ) (ss : List Stored) (k : ℕ) → Ascending low ss → is_stored ss k ≡ true → low ≤ k
stored_from low [] k up e = absurd (both_ways false refl e)
stored_from low (s ∷ ss) k up e =
    ⊎_elim (λ h. omega (arith, up.0, eqb-true s.count k h)) (λ h. omega (arith, up.0, stored_from (s.count + 1) ss k up.1 h))
    (or_cases (eqb s.count k) (is_stored ss k) e)

-- once nothing is due, what is stored is not below RX_DELIV
pub none_due : (deliv low : ℕ) (ss : List Stored) (k : ℕ) → Ascending low ss → due_of deliv ss ≡ [] → is_stored ss k ≡ true → deliv ≤ k
none_due deliv low [] k up none e = absurd (both_ways false refl e)
none_due deliv low (s ∷ ss) k up none e =
    let first = front (ltb s.count deliv) refl none in
    omega (arith, first, stored_from s.count (s ∷ ss) k (omega arith, up.1) e)
  where
    front : (b : Bool) → ltb s.count deliv ≡ b → cond b (s ∷ due_of deliv ss) [] ≡ [] → deliv ≤ s.count
    front true is f = let z : ◌≡◌ {A = ℕ} 0 1 = cc in absurd (omega arith)
    front false is f = ltb-false s.count deliv is

-- one more packet below a COUNT
pub below_insert : (high : ℕ) (new : Stored) (ss : List Stored) → Below high ss → new.count < high → Below high (insert new ss)
below_insert high new ss below h k e =
    ⊎_elim (λ is. omega (arith, h, eqb-true new.count k is)) (below k) (or_cases (eqb new.count k) (is_stored ss k) (sym (insert_stored new ss k) ∙ e))

-- the next COUNT that is not stored
module _ (ss : List Stored) (end next : ℕ) where
  pub missing_within : next ≤ end → (next ≤ seek (λ c. not (is_stored ss c)) (end - next) next) × (seek (λ c. not (is_stored ss c)) (end - next) next ≤ end)
  missing_within h =
      (seek_from (λ c. not (is_stored ss c)) (end - next) next, omega (arith, h, seek_to (λ c. not (is_stored ss c)) (end - next) next))
