-- A ring changed at one place is a function changed at one point, for the counts of one window.
use Rattle.std.proofs.Common.{◌≡◌, ℕ, ◌+◌, ◌%◌, ◌<◌, ◌≤◌, Bool, true, false, cond, eqb, ◌≢◌, List, length, set, refl, ap, ◌∙◌, arith, get_or-set_other, get_or-set_same}
use Rattle.protocol.specs.Rings.{in_ring}
use Rattle.std.proofs.lemmas.Bool.{eqb-true, eqb-false}

module _ {A : Type 0} where
  pub ring_same : (places : List A) (x : ℕ) (a none : A) → length places ≡ 16 → in_ring (set places (x % 16) a) x none ≡ a
  ring_same places x a none size = let h : x % 16 < length places = omega arith in get_or-set_same places (x % 16) a none h

  pub ring_other : (places : List A) (x y : ℕ) (a none : A) → y % 16 ≢ x % 16 → in_ring (set places (x % 16) a) y none ≡ in_ring places y none
  ring_other places x y a none apart = get_or-set_other places (x % 16) (y % 16) a none apart

  pub ring_update : (places : List A) (base x y : ℕ) (a none : A) → length places ≡ 16 → base ≤ x → x < base + 16 → base ≤ y → y < base + 16
      → in_ring (set places (x % 16) a) y none ≡ cond (eqb y x) a (in_ring places y none)
  ring_update places base x y a none size from to y_from y_to = go (eqb y x) refl
    where
      go : (same : Bool) → eqb y x ≡ same → in_ring (set places (x % 16) a) y none ≡ cond same a (in_ring places y none)
      go true e = ap (λ z. in_ring (set places (x % 16) a) z none) (eqb-true y x e) ∙ ring_same places x a none size
      go false e = ring_other places x y a none (λ same. eqb-false y x e (omega (arith, same, from, to, y_from, y_to)))
