-- An air in which everything grows too old is empty.
use Rattle.std.proofs.Common.{◌≡◌, ℕ, suc, ◌+◌, ◌<◌, ◌≤◌, List, [], ◌∷◌, refl, arith}
use Rattle.air.specs.Meaning.{Sound}
use Rattle.protocol.proofs.Strikes.{all_within, aged_older}
use Rattle.protocol.specs.Airs.{Waiting, Within, age_limit, aged}
use Rattle.std.proofs.ByRecursion.{All-weaker}
use Rattle.std.specs.List.{AllByRecursion}

pub none_younger : (ws : List Waiting) → AllByRecursion (λ w. 0 ≤ w.age) ws
none_younger [] = tt
none_younger (w ∷ ws) = (omega arith, none_younger ws)

pub skip_older : (n : ℕ) (before after : List Waiting) → Within after (aged before) → AllByRecursion (λ w. n ≤ w.age) before → AllByRecursion (λ w. n + 1 ≤ w.age) after
skip_older n before after within all =
    All-weaker (λ w. (suc n ≤ w.age) × (w.age < age_limit)) (λ w. n + 1 ≤ w.age) (λ w h. omega arith) after
    (all_within (λ w. (suc n ≤ w.age) × (w.age < age_limit)) within (aged_older n before all))

pub none_left : (n : ℕ) (ws : List Waiting) → age_limit ≤ n → Sound ws → AllByRecursion (λ w. n ≤ w.age) ws → ws ≡ []
none_left n [] limit sound old = refl
none_left n (w ∷ ws) limit sound old = absurd (omega (arith, sound.0.1, old.0))
