-- A plan, by what a grant serves.
use Rattle.std.proofs.Common.{◌≡◌, ℕ, ◌≤◌, Bool, false, Some, None, Ok, Option, sym, ap, ◌∙◌, arith}
use Rattle.protocol.specs.Pdus.{amd, encode}
use Rattle.protocol.specs.Sending as near
use Rattle.protocol.specs.Settings.{Settings}
use Rattle.rlc_tx.specs.Plans.{planned, Serves}
use Rattle.std.proofs.lemmas.Bool.{cond-false, le-ltb}
use Rattle.std.specs.Option.{option_map}

pub same_some : {A : Type 0} (a b : A) → Some a ≡ Some b → a ≡ b
same_some a b e = cc (e)

pub none_some : {A : Type 0} (a : A) → Some a ≡ None → ⊥
none_some a e = let z : ◌≡◌ {A = ℕ} 0 1 = cc (e) in omega (arith, z)

-- each with what is said of it
with_some : {A B : Type 0} (f : A → B) (o : Option A) (a : A) (b : B) → ◌≡◌ {A = Option (A × B)} (Some (a, b)) (option_map (λ r. (r, f r)) o) → (o ≡ Some a) × (b ≡ f a)
with_some f (Some r) a b e =
    let both = same_some (a, b) (r, f r) e in
    (ap (λ p. Some p.0) (sym both), ap (λ p. p.1) both ∙ ap (λ p. f p.0) (sym both))
with_some f None a b e = absurd (none_some (a, b) e)

module _ (s : Settings) (n : near.Near) (grant : ℕ) (run : near.Run) (poll : Bool) (is : ◌≡◌ {A = Option (near.Run × Bool)} (Some (run, poll)) (planned s n grant)) where
  pub plan_run : near.served n grant ≡ Some run
  plan_run = (with_some (λ r. near.polls s r n) (near.served n grant) run poll is).0

  pub plan_poll : poll ≡ near.polls s run n
  plan_poll = (with_some (λ r. near.polls s r n) (near.served n grant) run poll is).1

pub serves_more : (n : near.Near) (grant more : ℕ) (run : near.Run) → grant ≤ more → Serves n grant run → Serves n more run
serves_more n grant more run l s = record { front = s.front; low = s.low; high = s.high; fits = omega (arith, s.fits, l) }

-- what spending a grant does, unless it is refused
module _ (s : Settings) (n : near.Near) (grant room : ℕ) (alive : n.failed ≡ false) (enough : grant ≤ room) where
  pub spends_what : near.spends s grant room n ≡ Ok (near.sends s grant n)
  spends_what = cond-false _ _ _ alive ∙ cond-false _ _ _ (le-ltb room grant enough)

  pub spends_run : (run : near.Run) → near.served n grant ≡ Some run
      → near.spends s grant room n ≡ Ok (Some (encode (amd (near.amd_of_run s run n)), near.spent s run n))
  spends_run run e = spends_what ∙ ap (λ o. Ok (near.sends_run s o n)) e
