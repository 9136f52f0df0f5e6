-- One search, and functions changed at one point.
use Rattle.std.specs.Prelude.{ℕ, zero, suc, Bool, cond, ◌==◌}

-- the first number that passes, of the `fuel` numbers from `from` on; the number after these where none does
abbrev pub seek : (ℕ → Bool) → (fuel from : ℕ) → ℕ
seek test zero from = from
seek test (suc fuel) from = cond (test from) from (seek test fuel (suc from))

-- f, but a at x
abbrev pub update : {A : Type 0} → (ℕ → A) → ℕ → A → ℕ → A
update f x a y = cond (y == x) a (f y)
