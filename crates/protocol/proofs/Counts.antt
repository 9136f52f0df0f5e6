-- The laws of sequence numbers.
use Rattle.std.proofs.Common.{◌≡◌, ℕ, suc, ◌+◌, ◌-◌, ◌*◌, ◌/◌, ◌%◌, ◌<◌, ◌≤◌, Bool, true, false, cond, eqb, ltb, Some, None, Option, sym, refl, ap, ◌∙◌, subst, ⊎_elim, mod-lt, mod-eq_of_lt, mul_comm, add-mul, mul-le-mul_left, arith}
use native.Mathlib.Nat.{mod-le, add-mod-mod, add-mul-mod_self_left}
use Rattle.protocol.specs.Laws.{OneCount, OnePdcpCount}
use Rattle.protocol.specs.Numbers.{count_from, pdcp_count}
use Rattle.std.proofs.lemmas.Nat.{div-add-mod', mod-mul-add}
use Rattle.std.proofs.lemmas.Bool.{cases_order, ltb-true, ltb-false, eqb-true, eqb-false}

-- congruent counts less than the modulus apart are equal
same_count : (m a b : ℕ) → a % m ≡ b % m → a < b + m → b < a + m → a ≡ b
same_count m a b e ab ba =
    ⊎_elim (λ q. omega (arith, div-add-mod' a m, div-add-mod' b m, ap (λ x. x * m) q))
    (⊎_elim (λ lt. absurd (apart a b (sym e) ba lt)) (λ lt. absurd (apart b a e ab lt)))
    (cases_order (a / m) (b / m))
  where
    apart : (x y : ℕ) → y % m ≡ x % m → y < x + m → x / m < y / m → ⊥
    apart x y f near lt =
        omega (arith, div-add-mod' x m, div-add-mod' y m, mul-le-mul_left m lt, mul_comm m (suc (x / m)), mul_comm m (y / m), add-mul (x / m) 1 m)

count_congruent : (m base sn : ℕ) → sn < m → count_from m base sn % m ≡ sn
count_congruent m base sn h =
    add-mod-mod base (sn + m - base % m) m ∙ ap (λ x. x % m) whole_turns
    ∙ add-mul-mod_self_left sn m (base / m + 1) ∙ mod-eq_of_lt h
  where
    whole_turns : base + (sn + m - base % m) ≡ sn + m * (base / m + 1)
    whole_turns =
        omega (arith, div-add-mod' base m, mod-lt base {m = m} (omega arith), mul_comm m (base / m + 1), add-mul (base / m) 1 m)

pub one_count : OneCount
one_count m base sn c h = (
  λ e. (ap (λ x. x % m) e ∙ count_congruent m base sn h, omega (arith, e), omega (arith, e, in_window)),
  λ p. same_count m c (count_from m base sn) (p.0 ∙ sym (count_congruent m base sn h)) (omega (arith, p.1, p.2)) (omega (arith, p.1, in_window)),
)
  where
    in_window : (sn + m - base % m) % m < m
    in_window = mod-lt (sn + m - base % m) {m = m} (omega arith)

-- what makes c the COUNT of the number sn
abbrev Names : (half rx_deliv sn c : ℕ) → Type 0
Names half rx_deliv sn c = (c % (half + half) ≡ sn) × (rx_deliv ≤ c + half) × (c < rx_deliv + half)

-- an answer of `pdcp-count` that is right
abbrev Right : (half rx_deliv sn : ℕ) → Option ℕ → Type 0
Right half rx_deliv sn (Some c) = Names half rx_deliv sn c
Right half rx_deliv sn None = (c : ℕ) → Names half rx_deliv sn c → ⊥

-- q is RX_DELIV's HFN, and r its number
right_by : (half rx_deliv sn q r : ℕ) → sn < half + half → q * (half + half) + r ≡ rx_deliv → r < half + half
    → (below near none : Bool) → ltb (sn + half) r ≡ below → ltb sn (r + half) ≡ near → eqb q 0 ≡ none
    → Right half rx_deliv sn
    (cond below (Some ((q + 1) * (half + half) + sn))
    (cond near (Some (q * (half + half) + sn)) (cond none None (Some ((q - 1) * (half + half) + sn)))))
right_by half rx_deliv sn q r h e rm true near none t u v =
    let lt = ltb-true (sn + half) r t in
    let up = add-mul q 1 (half + half) in
    (mod-mul-add (q + 1) (half + half) sn h, omega arith, omega arith)
right_by half rx_deliv sn q r h e rm false true none t u v =
    let ge = ltb-false (sn + half) r t in
    let lt = ltb-true sn (r + half) u in
    (mod-mul-add q (half + half) sn h, omega arith, omega arith)
right_by half rx_deliv sn q r h e rm false false true t u v =
    let ge = ltb-false sn (r + half) u in
    let first = ap (λ x. x * (half + half)) (eqb-true q 0 v) in
    λ c p. omega (arith, mod-le c (half + half), p.0, p.2)
right_by half rx_deliv sn q r h e rm false false false t u v =
    let ge = ltb-false sn (r + half) u in
    let up = add-mul (q - 1) 1 (half + half) in
    let one : q - 1 + 1 ≡ q = omega (arith, eqb-false q 0 v) in
    let all = ap (λ x. x * (half + half)) one in
    (mod-mul-add (q - 1) (half + half) sn h, omega arith, omega arith)

pdcp_count_right : (half rx_deliv sn : ℕ) → sn < half + half → Right half rx_deliv sn (pdcp_count (half + half) half rx_deliv sn)
pdcp_count_right half rx_deliv sn h =
    right_by half rx_deliv sn (rx_deliv / (half + half)) (rx_deliv % (half + half)) h (div-add-mod' rx_deliv (half + half))
    (mod-lt rx_deliv {m = half + half} (omega arith)) _ _ _ refl refl refl

names_once : (half rx_deliv sn c d : ℕ) → Names half rx_deliv sn c → Names half rx_deliv sn d → c ≡ d
names_once half rx_deliv sn c d p q =
    same_count (half + half) c d (p.0 ∙ sym q.0) (omega (arith, p.2, q.1)) (omega (arith, p.1, q.2))

pub one_pdcp_count : OnePdcpCount
one_pdcp_count half rx_deliv sn c h = (
  λ e. subst (Right half rx_deliv sn) e (pdcp_count_right half rx_deliv sn h),
  found (pdcp_count (half + half) half rx_deliv sn) (pdcp_count_right half rx_deliv sn h),
)
  where
    found : (o : Option ℕ) → Right half rx_deliv sn o → Names half rx_deliv sn c → o ≡ Some c
    found (Some d) right p = ap {B = Option ℕ} Some (names_once half rx_deliv sn d c right p)
    found None right p = absurd (right c p)
