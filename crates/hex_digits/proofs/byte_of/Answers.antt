use Rattle.std.proofs.Common.{◌≡◌, ℕ, ◌+◌, ◌*◌, ◌<◌, ◌≤◌, MatchOption, Some, None, Option, arith, rules, inl, inr}
use Rattle.hex_digits.proofs.byte_of.Goals as goal
use Rattle.hex_digits.specs.Digits.{Digit, Byte}
use Rattle.std.specs.Char.{IsDigitOf}

digit_from : (code value : ℕ) → IsDigitOf code value → value < 16 → Digit code value
digit_from code value (inl h) small = inl (omega arith, omega arith)
digit_from code value (inr (inl h)) small = inr (omega arith, small, inl (omega arith))
digit_from code value (inr (inr h)) small = inr (omega arith, small, inr (omega arith))

byte_from : (high low h l : ℕ) → h < 16 → l < 16 → Digit high h → Digit low l → (o : Option ℕ) → MatchOption o (256 ≤ h * 16 + l) (λ b. b ≡ h * 16 + l)
    → MatchOption o ((b : ℕ) → Byte high low b → ⊥) (λ b. Byte high low b)
byte_from high low h l h16 l16 dh dl None big = absurd (omega arith)
byte_from high low h l h16 l16 dh dl (Some b) is = (h, l, dh, dl, is)

pub returns : goal.returns
returns c =
    let h = c.in_ok-high.high in
    let l = c.in_ok-low.low in
    let h16 : h < 16 = search rules in
    let l16 : l < 16 = search rules in
    let dh : Digit c.args.high h = digit_from c.args.high h (search rules) h16 in
    let dl : Digit c.args.low l = digit_from c.args.low l (search rules) l16 in
    byte_from c.args.high c.args.low h l h16 l16 dh dl c.ok.result (search rules)
