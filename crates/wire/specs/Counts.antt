-- Counts and sequence numbers as the numbers that they are.
use Rattle.std.specs.Prelude.{ℕ, ◌^◌, cond, Some, None, Option, nat_lt}
use Rattle.wire.specs.declared.counts.Count.{Count}
use Rattle.wire.specs.declared.numbers.Sn.{Sn}

abbrev pub sn_of : Sn → ℕ
sn_of sn = sn.value

abbrev pub count_of : {L : Type 0} → Count L → ℕ
count_of count = count.value

-- a count, where 32 bits hold it
abbrev pub held : ℕ → Option ℕ
held count = cond (nat_lt count (2 ^ 32)) (Some count) None

abbrev pub held_if : Option ℕ → Option ℕ
held_if None = None
held_if (Some count) = held count
