-- Sequence numbers, which are counts modulo m, and the counts that they stand for.
use Rattle.std.specs.Prelude.{ℕ, ◌+◌, ◌-◌, ◌*◌, ◌/◌, ◌%◌, Bool, cond, Some, None, Option, ◌==◌, nat_lt}

-- the modulus of the 12-bit sequence numbers, of RLC and of PDCP
abbrev pub sn_modulus : ℕ
sn_modulus = 4096

-- how far the number `to` lies ahead of the number `from`, modulo m
abbrev pub ahead : ℕ → ℕ → ℕ → ℕ
ahead m from to = (to + m - from) % m

-- the count that the number sn stands for in the window of m counts that begins at base
abbrev pub count_from : ℕ → ℕ → ℕ → ℕ
count_from m base sn = base + ahead m (base % m) sn

-- an ACK count beyond TX_Next: the status report is an old one
abbrev pub stale : ℕ → ℕ → Bool
stale tx_next ack = nat_lt tx_next ack

-- The COUNT that PDCP reads the number sn as. Its HFN is that of RX_DELIV, one more where sn lies more than
-- half the modulus below RX_DELIV's number, and one less where it lies half the modulus or more above it.
-- None: the COUNT is below 0.
abbrev pub pdcp_count : ℕ → ℕ → ℕ → ℕ → Option ℕ
pdcp_count m half rx_deliv sn =
    cond (nat_lt (sn + half) (rx_deliv % m)) (Some ((rx_deliv / m + 1) * m + sn))
    (cond (nat_lt sn (rx_deliv % m + half)) (Some (rx_deliv / m * m + sn))
    (cond (rx_deliv / m == 0) None (Some ((rx_deliv / m - 1) * m + sn))))

-- a COUNT below RX_DELIV was delivered or given up: its packet is discarded
abbrev pub passed : ℕ → ℕ → Bool
passed rx_deliv count = nat_lt count rx_deliv
