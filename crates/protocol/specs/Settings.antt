-- The settings of a link, and their ranges.
use Rattle.std.specs.Prelude.{ℕ, Bool, true, ◌&&◌, Some, None, Option, nat_le}

-- an absent pollPDU is never reached, and an absent t-Reordering never runs out
pub record Settings : Type 0 where
  pub poll_pdu : Option ℕ
  pub max_retx : ℕ
  pub t_poll_retransmit : ℕ
  pub t_reassembly : ℕ
  pub t_status_prohibit : ℕ
  pub t_reordering : Option ℕ

abbrev pub between : ℕ → ℕ → ℕ → Bool
between low high n = nat_le low n && nat_le n high

abbrev pub between_if : ℕ → ℕ → Option ℕ → Bool
between_if low high None = true
between_if low high (Some n) = between low high n

abbrev pub in_range : Settings → Bool
in_range s =
    between_if 1 255 s.poll_pdu && (between 1 32 s.max_retx && (between 1 10000 s.t_poll_retransmit
    && (between 1 10000 s.t_reassembly && (between 1 10000 s.t_status_prohibit && between_if 1 10000 s.t_reordering))))
