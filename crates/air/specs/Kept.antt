-- What pipe and pool keep: at most 8 PDUs, of which a Put into a full one loses the oldest.
use Rattle.std.specs.Prelude.{◌≡◌, ℕ, ◌-◌, ◌/◌, ◌%◌, ◌<◌, Bool, cond, List, length, drop, None, Option, ◌==◌}
use Rattle.air.specs.Queues.{capacity}
use Rattle.std.proofs.Common.{arith}
use Rattle.protocol.specs.Airs.{Waiting, after_put, takes, laid}
use Rattle.protocol.specs.Bytes.{Bytes}
use Rattle.std.specs.Option.{option_map}
use Rattle.std.specs.List.{remove, slice_get}

-- the last `capacity` of a list
abbrev pub newest : List Waiting → List Waiting
newest waiting = drop (length waiting - capacity) waiting

-- what waits in a pipe or pool after a Put
abbrev pub put_in : Bytes → List Waiting → List Waiting
put_in pdu waiting = newest (after_put pdu waiting)

-- the k-th PDU from the oldest, counted from 0
abbrev pub pdu_at : ℕ → List Waiting → Option Bytes
pdu_at k waiting = option_map (λ w. w.pdu) (slice_get waiting k)

-- what a Take of the k-th leaves, which it keeps or removes
abbrev pub left_by : ℕ → Bool → List Waiting → List Waiting
left_by k keeps waiting = cond keeps waiting (remove waiting k)

-- what a Take of the k-th lets out and leaves, if the air takes the draw and the buffer
abbrev pub out_at : ℕ → ℕ → Bytes → List Waiting → Option Bytes
out_at k draw buffer waiting = cond (takes draw buffer) (pdu_at k waiting) None

abbrev pub left_at : ℕ → Bool → ℕ → Bytes → List Waiting → List Waiting
left_at k keeps draw buffer waiting = cond (takes draw buffer) (left_by k keeps waiting) waiting

-- a Take of the k-th: what it answers, writes and leaves
pub record Took (k : ℕ) (keeps : Bool) (draw : ℕ) (buffer : Bytes) (answer : Option ℕ) (written : Bytes) (before after : List Waiting) : Type 0 where
  pub answers : answer ≡ option_map length (out_at k draw buffer before)
  pub writes : written ≡ laid (out_at k draw buffer before) buffer
  pub leaves : after ≡ left_at k keeps draw buffer before

-- The pipe takes the oldest, k = 0, and removes it. The pool takes the ((draw div 2) mod held)-th, and keeps it if the
-- draw is odd.
abbrev pub drawn : ℕ → ℕ → ℕ
drawn draw held = draw / 2 % held

pub drawn_within : (draw held : ℕ) → 0 < held → drawn draw held < held
drawn_within draw held some = omega (arith, some)

abbrev pub odd : ℕ → Bool
odd draw = draw % 2 == 1
