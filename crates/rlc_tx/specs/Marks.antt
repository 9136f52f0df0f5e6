-- What marks stand for, and what an SDU's slot keeps of them.
use Rattle.std.specs.Prelude.{◌≡◌, ℕ, ◌+◌, ◌<◌, ◌≤◌, Bool, true, false, cond, List, Some, None, count_by, Option, nat_le, slice_index_or}
use Rattle.protocol.specs.Sending as protocol
use Rattle.rlc_tx.specs.declared.marks.Mark.{Mark}
use Rattle.rlc_tx.specs.declared.marks.Mark.TheVariants.{Unsent, Sent, Pending}

abbrev pub mark_of : Mark → protocol.Mark
mark_of Unsent = protocol.unsent
mark_of Sent = protocol.sent
mark_of Pending = protocol.pending

abbrev pub is_sent : Mark → Bool
is_sent m = protocol.is_sent (mark_of m)

abbrev pub is_pending : Mark → Bool
is_pending m = protocol.is_pending (mark_of m)

abbrev pub same : Mark → Mark → Bool
same Unsent m = protocol.is_unsent (mark_of m)
same Sent m = is_sent m
same Pending m = is_pending m

abbrev pub mark_at : List Mark → ℕ → protocol.Mark
mark_at marks i = mark_of (slice_index_or marks i Unsent)

abbrev pub replaced : (old new : Mark) → Mark → Mark
replaced old new m = cond (same old m) new m

-- of an SDU's bytes the first `sent` were sent, and no other
abbrev pub Begun : List Mark → ℕ → Type 0
Begun marks sent = (i : ℕ) → i < sent → protocol.is_unsent (mark_at marks i) ≡ false

abbrev pub Unbegun : List Mark → ℕ → Type 0
Unbegun marks sent = (i : ℕ) → sent ≤ i → protocol.is_unsent (mark_at marks i) ≡ true

-- no byte before `low` is pending
abbrev pub NoneBelow : List Mark → ℕ → Type 0
NoneBelow marks low = (i : ℕ) → i < low → protocol.is_pending (mark_at marks i) ≡ false

abbrev pub pending_in : List Mark → ℕ
pending_in marks = count_by is_pending marks

-- A failed link sends nothing, so RETX_COUNT then rises only as bytes become pending.
abbrev pub bounded : Bool → ℕ → Option ℕ → Bool
bounded true pending retx_count = true
bounded false pending None = true
bounded false pending (Some n) = nat_le n (255 + pending)
