-- The gaps of an SDU, one after the other.
use Rattle.std.specs.Prelude.{ℕ, ◌-◌, cond, is_some, Some, None, Option, nat_lt}
use Rattle.protocol.specs.Receiving.{Partial, missing_from, limit, gap_end, gap_stop, to_the_end}
use Rattle.rlc_rx.specs.declared.slots.Gap.{Gap}

-- the first gap from byte i on; where the end is not known there is one that reaches it
abbrev pub gap_at : Partial → ℕ → Option Gap
gap_at p i =
    cond (nat_lt (missing_from p (limit p - i) i) (limit p))
    (Some (record { so_start = missing_from p (limit p - i) i; so_end = gap_end p (gap_stop p i); stop = gap_stop p i }))
    (cond (is_some p.known_end) None (Some (record { so_start = limit p; so_end = to_the_end; stop = limit p })))
