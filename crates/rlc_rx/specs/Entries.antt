-- The entries of an SDU that is not complete, as far as they are still to come.
use Rattle.std.specs.Prelude.{ℕ, suc, ◌-◌, ◌%◌, cond, List, [], ◌∷◌, Some, None, Option, ◌==◌}
use Rattle.protocol.specs.Numbers.{sn_modulus}
use Rattle.protocol.specs.Pdus.{every, Entry}
use Rattle.protocol.specs.Reading.{max_sdu}
use Rattle.protocol.specs.Receiving.{Partial, held_from, gaps}
use Rattle.rlc_rx.specs.Slots.{partial_of}
use Rattle.rlc_rx.specs.declared.entries.SduEntries.{SduEntries}
use Rattle.wire.specs.Counts.{count_of}

-- those of the gaps from some byte on; none: behind the last one
abbrev pub entries_from : Partial → (x : ℕ) → Option ℕ → List Entry
entries_from p x None = []
entries_from p x (Some i) =
    cond (held_from p max_sdu 0 == max_sdu) (record { nack_sn = x % sn_modulus; missing = every } ∷ []) (gaps p x (suc max_sdu - i) i)

abbrev pub entries_left : SduEntries → List Entry
entries_left es = entries_from (partial_of es.slot.now) (count_of es.count) es.from
