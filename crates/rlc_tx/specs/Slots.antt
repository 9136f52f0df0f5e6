-- The SDU that a slot stands for.
use Rattle.std.specs.Prelude.{take}
use Rattle.protocol.specs.Sending.{Sdu}
use Rattle.rlc_tx.specs.Marks.{mark_at}
use Rattle.rlc_tx.specs.declared.slots.Slot.{Slot}

abbrev pub sdu_of : Slot → Sdu
sdu_of s =
    record {
      bytes = take s.size s.bytes;
      mark = mark_at s.marks;
      acknowledged = s.acknowledged;
      retx_count = s.retx_count;
    }
