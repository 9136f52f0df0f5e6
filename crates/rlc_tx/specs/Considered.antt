-- Entries of a status report that name one SDU, considered one by one.
use Rattle.std.specs.Prelude.{ℕ, Bool, true, cond, ◌||◌, Some, None, Option}
use Rattle.protocol.specs.Sending.{Sdu, repend, considered_count, newly_pending}

-- whether RETX_COUNT changes
abbrev pub counts : Option ℕ → Bool → Bool
counts None newly = true
counts (Some n) newly = newly

-- RETX_COUNT, if the report did not change it before
abbrev pub counted_once : Bool → Option ℕ → Bool → Option ℕ
counted_once counted retx_count newly = cond counted retx_count (considered_count retx_count newly)

-- ... and whether the report has now
abbrev pub has_counted : Bool → Option ℕ → Bool → Bool
has_counted counted retx_count newly = counted || counts retx_count newly

-- one more entry, which names these bytes
abbrev pub considered_next : Bool → (ℕ → Bool) → Sdu → Sdu
considered_next counted named s =
    record {
      bytes = s.bytes;
      mark = λ i. repend (named i) (s.mark i);
      acknowledged = s.acknowledged;
      retx_count = counted_once counted s.retx_count (newly_pending named s);
    }

-- whether the report has then changed RETX_COUNT
abbrev pub counted_by : Bool → (ℕ → Bool) → Sdu → Bool
counted_by counted named s = has_counted counted s.retx_count (newly_pending named s)
