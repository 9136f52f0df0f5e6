-- What every air promises of its operations, over the list of the PDUs that wait in it, oldest first.
use Rattle.std.specs.Prelude.{◌≡◌, ℕ, ◌<◌, true, List, length, Option}
use Rattle.protocol.specs.Airs.{Waiting, carries, age_limit, Takes, laid}
use Rattle.protocol.specs.Bytes.{Bytes}
use Rattle.std.specs.Option.{option_map}
use Rattle.std.specs.List.{AllByRecursion}

-- every PDU that waits has a length that an air carries, and an age below the limit
abbrev pub Sound : List Waiting → Type 0
Sound waiting = AllByRecursion (λ w. (carries w.pdu ≡ true) × (w.age < age_limit)) waiting

-- What a Take may do: it answers the length of what it lets out, if anything, writes that at the buffer's start, and
-- leaves what may be left.
abbrev pub Answers : ℕ → Bytes → Option ℕ → Bytes → List Waiting → List Waiting → Type 0
Answers draw buffer answer written before after =
    (out : Option Bytes) × (answer ≡ option_map length out) × (written ≡ laid out buffer) × Takes draw buffer out before after
