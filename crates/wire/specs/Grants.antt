-- Opened grants.
use Rattle.std.specs.Prelude.{ℕ, Ok, Err, Result}
use Rattle.protocol.specs.declared.faults.Fault.{Fault}
use Rattle.wire.specs.declared.grants.Grant.{Grant}

-- the size of a grant that was opened
abbrev pub granted : Result Grant Fault → Result ℕ Fault
granted (Ok grant) = Ok grant.size
granted (Err fault) = Err fault
