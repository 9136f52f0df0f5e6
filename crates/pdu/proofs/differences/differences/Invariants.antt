use Rattle.pdu.specs.Compared.{Real}
use Rattle.std.proofs.Common.{All, vec_items}
use Rattle.pdu.proofs.differences.differences.Given as goal

abbrev pub invariant-loop-place : goal.invariant-loop-place
invariant-loop-place l = All (Real l.written l.read) (vec_items l.list)
