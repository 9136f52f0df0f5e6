use Rattle.std.proofs.Common.{ℕ, ◌+◌, ◌<◌, ◌≤◌, false}
use Rattle.rlc_tx.proofs.windows.Window.first.Given as goal
use Rattle.rlc_tx.specs.Searches.{GivesAt}
use Rattle.wire.specs.Counts.{count_of}

abbrev pub invariant-loop-k : goal.invariant-loop-k
invariant-loop-k g l = (x : ℕ) → count_of l.self.tx_next_ack ≤ x → x < count_of l.self.tx_next_ack + l.k → GivesAt g.F.Fn l.wanted l.self x false
