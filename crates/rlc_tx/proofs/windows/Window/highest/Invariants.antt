use Rattle.std.proofs.Common.{◌≡◌, ℕ, ◌+◌, ◌<◌, ◌≤◌, true}
use Rattle.rlc_tx.proofs.windows.Window.highest.Given as goal
use Rattle.rlc_tx.specs.Windows.{sdus_in}
use Rattle.wire.specs.Counts.{count_of}

abbrev pub invariant-loop-k : goal.invariant-loop-k
invariant-loop-k l = (j : ℕ) → l.k ≤ j → j < l.begun → (sdus_in l.self (count_of l.self.tx_next_ack + j)).acknowledged ≡ true
