use Rattle.std.proofs.Common.{◌≡◌, ◌+◌}
use Rattle.protocol.specs.Sending.{with_sdus}
use Rattle.rlc_tx.proofs.windows.Window.acknowledge_all.Given as goal
use Rattle.rlc_tx.specs.Touches.{settled_to}
use Rattle.rlc_tx.specs.Windows.{sdus_in, bare}
use Rattle.wire.specs.Counts.{count_of}

abbrev pub invariant-loop-k : goal.invariant-loop-k
invariant-loop-k l =
    bare l.self ≡ with_sdus (bare l.initial.self) (settled_to (count_of l.initial.self.tx_next_ack) (count_of l.initial.self.tx_next_ack + l.k) (count_of l.ack) l.touches (sdus_in l.initial.self))
