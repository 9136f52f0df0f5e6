-- What the type of a near end says of its window.
use Rattle.std.proofs.Common.{arith}
use Rattle.rlc_tx.proofs.InWindow.{beyond}
use Rattle.rlc_tx.proofs.Served.{InOrder}
use Rattle.rlc_tx.specs.Ends.{near_of}
use Rattle.rlc_tx.specs.Windows.{bare}
use Rattle.rlc_tx.specs.declared.ends.NearEnd.{NearEnd}
use Rattle.rlc_tx.specs.declared.windows.Window.{Window}

pub bare_ordered : (w : Window) → InOrder (bare w)
bare_ordered w =
    record { order = w.ordered; window = w.bounded; beyond = λ x l. beyond _ _ _ x (omega (arith, l, w.ordered)) l }

pub ordered : (n : NearEnd) → InOrder (near_of n)
ordered n = let o = bare_ordered n.window in record { order = o.order; window = o.window; beyond = o.beyond }
