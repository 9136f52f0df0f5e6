use Rattle.std.proofs.Common.{sym, ap, ◌∙◌, arith}
use Rattle.protocol.specs.Sending.{considered_all}
use Rattle.rlc_tx.proofs.Highest.{highest_is}
use Rattle.rlc_tx.proofs.OfEnd.{bare_ordered}
use Rattle.rlc_tx.proofs.Served.{top_to}
use Rattle.rlc_tx.proofs.windows.Window.repeat_highest.Goals as goal
use Rattle.rlc_tx.specs.Windows.{bare}
use Rattle.wire.specs.Counts.{count_of}

pub consider-requires : goal.consider-requires
consider-requires c =
    let n = bare c.args.self.now in
    let f = highest_is n (count_of c.in-Some.count) (sym c.in-Some.ensures) in
    record { held = record { from = f.0; to = omega (arith, f.1, top_to n (bare_ordered c.args.self.now)) }; «open» = f.2 }

pub returns-in-Some : goal.returns-in-Some
returns-in-Some c = c.consider.ensures.after ∙ ap (λ o. considered_all o (bare c.args.self.now)) c.in-Some.ensures
