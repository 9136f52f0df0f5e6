use Rattle.std.proofs.Common.{sym}
use Rattle.rlc_tx.proofs.OfEnd.{ordered}
use Rattle.rlc_tx.proofs.Served.{serves}
use Rattle.rlc_tx.proofs.ends.NearEnd.plan_for.Goals as goal
use Rattle.rlc_tx.specs.Ends.{near_of}
use Rattle.rlc_tx.specs.Plans.{run_of}

pub is_poll-poll-requires : goal.is_poll-poll-requires
is_poll-poll-requires c =
    let n = c.args.self.now in
    (serves (near_of n) (ordered n) c.args.grant c.requires (run_of c.in_ok-run.run') (sym c.in_ok-run.ensures)).front
