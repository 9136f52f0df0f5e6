use Rattle.std.proofs.Common.{length, sym, ap, ◌∙◌, arith}
use Rattle.protocol.specs.Sending.{spends}
use Rattle.rlc_tx.proofs.OfEnd.{ordered}
use Rattle.rlc_tx.proofs.Planned.{plan_run, plan_poll, spends_run, serves_more}
use Rattle.rlc_tx.proofs.Served.{serves}
use Rattle.rlc_tx.proofs.ends.NearEnd.spend.Goals as goal
use Rattle.rlc_tx.specs.Ends.{near_of, set_by, state_of, spent_by}
use Rattle.rlc_tx.specs.Plans.{run_of}

pub write-requires : goal.write-requires
write-requires c =
    let n = c.args.self.now in
    let run = run_of c.in-Some.plan.run in
    let size = c.size-size.result in
    record {
      run = serves_more (near_of n) size (length c.args.buffer.now) run (omega arith) (serves (near_of n) (ordered n) size c.size-size.ensures.least run (plan_run (set_by n) (near_of n) size run _ c.in-Some.ensures));
      poll = plan_poll (set_by n) (near_of n) size run c.in-Some.plan.poll c.in-Some.ensures;
    }

pub note_sent-requires : goal.note_sent-requires
note_sent-requires c =
    let n = c.args.self.now in
    let run = run_of c.in-Some.plan.run in
    let size = c.size-size.result in
    record {
      run = serves_more (near_of n) size 512 run c.size-size.ensures.most (serves (near_of n) (ordered n) size c.size-size.ensures.least run (plan_run (set_by n) (near_of n) size run _ c.in-Some.ensures));
      poll = plan_poll (set_by n) (near_of n) size run c.in-Some.plan.poll c.in-Some.ensures;
      alive = c.if-self.false;
    }

pub returns : goal.returns
returns c =
    let n = c.args.self.now in
    let run = run_of c.in-Some.plan.run in
    let size = c.size-size.result in
    let buffer = c.args.buffer.now in
    let wrote = c.in_ok-length.ensures in
    let rule =
    ap (λ z. spends (set_by n) z (length buffer) (near_of n)) (sym c.size-size.ensures.value)
    ∙ spends_run (set_by n) (near_of n) size (length buffer) c.if-self.false (omega arith) run (plan_run (set_by n) (near_of n) size run _ c.in-Some.ensures) in
    (λ i. (wrote.size i, c.note_sent.ensures i, wrote.buffer i)) ∙ ap (λ r. spent_by r (state_of n) buffer) (sym rule)
