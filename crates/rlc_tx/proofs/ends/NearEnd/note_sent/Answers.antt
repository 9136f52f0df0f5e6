use Rattle.std.proofs.Common.{ap, ◌∙◌}
use Rattle.protocol.specs.Sending.{marked, with_polling}
use Rattle.rlc_tx.proofs.ends.NearEnd.note_sent.Goals as goal
use Rattle.rlc_tx.specs.Ends.{State, near_of, set_by, polling_of, polled_by}
use Rattle.rlc_tx.specs.Plans.{run_of}

pub returns : goal.returns
returns c =
    let n = c.args.self.now in
    let run = run_of c.args.plan.run in
    let polls-are =
    c.polled-self.ensures ∙ ap (λ (state : State). polled_by state.0 c.args.plan.poll run.new state.1) c.mark.ensures
    ∙ ap (λ poll. polled_by (set_by n) poll run.new (marked run (near_of n))) c.requires.poll in
    ap (λ (state : State). (state.0, with_polling state.1 (polling_of c.polled-self.result))) c.mark.ensures
    ∙ ap (λ p. (set_by n, with_polling (marked run (near_of n)) p)) polls-are
