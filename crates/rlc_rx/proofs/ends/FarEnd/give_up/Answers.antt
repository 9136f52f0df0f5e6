use Rattle.std.proofs.Common.{ap, ◌∙◌}
use Rattle.protocol.specs.Receiving.{awaited}
use Rattle.protocol.specs.Timers.{stopped}
use Rattle.rlc_rx.proofs.EndSteps.{given_up_is}
use Rattle.rlc_rx.proofs.ends.FarEnd.give_up.Goals as goal
use Rattle.rlc_rx.specs.Reports.{reporting_of}
use Rattle.rlc_rx.specs.Windows.{far_with}
use Rattle.timers.specs.Views.{timer_of, settings_of}
use Rattle.wire.specs.Counts.{count_of}

pub returns : goal.returns
returns c =
    let e = c.args.self.now in
    let s = settings_of e.settings in
    let w = c.pass_trigger.new.self in
    let p = timer_of e.t_status_prohibit in
    c.await_from.ensures.state
    ∙ ap (λ f. (s, f))
    (ap (λ r. awaited s (count_of w.rx_highest_status) (far_with w stopped r p)) c.on.ensures
    ∙ given_up_is s e.window w (timer_of e.t_reassembly) (reporting_of e.reporting) p c.pass_trigger.ensures.state)
