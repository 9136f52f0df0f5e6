use Rattle.std.proofs.Common.{ap, ◌∙◌}
use Rattle.protocol.specs.Receiving.{nothing_held, awaited}
use Rattle.protocol.specs.Rings.{in_ring}
use Rattle.protocol.specs.Timers.{stopped_if}
use Rattle.rlc_rx.proofs.EndSteps.{taken_is}
use Rattle.rlc_rx.proofs.WindowSteps.{seen_kept, waits_kept, stored_kept}
use Rattle.rlc_rx.proofs.ends.FarEnd.take.Goals as goal
use Rattle.rlc_rx.specs.DataPdus.{data_pdu_of}
use Rattle.rlc_rx.specs.Reports.{reporting_of}
use Rattle.rlc_rx.specs.Slots.{partials}
use Rattle.rlc_rx.specs.Windows.{far_with}
use Rattle.timers.specs.Views.{timer_of, settings_of}
use Rattle.wire.specs.Counts.{count_of}

pub advance-answered-requires : goal.advance-answered-requires
advance-answered-requires c =
    let w = c.args.self.now.window in
    let x = count_of c.args.x in
    let a = data_pdu_of c.args.pdu.now in
    let w' = c.keep.new.self in
    let i = c.requires.inside in
    record { seen = seen_kept w w' x a i c.keep.ensures; waits = waits_kept w w' x a i c.keep.ensures c.args.self.now.waits }

pub returns-clause-state : goal.returns-clause-state
returns-clause-state c =
    let e = c.args.self.now in
    let s = settings_of e.settings in
    let t = timer_of e.t_reassembly in
    let p = timer_of e.t_status_prohibit in
    let w = c.advance-answered.new.self in
    c.await_from.ensures.state
    ∙ ap (λ f. (s, f))
    (ap (λ u. awaited s (count_of w.rx_next) (far_with w u (reporting_of c.trigger_if.new.self) p)) c.stop_if.ensures
    ∙ ap (λ r. awaited s (count_of w.rx_next) (far_with w (stopped_if c.is_settled-settled.result t) r p)) c.trigger_if.ensures
    ∙ taken_is s e.window c.keep.new.self t (reporting_of e.reporting) p w (count_of c.args.x) (data_pdu_of c.args.pdu.now) c.keep.ensures c.advance-answered.result c.is_settled-settled.result
    c.advance-answered.ensures.state c.is_settled-settled.ensures)

pub returns-clause-held : goal.returns-clause-held
returns-clause-held c =
    let x = count_of c.args.x in
    ap (λ slots. in_ring (partials slots) x nothing_held) c.await_from.ensures.slots ∙ ap (λ sdus. in_ring sdus x nothing_held) c.advance-answered.ensures.sdus
    ∙ stored_kept c.args.self.now.window c.keep.new.self x (data_pdu_of c.args.pdu.now) c.requires.inside c.keep.ensures
