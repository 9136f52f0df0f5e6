use Rattle.std.proofs.Common.{arith}
use Rattle.rlc_rx.proofs.WindowSteps.{reached_low, reached_high, waits_reached}
use Rattle.rlc_rx.proofs.windows.Window.pass_trigger.Goals as goal
use Rattle.rlc_rx.specs.Slots.{partials}
use Rattle.wire.specs.Counts.{count_of}

pub answer_polls-requires : goal.answer_polls-requires
answer_polls-requires c =
    let w = c.args.self.now in
    let low = reached_low w c.requires (count_of c.incomplete_from-status.result) c.incomplete_from-status.ensures in
    let high = reached_high w c.requires (count_of c.incomplete_from-status.result) c.incomplete_from-status.ensures in
    record { window = omega (arith, c.value-low.ensures, c.value.ensures, high, w.window); ordered = omega (arith, c.value-low.ensures, c.value.ensures, low) }

pub invariant_of-self-clause-status_from : goal.invariant_of-self-clause-status_from
invariant_of-self-clause-status_from c = reached_low c.args.self.now c.requires (count_of c.incomplete_from-status.result) c.incomplete_from-status.ensures

pub invariant_of-self-clause-status_to : goal.invariant_of-self-clause-status_to
invariant_of-self-clause-status_to c = reached_high c.args.self.now c.requires (count_of c.incomplete_from-status.result) c.incomplete_from-status.ensures

pub returns-clause-waits : goal.returns-clause-waits
returns-clause-waits c =
    waits_reached c.args.self.now c.requires (count_of c.incomplete_from-status.result) c.incomplete_from-status.ensures (partials c.answer_polls.new.slots) c.answer_polls.ensures.sdus
