use Rattle.std.proofs.Common.{◌≡◌, ◌≤◌, true, sym, ap, ◌∙◌, arith}
use Rattle.pdcp.proofs.Orders.{missing_within}
use Rattle.pdcp.proofs.Takings.{out_stops}
use Rattle.pdcp.proofs.receivers.Receiver.tick.Goals as goal
use Rattle.pdcp.specs.Stores.{stored_of}
use Rattle.protocol.proofs.PdcpKept.{runs_before}
use Rattle.protocol.specs.Timers.{runs, runs_out}
use Rattle.std.proofs.lemmas.Bool.{both_ways}
use Rattle.timers.specs.Views.{timer_of}

pub invariant_of-self-then-tick : goal.invariant_of-self-then-tick
invariant_of-self-then-tick c =
    let r = c.args.self.now in
    let reord = r.rx_reord.value in
    let t = timer_of r.t_reordering in
    let bounds = missing_within (stored_of r.store) r.rx_next.value reord r.begun in
    let same = c.next_missing-self.ensures in
    let out : runs_out t ≡ true = sym c.if-tick.ensures.1 in
    let before : r.rx_deliv.value ≤ reord = r.timed (runs_before t out) in
    record {
      delivered = omega (arith, same, bounds.1);
      begun = r.begun;
      limited = r.limited;
      timed = λ on. absurd (both_ways _ (ap runs (c.tick.ensures.0 ∙ out_stops t out)) on);
      within = λ k is. omega (arith, r.within k is, before, same, bounds.0);
    }
