use Rattle.std.proofs.Common.{ℕ, sym, ap, ◌∙◌}
use Rattle.protocol.specs.Sending.{Near, with_sdus, considered_in}
use Rattle.rlc_tx.proofs.Failing.{over, failed_as, still_untired}
use Rattle.rlc_tx.proofs.Reported.{window_after, untired_after}
use Rattle.rlc_tx.proofs.ends.NearEnd.report.Goals as goal
use Rattle.rlc_tx.specs.Ends.{near_of, set_by}
use Rattle.rlc_tx.specs.Windows.{bare}
use Rattle.wire.specs.Counts.{count_of}
use Rattle.wire.specs.Views.{entries_of}

abbrev next : Near → ℕ
next n = n.tx_next

pub invariant_of-self : goal.invariant_of-self
invariant_of-self c =
    let n = c.args.self.now in
    let considered = c.consider_entries-touches in
    let es = entries_of c.args.entries in
    record {
      numbers = n.numbers;
      together = n.together ∙ sym (ap next c.advance.ensures ∙ ap next c.acknowledge_all.ensures ∙ ap next considered.ensures.sdus);
      untired = λ alive.
          untired_after n.window considered.new.self c.acknowledge_all.new.self c.advance.new.self considered.result (count_of c.args.ack) es considered.ensures.sdus c.acknowledge_all.ensures c.advance.ensures _
          (still_untired n.failed _ considered.new.self (sym c.has_failed-self.ensures ∙ alive));
    }

pub returns : goal.returns
returns c =
    let n = c.args.self.now in
    let considered = c.consider_entries-touches in
    let es = entries_of c.args.entries in
    let ack = count_of c.args.ack in
    let after =
    window_after n.window considered.new.self c.acknowledge_all.new.self c.advance.new.self considered.result ack es considered.ensures.sdus c.acknowledge_all.ensures c.advance.ensures c.requires considered.ensures.named in
    let failed = failed_as n considered.new.self (with_sdus (bare n.window) (considered_in (bare n.window) es)) c.has_failed-self.result considered.ensures.sdus c.has_failed-self.ensures in
    λ i. (
      set_by n,
      over (near_of n)
          (c.note_report.ensures i) (failed i) (after i),
    )
