use Rattle.std.proofs.Common.{◌≡◌, false, sym, ap, ◌∙◌, subst}
use Rattle.protocol.specs.Sending.{Near, Sdu, exhausted}
use Rattle.rlc_tx.proofs.InWindow.{update_each}
use Rattle.rlc_tx.proofs.ends.NearEnd.mark.Goals as goal
use Rattle.rlc_tx.specs.Windows.{sdus_in}
use Rattle.wire.specs.Counts.{count_of}

pub invariant_of-self : goal.invariant_of-self
invariant_of-self c =
    let n = c.args.self.now in
    let x = count_of c.args.run.count in
    record {
      numbers = n.numbers;
      together = n.together ∙ sym (ap (λ (m : Near). m.tx_next) c.send.ensures);
      untired = λ alive y.
          subst (λ (s : Sdu). exhausted n.settings.max_retx s.retx_count ≡ false) (sym (ap (λ (m : Near). m.sdu y) c.send.ensures))
          (update_each (λ s. exhausted n.settings.max_retx s.retx_count ≡ false) (sdus_in n.window) x _ (n.untired alive) (n.untired alive x) y);
    }
