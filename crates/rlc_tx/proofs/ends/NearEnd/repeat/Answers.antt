use Rattle.std.proofs.Common.{◌≡◌, ℕ, Bool, Some, None, Option, sym, refl, ap, ◌∙◌}
use Rattle.protocol.specs.Sending.{Near, Polling, considered_all, highest_sent, failed_if}
use Rattle.rlc_tx.proofs.Failing.{over, failed_as, still_untired}
use Rattle.rlc_tx.proofs.ends.NearEnd.repeat.Goals as goal
use Rattle.rlc_tx.specs.Ends.{near_of, set_by}
use Rattle.rlc_tx.specs.Windows.{bare}

-- considering an SDU changes SDUs alone
considered_next : (n : Near) (o : Option ℕ) → (considered_all o n).tx_next ≡ n.tx_next
considered_next n (Some x) = refl
considered_next n None = refl

considered_over : (n m : Near) (polling : Polling) (failed : Bool) (o : Option ℕ) → over n polling failed (considered_all o m) ≡ considered_all o (over n polling failed m)
considered_over n m polling failed (Some x) = refl
considered_over n m polling failed None = refl

pub invariant_of-self : goal.invariant_of-self
invariant_of-self c =
    let n = c.args.self.now in
    record {
      numbers = n.numbers;
      together = n.together ∙ sym (ap (λ (m : Near). m.tx_next) c.repeat_highest.ensures ∙ considered_next (bare n.window) (highest_sent (bare n.window)));
      untired = λ alive. still_untired n.failed _ c.repeat_highest.new.self (sym c.has_failed-self.ensures ∙ alive);
    }

pub returns : goal.returns
returns c =
    let n = c.args.self.now in
    let o = highest_sent (bare n.window) in
    let failed = failed_as n c.repeat_highest.new.self (considered_all o (bare n.window)) c.has_failed-self.result c.repeat_highest.ensures c.has_failed-self.ensures in
    (λ i. (set_by n, over (near_of n) (near_of n).polling (failed i) (c.repeat_highest.ensures i)))
    ∙ ap (λ m. (set_by n, failed_if (set_by n) m)) (considered_over (near_of n) (bare n.window) (near_of n).polling n.failed o)
