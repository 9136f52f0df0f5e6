use Rattle.std.proofs.Common.{◌≤◌, IfSome, sym, ap, ◌∙◌, subst}
use Rattle.rlc_rx.proofs.Pieces.{count_hands}
use Rattle.rlc_rx.proofs.slots.Slot.complete_length.Goals as goal
use Rattle.rlc_rx.specs.Receptions.{handed}

pub returns : goal.returns
returns c =
    let s = c.args.self.now in
    let h = count_hands s c.is_complete.result c.is_complete.ensures in
    record {
      value = ap (λ o. handed o s.bytes) c.then_some.ensures ∙ h.0;
      short = subst (λ o. IfSome o (λ n. n ≤ 502)) (sym c.then_some.ensures) h.1;
    }
