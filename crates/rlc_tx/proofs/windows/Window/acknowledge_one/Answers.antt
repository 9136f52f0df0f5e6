use Rattle.std.proofs.Common.{◌≡◌, not, ltb, sym, ap, ◌∙◌, rules}
use Rattle.protocol.specs.Sending.{has, is_unsent}
use Rattle.rlc_tx.proofs.Settled.{unsettled}
use Rattle.rlc_tx.proofs.Touched.{named_is}
use Rattle.rlc_tx.proofs.windows.Window.acknowledge_one.Goals as goal
use Rattle.rlc_tx.proofs.windows.Window.acknowledge_one.Goals.{else-below-via-then-below+then-not-named+else-not-unsent, else-below-via-then-below+else-not-named, else-below-via-else-below}
use Rattle.rlc_tx.specs.Touches.{named_of}
use Rattle.std.proofs.lemmas.Bool.{and_left, and_right, not_from_true}
use Rattle.wire.specs.Counts.{count_of}

pub returns-else-below : goal.returns-else-below
returns-else-below c =
    let w = c.args.self.now in
    let x = count_of c.args.count in
    let below = ltb x (count_of c.args.ack) in
    let named = named_of c.args.touch in
    let is = c.ne-named.ensures ∙ named_is c.args.touch in
    let told : c.lt-below.result ≡ below = search rules in
    let unsent = c.has_unsent-unsent.ensures ∙ ap (has is_unsent) c.slot.ensures in
    elim c.else-below.branch [
      | else-below-via-then-below+then-not-named+else-not-unsent b ↦ unsettled w x below named (and_right below _ (and_right (not named) _ (not_from_true _ (sym unsent ∙ b.if-not-unsent.false))))
      | else-below-via-then-below+else-not-named b ↦ unsettled w x below named (and_right below _ (and_left _ _ (not_from_true _ (sym is ∙ b.if-not-named.false))))
      | else-below-via-else-below b ↦ unsettled w x below named (and_left _ _ (sym told ∙ b.if-below.false))
    ]
