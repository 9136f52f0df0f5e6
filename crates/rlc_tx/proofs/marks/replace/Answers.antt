use Rattle.std.proofs.Common.{◌+◌, cond, get_or, set, sym, ap, ◌∙◌}
use Rattle.rlc_tx.proofs.Replaced.{same_is, replaced_more}
use Rattle.rlc_tx.proofs.marks.replace.Goals as goal
use Rattle.rlc_tx.proofs.marks.replace.Goals.{then-eq, else-eq}
use Rattle.rlc_tx.specs.declared.marks.Mark.TheVariants.{Unsent}

pub loop-mark-preserved : goal.loop-mark-preserved
loop-mark-preserved c =
    let ys = c.loop-mark.marks in
    let i = c.loop-mark.mark-index in
    let more = replaced_more c.args.old c.args.new c.args.marks.now ys i c.loop-mark.changed c.eq.result c.loop-mark-test.true
    c.loop-mark.auto.marks c.loop-mark.invariant (c.eq.ensures ∙ same_is c.args.old (get_or ys i Unsent)) in
    elim c.if-eq.branch [
      | then-eq w ↦ (
        w.marks-is ∙ ap (λ b. set ys i (cond b c.args.new (get_or ys i Unsent))) (sym w.if-eq.true) ∙ more.0,
        w.changed-is ∙ ap (λ b. cond b (c.loop-mark.changed + 1) c.loop-mark.changed) (sym w.if-eq.true) ∙ more.1,
      )
      | else-eq w ↦ (
        w.marks-is ∙ ap (λ b. set ys i (cond b c.args.new (get_or ys i Unsent))) (sym w.if-eq.false) ∙ more.0,
        w.changed-is ∙ ap (λ b. cond b (c.loop-mark.changed + 1) c.loop-mark.changed) (sym w.if-eq.false) ∙ more.1,
      )
    ]
