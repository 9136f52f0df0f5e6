use Rattle.std.proofs.Common.{◌≡◌, ◌+◌, refl, ap, ◌∙◌, sym, ⊎_elim, arith}
use Rattle.rlc_tx.proofs.windows.Window.first.Goals as goal
use Rattle.rlc_tx.specs.Windows.{sdus_in}
use Rattle.std.proofs.lemmas.Bool.{cases_eq}
use Rattle.wire.specs.Counts.{count_of}

pub returns-then-wanted : goal.returns-then-wanted
returns-then-wanted g c =
    record {
      holds = record { from = omega (arith, c.count-count.ensures); to = omega (arith, c.count-count.ensures, c.loop-k-test.true, c.len-k-end.ensures) };
      here = record { count = c.count-count.result; is = refl; slot = c.slot.result; shows = c.slot.ensures; says = record { met = c.if-wanted.ensures } };
      before = λ x held l. c.loop-k.invariant x held.from (omega (arith, l, c.count-count.ensures));
    }

pub loop-k-preserved : goal.loop-k-preserved
loop-k-preserved g c x from to =
    ⊎_elim
    (λ e.
    let at : count_of c.count-count.result ≡ x = c.count-count.ensures ∙ sym e in
    record { count = c.count-count.result; is = at; slot = c.slot.result; shows = c.slot.ensures ∙ ap (sdus_in c.args.self.now) at; says = record { met = c.if-wanted.ensures } })
    (λ d. c.loop-k.invariant x from (omega (arith, to, d))) (cases_eq x (count_of c.args.self.now.tx_next_ack + c.loop-k.k))
