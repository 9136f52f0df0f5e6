use Rattle.std.proofs.Common.{Some, None, sym, ap, ◌∙◌, true, false, rules}
use Rattle.protocol.specs.Sending as near
use Rattle.rlc_tx.proofs.Found.{found_by}
use Rattle.rlc_tx.proofs.OfEnd.{ordered}
use Rattle.rlc_tx.proofs.Served.{served_pending, served_unsent}
use Rattle.rlc_tx.proofs.ends.NearEnd.next_run.Goals as goal
use Rattle.rlc_tx.specs.Ends.{near_of}
use Rattle.rlc_tx.specs.Plans.{run_of, run_at}
use Rattle.std.specs.Option.{option_map}
use Rattle.wire.specs.Counts.{count_of}

pub returns-in-Some : goal.returns-in-Some
returns-in-Some c =
    let n = c.args.self.now in
    let count = count_of c.in-Some.count in
    let found = found_by _ _ n.window (λ x. near.has near.is_pending) (Some count) c.in-Some.ensures (λ count slot b at p. search rules) in
    ap (λ (r : near.Run). Some r) (c.pending_run.ensures ∙ ap (λ s. run_at false near.is_pending s c.args.grant count) c.slot.ensures)
    ∙ sym (served_pending (near_of n) (ordered n) c.args.grant count (sym found))

pub returns-in_err-count : goal.returns-in_err-count
returns-in_err-count c =
    let n = c.args.self.now in
    let pending = found_by _ _ n.window (λ x. near.has near.is_pending) None c.in_default.ensures (λ count slot b at p. search rules) in
    let unsent = found_by _ _ n.window (λ x. near.has near.is_unsent) None c.in_err-count.ensures (λ count slot b at p. search rules) in
    ap (option_map run_of) c.from_residual.ensures ∙ sym (served_unsent (near_of n) (ordered n) c.args.grant None (sym pending) (sym unsent))

pub returns : goal.returns
returns c =
    let n = c.args.self.now in
    let count = count_of c.in_ok-count.count in
    let pending = found_by _ _ n.window (λ x. near.has near.is_pending) None c.in_default.ensures (λ count slot b at p. search rules) in
    let unsent = found_by _ _ n.window (λ x. near.has near.is_unsent) (Some count) c.in_ok-count.ensures (λ count slot b at p. search rules) in
    ap (λ (r : near.Run). Some r) (c.unsent_run.ensures ∙ ap (λ s. run_at true near.is_unsent s c.args.grant count) c.slot-2.ensures)
    ∙ sym (served_unsent (near_of n) (ordered n) c.args.grant (Some count) (sym pending) (sym unsent))
