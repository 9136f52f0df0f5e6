use Rattle.std.proofs.Common.{not, sym, ap, ◌∙◌, rules}
use Rattle.protocol.specs.Sending.{has, considered_all, highest_sent, failed_if}
use Rattle.rlc_tx.proofs.Found.{found_by}
use Rattle.rlc_tx.proofs.OfEnd.{ordered}
use Rattle.rlc_tx.proofs.Served.{nothing_left, some_mapped}
use Rattle.rlc_tx.proofs.Ticked.{owing_is, tick_repeats, tick_owes}
use Rattle.rlc_tx.proofs.ends.NearEnd.tick.Goals as goal
use Rattle.rlc_tx.specs.Ends.{near_of, set_by}
use Rattle.rlc_tx.specs.Searches.{left}
use Rattle.std.specs.Option.{option_map}
use Rattle.timers.specs.Views.{timer_of}
use Rattle.wire.specs.Counts.{count_of}

pub returns-then-is_none : goal.returns-then-is_none
returns-then-is_none c =
    let n = c.args.self.now in
    let out = sym c.tick.ensures.1 ∙ c.if-tick.true in
    let nothing = nothing_left (near_of n) (ordered n) (option_map count_of c.first.result) (sym (found_by _ _ n.window (λ x. has left) (option_map count_of c.first.result) c.first.ensures (λ count slot b at p. search rules))) ∙ ap not (some_mapped count_of c.first.result ∙ c.if-is_none.ensures) in
    c.repeat.ensures
    ∙ ap (λ m. (set_by n, failed_if (set_by n) (considered_all (highest_sent (near_of n)) m))) (owing_is (set_by n) (near_of n) out (timer_of c.tick.new.self) c.tick.ensures.0)
    ∙ ap (λ m. (set_by n, m)) (sym (tick_repeats (set_by n) (near_of n) out nothing))

pub returns-else-is_none : goal.returns-else-is_none
returns-else-is_none c =
    let n = c.args.self.now in
    let out = sym c.tick.ensures.1 ∙ c.if-tick.true in
    let something = nothing_left (near_of n) (ordered n) (option_map count_of c.first.result) (sym (found_by _ _ n.window (λ x. has left) (option_map count_of c.first.result) c.first.ensures (λ count slot b at p. search rules))) ∙ ap not (some_mapped count_of c.first.result ∙ c.if-is_none.ensures) in
    ap (λ m. (set_by n, m)) (owing_is (set_by n) (near_of n) out (timer_of c.tick.new.self) c.tick.ensures.0 ∙ sym (tick_owes (set_by n) (near_of n) out something))
