use Rattle.std.proofs.Common.{is_some, sym, ap, ◌∙◌, rules}
use Rattle.protocol.specs.Sending.{exhausted}
use Rattle.rlc_tx.proofs.Found.{found_by}
use Rattle.rlc_tx.proofs.Served.{some_mapped}
use Rattle.rlc_tx.proofs.windows.Window.is_exhausted.Goals as goal
use Rattle.std.specs.Option.{option_map}
use Rattle.wire.specs.Counts.{count_of}

pub returns : goal.returns
returns c =
    c.is_some.ensures ∙ sym (some_mapped count_of c.first.result)
    ∙ ap is_some (found_by _ _ c.args.self.now (λ x s. exhausted c.args.max_retx s.retx_count) (option_map count_of c.first.result) c.first.ensures (λ count slot b at p. search rules))
