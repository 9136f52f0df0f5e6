use Rattle.std.proofs.Common.{◌≡◌, true, false, ◌∙◌, rules, tests}
use mathlib.Core.Bool.{beq}
use Rattle.rlc_rx.proofs.Seeking.{ahead, flag_sought}
use Rattle.rlc_rx.proofs.flags.find_flag.Goals as goal
use Rattle.std.proofs.lemmas.Iterator.{IsFirst-from_position, YieldsList-from_slice}

pub returns : goal.returns
returns c =
    let flag = c.args.flag in
    let steps = c.position.result in
    let first = IsFirst-from_position _ _ _ (λ f. beq f flag ≡ true) (λ f. beq f flag ≡ false) c.position.ensures.ran (YieldsList-from_slice _ c.iter.ensures.rest) (λ x q k. search (rules, tests)) (λ x q k. search (rules, tests)) in
    let same : c.map_or.result ≡ ahead c.args.from c.args.to steps = search rules in
    same ∙ flag_sought flag c.args.flags.now c.args.from c.args.to c.requires.ordered c.requires.room steps first
