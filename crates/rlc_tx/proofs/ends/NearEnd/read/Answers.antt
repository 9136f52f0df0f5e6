use Rattle.std.proofs.Common.{◌≡◌, ◌≤◌, Ok, sym, ap, ◌∙◌, arith}
use Rattle.protocol.specs.Pdus.{status}
use Rattle.protocol.specs.Reading.{decode}
use Rattle.protocol.specs.Sending.{reads, reported, tx_count}
use Rattle.protocol.specs.declared.faults.End.TheVariants as end
use Rattle.rlc_tx.proofs.Entered.{held_is}
use Rattle.rlc_tx.proofs.ends.NearEnd.read.Goals as goal
use Rattle.rlc_tx.specs.Ends.{State, near_of, set_by, state_of, after, read_by}
use Rattle.rlc_tx.specs.declared.ends.Report.TheVariants.{Taken}
use Rattle.std.proofs.lemmas.Bool.{cond-false, le-ltb, ltb-false}
use Rattle.wire.specs.Counts.{count_of, sn_of}
use Rattle.wire.specs.Views.{entries_of, read_of}

pub returns : goal.returns
returns c =
    let n = c.args.self.now in
    let sn = sn_of c.in-Status.ack_sn in
    let es = entries_of c.in-Status.entries in
    let pdu : decode end.Near c.args.bytes.now ≡ Ok (status sn es) = sym c.in_ok-ack_sn.ensures.value ∙ ap (λ p. read_of (Ok p)) c.in-Status.is in
    let count : count_of c.in-Some.ack ≡ tx_count (near_of n) sn = held_is _ _ c.in-Some.ensures in
    let fresh_ack : count_of c.in-Some.ack ≤ count_of n.window.tx_next = ltb-false _ _ (sym c.is_stale.ensures ∙ c.if-is_stale.false) in
    let fresh : tx_count (near_of n) sn ≤ (near_of n).tx_next = omega (arith, count, fresh_ack) in
    let rule =
    ap (λ a. reads (set_by n) a (near_of n)) pdu
    ∙ ap (λ o. Ok o) (cond-false _ _ _ (le-ltb (near_of n).tx_next (tx_count (near_of n) sn) fresh)) in
    ap (λ (state : State). (Ok Taken, state)) (c.report.ensures ∙ ap (λ a. after (λ s. reported s a es) (state_of n)) count) ∙ ap (λ r. read_by r (state_of n)) (sym rule)
