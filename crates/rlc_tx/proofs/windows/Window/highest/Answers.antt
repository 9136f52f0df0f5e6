use Rattle.std.proofs.Common.{◌≡◌, ℕ, ◌+◌, ◌-◌, false, Some, sym, ap, ◌∙◌, arith}
use Rattle.protocol.specs.Sending.{Sdu}
use Rattle.rlc_tx.proofs.Highest.{highest_found, highest_none}
use Rattle.rlc_tx.proofs.OfEnd.{bare_ordered}
use Rattle.rlc_tx.proofs.Served.{top_to}
use Rattle.rlc_tx.proofs.windows.Window.highest.Goals as goal
use Rattle.rlc_tx.specs.Windows.{bare}
use Rattle.wire.specs.Counts.{count_of}

pub count-count-requires : goal.count-count-requires
count-count-requires c =
    let w = c.args.self.now in
    omega (arith, top_to (bare w) (bare_ordered w))

pub slot-requires : goal.slot-requires
slot-requires c =
    let w = c.args.self.now in
    omega (arith, top_to (bare w) (bare_ordered w))

pub returns-then-not-is_acknowledged : goal.returns-then-not-is_acknowledged
returns-then-not-is_acknowledged c =
    let n = bare c.args.self.now in
    let k = c.loop-k.k - 1 in
    let at : count_of c.count-count.result ≡ n.tx_next_ack + k = c.count-count.ensures in
    let open_here : (n.sdu (n.tx_next_ack + k)).acknowledged ≡ false =
    ap (λ x. (n.sdu x).acknowledged) (sym at) ∙ ap (λ (s : Sdu). s.acknowledged) (sym c.slot.ensures) ∙ sym c.if-not-is_acknowledged.ensures in
    ap (λ (x : ℕ). Some x) at
    ∙ sym
    (highest_found n k (omega (arith, c.value.ensures, c.value-2.ensures, c.loop-k-test.true, c.loop-k.auto))
    (λ j lo hi. c.loop-k.invariant j (omega (arith, lo)) (omega (arith, hi, c.value.ensures, c.value-2.ensures))) open_here)

pub returns : goal.returns
returns c =
    let n = bare c.args.self.now in
    sym (highest_none n (λ j l. c.loop-k.invariant j (omega (arith, c.loop-k-test.false)) (omega (arith, l, c.value.ensures, c.value-2.ensures))))
