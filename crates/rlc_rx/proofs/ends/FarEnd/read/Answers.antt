use Rattle.std.proofs.Common.{Ok, Result, sym, ap, ◌∙◌}
use Rattle.protocol.specs.Pdus.{Pdu}
use Rattle.protocol.specs.declared.faults.Fault.{Fault}
use Rattle.rlc_rx.proofs.Arrives.{far_reads}
use Rattle.rlc_rx.proofs.ends.FarEnd.read.Goals as goal
use Rattle.wire.specs.Views.{amd_of, amd_or_status}

pub invariant_of-receive : goal.invariant_of-receive
invariant_of-receive c =
    let a = amd_of c.in-Ok.pdu.header c.in-Ok.pdu.data.bytes.now in
    let r = far_reads c.args.bytes.now a (sym c.in_ok-read.ensures.value ∙ ap {B = Result Pdu Fault} (λ p. Ok p) (sym c.try_from.ensures ∙ ap amd_or_status c.in-Ok.is)) in
    record { some = r.some; short = r.room }
