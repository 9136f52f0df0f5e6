use Rattle.std.proofs.Common.{◌≡◌, ◌≤◌, length, take, drop, ap, ◌∙◌, arith}
use Rattle.protocol.specs.Pdus.{Amd, amd}
use Rattle.protocol.specs.Sending.{Sdu, amd_of_run, segment_at}
use Rattle.protocol.specs.Writing.{write}
use Rattle.rlc_tx.proofs.OfSlot.{long}
use Rattle.rlc_tx.proofs.Written.{pdu_written}
use Rattle.rlc_tx.proofs.ends.NearEnd.write.Goals as goal
use Rattle.rlc_tx.specs.Ends.{near_of, set_by}
use Rattle.rlc_tx.specs.Plans.{run_of}
use Rattle.wire.specs.Counts.{count_of}
use Rattle.wire.specs.Views.{amd_of}

pub returns : goal.returns
returns c =
    let n = c.args.self.now in
    let run = c.args.plan.run in
    let buffer = c.args.buffer.now in
    let slot = c.slot-slot.result.now in
    let short : length ((near_of n).sdu (count_of run.count)).bytes ≤ 502 = omega (arith, ap (λ (s : Sdu). length s.bytes) c.slot-slot.ensures, long slot, slot.short) in
    let poll = c.requires.poll in
    let sn = c.sn.ensures in
    let segment = c.segment.ensures ∙ ap (λ (s : Sdu). segment_at run.from run.size (length s.bytes)) c.slot-slot.ensures in
    let payload = c.data.ensures ∙ ap (λ (s : Sdu). take run.size (drop run.from s.bytes)) c.slot-slot.ensures in
    let pdu : ◌≡◌ {A = Amd} (amd_of (record { poll = c.args.plan.poll; sn = c.sn.result; segment = c.segment.result }) c.data.result.now) (amd_of_run (set_by n) (run_of run) (near_of n)) = λ i. record { poll = poll i; sn = sn i; segment = segment i; payload = payload i } in
    let both = c.write_amd.ensures ∙ ap (λ a. write (amd a) buffer) pdu ∙ pdu_written (set_by n) (run_of run) (near_of n) (length buffer) c.requires.run buffer (omega arith) short in
    record { size = ap (λ r. r.0) both; buffer = ap (λ r. r.1) both }
