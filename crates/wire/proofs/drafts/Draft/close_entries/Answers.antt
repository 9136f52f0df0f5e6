-- The report is closed as the reader judges its sealed bytes; a refusal writes the old ones back.
use Rattle.std.proofs.Common.{◌+◌, true, ◌∷◌, drop, set, Err, ap, ◌∙◌, arith}
use Rattle.protocol.specs.Bytes.{byte}
use Rattle.wire.proofs.Sealing.{closes_by, restored}
use Rattle.wire.proofs.drafts.Draft.close_entries.Goals as goal
use Rattle.wire.specs.Drafted.{draft_of}
use Rattle.wire.specs.Headers.{headed}
use Rattle.wire.specs.Counts.{sn_of}

pub returns-in-Err : goal.returns-in-Err
returns-in-Err c =
    let d = draft_of c.args.self in
    let ack = sn_of c.args.ack_sn in
    let buffer = c.args.buffer.now in
    let last = c.args.self.last in
    let fault = c.in-Err.fault in
    let held = c.put_header.ensures ∙ ap (headed ack true) c.end_entries.ensures in
    let back = ap (λ b. set b (last + 1) (byte buffer (last + 1)))
    (c.put_bytes.ensures ∙ ap (λ b. byte buffer 0 ∷ byte buffer 1 ∷ byte buffer 2 ∷ drop 3 b) held)
    ∙ restored buffer last ack (omega (arith, c.requires)) (c.args.self.behind c.requires.0) in
    ap (λ b. record { answer = Err fault; draft = d; buffer = b }) back
    ∙ closes_by (Err fault) ack d buffer c.put_header.new.buffer c.requires.0 c.requires.1 held c.in-Err.ensures
