use Rattle.std.proofs.Common.{◌+◌, ◌≤◌, length, Ok, sym, ap, ◌∙◌, arith}
use Rattle.protocol.specs.Bytes.{put_at}
use Rattle.wire.proofs.Packing.{header_long, no_fault, amd_written}
use Rattle.wire.proofs.writing.write_amd.Goals as goal
use Rattle.wire.specs.Views.{header_bytes}

pub returns : goal.returns
returns c =
    let head = header_bytes c.args.header in
    let bytes = c.args.data.now in
    let buffer = c.args.buffer.now in
    let size = c.header_length-start.ensures ∙ sym (header_long c.args.header) in
    let written = c.put_bytes.ensures ∙ ap (λ b. put_at c.header_length-start.result bytes b) c.put_header.ensures in
    let fits : length head + length bytes ≤ length buffer = omega (arith, size) in
    let fine = no_fault _ _ (sym c.check_data.ensures ∙ c.in_ok-check_data.was) in
    ap (λ b. (Ok (c.header_length-start.result + length bytes), b)) written
    ∙ ap (λ n. (Ok (n + length bytes), put_at n bytes (put_at 0 head buffer))) size
    ∙ amd_written c.args.header bytes buffer fits fine
