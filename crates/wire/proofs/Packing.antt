-- What the writer of AMD PDUs leaves in the buffer.
use Rattle.std.proofs.Common.{◌≡◌, ℕ, Option, Some, refl, ◌+◌, ◌≤◌, false, ltb, [], ◌∷◌, ◌++◌, length, drop, None, Ok, sym, ap, ◌∙◌, append_assoc, zero-add, arith, length-append}
use Rattle.protocol.proofs.Drafting.{put-put}
use Rattle.protocol.specs.Bytes.{Bytes, byte, put, put_at}
use Rattle.protocol.specs.Refusals.{unless}
use Rattle.protocol.specs.declared.faults.Fault.{Fault}
use Rattle.protocol.specs.Pdus.{amd, encode, so_field}
use Rattle.protocol.specs.Writing.{pdu_fault, written, write}
use Rattle.std.proofs.lemmas.Bool.{cond-false, le-ltb}
use Rattle.wire.specs.Views.{amd_of, header_bytes, header_length, segment_of}
use Rattle.wire.specs.declared.pdus.Header.{Header}
use Rattle.wire.specs.declared.pdus.Segment.{Segment}
use Rattle.wire.specs.declared.pdus.Segment.TheVariants.{Whole, First, Middle, Last}

encoded : (h : Header) (bytes : Bytes) → header_bytes h ++ bytes ≡ encode (amd (amd_of h bytes))
encoded h bytes =
    ap (λ rest. byte (header_bytes h) 0 ∷ byte (header_bytes h) 1 ∷ rest) (append_assoc (so_field (segment_of h.segment)) [] bytes)

so_behind : (s : Segment) → length (so_field (segment_of s) ++ []) + 2 ≡ header_length s
so_behind Whole = refl
so_behind First = refl
so_behind (Middle so) = refl
so_behind (Last so) = refl

-- a header is as long as its segment makes it
pub header_long : (h : Header) → length (header_bytes h) ≡ header_length h.segment
header_long h = omega (arith, so_behind h.segment)

-- nothing stands against an answer that is none of a fault
pub no_fault : (fault : Option Fault) (done : Unit {0}) → unless fault (Ok tt) ≡ Ok done → fault ≡ None
no_fault None done e = refl
no_fault (Some f) done e = let z : ◌≡◌ {A = ℕ} 0 1 = cc in absurd (omega arith)

-- the header and then the data, at the buffer's start
pub amd_written : (h : Header) (bytes buffer : Bytes) → length (header_bytes h) + length bytes ≤ length buffer
    → pdu_fault (amd (amd_of h bytes)) ≡ None
    → (Ok (length (header_bytes h) + length bytes), put_at (length (header_bytes h)) bytes (put_at 0 (header_bytes h) buffer))
    ≡ write (amd (amd_of h bytes)) buffer
amd_written h bytes buffer fits fine =
    let head = header_bytes h in
    let pdu = amd (amd_of h bytes) in
    let size : length head + length bytes ≡ length (encode pdu) = sym (length-append head bytes) ∙ ap length (encoded h bytes) in
    let from_start : put_at (length head) bytes (put_at 0 head buffer) ≡ put_at (0 + length head) bytes (put_at 0 head buffer) =
    ap (λ n. put_at n bytes (put_at 0 head buffer)) (sym (zero-add (length head))) in
    let whole : put_at 0 (encode pdu) buffer ≡ put (encode pdu) buffer = ap (λ n. encode pdu ++ drop n buffer) (zero-add (length (encode pdu))) in
    let bytes_left : put_at (length head) bytes (put_at 0 head buffer) ≡ put (encode pdu) buffer =
    from_start ∙ put-put 0 head bytes buffer (omega (arith, fits)) ∙ ap (λ xs. put_at 0 xs buffer) (encoded h bytes) ∙ whole in
    let room : ltb (length buffer) (length (encode pdu)) ≡ false = le-ltb (length buffer) (length (encode pdu)) (omega (arith, fits, size)) in
    ap (λ n. (Ok n, put_at (length head) bytes (put_at 0 head buffer))) size ∙ ap (λ b. (Ok (length (encode pdu)), b)) bytes_left
    ∙ sym (cond-false _ _ _ room ∙ ap (λ f. written f (encode pdu) buffer) fine)
