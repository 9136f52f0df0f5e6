-- What the far end reads from bytes, and how it takes it.
use Rattle.std.proofs.Common.{◌≡◌, ℕ, ◌+◌, ◌≤◌, Bool, true, false, cond, ◌||◌, leb, length, Some, None, Ok, Err, Option, Result, sym, refl, ap, ◌∙◌, subst, arith}
use Rattle.protocol.specs.Bytes.{Bytes}
use Rattle.protocol.specs.Pdus.{Segment, whole, first, middle, last, Amd, Pdu, amd}
use Rattle.protocol.specs.Reading.{decode, amd_of, own_kind, offset_fault, header_length, si_field}
use Rattle.protocol.specs.Receiving as far
use Rattle.protocol.specs.Refusals.{at, unless}
use Rattle.protocol.specs.Sending.{packet_limit}
use Rattle.protocol.proofs.Formats.{amd_read}
use Rattle.protocol.specs.Settings.{Settings}
use Rattle.protocol.specs.declared.faults.End.TheVariants.{Far}
use Rattle.protocol.specs.declared.faults.Fault.{Fault}
use Rattle.protocol.specs.declared.faults.Refusal.TheVariants.{WrongKind, Malformed}
use Rattle.std.proofs.lemmas.List.{length-drop}
use Rattle.std.proofs.lemmas.Bool.{cond-false}
use Rattle.std.proofs.lemmas.Bool.Decides.{nat_tests}

-- data that is read ends within the longest SDU
within : (s : Segment) (n : ℕ) → offset_fault s n ≡ None → far.offset s + n ≤ 502
within whole n e = grind (arith, nat_tests)
within first n e = grind (arith, nat_tests)
within (middle so) n e = grind (arith, nat_tests)
within (last so) n e = grind (arith, nat_tests)

no_fault : (bytes : Bytes) (pdu : Pdu) → decode Far bytes ≡ Ok pdu → offset_fault (amd_of bytes).segment (length (amd_of bytes).payload) ≡ None
no_fault bytes pdu e = go (offset_fault (amd_of bytes).segment (length (amd_of bytes).payload)) refl
  where
    go : (o : Option Fault) → offset_fault (amd_of bytes).segment (length (amd_of bytes).payload) ≡ o
        → offset_fault (amd_of bytes).segment (length (amd_of bytes).payload) ≡ None
    go None t = t
    go (Some f) t = absurd (refused (own_kind Far bytes) (leb (length bytes) (header_length (si_field bytes))) (at Malformed (length bytes)) (at WrongKind 0) (sym t) e)
      where
        refused : (b d : Bool) (x y : Fault) {o : Option Fault} → Some f ≡ o
            → cond b (cond d (Err x) (unless o (Ok (amd (amd_of bytes))))) (Err y) ≡ Ok pdu → ⊥
        refused true true x y s h = let z : ◌≡◌ {A = ℕ} 0 1 = cc in omega arith
        refused true false x y s h = let z : ◌≡◌ {A = Result Pdu Fault} (Err f) (Ok pdu) = ap (λ o. unless o (Ok (amd (amd_of bytes)))) s ∙ h in let w : ◌≡◌ {A = ℕ} 0 1 = cc in omega arith
        refused false d x y s h = let z : ◌≡◌ {A = ℕ} 0 1 = cc in omega arith

pub record Readable (a : Amd) : Type 0 where
  pub some : 1 ≤ length a.payload
  pub room : far.data_end a ≤ 502

pub far_reads : (bytes : Bytes) (a : Amd) → decode Far bytes ≡ Ok (amd a) → Readable a
far_reads bytes a e =
    let r = amd_read bytes (amd a) e in
    let same : amd_of bytes ≡ a = let q = r.0 in cc in
    subst Readable same
    (record {
      some = omega (arith, length-drop (header_length (si_field bytes)) bytes, r.1);
      room = within (amd_of bytes).segment (length (amd_of bytes).payload) (no_fault bytes (amd a) e);
    })

pub receives_takes : (s : Settings) (x : ℕ) (a : Amd) (f : far.Far) → far.discards f x a ≡ false → (far.clashes (f.sdu x) a || leb packet_limit x) ≡ false
    → far.receives s x a f ≡ Ok (far.reception (far.received a (f.sdu x)), far.taken s x a f)
receives_takes s x a f d c = cond-false _ _ _ d ∙ cond-false _ _ _ c
