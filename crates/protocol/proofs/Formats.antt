-- The laws of formats: what is written reads back, and what is read writes back.
use Rattle.std.proofs.Common.{◌≡◌, ℕ, ◌+◌, ◌*◌, ◌/◌, ◌%◌, ◌<◌, ◌≤◌, Bool, true, false, ltb, List, [], ◌∷◌, length, Some, None, Ok, Err, Option, Result, sym, refl, ap, ◌∙◌, ⊎_elim, arith}
use Rattle.protocol.proofs.Walks.{whole_written, listing_written, valid_written, more_listed, writes_back, octets_drop, along_cleared, blind_whole, blind_listing, blind_valid}
use Rattle.protocol.specs.Bytes.{Bytes, Octets, byte, bit, flag}
use Rattle.protocol.specs.Laws.{SegmentFits, EntriesFit, WrittenReadsBack, ReadWritesBack, ReservedNotRead, PdcpRoundTrip}
use Rattle.protocol.specs.Pdus.{Segment, whole, first, middle, last, Amd, Entry, Pdu, amd, status, more, encode_amd, encode_entries, encode_status, encode, encode_pdcp}
use Rattle.protocol.specs.Reading.{along, listing, whole_entries, valid_entries, own_kind, clearing, cleared, decode, decode_pdcp, amd_of, header_length, si_field}
use Rattle.protocol.specs.Refusals.{at, unless}
use Rattle.protocol.specs.Writing.{reader, pdu_fault, entries_fault}
use Rattle.protocol.specs.declared.faults.Fault.{Fault}
use Rattle.protocol.specs.declared.faults.Refusal.TheVariants.{WrongKind}
use Rattle.protocol.specs.declared.faults.End.TheVariants.{Near, Far}
use Rattle.std.proofs.lemmas.Bool.{cases_lt, cond-true, cond-false}
use Rattle.std.proofs.lemmas.Bool.Decides.{nat_tests}

-- By cases of the bits, the rest is arithmetic.
amd_reads_back : (poll : Bool) (sn : ℕ) (segment : Segment) (payload : Bytes) → sn < 4096 → SegmentFits segment
    → let a : Amd = record { poll = poll; sn = sn; segment = segment; payload = payload } in
    decode Far (encode_amd a) ≡ unless (pdu_fault (amd a)) (Ok (amd a))
amd_reads_back true sn whole payload h fits = grind (arith, nat_tests)
amd_reads_back false sn whole payload h fits = grind (arith, nat_tests)
amd_reads_back true sn first payload h fits = grind (arith, nat_tests)
amd_reads_back false sn first payload h fits = grind (arith, nat_tests)
amd_reads_back true sn (middle so) payload h fits = grind (arith, nat_tests)
amd_reads_back false sn (middle so) payload h fits = grind (arith, nat_tests)
amd_reads_back true sn (last so) payload h fits = grind (arith, nat_tests)
amd_reads_back false sn (last so) payload h fits = grind (arith, nat_tests)

-- what is read, wherever an AMD PDU is
pub amd_read : (bytes : Bytes) (pdu : Pdu) → decode Far bytes ≡ Ok pdu
    → (pdu ≡ amd (amd_of bytes)) × (header_length (si_field bytes) < length bytes) × (128 ≤ byte bytes 0)
amd_read bytes pdu e = (grind (arith, nat_tests), grind (arith, nat_tests), grind (arith, nat_tests))

amd_writes_back : (bytes : Bytes) → Octets bytes → header_length (si_field bytes) < length bytes → 128 ≤ byte bytes 0
    → encode_amd (amd_of bytes) ≡ bytes
amd_writes_back [] o h k = absurd (omega arith)
amd_writes_back (b ∷ []) o h k = grind (arith, nat_tests)
amd_writes_back (b ∷ c ∷ []) o h k = grind (arith, nat_tests)
amd_writes_back (b ∷ c ∷ d ∷ []) o h k =
    let ob : b < 256 = o 0 in
    let oc : c < 256 = o 1 in
    grind (arith, nat_tests)
amd_writes_back (b ∷ c ∷ d ∷ e ∷ payload) o h k =
    let ob : b < 256 = o 0 in
    let oc : c < 256 = o 1 in
    let od : d < 256 = o 2 in
    let oe : e < 256 = o 3 in
    grind (arith, nat_tests)

pdcp_writes_back : (sdu packet : Bytes) (sn : ℕ) → Octets sdu → decode_pdcp sdu ≡ Ok (sn, packet) → byte sdu 0 < 144
    → encode_pdcp sn packet ≡ sdu
pdcp_writes_back [] packet sn o e r = grind (arith, nat_tests)
pdcp_writes_back (b ∷ []) packet sn o e r = grind (arith, nat_tests)
pdcp_writes_back (b ∷ c ∷ rest) packet sn o e r =
    let oc : c < 256 = o 1 in
    grind (arith, nat_tests)

pub pdcp_round_trip : PdcpRoundTrip
pdcp_round_trip =
    (λ sn packet h l. grind (arith, nat_tests), pdcp_writes_back, λ b c r packet hb hr. grind (arith, nat_tests))

-- what is read of a status report, given its ACK_SN, E1 and what follows the header
abbrev status_answer : ℕ → Bool → Bytes → Result Pdu Fault
status_answer sn e1 rest =
    unless (along whole_entries e1 3 rest)
    (unless (along (valid_entries sn) e1 3 rest) (Ok (status sn (along listing e1 3 rest))))

headed : (b c d : ℕ) (rest : Bytes) → ltb (length (b ∷ c ∷ d ∷ rest)) 3 ≡ false
headed b c d rest = grind (arith, nat_tests)

status_read : (b c d : ℕ) (rest : Bytes) → b < 16 → decode Near (b ∷ c ∷ d ∷ rest) ≡ status_answer (256 * b + c) (bit 7 d) rest
status_read b c d rest h =
    let own : own_kind Near (b ∷ c ∷ d ∷ rest) ≡ true = grind (arith, nat_tests) in
    let same : 256 * (b % 16) + c ≡ 256 * b + c = omega arith in
    cond-true _ _ _ own ∙ cond-false _ _ _ (headed b c d rest) ∙ ap (λ sn. status_answer sn (bit 7 d) rest) same

bit_of_flag : (e1 : Bool) → bit 7 (128 * flag e1) ≡ e1
bit_of_flag true = refl
bit_of_flag false = refl

answered : {w v w' v' : Option Fault} {p p' : Pdu} → w ≡ w' → v ≡ v' → p ≡ p'
    → unless w (unless v (Ok p)) ≡ unless w' (unless v' (Ok p'))
answered {v = v} {w' = w'} {v' = v'} {p = p} ew ev ep =
    ap (λ fault. unless fault (unless v (Ok p))) ew ∙ ap (λ fault. unless w' (unless fault (Ok p))) ev
    ∙ ap (λ pdu. unless w' (unless v' (Ok pdu))) ep

status_reads_back : (ack_sn : ℕ) (es : List Entry) → ack_sn < 4096 → EntriesFit es
    → decode Near (encode_status ack_sn es) ≡ unless (entries_fault ack_sn 3 es) (Ok (status ack_sn es))
status_reads_back ack_sn es h fit =
    let bytes = encode_entries es in
    let e1 = bit 7 (128 * flag (more es)) in
    let sn = 256 * (ack_sn / 256) + ack_sn % 256 in
    let same : sn ≡ ack_sn = omega arith in
    let flagged : e1 ≡ more es = bit_of_flag (more es) in
    let w : along whole_entries e1 3 bytes ≡ None = cc (whole_written es 3 fit) in
    let v : along (valid_entries sn) e1 3 bytes ≡ entries_fault ack_sn 3 es = cc (valid_written ack_sn es 3 fit) in
    let l : status sn (along listing e1 3 bytes) ≡ status ack_sn es = cc (listing_written es 3 fit) in
    status_read (ack_sn / 256) (ack_sn % 256) (128 * flag (more es)) bytes (omega arith)
    ∙ answered w v l

pub written_reads_back : WrittenReadsBack
written_reads_back (amd a) fits = amd_reads_back a.poll a.sn a.segment a.payload fits.0 fits.1
written_reads_back (status ack_sn es) fits = status_reads_back ack_sn es fits.0 fits.1

-- what is read, written again --------------------------------------------------------------------------------------

unless_ok : {A : Type 0} (fault : Option Fault) (r : Result A Fault) (x : A) → unless fault r ≡ Ok x → (fault ≡ None) × (r ≡ Ok x)
unless_ok (Some f) r x e = let z : ◌≡◌ {A = ℕ} 0 1 = cc in absurd (omega arith)
unless_ok None r x e = (refl, e)

status_writes_back : (bytes : Bytes) (pdu : Pdu) → Octets bytes → decode Near bytes ≡ Ok pdu
    → (encode pdu ≡ cleared Near bytes) × (reader pdu ≡ Near)
status_writes_back [] pdu o e = grind (arith, nat_tests)
status_writes_back (b ∷ []) pdu o e = grind (arith, nat_tests)
status_writes_back (b ∷ c ∷ []) pdu o e = grind (arith, nat_tests)
status_writes_back (b ∷ c ∷ d ∷ rest) pdu o e =
    let own : b < 16 = grind (arith, nat_tests) in
    let read = sym (status_read b c d rest own) ∙ e in
    let oc : c < 256 = o 1 in
    let low : (256 * b + c) % 256 ≡ c = omega arith in
    let high : (256 * b + c) / 256 ≡ b = omega arith in
    let w = unless_ok (along whole_entries (bit 7 d) 3 rest) _ pdu read in
    let v = unless_ok (along (valid_entries (256 * b + c)) (bit 7 d) 3 rest) (Ok (status (256 * b + c) (along listing (bit 7 d) 3 rest))) pdu w.1 in
    let here : pdu ≡ status (256 * b + c) (along listing (bit 7 d) 3 rest) = cc v.1 in
    let flags = more_listed (length rest) (bit 7 d) 3 rest w.0 in
    let entries = writes_back (256 * b + c) (length rest) (bit 7 d) 3 rest (octets_drop 3 (b ∷ c ∷ d ∷ rest) o) w.0 v.0 in
    let all : encode_status (256 * b + c) (along listing (bit 7 d) 3 rest) ≡ b ∷ c ∷ (128 * flag (bit 7 d)) ∷ along clearing (bit 7 d) 3 rest = cc in
    (ap encode here ∙ all ∙ sym (cond-false _ _ _ (headed b c d rest)), ap reader here)

pub read_writes_back : ReadWritesBack
read_writes_back Near bytes pdu o e = status_writes_back bytes pdu o e
read_writes_back Far bytes pdu o e =
    let read = amd_read bytes pdu e in
    (ap encode read.0 ∙ amd_writes_back bytes o read.1 read.2, ap reader read.0)

-- reserved bits ------------------------------------------------------------------------------------------------------

status_not_read : (bytes : Bytes) → decode Near (cleared Near bytes) ≡ decode Near bytes
status_not_read [] = refl
status_not_read (b ∷ []) = refl
status_not_read (b ∷ c ∷ []) = refl
status_not_read (b ∷ c ∷ d ∷ rest) =
    ap (decode Near) (cond-false _ _ _ (headed b c d rest)) ∙ ⊎_elim read refused (cases_lt b 16)
  where
    read : b < 16 → decode Near (b ∷ c ∷ (128 * flag (bit 7 d)) ∷ along clearing (bit 7 d) 3 rest) ≡ decode Near (b ∷ c ∷ d ∷ rest)
    read h =
        status_read b c (128 * flag (bit 7 d)) (along clearing (bit 7 d) 3 rest) h
        ∙ ap (λ f. status_answer (256 * b + c) f (along clearing (bit 7 d) 3 rest)) (bit_of_flag (bit 7 d))
        ∙ answered (along_cleared whole_entries blind_whole (bit 7 d) 3 rest) (along_cleared (valid_entries (256 * b + c)) (blind_valid (256 * b + c)) (bit 7 d) 3 rest)
        (ap (status (256 * b + c)) (along_cleared listing blind_listing (bit 7 d) 3 rest))
        ∙ sym (status_read b c d rest h)

    other : (e : ℕ) (bytes : Bytes) → 16 ≤ b → decode Near (b ∷ c ∷ e ∷ bytes) ≡ Err (at WrongKind 0)
    other e bytes h =
        let foreign : own_kind Near (b ∷ c ∷ e ∷ bytes) ≡ false = grind (arith, nat_tests) in
        cond-false _ _ _ foreign

    refused : 16 ≤ b → decode Near (b ∷ c ∷ (128 * flag (bit 7 d)) ∷ along clearing (bit 7 d) 3 rest) ≡ decode Near (b ∷ c ∷ d ∷ rest)
    refused h = other (128 * flag (bit 7 d)) (along clearing (bit 7 d) 3 rest) h ∙ sym (other d rest h)

pub reserved_not_read : ReservedNotRead
reserved_not_read Near bytes = status_not_read bytes
reserved_not_read Far bytes = refl
