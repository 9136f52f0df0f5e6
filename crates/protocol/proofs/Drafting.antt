-- A draft that took entries and is closed has written the status report of these entries.
use Rattle.std.proofs.Common.{◌≡◌, ℕ, suc, ◌+◌, ◌-◌, ◌*◌, ◌/◌, ◌%◌, ◌<◌, ◌≤◌, Bool, true, false, cond, ltb, List, [], ◌∷◌, ◌++◌, length, take, drop, set, is_ok, Some, None, Ok, Err, Option, Result, sym, refl, ap, ◌∙◌, subst, ⊎_elim, append_assoc, add-zero, add_assoc, arith, length-append, length-drop}
use Rattle.protocol.proofs.Formats.{written_reads_back}
use Rattle.protocol.specs.Bytes.{Bytes, byte, flag, put, put_at}
use Rattle.protocol.specs.Drafts.{Draft, Step, opened, add, sealed, close, closed_if, then, fill}
use Rattle.protocol.specs.Laws.{DraftWrites, Fits}
use Rattle.protocol.specs.Pdus.{Missing, every, span, Entry, Pdu, status, more, e2, span_fields, encode_entry, encode_entries, encode_status}
use Rattle.protocol.specs.Reading.{in_order, decode}
use Rattle.protocol.specs.Writing.{pdu_fault, written, write}
use Rattle.protocol.specs.declared.faults.End.TheVariants.{Near}
use Rattle.protocol.specs.Refusals.{at, unless}
use Rattle.protocol.specs.declared.faults.Fault.{Fault}
use Rattle.protocol.specs.declared.faults.Refusal.TheVariants.{ShortBuffer, InvalidEntry}
use Rattle.std.proofs.lemmas.List.{length-take-le, take-append-drop, take_at, drop_at, drop-drop, set-append_right, get_or-append_right}
use Rattle.std.proofs.lemmas.Bool.{cases_lt, cond-true, cond-false, ltb-false, lt-ltb, le-ltb, false≢true}

-- the entries as a draft holds them, each with E1
abbrev held : List Entry → Bytes
held [] = []
held (e ∷ es) = encode_entry true e ++ held es

length_held : (es : List Entry) → length (encode_entries es) ≡ length (held es)
length_held [] = refl
length_held (e ∷ es) =
    length-append (encode_entry (more es) e) (encode_entries es) ∙ ap (λ n. length (encode_entry true e) + n) (length_held es)
    ∙ sym (length-append (encode_entry true e) (held es))

-- where the last entry begins, of those from `place` on
abbrev last_place : ℕ → ℕ → List Entry → ℕ
last_place last place [] = last
last_place last place (e ∷ es) = last_place place (place + length (encode_entry true e)) es

-- two writes, one after the other
pub put-put : (i : ℕ) (xs ys buffer : Bytes) → i + length xs + length ys ≤ length buffer
    → put_at (i + length xs) ys (put_at i xs buffer) ≡ put_at i (xs ++ ys) buffer
put-put i xs ys buffer h =
    let front = take i buffer ++ xs in
    let long : length (take i buffer) ≡ i = length-take-le i buffer (omega arith) in
    let seam : length front ≡ i + length xs = length-append (take i buffer) xs ∙ ap (λ n. n + length xs) long in
    let once : put_at i xs buffer ≡ front ++ drop (i + length xs) buffer = sym (append_assoc (take i buffer) xs (drop (i + length xs) buffer)) in
    let kept : take (i + length xs) (put_at i xs buffer) ≡ front = ap (take (i + length xs)) once ∙ take_at front (drop (i + length xs) buffer) (i + length xs) seam in
    let past : drop (i + length xs + length ys) (put_at i xs buffer) ≡ drop (i + length (xs ++ ys)) buffer =
    sym (drop-drop (length ys) (i + length xs) (put_at i xs buffer))
    ∙ ap (λ b. drop (length ys) b) (ap (drop (i + length xs)) once ∙ drop_at front (drop (i + length xs) buffer) (i + length xs) seam)
    ∙ drop-drop (length ys) (i + length xs) buffer ∙ ap (λ n. drop n buffer) (omega (arith, length-append xs ys)) in
    ap (λ b. b ++ (ys ++ drop (i + length xs + length ys) (put_at i xs buffer))) kept ∙ ap (λ b. front ++ (ys ++ b)) past
    ∙ append_assoc (take i buffer) xs (ys ++ drop (i + length (xs ++ ys)) buffer)
    ∙ ap (λ b. take i buffer ++ b) (sym (append_assoc xs ys (drop (i + length (xs ++ ys)) buffer)))

pub length-put_at : (i : ℕ) (bytes buffer : Bytes) → i + length bytes ≤ length buffer → length (put_at i bytes buffer) ≡ length buffer
length-put_at i bytes buffer h =
    omega (
      arith,
      length-append (take i buffer) (bytes ++ drop (i + length bytes) buffer),
      length-append bytes (drop (i + length bytes) buffer),
      length-take-le i buffer (omega arith),
      length-drop (i + length bytes) buffer,
    )

-- a step that is not refused
abbrev taken : ℕ → ℕ → Bytes → Step (Unit {0})
taken size last buffer = record { answer = Ok tt; draft = record { size = size; last = last }; buffer = buffer }

-- of one entry
abbrev added : Entry → Draft → Bytes → Step (Unit {0})
added e d buffer = taken (d.size + length (encode_entry true e)) d.size (put_at d.size (encode_entry true e) buffer)

err_ok : {A : Type 0} {f : Fault} {x : A} → ◌≡◌ {A = Result A Fault} (Err f) (Ok x) → ⊥
err_ok e = let z : ◌≡◌ {A = ℕ} 0 1 = cc in omega arith

add_ok : (e : Entry) (d : Draft) (buffer : Bytes) → (add e d buffer).answer ≡ Ok tt
    → (d.size + length (encode_entry true e) ≤ length buffer) × (add e d buffer ≡ added e d buffer)
add_ok e d buffer ok = go (ltb (length buffer) (d.size + length (encode_entry true e))) refl (in_order e.missing) ok
  where
    go : (short : Bool) → ltb (length buffer) (d.size + length (encode_entry true e)) ≡ short → (ordered : Bool)
        → (cond short (record { answer = Err (at ShortBuffer 0); draft = d; buffer = buffer })
        (cond ordered (added e d buffer) (record { answer = Err (at InvalidEntry d.size); draft = d; buffer = buffer }))).answer ≡ Ok tt
        → (d.size + length (encode_entry true e) ≤ length buffer)
        × (cond short (record { answer = Err (at ShortBuffer 0); draft = d; buffer = buffer })
        (cond ordered (added e d buffer) (record { answer = Err (at InvalidEntry d.size); draft = d; buffer = buffer })) ≡ added e d buffer)
    go true s ordered k = absurd (err_ok k)
    go false s false k = absurd (err_ok k)
    go false s true k = (ltb-false _ _ s, refl)

-- of several
abbrev filled : List Entry → Draft → Bytes → Step (Unit {0})
filled es d buffer =
    taken (d.size + length (held es)) (last_place d.last d.size es) (put_at d.size (held es) buffer)

then_ok : (a : Result (Unit {0}) Fault) (step next : Step (Unit {0})) → step.answer ≡ a → (then a step next).answer ≡ Ok tt
    → (step.answer ≡ Ok tt) × (then a step next ≡ next)
then_ok (Ok done) step next e ok = (e, refl)
then_ok (Err f) step next e ok = absurd (err_ok (sym e ∙ ok))

fill_ok : (es : List Entry) (d : Draft) (buffer : Bytes) → (fill es d buffer).answer ≡ Ok tt → d.size ≤ length buffer
    → (d.size + length (held es) ≤ length buffer) × (fill es d buffer ≡ filled es d buffer)
fill_ok [] d buffer ok h = (
  omega (arith, h),
  ap (λ n. taken n d.last buffer) (sym (add-zero d.size))
      ∙ ap (λ b. taken (d.size + 0) d.last b) (sym (take-append-drop d.size buffer) ∙ ap (λ n. take d.size buffer ++ drop n buffer) (sym (add-zero d.size))),
)
fill_ok (e ∷ es) d buffer ok h =
    let step = then_ok (add e d buffer).answer (add e d buffer) (fill es (add e d buffer).draft (add e d buffer).buffer) refl ok in
    let one = add_ok e d buffer step.0 in
    let rest : fill (e ∷ es) d buffer ≡ fill es (added e d buffer).draft (added e d buffer).buffer = step.1 ∙ ap (λ s. fill es s.draft s.buffer) one.1 in
    let long = length-put_at d.size (encode_entry true e) buffer one.0 in
    let all = fill_ok es (added e d buffer).draft (added e d buffer).buffer (ap (λ s. s.answer) (sym rest) ∙ ok) (omega (arith, long, one.0)) in
    let total = length-append (encode_entry true e) (held es) in
    let fits : d.size + length (held (e ∷ es)) ≤ length buffer = omega (arith, total, all.0, long) in (
      fits,
      rest ∙ all.1
          ∙ ap (λ n. taken n (last_place d.last d.size (e ∷ es)) (put_at (d.size + length (encode_entry true e)) (held es) (put_at d.size (encode_entry true e) buffer))) (omega (arith, total))
          ∙ ap (λ b. taken (d.size + length (held (e ∷ es))) (last_place d.last d.size (e ∷ es)) b) (put-put d.size (encode_entry true e) (held es) buffer (omega (arith, total, fits))),
    )

-- closing -----------------------------------------------------------------------------------------------------------

-- the entry at i with E1 cleared
abbrev sealed_at : ℕ → Bytes → Bytes
sealed_at i bytes = set bytes (i + 1) (byte bytes (i + 1) - 8 * (byte bytes (i + 1) / 8 % 2))

sealed_past : (xs ys : Bytes) (n i : ℕ) → length xs ≡ n → sealed_at (n + i) (xs ++ ys) ≡ xs ++ sealed_at i ys
sealed_past xs ys n i e =
    let read : byte (xs ++ ys) (n + i + 1) ≡ byte ys (i + 1) = get_or-append_right xs ys n (n + i + 1) 0 e (omega arith) ∙ ap (λ k. byte ys k) (omega arith) in
    ap (λ b. set (xs ++ ys) (n + i + 1) (b - 8 * (b / 8 % 2))) read ∙ set-append_right xs ys n (n + i + 1) _ e (omega arith)
    ∙ ap (λ k. xs ++ set ys k (byte ys (i + 1) - 8 * (byte ys (i + 1) / 8 % 2))) (omega arith)

-- where the last entry begins, from the first one on
abbrev last_offset : Entry → List Entry → ℕ
last_offset e [] = 0
last_offset e (f ∷ es) = length (encode_entry true e) + last_offset f es

last_place_is : (last place : ℕ) (e : Entry) (es : List Entry) → last_place last place (e ∷ es) ≡ place + last_offset e es
last_place_is last place e [] = sym (add-zero place)
last_place_is last place e (f ∷ es) =
    last_place_is place (place + length (encode_entry true e)) f es ∙ add_assoc place (length (encode_entry true e)) (last_offset f es)

e1_cleared : (n : ℕ) (missing : Missing) → let b = 16 * (n % 16) + 8 * 1 + 4 * e2 missing in b - 8 * (b / 8 % 2) ≡ 16 * (n % 16) + 8 * 0 + 4 * e2 missing
e1_cleared n every = omega arith
e1_cleared n (span so_start so_end) = omega arith

entries_sealed : (e : Entry) (es : List Entry) (rest : Bytes)
    → sealed_at (last_offset e es) (held (e ∷ es) ++ rest) ≡ encode_entries (e ∷ es) ++ rest
entries_sealed e [] rest = ap (λ b. (e.nack_sn / 16) ∷ b ∷ ((span_fields e.missing ++ []) ++ rest)) (e1_cleared e.nack_sn e.missing)
entries_sealed e (f ∷ es) rest =
    ap (sealed_at (last_offset e (f ∷ es))) (append_assoc (encode_entry true e) (held (f ∷ es)) rest)
    ∙ sealed_past (encode_entry true e) (held (f ∷ es) ++ rest) (length (encode_entry true e)) (last_offset f es) refl
    ∙ ap (λ bytes. encode_entry true e ++ bytes) (entries_sealed f es rest)
    ∙ sym (append_assoc (encode_entry true e) (encode_entries (f ∷ es)) rest)

three_more : (n : ℕ) → 3 + n ≡ suc (suc (suc n))
three_more n = omega arith

sealed_is : (ack_sn : ℕ) (es : List Entry) (buffer : Bytes) → 3 + length (held es) ≤ length buffer
    → sealed ack_sn (filled es opened buffer).draft (filled es opened buffer).buffer ≡ put (encode_status ack_sn es) buffer
sealed_is ack_sn [] buffer h = ap (λ b. ack_sn / 256 ∷ ack_sn % 256 ∷ 0 ∷ drop 3 b) (take-append-drop 3 buffer)
sealed_is ack_sn (e ∷ es) buffer h =
    let size = 3 + length (held (e ∷ es)) in
    let last = last_place 0 3 (e ∷ es) in
    let rest = drop size buffer in
    let bytes = put_at 3 (held (e ∷ es)) buffer in
    let headed = λ (b : Bytes). ack_sn / 256 ∷ ack_sn % 256 ∷ 128 ∷ b in
    let some : ltb 3 size ≡ true = lt-ltb 3 size (omega arith) in
    let three = length-take-le 3 buffer (omega arith) in
    ap (λ t. ack_sn / 256 ∷ ack_sn % 256 ∷ (128 * flag t) ∷ drop 3 (cond t (sealed_at last bytes) bytes)) some
    ∙ ap (λ i. headed (drop 3 (sealed_at i bytes))) (last_place_is 0 3 e es)
    ∙ ap (λ b. headed (drop 3 b)) (sealed_past (take 3 buffer) (held (e ∷ es) ++ rest) 3 (last_offset e es) three)
    ∙ ap headed (drop_at (take 3 buffer) (sealed_at (last_offset e es) (held (e ∷ es) ++ rest)) 3 three ∙ entries_sealed e es rest)
    ∙ ap (λ n. headed (encode_entries (e ∷ es) ++ drop (3 + n) buffer)) (sym (length_held (e ∷ es)))
    ∙ ap (λ n. headed (encode_entries (e ∷ es) ++ drop n buffer)) (three_more (length (encode_entries (e ∷ es))))

-- what closing answers, by the fault that the report has
closed_as : (fault : Option Fault) (ack_sn : ℕ) (pdu : Pdu) (d : Draft) (bytes held_bytes buffer : Bytes)
    → d.size ≡ length bytes → sealed ack_sn d held_bytes ≡ put bytes buffer
    → ((closed_if (unless fault (Ok pdu)) ack_sn d held_bytes).answer ≡ (written fault bytes buffer).0)
    × (is_ok (written fault bytes buffer).0 ≡ true → (closed_if (unless fault (Ok pdu)) ack_sn d held_bytes).buffer ≡ (written fault bytes buffer).1)
closed_as (Some f) ack_sn pdu d bytes held_bytes buffer size e = (refl, λ ok. absurd (false≢true ok))
closed_as None ack_sn pdu d bytes held_bytes buffer size e = (ap {B = Result ℕ Fault} Ok size, λ ok. e)

-- closing answers what writing does, and leaves that
abbrev Closes : ℕ → List Entry → Bytes → Step (Unit {0}) → Type 0
Closes ack_sn es buffer s =
    ((close ack_sn s.draft s.buffer).answer ≡ (write (status ack_sn es) buffer).0)
    × (is_ok (write (status ack_sn es) buffer).0 ≡ true → (close ack_sn s.draft s.buffer).buffer ≡ (write (status ack_sn es) buffer).1)

filled_closes : (ack_sn : ℕ) (es : List Entry) (buffer : Bytes) → Fits (status ack_sn es) → 3 + length (held es) ≤ length buffer
    → Closes ack_sn es buffer (filled es opened buffer)
filled_closes ack_sn es buffer fits h =
    let d : Draft = (filled es opened buffer).draft in
    let b : Bytes = (filled es opened buffer).buffer in
    let bytes : Bytes = encode_status ack_sn es in
    let long : length b ≡ length buffer = length-put_at 3 (held es) buffer h in
    let size : d.size ≡ length bytes = omega (arith, length_held es) in
    let is : sealed ack_sn d b ≡ put bytes buffer = sealed_is ack_sn es buffer h in
    let own : take d.size (put bytes buffer) ≡ bytes = take_at bytes (drop (length bytes) buffer) d.size (sym size) in
    let closing : close ack_sn d b ≡ closed_if (unless (pdu_fault (status ack_sn es)) (Ok (status ack_sn es))) ack_sn d b =
    cond-false _ _ _ (le-ltb (length b) d.size (omega (arith, long, h)))
    ∙ ap (λ r. closed_if r ack_sn d b) (ap (λ x. decode Near (take d.size x)) is ∙ ap (decode Near) own ∙ written_reads_back (status ack_sn es) fits) in
    let writing : write (status ack_sn es) buffer ≡ written (pdu_fault (status ack_sn es)) bytes buffer =
    cond-false _ _ _ (le-ltb (length buffer) (length bytes) (omega (arith, size, h))) in
    let c = closed_as (pdu_fault (status ack_sn es)) ack_sn (status ack_sn es) d bytes b buffer size is in (
      ap (λ s. s.answer) closing ∙ c.0 ∙ ap (λ w. w.0) (sym writing),
      λ ok. ap (λ s. s.buffer) closing ∙ c.1 (ap (λ w. is_ok w.0) (sym writing) ∙ ok) ∙ ap (λ w. w.1) (sym writing),
    )

-- a buffer that has no room for the header takes no entry
none_taken : (ack_sn : ℕ) (es : List Entry) (buffer : Bytes) → (fill es opened buffer).answer ≡ Ok tt → length buffer < 3
    → Closes ack_sn es buffer (fill es opened buffer)
none_taken ack_sn [] buffer ok h =
    let short = lt-ltb (length buffer) 3 h in
    let closing : close ack_sn opened buffer ≡ record { answer = Err (at ShortBuffer 0); draft = opened; buffer = buffer } = cond-true _ _ _ short in
    let writing : write (status ack_sn []) buffer ≡ (Err (at ShortBuffer 0), buffer) = cond-true _ _ _ short in
    (ap (λ s. s.answer) closing ∙ ap (λ w. w.0) (sym writing), λ ok. ap (λ s. s.buffer) closing ∙ ap (λ w. w.1) (sym writing))
none_taken ack_sn (e ∷ es) buffer ok h =
    let step = then_ok (add e opened buffer).answer (add e opened buffer) (fill es (add e opened buffer).draft (add e opened buffer).buffer) refl ok in
    absurd (omega (arith, (add_ok e opened buffer step.0).0, h))

pub draft_writes : DraftWrites
draft_writes ack_sn es buffer fits ok = ⊎_elim (none_taken ack_sn es buffer ok) (λ h. enough h (fill_ok es opened buffer ok h)) (cases_lt (length buffer) 3)
  where
    enough : 3 ≤ length buffer → (3 + length (held es) ≤ length buffer) × (fill es opened buffer ≡ filled es opened buffer)
        → Closes ack_sn es buffer (fill es opened buffer)
    enough h f = subst (Closes ack_sn es buffer) (sym f.1) (filled_closes ack_sn es buffer fits f.0)
