-- Closing a draft: what it answers, by whether the sealed report was read, and how a refusal restores the buffer.
use Rattle.std.proofs.Common.{◌≡◌, ℕ, suc, ◌+◌, ◌-◌, ◌*◌, ◌/◌, ◌%◌, ◌<◌, ◌≤◌, true, cond, [], ◌∷◌, length, take, drop, set, Ok, Err, Result, sym, refl, ap, ◌∙◌, subst, arith}
use Rattle.protocol.specs.Bytes.{Bytes, byte, flag, put_at}
use Rattle.protocol.specs.Drafts.{Draft, Step, sealed, closed_if, close}
use Rattle.protocol.specs.Pdus.{Pdu}
use Rattle.protocol.specs.Reading.{decode}
use Rattle.protocol.specs.declared.faults.End.TheVariants.{Near}
use Rattle.protocol.specs.declared.faults.Fault.{Fault}
use Rattle.std.proofs.lemmas.List.{set-set, set-get_or}
use Rattle.std.proofs.lemmas.Bool.{cond-false, le-ltb, lt-ltb}
use Rattle.wire.specs.Headers.{headed, ended}
use Rattle.wire.specs.Views.{checked}

-- a draft with entries, sealed
sealed_is : (ack_sn : ℕ) (d : Draft) (buffer : Bytes) → 3 < d.size → sealed ack_sn d buffer ≡ headed ack_sn true (ended d.last buffer)
sealed_is ack_sn d buffer h =
    ap (λ some. ack_sn / 256 ∷ ack_sn % 256 ∷ (128 * flag some) ∷ drop 3 (cond some (ended d.last buffer) buffer)) (lt-ltb 3 d.size h)

-- what closing answers and leaves
abbrev pub outcome : Result (Unit {0}) Fault → ℕ → Draft → Bytes → Step ℕ
outcome (Ok fine) ack_sn d buffer = record { answer = Ok d.size; draft = d; buffer = headed ack_sn true (ended d.last buffer) }
outcome (Err fault) ack_sn d buffer = record { answer = Err fault; draft = d; buffer = buffer }

pub closes : (r : Result (Unit {0}) Fault) (ack_sn : ℕ) (d : Draft) (buffer : Bytes) → 3 < d.size → d.size ≤ length buffer
    → r ≡ checked (decode Near (take d.size (headed ack_sn true (ended d.last buffer))))
    → outcome r ack_sn d buffer ≡ close ack_sn d buffer
closes r ack_sn d buffer some fits e =
    let is = sealed_is ack_sn d buffer some in
    let read : r ≡ checked (decode Near (take d.size (sealed ack_sn d buffer))) = e ∙ ap (λ b. checked (decode Near (take d.size b))) (sym is) in
    ap (λ a. outcome a ack_sn d buffer) read ∙ by (decode Near (take d.size (sealed ack_sn d buffer)))
    ∙ sym (cond-false _ _ _ (le-ltb (length buffer) d.size fits))
  where
    by : (p : Result Pdu Fault) → outcome (checked p) ack_sn d buffer ≡ closed_if p ack_sn d buffer
    by (Ok pdu) = ap (λ b. record { answer = Ok d.size; draft = d; buffer = b }) (sym (sealed_is ack_sn d buffer some))
    by (Err fault) = refl

-- the bytes that were overwritten, written back
pub restored : (buffer : Bytes) (last v : ℕ) → 3 ≤ length buffer → 3 ≤ last
    → set (put_at 0 (byte buffer 0 ∷ byte buffer 1 ∷ byte buffer 2 ∷ []) (headed v true (ended last buffer))) (last + 1) (byte buffer (last + 1)) ≡ buffer
restored [] last v h l = absurd (omega arith)
restored (x ∷ []) last v h l = absurd (omega arith)
restored (x ∷ y ∷ []) last v h l = absurd (omega arith)
restored (x ∷ y ∷ z ∷ rest) last v h l =
    subst
    (λ i. set (x ∷ y ∷ z ∷ drop 3 (set (x ∷ y ∷ z ∷ rest) i (byte (x ∷ y ∷ z ∷ rest) i - 8 * (byte (x ∷ y ∷ z ∷ rest) i / 8 % 2)))) i (byte (x ∷ y ∷ z ∷ rest) i) ≡ x ∷ y ∷ z ∷ rest)
    index (ap (λ r. x ∷ y ∷ z ∷ r) (set-set rest (last - 2) _ (byte rest (last - 2)) ∙ set-get_or rest (last - 2) 0))
  where
    index : suc (suc (suc (last - 2))) ≡ last + 1
    index = omega (arith, l)

-- the same, by what the buffer held when it was read
pub closes_by : (r : Result (Unit {0}) Fault) (ack_sn : ℕ) (d : Draft) (buffer held : Bytes) → 3 < d.size → d.size ≤ length buffer
    → held ≡ headed ack_sn true (ended d.last buffer) → r ≡ checked (decode Near (take d.size held))
    → outcome r ack_sn d buffer ≡ close ack_sn d buffer
closes_by r ack_sn d buffer held some fits e read =
    closes r ack_sn d buffer some fits
    (read ∙ ap (λ b. checked (decode Near (take d.size b))) e)
