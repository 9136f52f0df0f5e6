-- Steps of the walk along the entries of a status report, from what `find_entry` answers.
use Rattle.std.proofs.Common.{◌≡◌, ℕ, ◌+◌, ◌-◌, ◌≤◌, Bool, true, false, cond, not, ◌&&◌, ltb, ◌∷◌, length, drop, Some, None, Option, sym, refl, ap, ◌∙◌, arith, length-drop}
use Rattle.protocol.proofs.Walks.{along_step, listing_anywhere, some_none}
use Rattle.protocol.specs.Bytes.{Bytes}
use Rattle.protocol.specs.Reading.{Visit, along, listing, whole_entries, valid_entries, valid as valid_entry, entry_length, entry_of, e1_of, e3_of}
use Rattle.protocol.specs.Refusals.{at}
use Rattle.protocol.specs.declared.faults.Fault.{Fault}
use Rattle.protocol.specs.declared.faults.Refusal.TheVariants.{InvalidEntry}
use Rattle.std.proofs.lemmas.Bool.{cond-false, ltb-false}
use Rattle.std.specs.Bool.{then_some}
use Rattle.std.specs.Option.{option_or, option_map}
use Rattle.wire.specs.Views.{Raw, entries_in, found_at}

abbrev raw_at : Bytes → Raw
raw_at bytes = record { entry = entry_of bytes; size = entry_length bytes; e1 = e1_of bytes; e3 = e3_of bytes }

-- a found entry is whole, and is what the walk sees
pub found_is : (bytes : Bytes) (raw : Raw) → found_at bytes ≡ Some raw
    → (ltb (length bytes) (entry_length bytes) ≡ false) × (raw_at bytes ≡ raw)
found_is bytes raw e = go (ltb (length bytes) (entry_length bytes)) e
  where
    go : (short : Bool) → cond short None (Some (raw_at bytes)) ≡ Some raw → (short ≡ false) × (raw_at bytes ≡ raw)
    go true f = absurd (some_none (sym f))
    go false f = (refl, cc)

-- the walk over a found entry
pub along_found : {A : Type 0} (visit : Visit A) (place : ℕ) (bytes : Bytes) (raw : Raw) → found_at bytes ≡ Some raw
    → along visit true place bytes ≡ visit.entry place bytes (along visit raw.e1 (place + raw.size) (drop raw.size bytes))
along_found visit place bytes raw e =
    let is = found_is bytes raw e in
    along_step visit place bytes ∙ cond-false _ _ _ is.0
    ∙ ap (λ r. visit.entry place bytes (along visit r.e1 (place + r.size) (drop r.size bytes))) is.1

pub listing_found : (bytes : Bytes) (raw : Raw) → found_at bytes ≡ Some raw
    → along listing true 3 bytes ≡ raw.entry ∷ along listing raw.e1 3 (drop raw.size bytes)
listing_found bytes raw e =
    along_found listing 3 bytes raw e
    ∙ ap (λ r. r.entry ∷ along listing raw.e1 (3 + raw.size) (drop raw.size bytes)) (found_is bytes raw e).1
    ∙ ap (λ es. raw.entry ∷ es) (listing_anywhere (length (drop raw.size bytes)) raw.e1 (3 + raw.size) 3 (drop raw.size bytes))

-- The check of the entries: what stays true from entry to entry. `bytes` follow the header of a PDU of `size` bytes.
abbrev first_of : Option ℕ → Option Fault → Option Fault
first_of None later = later
first_of (Some place) later = Some (at InvalidEntry place)

pub record Walked (ack_sn : ℕ) (e1 : Bool) (bytes : Bytes) (size : ℕ) (more : Bool) (rest : Bytes) (invalid : Option ℕ) : Type 0 where
  pub within : length rest ≤ size
  pub whole : along whole_entries e1 3 bytes ≡ along whole_entries more (size - length rest) rest
  pub valid : along (valid_entries ack_sn) e1 3 bytes ≡ first_of invalid (along (valid_entries ack_sn) more (size - length rest) rest)

-- the place of the first invalid entry so far, once this one was looked at
abbrev pub noted : Option ℕ → Bool → ℕ → Option ℕ
noted invalid fine here = option_or invalid (then_some (not fine) here)

chosen : (fine : Bool) (here : ℕ) (later : Option Fault) → cond fine later (Some (at InvalidEntry here)) ≡ first_of (noted None fine here) later
chosen true here later = refl
chosen false here later = refl

looked_at : (ack_sn place : ℕ) (rest : Bytes) (invalid : Option ℕ) (raw : Raw) → found_at rest ≡ Some raw
    → first_of invalid (along (valid_entries ack_sn) true place rest)
    ≡ first_of (noted invalid (not raw.e3 && valid_entry ack_sn raw.entry) place)
    (along (valid_entries ack_sn) raw.e1 (place + raw.size) (drop raw.size rest))
looked_at ack_sn place rest (Some p) raw e = refl
looked_at ack_sn place rest None raw e =
    along_found (valid_entries ack_sn) place rest raw e
    ∙ ap (λ r. cond (not r.e3 && valid_entry ack_sn r.entry) (along (valid_entries ack_sn) raw.e1 (place + raw.size) (drop raw.size rest)) (Some (at InvalidEntry place))) (found_is rest raw e).1
    ∙ chosen (not raw.e3 && valid_entry ack_sn raw.entry) place (along (valid_entries ack_sn) raw.e1 (place + raw.size) (drop raw.size rest))

pub walked_on : (ack_sn : ℕ) (e1 : Bool) (bytes : Bytes) (size : ℕ) (rest : Bytes) (invalid : Option ℕ) (raw : Raw)
    → Walked ack_sn e1 bytes size true rest invalid → found_at rest ≡ Some raw
    → Walked ack_sn e1 bytes size raw.e1 (drop raw.size rest)
    (noted invalid (not raw.e3 && valid_entry ack_sn raw.entry) (size - length rest))
walked_on ack_sn e1 bytes size rest invalid raw w e =
    let is = found_is rest raw e in
    let long = ltb-false (length rest) (entry_length rest) is.0 in
    let same : entry_length rest ≡ raw.size = ap (λ r. r.size) is.1 in
    let next : size - length rest + raw.size ≡ size - length (drop raw.size rest) = omega (arith, long, same, w.within, length-drop raw.size rest) in
    record {
      within = omega (arith, w.within, length-drop raw.size rest);
      whole = w.whole ∙ along_found whole_entries (size - length rest) rest raw e ∙ ap (λ n. along whole_entries raw.e1 n (drop raw.size rest)) next;
      valid = w.valid ∙ looked_at ack_sn (size - length rest) rest invalid raw e
          ∙ ap (λ n. first_of (noted invalid (not raw.e3 && valid_entry ack_sn raw.entry) (size - length rest)) (along (valid_entries ack_sn) raw.e1 n (drop raw.size rest))) next;
    }

-- the entries of a part in which one begins or not
pub listed_if : {A : Type 0} (bytes_of : A → Bytes) (more : Bool) (part : A)
    → entries_in (option_map bytes_of (then_some more part)) ≡ along listing more 3 (bytes_of part)
listed_if bytes_of true part = refl
listed_if bytes_of false part = refl
