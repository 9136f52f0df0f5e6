-- The walk along the entries of a status report: its steps, and what it finds in what was written.
use Rattle.std.proofs.Common.{◌≡◌, ℕ, zero, suc, ◌+◌, ◌<◌, ◌≤◌, Bool, true, false, cond, not, ◌&&◌, eqb, ltb, List, [], ◌∷◌, ◌++◌, length, drop, Some, None, sym, refl, ap, ◌∙◌, subst, arith, length-append, length-drop}
use Rattle.protocol.specs.Bytes.{Bytes, Octets, byte, bit}
use Rattle.protocol.specs.Laws.{MissingFits, EntriesFit}
use Rattle.protocol.specs.Pdus.{Missing, every, span, Entry, encode_entry, encode_entries, more}
use Rattle.protocol.specs.Reading.{entry_length, entry_of, e1_of, e3_of, Visit, walk, along, listing, whole_entries, valid_entries, valid, clearing, cleared_entry}
use Rattle.protocol.specs.Refusals.{at}
use Rattle.protocol.specs.Writing.{entries_fault}
use Rattle.protocol.specs.declared.faults.Refusal.TheVariants.{Malformed, InvalidEntry}
use Rattle.std.proofs.lemmas.Bool.{ltb-false, le-ltb, lt-ltb, ne_eqb, cond-true, cond-false}
use Rattle.std.proofs.lemmas.List.{get_or-drop}
use Rattle.std.proofs.lemmas.Bool.Decides.{nat_tests}

entry_length_bounds : (bytes : Bytes) → (2 ≤ entry_length bytes) × (entry_length bytes ≤ 6)
entry_length_bounds bytes = go (bit 2 (byte bytes 1))
  where
    go : (b : Bool) → (2 ≤ cond b 6 2) × (cond b 6 2 ≤ 6)
    go true = (omega arith, omega arith)
    go false = (omega arith, omega arith)

nothing_left : (bytes : Bytes) → length bytes ≤ 0 → ltb (length bytes) (entry_length bytes) ≡ true
nothing_left bytes h = lt-ltb (length bytes) (entry_length bytes) (omega (arith, (entry_length_bounds bytes).0))

less : (bytes : Bytes) (n : ℕ) → length bytes ≤ suc n → length (drop (entry_length bytes) bytes) ≤ n
less bytes n h = omega (arith, length-drop (entry_length bytes) bytes, (entry_length_bounds bytes).0)

-- An entry that is whole has two bytes, or six with E2.
pub by_entry : (P : Bytes → Type 0) → ((b c : ℕ) (rest : Bytes) → bit 2 c ≡ false → P (b ∷ c ∷ rest))
    → ((b c d f g k : ℕ) (rest : Bytes) → bit 2 c ≡ true → P (b ∷ c ∷ d ∷ f ∷ g ∷ k ∷ rest))
    → (bytes : Bytes) → entry_length bytes ≤ length bytes → P bytes
by_entry P two six [] h = absurd (omega (arith, entry_length_bounds []))
by_entry P two six (b ∷ []) h = absurd (omega (arith, entry_length_bounds (b ∷ [])))
by_entry P two six (b ∷ c ∷ bytes) h = go (bit 2 c) refl bytes (omega (arith, h))
  where
    go : (e2 : Bool) → bit 2 c ≡ e2 → (rest : Bytes) → cond e2 6 2 ≤ 2 + length rest → P (b ∷ c ∷ rest)
    go false e rest l = two b c rest e
    go true e [] l = absurd (omega arith)
    go true e (d ∷ []) l = absurd (omega arith)
    go true e (d ∷ f ∷ []) l = absurd (omega arith)
    go true e (d ∷ f ∷ g ∷ []) l = absurd (omega arith)
    go true e (d ∷ f ∷ g ∷ k ∷ rest) l = six b c d f g k rest e

module _ {A : Type 0} (visit : Visit A) where
  -- any fuel that suffices is as good
  walk_fuel : (n m : ℕ) (e1 : Bool) (place : ℕ) (bytes : Bytes) → length bytes ≤ n → length bytes ≤ m
      → walk visit n e1 place bytes ≡ walk visit m e1 place bytes
  walk_fuel n m false place bytes hn hm = refl
  walk_fuel zero zero true place bytes hn hm = refl
  walk_fuel zero (suc m) true place bytes hn hm = sym (cond-true _ _ _ (nothing_left bytes hn))
  walk_fuel (suc n) zero true place bytes hn hm = cond-true _ _ _ (nothing_left bytes hm)
  walk_fuel (suc n) (suc m) true place bytes hn hm =
      ap (λ rest. cond (ltb (length bytes) (entry_length bytes)) (visit.cut place bytes) (visit.entry place bytes rest))
      (walk_fuel n m (e1_of bytes) (place + entry_length bytes) (drop (entry_length bytes) bytes) (less bytes n hn) (less bytes m hm))

  -- one step of the walk
  pub along_step : (place : ℕ) (bytes : Bytes)
      → along visit true place bytes
      ≡ cond (ltb (length bytes) (entry_length bytes)) (visit.cut place bytes)
      (visit.entry place bytes (along visit (e1_of bytes) (place + entry_length bytes) (drop (entry_length bytes) bytes)))
  along_step place [] = refl
  along_step place (b ∷ bs) =
      ap (λ rest. cond (ltb (length (b ∷ bs)) (entry_length (b ∷ bs))) (visit.cut place (b ∷ bs)) (visit.entry place (b ∷ bs) rest))
      (walk_fuel (length bs) (length (drop (entry_length (b ∷ bs)) (b ∷ bs))) (e1_of (b ∷ bs)) (place + entry_length (b ∷ bs))
      (drop (entry_length (b ∷ bs)) (b ∷ bs)) (less (b ∷ bs) (length bs) (omega arith)) (omega arith))

-- What the walk sees of an entry.
pub record Seen (bytes : Bytes) (size : ℕ) (e1 e3 : Bool) (e : Entry) (rest : Bytes) : Type 0 where
  pub long : size ≤ length bytes
  pub size_is : entry_length bytes ≡ size
  pub e1_is : e1_of bytes ≡ e1
  pub e3_is : e3_of bytes ≡ e3
  pub entry_is : entry_of bytes ≡ e
  pub rest_is : drop (entry_length bytes) bytes ≡ rest

-- a written entry is seen as it is
pub seen_written : (e1 : Bool) (n : ℕ) (missing : Missing) (rest : Bytes) → n < 4096 → MissingFits missing
    → let e : Entry = record { nack_sn = n; missing = missing } in
    Seen (encode_entry e1 e ++ rest) (length (encode_entry e1 e)) e1 false e rest
seen_written true n every rest h fits =
    record { long = omega arith; size_is = grind (arith, nat_tests); e1_is = grind (arith, nat_tests); e3_is = grind (arith, nat_tests); entry_is = grind (arith, nat_tests); rest_is = grind (arith, nat_tests) }
seen_written true n (span so_start so_end) rest h fits =
    record { long = omega arith; size_is = grind (arith, nat_tests); e1_is = grind (arith, nat_tests); e3_is = grind (arith, nat_tests); entry_is = grind (arith, nat_tests); rest_is = grind (arith, nat_tests) }
seen_written false n every rest h fits =
    record { long = omega arith; size_is = grind (arith, nat_tests); e1_is = grind (arith, nat_tests); e3_is = grind (arith, nat_tests); entry_is = grind (arith, nat_tests); rest_is = grind (arith, nat_tests) }
seen_written false n (span so_start so_end) rest h fits =
    record { long = omega arith; size_is = grind (arith, nat_tests); e1_is = grind (arith, nat_tests); e3_is = grind (arith, nat_tests); entry_is = grind (arith, nat_tests); rest_is = grind (arith, nat_tests) }

module _ {A : Type 0} (visit : Visit A) where
  -- the walk over an entry that is seen
  pub walk_seen : {bytes : Bytes} {size : ℕ} {e1 e3 : Bool} {e : Entry} {rest : Bytes} (n place : ℕ) → Seen bytes size e1 e3 e rest
      → walk visit (suc n) true place bytes ≡ visit.entry place bytes (walk visit n e1 (place + size) rest)
  walk_seen {bytes} n place seen =
      cond-false _ _ _ (le-ltb (length bytes) (entry_length bytes) (omega (arith, seen.long, seen.size_is)))
      ∙ ap (visit.entry place bytes) (cc (seen.e1_is, seen.size_is, seen.rest_is))

  pub along_seen : {bytes : Bytes} {size : ℕ} {e1 e3 : Bool} {e : Entry} {rest : Bytes} (place : ℕ) → Seen bytes size e1 e3 e rest
      → along visit true place bytes ≡ visit.entry place bytes (along visit e1 (place + size) rest)
  along_seen {bytes} place seen =
      along_step visit place bytes
      ∙ cond-false _ _ _ (le-ltb (length bytes) (entry_length bytes) (omega (arith, seen.long, seen.size_is)))
      ∙ ap (visit.entry place bytes) (cc (seen.e1_is, seen.size_is, seen.rest_is))

-- what is written, read again ----------------------------------------------------------------------------------

seen_first : (e : Entry) (es : List Entry) → EntriesFit (e ∷ es)
    → Seen (encode_entries (e ∷ es)) (length (encode_entry true e)) (more es) false e (encode_entries es)
seen_first e es fit = seen_written (more es) e.nack_sn e.missing (encode_entries es) fit.0 fit.1

pub whole_written : (es : List Entry) (place : ℕ) → EntriesFit es → along whole_entries (more es) place (encode_entries es) ≡ None
whole_written [] place fit = refl
whole_written (e ∷ es) place fit =
    along_seen whole_entries place (seen_first e es fit) ∙ whole_written es (place + length (encode_entry true e)) fit.2

pub listing_written : (es : List Entry) (place : ℕ) → EntriesFit es → along listing (more es) place (encode_entries es) ≡ es
listing_written [] place fit = refl
listing_written (e ∷ es) place fit =
    along_seen listing place (seen_first e es fit)
    ∙ cc ((seen_first e es fit).entry_is, listing_written es (place + length (encode_entry true e)) fit.2)

pub valid_written : (ack_sn : ℕ) (es : List Entry) (place : ℕ) → EntriesFit es
    → along (valid_entries ack_sn) (more es) place (encode_entries es) ≡ entries_fault ack_sn place es
valid_written ack_sn [] place fit = refl
valid_written ack_sn (e ∷ es) place fit =
    let seen = seen_first e es fit in
    along_seen (valid_entries ack_sn) place seen
    ∙ ap (λ b. cond (not b && valid ack_sn (entry_of (encode_entries (e ∷ es)))) (along (valid_entries ack_sn) (more es) (place + length (encode_entry true e)) (encode_entries es)) (Some (at InvalidEntry place))) seen.e3_is
    ∙ cc (seen.entry_is, valid_written ack_sn es (place + length (encode_entry true e)) fit.2)

-- what is read, written again ----------------------------------------------------------------------------------

-- an entry with no E3 is written as it was read, with R 0
entry_writes_back : (bytes : Bytes) → entry_length bytes ≤ length bytes → Octets bytes → e3_of bytes ≡ false
    → encode_entry (e1_of bytes) (entry_of bytes) ≡ cleared_entry bytes
entry_writes_back =
    by_entry (λ bytes. Octets bytes → e3_of bytes ≡ false → encode_entry (e1_of bytes) (entry_of bytes) ≡ cleared_entry bytes)
    (λ b c rest e2 o e3. let oc : c < 256 = o 1 in grind (arith, nat_tests))
    (λ b c d f g k rest e2 o e3.
    let oc : c < 256 = o 1 in
    let od : d < 256 = o 2 in
    let of : f < 256 = o 3 in
    let og : g < 256 = o 4 in
    let ok : k < 256 = o 5 in
    grind (arith, nat_tests))

pub some_none : {A : Type 0} {x : A} → Some x ≡ None → ⊥
some_none e = let z : ◌≡◌ {A = ℕ} 0 1 = cc in omega arith

pub octets_drop : (k : ℕ) (bytes : Bytes) → Octets bytes → Octets (drop k bytes)
octets_drop k bytes o i = subst (λ b. b < 256) (sym (get_or-drop k bytes i 0)) (o (k + i))

-- the E1 flags that are read are those that the entries are written with
pub more_listed : (n : ℕ) (e1 : Bool) (place : ℕ) (bytes : Bytes) → walk whole_entries n e1 place bytes ≡ None
    → more (walk listing n e1 place bytes) ≡ e1
more_listed n false place bytes w = refl
more_listed zero true place bytes w = absurd (some_none w)
more_listed (suc n) true place bytes w = go (ltb (length bytes) (entry_length bytes)) w
  where
    go : (short : Bool) → cond short (Some (at Malformed (place + length bytes))) (walk whole_entries n (e1_of bytes) (place + entry_length bytes) (drop (entry_length bytes) bytes)) ≡ None
        → more (cond short [] (entry_of bytes ∷ walk listing n (e1_of bytes) (place + entry_length bytes) (drop (entry_length bytes) bytes))) ≡ true
    go true w' = absurd (some_none w')
    go false w' = refl

pub writes_back : (ack_sn n : ℕ) (e1 : Bool) (place : ℕ) (bytes : Bytes) → Octets bytes
    → walk whole_entries n e1 place bytes ≡ None → walk (valid_entries ack_sn) n e1 place bytes ≡ None
    → encode_entries (walk listing n e1 place bytes) ≡ walk clearing n e1 place bytes
writes_back ack_sn n false place [] o w v = refl
writes_back ack_sn n false place (b ∷ bytes) o w v = absurd (some_none (sym (cond-false _ _ _ (ne_eqb (length (b ∷ bytes)) 0 (λ e. omega (arith, e)))) ∙ w))
writes_back ack_sn zero true place bytes o w v = absurd (some_none w)
writes_back ack_sn (suc n) true place bytes o w v =
    go (ltb (length bytes) (entry_length bytes)) refl (e3_of bytes) refl (valid ack_sn (entry_of bytes)) w v
    (writes_back ack_sn n (e1_of bytes) next left (octets_drop (entry_length bytes) bytes o))
  where
    next : ℕ
    next = place + entry_length bytes

    left : Bytes
    left = drop (entry_length bytes) bytes

    go : (short : Bool) → ltb (length bytes) (entry_length bytes) ≡ short → (e3 : Bool) → e3_of bytes ≡ e3 → (ok : Bool)
        → cond short (Some (at Malformed (place + length bytes))) (walk whole_entries n (e1_of bytes) next left) ≡ None
        → cond short None (cond (not e3 && ok) (walk (valid_entries ack_sn) n (e1_of bytes) next left) (Some (at InvalidEntry place))) ≡ None
        → (walk whole_entries n (e1_of bytes) next left ≡ None → walk (valid_entries ack_sn) n (e1_of bytes) next left ≡ None
        → encode_entries (walk listing n (e1_of bytes) next left) ≡ walk clearing n (e1_of bytes) next left)
        → encode_entries (cond short [] (entry_of bytes ∷ walk listing n (e1_of bytes) next left))
        ≡ cond short bytes (cleared_entry bytes ++ walk clearing n (e1_of bytes) next left)
    go true s e3 e ok w' v' again = absurd (some_none w')
    go false s true e ok w' v' again = absurd (some_none v')
    go false s false e false w' v' again = absurd (some_none v')
    go false s false e true w' v' again =
        let flags = more_listed n (e1_of bytes) next left w' in
        let here = entry_writes_back bytes (ltb-false (length bytes) (entry_length bytes) s) o e in
        let there = again w' v' in
        let e1_flag : encode_entry (more (walk listing n (e1_of bytes) next left)) (entry_of bytes) ≡ cleared_entry bytes = ap (λ b. encode_entry b (entry_of bytes)) flags ∙ here in
        ap (λ xs. xs ++ encode_entries (walk listing n (e1_of bytes) next left)) e1_flag ∙ ap (λ xs. cleared_entry bytes ++ xs) there

-- reserved bits ------------------------------------------------------------------------------------------------------

-- an entry is seen alike with R 0
seen_cleared : (rest bytes : Bytes) → entry_length bytes ≤ length bytes
    → Seen (cleared_entry bytes ++ rest) (entry_length bytes) (e1_of bytes) (e3_of bytes) (entry_of bytes) rest
seen_cleared rest =
    by_entry (λ bytes. Seen (cleared_entry bytes ++ rest) (entry_length bytes) (e1_of bytes) (e3_of bytes) (entry_of bytes) rest)
    (λ b c left e2. record { long = grind (arith, nat_tests); size_is = grind (arith, nat_tests); e1_is = grind (arith, nat_tests); e3_is = grind (arith, nat_tests); entry_is = grind (arith, nat_tests); rest_is = grind (arith, nat_tests) })
    (λ b c d f g k left e2. record { long = grind (arith, nat_tests); size_is = grind (arith, nat_tests); e1_is = grind (arith, nat_tests); e3_is = grind (arith, nat_tests); entry_is = grind (arith, nat_tests); rest_is = grind (arith, nat_tests) })

-- what a visit makes of an entry hangs on its fields, and elsewhere on how many bytes are left
pub record Blind {A : Type 0} (visit : Visit A) : Type 0 where
  pub at_entry : (place : ℕ) (bytes other : Bytes) (x : A) → e3_of bytes ≡ e3_of other → entry_of bytes ≡ entry_of other
      → visit.entry place bytes x ≡ visit.entry place other x
  pub at_cut : (place : ℕ) (bytes other : Bytes) → length bytes ≡ length other → visit.cut place bytes ≡ visit.cut place other
  pub at_end : (place : ℕ) (bytes other : Bytes) → length bytes ≡ length other → visit.end place bytes ≡ visit.end place other

module _ {A : Type 0} (visit : Visit A) (blind : Blind visit) where
  pub walk_cleared : (n : ℕ) (e1 : Bool) (place : ℕ) (bytes : Bytes)
      → walk visit n e1 place (walk clearing n e1 place bytes) ≡ walk visit n e1 place bytes
  walk_cleared n false place bytes = refl
  walk_cleared zero true place bytes = refl
  walk_cleared (suc n) true place bytes =
      go (ltb (length bytes) (entry_length bytes)) refl (walk_cleared n (e1_of bytes) (place + entry_length bytes) (drop (entry_length bytes) bytes))
    where
      left : Bytes
      left = drop (entry_length bytes) bytes

      go : (short : Bool) → ltb (length bytes) (entry_length bytes) ≡ short
          → walk visit n (e1_of bytes) (place + entry_length bytes) (walk clearing n (e1_of bytes) (place + entry_length bytes) left)
          ≡ walk visit n (e1_of bytes) (place + entry_length bytes) left
          → walk visit (suc n) true place (cond short bytes (cleared_entry bytes ++ walk clearing n (e1_of bytes) (place + entry_length bytes) left))
          ≡ cond short (visit.cut place bytes) (visit.entry place bytes (walk visit n (e1_of bytes) (place + entry_length bytes) left))
      go true s again = cond-true _ _ _ s
      go false s again =
          let seen = seen_cleared (walk clearing n (e1_of bytes) (place + entry_length bytes) left) bytes (ltb-false (length bytes) (entry_length bytes) s) in
          walk_seen visit n place seen
          ∙ ap (visit.entry place (cleared_entry bytes ++ walk clearing n (e1_of bytes) (place + entry_length bytes) left)) again
          ∙ blind.at_entry place (cleared_entry bytes ++ walk clearing n (e1_of bytes) (place + entry_length bytes) left) bytes _ seen.e3_is seen.entry_is

length-cleared_entry : (bytes : Bytes) → entry_length bytes ≤ length bytes → length (cleared_entry bytes) ≡ entry_length bytes
length-cleared_entry = by_entry (λ bytes. length (cleared_entry bytes) ≡ entry_length bytes) (λ b c rest e2. grind (arith, nat_tests)) (λ b c d f g k rest e2. grind (arith, nat_tests))

pub length-cleared : (n : ℕ) (e1 : Bool) (place : ℕ) (bytes : Bytes) → length (walk clearing n e1 place bytes) ≡ length bytes
length-cleared n false place bytes = refl
length-cleared zero true place bytes = refl
length-cleared (suc n) true place bytes =
    go (ltb (length bytes) (entry_length bytes)) refl (length-cleared n (e1_of bytes) (place + entry_length bytes) (drop (entry_length bytes) bytes))
  where
    go : (short : Bool) → ltb (length bytes) (entry_length bytes) ≡ short
        → length (walk clearing n (e1_of bytes) (place + entry_length bytes) (drop (entry_length bytes) bytes)) ≡ length (drop (entry_length bytes) bytes)
        → length (cond short bytes (cleared_entry bytes ++ walk clearing n (e1_of bytes) (place + entry_length bytes) (drop (entry_length bytes) bytes))) ≡ length bytes
    go true s again = refl
    go false s again =
        let fits = ltb-false (length bytes) (entry_length bytes) s in
        omega (arith, again, fits, length-cleared_entry bytes fits, length-drop (entry_length bytes) bytes, length-append (cleared_entry bytes) (walk clearing n (e1_of bytes) (place + entry_length bytes) (drop (entry_length bytes) bytes)))

-- reading the entries of a PDU with R 0 is reading them
pub along_cleared : {A : Type 0} (visit : Visit A) → Blind visit → (e1 : Bool) (place : ℕ) (bytes : Bytes)
    → along visit e1 place (along clearing e1 place bytes) ≡ along visit e1 place bytes
along_cleared visit blind e1 place bytes =
    ap (λ n. walk visit n e1 place (along clearing e1 place bytes)) (length-cleared (length bytes) e1 place bytes)
    ∙ walk_cleared visit blind (length bytes) e1 place bytes

pub blind_whole : Blind whole_entries
blind_whole =
    record {
      at_entry = λ place bytes other x e3 e. refl;
      at_cut = λ place bytes other l. ap (λ n. Some (at Malformed (place + n))) l;
      at_end = λ place bytes other l. ap (λ n. cond (eqb n 0) None (Some (at Malformed place))) l;
    }

pub blind_listing : Blind listing
blind_listing =
    record {
      at_entry = λ place bytes other x e3 e. ap (λ entry. entry ∷ x) e;
      at_cut = λ place bytes other l. refl;
      at_end = λ place bytes other l. refl;
    }

pub blind_valid : (ack_sn : ℕ) → Blind (valid_entries ack_sn)
blind_valid ack_sn =
    record {
      at_entry = λ place bytes other x e3 e.
          ap (λ b. cond (not b && valid ack_sn (entry_of bytes)) x (Some (at InvalidEntry place))) e3
          ∙ ap (λ entry. cond (not (e3_of other) && valid ack_sn entry) x (Some (at InvalidEntry place))) e;
      at_cut = λ place bytes other l. refl;
      at_end = λ place bytes other l. refl;
    }

-- the entries do not hang on the place from which they are counted
pub listing_anywhere : (n : ℕ) (e1 : Bool) (place other : ℕ) (bytes : Bytes) → walk listing n e1 place bytes ≡ walk listing n e1 other bytes
listing_anywhere n false place other bytes = refl
listing_anywhere zero true place other bytes = refl
listing_anywhere (suc n) true place other bytes =
    ap (λ es. cond (ltb (length bytes) (entry_length bytes)) [] (entry_of bytes ∷ es))
    (listing_anywhere n (e1_of bytes) (place + entry_length bytes) (other + entry_length bytes) (drop (entry_length bytes) bytes))
