-- A queue with room after a PDU was written to its first free place.
use Rattle.std.proofs.Common.{◌≡◌, ℕ, ◌+◌, ◌-◌, ◌<◌, ◌≤◌, List, [], ◌∷◌, ◌++◌, map, length, get_or, take, drop, set, sym, refl, ap, ◌∙◌, subst, ⊎_elim, arith, length-append, length-drop, length-set}
use Rattle.air.specs.Soundness.{length_held, held_at}
use Rattle.air.proofs.Fronts.{Parts}
use Rattle.air.proofs.Notes.{each_placed, pairs_placed, place_set, each_push, older_push, map_other}
use Rattle.air.specs.Kept.{newest}
use Rattle.air.specs.Queues.{Each, Pairs, Stored, Carried, Older, capacity, no_entry, waiting_at}
use Rattle.air.specs.Waits.{held_entries, waits}
use Rattle.air.specs.declared.entries.Entry.{Entry}
use Rattle.air.specs.declared.queues.Queue.{Queue}
use Rattle.protocol.specs.Airs.{Waiting, max_pdu}
use Rattle.protocol.specs.Bytes.{Bytes, put}
use Rattle.std.proofs.lemmas.List.{get_or-set_same, get_or-set_other, take_at, take_more_set, map_push, drop-append-le, length_push}
use Rattle.std.proofs.lemmas.Bool.{cases_eq}
use Rattle.std.specs.List.{remove}

-- the first free place, what is written there, and its entry
abbrev pub free : Queue → ℕ
free q = (get_or q.entries q.held no_entry).place

abbrev pub written : Queue → Bytes → List Bytes
written q pdu = set q.store (free q) (put pdu (get_or q.store (free q) []))

abbrev pub noted : Queue → Bytes → Entry
noted q pdu = record { place = free q; length = length pdu; age = 0 }

module _ (q : Queue) (pdu : Bytes) (room : q.held < capacity) (carried : (1 ≤ length pdu) × (length pdu ≤ max_pdu)) where
  pub free_within : free q < length q.store
  free_within = omega (arith, q.room.0, q.placed q.held (omega (arith, q.bounded.0)))

  length-written : length (put pdu (get_or q.store (free q) [])) ≡ max_pdu
  length-written =
      omega (
        arith,
        length-append pdu (drop (length pdu) (get_or q.store (free q) [])),
        length-drop (length pdu) (get_or q.store (free q) []),
        q.room.1 (free q) (omega (arith, q.room.0, free_within)),
        carried.1,
      )

  stored : Stored (written q pdu)
  stored = (
    length-set q.store (free q) (put pdu (get_or q.store (free q) [])) ∙ q.room.0,
    λ i lt. ⊎_elim (λ e. ap (λ j. length (get_or (written q pdu) j [])) e ∙ ap length (get_or-set_same q.store (free q) (put pdu (get_or q.store (free q) [])) [] free_within) ∙ length-written)
        (λ ne. ap length (get_or-set_other q.store (free q) i (put pdu (get_or q.store (free q) [])) [] ne) ∙ q.room.1 i lt) (cases_eq i (free q)),
  )

  front : take (q.held + 1) (set q.entries q.held (noted q pdu)) ≡ held_entries q ++ noted q pdu ∷ []
  front = take_more_set q.entries q.held (noted q pdu) (omega (arith, q.bounded.0))

  pub parts_pushed : (store : List Bytes) → store ≡ written q pdu → Each (λ e. 1 ≤ e.age) (held_entries q) → Parts store (set q.entries q.held (noted q pdu)) (q.held + 1)
  parts_pushed store is old =
      let fs = set q.entries q.held (noted q pdu) in
      let long = length-set q.entries q.held (noted q pdu) in
      let same = place_set q.entries q.held (noted q pdu) refl in
      let new : Carried (noted q pdu) = (carried.0, carried.1, omega arith) in
      record {
        room = subst Stored (sym is) stored;
        bounded = (long ∙ q.bounded.0, omega arith);
        placed = each_placed q.entries fs long same q.placed;
        apart = pairs_placed q.entries fs long same q.apart;
        carried = subst (λ es. Each Carried es) (sym front) (each_push Carried (held_entries q) (noted q pdu) q.carried new);
        older = subst (λ es. Pairs Older es) (sym front) (older_push (held_entries q) (noted q pdu) q.older old refl);
      }

  others : Each (λ e. e.place ≡ free q → ⊥) (held_entries q)
  others i lt e =
      let less : i < q.held = omega (arith, length_held q) in
      q.apart i q.held less (omega (arith, q.bounded.0)) (sym (ap (λ f. f.place) (held_at q i less)) ∙ e)

  pub waits_pushed : (store : List Bytes) → store ≡ written q pdu → map (waiting_at store) (take (q.held + 1) (set q.entries q.held (noted q pdu))) ≡ waits q ++ record { pdu = pdu; age = 0 } ∷ []
  waits_pushed store is =
      let block = get_or q.store (free q) [] in
      let new : waiting_at (written q pdu) (noted q pdu) ≡ record { pdu = pdu; age = 0 } =
      ap (λ b. record { pdu = take (length pdu) b; age = 0 }) (get_or-set_same q.store (free q) (put pdu block) [] free_within)
      ∙ ap (λ b. record { pdu = b; age = 0 }) (take_at pdu (drop (length pdu) block) (length pdu) refl) in
      ap (λ s. map (waiting_at s) (take (q.held + 1) (set q.entries q.held (noted q pdu)))) is
      ∙ ap (map (waiting_at (written q pdu))) front ∙ map_push (waiting_at (written q pdu)) (held_entries q) (noted q pdu)
      ∙ ap (λ ws. ws ++ waiting_at (written q pdu) (noted q pdu) ∷ []) (map_other q.store (free q) (put pdu block) (held_entries q) others)
      ∙ ap (λ w. waits q ++ w ∷ []) new

-- the newest 8 -----------------------------------------------------------------------------------------------------

pub newest_short : (ws : List Waiting) → length ws ≤ capacity → newest ws ≡ ws
newest_short ws le = let none : length ws - capacity ≡ 0 = omega arith in ap (λ n. drop n ws) none

pub newest_room : (ws : List Waiting) (w : Waiting) → length ws < capacity → ws ++ w ∷ [] ≡ newest (ws ++ w ∷ [])
newest_room ws w lt = sym (newest_short (ws ++ w ∷ []) (omega (arith, length_push ws w)))

pub newest_full : (ws : List Waiting) (w : Waiting) → length ws ≡ capacity → remove ws 0 ++ w ∷ [] ≡ newest (ws ++ w ∷ [])
newest_full ws w full =
    let one : length (ws ++ w ∷ []) - capacity ≡ 1 = omega (arith, length_push ws w) in
    sym (ap (λ n. drop n (ws ++ w ∷ [])) one ∙ drop-append-le 1 ws (w ∷ []) (omega arith))
