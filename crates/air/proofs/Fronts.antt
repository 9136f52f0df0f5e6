-- A queue's entries and what waits.
use Rattle.std.specs.Prelude.{◌≡◌, ℕ, ◌+◌, ◌<◌, ◌≤◌, List, ◌++◌, map, length, take, drop, Some, slice_index_or}
use Rattle.std.proofs.Common.{sym, ◌∙◌, ap, subst, arith, length-append, length-drop}
use Rattle.air.proofs.Notes.{each_placed, pairs_placed, place_raised, each_raised, older_raised}
use Rattle.air.specs.Soundness.{length_held, held_at}
use Rattle.air.specs.Queues.{Each, Pairs, Stored, Apart, Carried, Older, capacity, no_entry, raised, waiting_at}
use Rattle.air.specs.Waits.{held_entries, waits}
use Rattle.air.specs.declared.entries.Entry.{Entry}
use Rattle.air.specs.declared.queues.Queue.{Queue}
use Rattle.protocol.specs.Airs.{Waiting, age_limit}
use Rattle.protocol.specs.Bytes.{Bytes}
use Rattle.std.proofs.lemmas.List.{length-map, length-take-le, get_or-map, take_at}
use Rattle.std.proofs.lemmas.Option.{slice_get-get_or}
use Rattle.std.specs.List.{slice_get}

pub length_waits : (q : Queue) → length (waits q) ≡ q.held
length_waits q = length-map (held_entries q) (waiting_at q.store) ∙ length_held q

pub nth_waits : (q : Queue) (k : ℕ) → k < q.held → slice_get (waits q) k ≡ Some (waiting_at q.store (slice_index_or q.entries k no_entry))
nth_waits q k lt =
    let none : Waiting = waiting_at q.store no_entry in
    slice_get-get_or (waits q) k none (omega (arith, length_waits q))
    ∙ ap Some (get_or-map (waiting_at q.store) (held_entries q) k no_entry none (omega (arith, length_held q)) ∙ ap (waiting_at q.store) (held_at q k lt))

-- the first n entries raised
pub take_raised : (q : Queue) (n : ℕ) → n ≡ q.held → take q.held (map raised (take n q.entries) ++ drop n q.entries) ≡ map raised (held_entries q)
take_raised q n e =
    ap (λ m. take q.held (map raised (take m q.entries) ++ drop m q.entries)) e
    ∙ take_at (map raised (held_entries q)) (drop q.held q.entries) q.held (length-map (held_entries q) raised ∙ length_held q)

-- the ghost fields of a queue
pub record Parts (store : List Bytes) (entries : List Entry) (held : ℕ) : Type 0 where
  pub room : Stored store
  pub bounded : (length entries ≡ capacity) × (held ≤ capacity)
  pub placed : Each (λ e. e.place < capacity) entries
  pub apart : Pairs Apart entries
  pub carried : Each Carried (take held entries)
  pub older : Pairs Older (take held entries)

pub parts_raised : (q : Queue) (n : ℕ) → n ≡ q.held → Each (λ e. e.age + 1 < age_limit) (held_entries q)
    → Parts q.store (map raised (take n q.entries) ++ drop n q.entries) q.held
parts_raised q n e young =
    let fs = map raised (take n q.entries) ++ drop n q.entries in
    let front = take_raised q n e in
    let long : length fs ≡ length q.entries =
    omega (
      arith,
      length-append (map raised (take n q.entries)) (drop n q.entries),
      length-map (take n q.entries) raised,
      length-take-le n q.entries (omega (arith, q.bounded.0, q.bounded.1)),
      length-drop n q.entries,
      q.bounded.0,
      q.bounded.1,
    ) in
    let same = place_raised n q.entries in
    let carried : Each Carried (map raised (held_entries q)) =
    each_raised (λ e. Carried e × (e.age + 1 < age_limit)) Carried (λ e h. (h.0.0, h.0.1, h.1)) (held_entries q) (λ i lt. (q.carried i lt, young i lt)) in
    record {
      room = q.room;
      bounded = (long ∙ q.bounded.0, q.bounded.1);
      placed = each_placed q.entries fs long same q.placed;
      apart = pairs_placed q.entries fs long same q.apart;
      carried = subst (λ es. Each Carried es) (sym front) carried;
      older = subst (λ es. Pairs Older es) (sym front) (older_raised (held_entries q) q.older);
    }
