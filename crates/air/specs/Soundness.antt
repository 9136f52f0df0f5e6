-- What waits in a queue is what an air may hold: the law that pipe and pool owe.
use Rattle.std.specs.Prelude.{◌≡◌, ℕ, ◌<◌, true, [], length, get_or, take, nat_le, slice_index_or}
use Rattle.std.proofs.Common.{ap, arith}
use Rattle.air.specs.Meaning.{Sound}
use Rattle.air.specs.Queues.{capacity, no_entry, waiting_at}
use Rattle.air.specs.Waits.{held_entries, waits}
use Rattle.air.specs.declared.queues.Queue.{Queue}
use Rattle.protocol.specs.Airs.{max_pdu, age_limit, carries}
use Rattle.std.proofs.ByRecursion.{All-from_get_or, All-map}
use Rattle.std.proofs.lemmas.List.{length-take-le, get_or-take}
use Rattle.std.proofs.lemmas.Bool.{le-leb, and_from}

pub length_held : (q : Queue) → length (held_entries q) ≡ q.held
length_held q = length-take-le q.held q.entries (omega (arith, q.bounded.0, q.bounded.1))

pub held_at : (q : Queue) (i : ℕ) → i < q.held → slice_index_or (held_entries q) i no_entry ≡ slice_index_or q.entries i no_entry
held_at q i lt = get_or-take q.held q.entries i no_entry lt

sound_at : (q : Queue) (i : ℕ) → i < length (held_entries q)
    → (carries (waiting_at q.store (slice_index_or (held_entries q) i no_entry)).pdu ≡ true) × ((get_or (held_entries q) i no_entry).age < age_limit)
sound_at q i lt =
    let e = get_or (held_entries q) i no_entry in
    let is : e.place ≡ (get_or q.entries i no_entry).place = ap (λ f. f.place) (held_at q i (omega (arith, length_held q))) in
    let place : e.place < capacity = omega (arith, is, q.placed i (omega (arith, length_held q, q.bounded.0, q.bounded.1))) in
    let good = q.carried i lt in
    let n : ℕ = length (take e.length (slice_index_or q.store e.place [])) in
    let long : n ≡ e.length =
    length-take-le e.length (slice_index_or q.store e.place []) (omega (arith, good.1, q.room.1 e.place place)) in
    (and_from (nat_le 1 n) (nat_le n max_pdu) (le-leb 1 n (omega (arith, good.0, long))) (le-leb n max_pdu (omega (arith, good.1, long))), good.2)

pub sound_waits : (q : Queue) → Sound (waits q)
sound_waits q =
    All-map (λ w. (carries w.pdu ≡ true) × (w.age < age_limit)) (waiting_at q.store) (held_entries q)
    (All-from_get_or (λ e. (carries (waiting_at q.store e).pdu ≡ true) × (e.age < age_limit)) (held_entries q) no_entry (sound_at q))
