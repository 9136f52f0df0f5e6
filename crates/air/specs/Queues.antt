-- How a queue keeps what waits: entries that point into a store.
use Rattle.std.specs.Prelude.{◌≡◌, ℕ, ◌+◌, ◌<◌, ◌≤◌, List, [], map, length, take, slice_index_or}
use Rattle.air.specs.declared.entries.Entry.{Entry}
use Rattle.protocol.specs.Airs.{Waiting, max_pdu, age_limit}
use Rattle.protocol.specs.Bytes.{Bytes}

abbrev pub capacity : ℕ
capacity = 8

-- the PDU that an entry points to
abbrev pub waiting_at : List Bytes → Entry → Waiting
waiting_at store e = record { pdu = take e.length (slice_index_or store e.place []); age = e.age }

-- what waits: the first `held` entries
abbrev pub held_in : List Bytes → List Entry → ℕ → List Waiting
held_in store entries held = map (waiting_at store) (take held entries)

-- what a list has past its end
abbrev pub no_entry : Entry
no_entry = record { place = 0; length = 0; age = 0 }

-- so is every entry
abbrev pub Each : (Entry → Type 0) → List Entry → Type 0
Each P entries = (i : ℕ) → i < length entries → P (slice_index_or entries i no_entry)

-- so are every two entries, the earlier one first
abbrev pub Pairs : (Entry → Entry → Type 0) → List Entry → Type 0
Pairs R entries = (i j : ℕ) → i < j → j < length entries → R (slice_index_or entries i no_entry) (slice_index_or entries j no_entry)

-- the store has room for a PDU at every place
abbrev pub Stored : List Bytes → Type 0
Stored store = (length store ≡ capacity) × ((i : ℕ) → i < capacity → length (slice_index_or store i []) ≡ max_pdu)

-- every entry, held or free, has a place of its own
abbrev pub Apart : Entry → Entry → Type 0
Apart e f = e.place ≡ f.place → ⊥

-- what is held can be carried, and is younger the later it stands
abbrev pub Carried : Entry → Type 0
Carried e = (1 ≤ e.length) × (e.length ≤ max_pdu) × (e.age < age_limit)

abbrev pub Older : Entry → Entry → Type 0
Older e f = f.age < e.age

-- an entry one Put or Skip later
abbrev pub raised : Entry → Entry
raised e = record { place = e.place; length = e.length; age = e.age + 1 }
