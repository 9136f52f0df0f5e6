-- What each part of the link keeps, over the packets that were accepted so far.
use Rattle.std.proofs.Common.{◌≡◌, ℕ, ◌+◌, ◌%◌, ◌<◌, ◌≤◌, Bool, true, false, List, [], ◌∷◌, length, get_or, take, drop, Some}
use Rattle.protocol.specs.Airs.{Within}
use Rattle.protocol.specs.Bytes.{Bytes}
use Rattle.protocol.specs.Numbers.{sn_modulus}
use Rattle.protocol.specs.Pdus.{Amd, encode_pdcp}
use Rattle.protocol.specs.Receiving as far
use Rattle.protocol.specs.Reordering as pdcp
use Rattle.protocol.specs.Sending as near
use Rattle.protocol.specs.Timers.{runs}

-- accepted packets: a link accepts few enough, of the right lengths
pub record Packets (acc : List Bytes) : Type 0 where
  pub few : length acc ≤ 1000000
  pub short : (x : ℕ) → x < length acc → (1 ≤ length (get_or acc x [])) × (length (get_or acc x []) ≤ 500)

-- packet x, and the SDU that carries it
abbrev pub packet : List Bytes → ℕ → Bytes
packet acc x = get_or acc x []

abbrev pub sdu : List Bytes → ℕ → Bytes
sdu acc x = encode_pdcp (x % sn_modulus) (packet acc x)

-- a PDU carries a true part of these bytes, under the number of count x
pub record PartOf (bytes : Bytes) (x : ℕ) (a : Amd) : Type 0 where
  pub number : a.sn ≡ x % sn_modulus
  pub some : 1 ≤ length a.payload
  pub inside : far.data_end a ≤ length bytes
  pub true_bytes : a.payload ≡ take (length a.payload) (drop (far.offset a.segment) bytes)
  -- it marks the end exactly where that is
  pub at_end : far.marks_end a.segment ≡ true → far.data_end a ≡ length bytes
  pub not_at_end : far.marks_end a.segment ≡ false → far.data_end a < length bytes

-- the near end -----------------------------------------------------------------------------------------------------

pub record NearSound (acc : List Bytes) (n : near.Near) : Type 0 where
  pub packets : Packets acc
  pub counts : n.pdcp_tx_next ≡ length acc
  pub next : n.tx_next ≡ length acc
  pub begun : near.top n ≤ n.tx_next
  pub window : n.tx_next ≤ n.tx_next_ack + 16
  -- below the window all is acknowledged, and its first count is not
  pub below : (x : ℕ) → x < n.tx_next_ack → n.sdu x ≡ near.gone
  pub lowest : n.tx_next_ack < n.tx_next → (n.sdu n.tx_next_ack).acknowledged ≡ false
  pub beyond : (x : ℕ) → n.tx_next ≤ x → n.sdu x ≡ near.none_yet
  -- in the window stand the SDUs of the packets
  pub bytes : (x : ℕ) → n.tx_next_ack ≤ x → x < n.tx_next → (n.sdu x).bytes ≡ sdu acc x
  -- what was not begun is unsent, and what is acknowledged was begun
  pub unbegun : (x i : ℕ) → near.top n ≤ x → x < n.tx_next → (n.sdu x).mark i ≡ near.unsent
  pub acknowledged : (x : ℕ) → (n.sdu x).acknowledged ≡ true → x < near.top n

-- the far end of RLC -----------------------------------------------------------------------------------------------

-- what is held of an SDU is true
pub record PartialSound (bytes : Bytes) (p : far.Partial) : Type 0 where
  pub held : (i b : ℕ) → p.held i ≡ Some b → (i < length bytes) × (b ≡ get_or bytes i 0)
  pub end : (n : ℕ) → p.known_end ≡ Some n → n ≡ length bytes

pub record FarSound (acc : List Bytes) (f : far.Far) : Type 0 where
  pub status_from : f.rx_next ≤ f.rx_highest_status
  pub status_to : f.rx_highest_status ≤ f.rx_next_highest
  pub window : f.rx_next_highest ≤ f.rx_next + 16
  pub seen : f.rx_next_highest ≤ length acc
  pub below : (x : ℕ) → x < f.rx_next → f.sdu x ≡ far.complete_sdu
  pub lowest : far.complete (f.sdu f.rx_next) ≡ false
  pub status : far.complete (f.sdu f.rx_highest_status) ≡ false
  pub beyond : (x : ℕ) → f.rx_next_highest ≤ x → f.sdu x ≡ far.nothing_held
  pub trigger : runs f.t_reassembly ≡ true
      → (f.rx_next ≤ f.rx_next_status_trigger) × (f.rx_next_status_trigger ≤ f.rx_next_highest)
  pub true_sdus : (x : ℕ) → f.rx_next ≤ x → x < f.rx_next_highest → PartialSound (sdu acc x) (f.sdu x)

-- PDCP at the far end --------------------------------------------------------------------------------------------------

-- stored in the order of COUNT, from `low` on, each the packet accepted under its COUNT
abbrev pub StoreSound : List Bytes → ℕ → ℕ → List pdcp.Stored → Type 0
StoreSound acc low high [] = Unit {0}
StoreSound acc low high (s ∷ ss) =
    (low ≤ s.count) × (s.count < high) × (s.packet ≡ packet acc s.count) × StoreSound acc (s.count + 1) high ss

-- `got` was collected; packets below `low` were collected or given up, and none of them is stored
pub record PdcpSound (acc got : List Bytes) (ran_out : Bool) (p : pdcp.Pdcp) : Type 0 where
  pub low : ℕ
  pub low_to : low ≤ p.rx_deliv
  pub deliv_to : p.rx_deliv ≤ p.pdcp_rx_next
  pub next_to : p.pdcp_rx_next ≤ length acc
  pub store : StoreSound acc low p.pdcp_rx_next p.store
  pub awaited : pdcp.is_stored p.store p.rx_deliv ≡ false
  pub reorder : runs p.t_reordering ≡ true → (p.rx_deliv ≤ p.rx_reord) × (p.rx_reord ≤ p.pdcp_rx_next)
  pub in_order : Within got (take low acc)
  -- while t-Reordering has not run out, nothing was given up
  pub first_ones : ran_out ≡ false → got ≡ take low acc
  pub no_gap : ran_out ≡ false → (c : ℕ) → low ≤ c → c < p.rx_deliv → pdcp.is_stored p.store c ≡ true
