-- The invariant of a link between its airs: what joins the two ends, and what every PDU that waits says.
use Rattle.std.proofs.Common.{◌≡◌, ℕ, suc, ◌+◌, ◌*◌, ◌%◌, ◌<◌, ◌≤◌, Bool, true, false, cond, ltb, List, [], ◌∷◌, ◌++◌, None, sym, refl, ap, inl, inr, ⊎_elim, arith}
use Rattle.protocol.proofs.Counts.{one_count}
use Rattle.protocol.proofs.FarKept.{far_new}
use Rattle.protocol.proofs.Invariants.{PartOf, sdu, NearSound, FarSound, PdcpSound}
use Rattle.protocol.proofs.NearKept.{near_new}
use Rattle.protocol.proofs.PdcpKept.{Held, new_sound}
use Rattle.protocol.proofs.Reports.{Names}
use Rattle.protocol.proofs.Strikes.{all_within}
use Rattle.protocol.specs.Airs.{Waiting, Within, carries, age_limit, aged, after_put}
use Rattle.protocol.specs.Bytes.{Bytes}
use Rattle.protocol.specs.Laws.{EntriesFit}
use Rattle.protocol.specs.Numbers.{count_from}
use Rattle.protocol.specs.Pdus.{Amd, Entry, amd, status, encode}
use Rattle.protocol.specs.Receiving as far
use Rattle.protocol.specs.Runs.{State, new_state}
use Rattle.protocol.specs.Sending as near
use Rattle.protocol.specs.Writing.{pdu_fault}
use Rattle.std.proofs.lemmas.Bool.{both_ways, cases_lt, ltb-true}
use Rattle.std.specs.List.{AllByRecursion}

-- numbers that are read with a base ------------------------------------------------------------------------------------

-- a count in the window of the modulus is read as itself
pub read_ahead : (base x : ℕ) → base ≤ x → x < base + 4096 → count_from 4096 base (x % 4096) ≡ x
read_ahead base x lo hi = sym ((one_count 4096 base (x % 4096) x (omega arith)).1 (refl, lo, hi))

-- one behind it, as the one a modulus later
pub read_behind : (base x : ℕ) → x < base → base ≤ x + 4096 → count_from 4096 base (x % 4096) ≡ x + 4096
read_behind base x lo hi = sym ((one_count 4096 base (x % 4096) (x + 4096) (omega arith)).1 (omega arith, hi, omega arith))

-- what waits --------------------------------------------------------------------------------------------------------

-- A data PDU carries a true part of an SDU that was begun. SDUs are begun one for each Put at most, so one that waits
-- is not far behind.
pub record Data (acc : List Bytes) (top : ℕ) (w : Waiting) : Type 0 where
  pub count : ℕ
  pub part : Amd
  pub pdu_is : w.pdu ≡ encode (amd part)
  pub true_part : PartOf (sdu acc count) count part
  pub readable : pdu_fault (amd part) ≡ None
  pub begun : count < top
  pub young : top ≤ count + 16 + w.age
  pub recent : w.age < 64

-- A report speaks the truth: what it acknowledges and does not name is complete. `most` bounds what any report has
-- acknowledged, and a report that waits is not far below it.
pub record Told (f : far.Far) (most : ℕ) (w : Waiting) : Type 0 where
  pub ack : ℕ
  pub entries : List Entry
  pub pdu_is : w.pdu ≡ encode (status (ack % 4096) entries)
  pub fit : EntriesFit entries
  pub readable : pdu_fault (status (ack % 4096) entries) ≡ None
  pub ack_to : ack ≤ most
  pub young : most ≤ ack + 16 + 16 * w.age
  pub recent : w.age < 64
  pub true_report : (x : ℕ) → x < ack → (Names x entries → ⊥) → far.complete (f.sdu x) ≡ true

-- the whole ---------------------------------------------------------------------------------------------------------

pub record LinkSound (acc got : List Bytes) (ran : Bool) (r : State) : Type 0 where
  pub near_sound : NearSound acc r.link.near
  pub far_sound : FarSound acc r.link.far
  pub pdcp_sound : PdcpSound acc got ran r.link.pdcp
  -- what is acknowledged is complete at the far end, and what is complete there PDCP holds
  pub acknowledged : (x : ℕ) → (r.link.near.sdu x).acknowledged ≡ true → far.complete (r.link.far.sdu x) ≡ true
  pub complete : (x : ℕ) → far.complete (r.link.far.sdu x) ≡ true → Held acc got ran r.link.pdcp x
  -- the far end has seen only what was begun
  pub seen : r.link.far.rx_next_highest ≤ near.top r.link.near
  pub next : r.link.pdcp.pdcp_rx_next ≤ r.link.far.rx_next_highest
  pub forward : AllByRecursion (Data acc (near.top r.link.near)) r.forward
  pub most : ℕ
  pub most_to : most ≤ r.link.far.rx_next_highest
  pub acknowledged_to : (x : ℕ) → (r.link.near.sdu x).acknowledged ≡ true → x < most
  pub back : AllByRecursion (Told r.link.far most) r.back

pub link_new : LinkSound [] [] false new_state
link_new =
    record {
      near_sound = near_new;
      far_sound = far_new;
      pdcp_sound = new_sound;
      acknowledged = λ x e. absurd (both_ways false refl e);
      complete = λ x e. absurd (both_ways (far.complete far.nothing_held) refl e);
      seen = omega arith;
      next = omega arith;
      forward = tt;
      most = 0;
      most_to = omega arith;
      acknowledged_to = λ x e. absurd (both_ways false refl e);
      back = tt;
    }

-- where the window of the far end stands ------------------------------------------------------------------------------

module _ {acc got : List Bytes} {ran : Bool} {r : State} (sound : LinkSound acc got ran r) where
  -- what is below the near window is acknowledged, so it is complete
  pub ack_behind : r.link.near.tx_next_ack ≤ r.link.far.rx_next
  ack_behind =
      ⊎_elim (λ h. absurd (both_ways (far.complete (r.link.far.sdu r.link.far.rx_next)) sound.far_sound.lowest (sound.acknowledged _ (below h)))) (λ h. h)
      (cases_lt r.link.far.rx_next r.link.near.tx_next_ack)
    where
      below : r.link.far.rx_next < r.link.near.tx_next_ack → (r.link.near.sdu r.link.far.rx_next).acknowledged ≡ true
      below h = ap (λ s. s.acknowledged) (sound.near_sound.below _ h)

  -- every complete count is held by PDCP, and RX_DELIV is not
  pub next_behind : r.link.far.rx_next ≤ r.link.pdcp.rx_deliv
  next_behind =
      ⊎_elim (λ h. absurd (not_held (sound.complete _ (whole h)))) (λ h. h) (cases_lt r.link.pdcp.rx_deliv r.link.far.rx_next)
    where
      whole : r.link.pdcp.rx_deliv < r.link.far.rx_next → far.complete (r.link.far.sdu r.link.pdcp.rx_deliv) ≡ true
      whole h = ap far.complete (sound.far_sound.below _ h)

      not_held : Held acc got ran r.link.pdcp r.link.pdcp.rx_deliv → ⊥
      not_held (inl h) = omega (arith, h)
      not_held (inr h) = both_ways _ sound.pdcp_sound.awaited h

  pub top_window : near.top r.link.near ≤ r.link.far.rx_next + 16
  top_window = omega (arith, ack_behind, sound.near_sound.begun, sound.near_sound.window)

  -- what was acknowledged is below `most`
  pub ack_most : r.link.near.tx_next_ack ≤ sound.most
  ack_most = ⊎_elim (λ h. absurd (omega (arith, h, sound.acknowledged_to sound.most (below h)))) (λ h. h) (cases_lt sound.most r.link.near.tx_next_ack)
    where
      below : sound.most < r.link.near.tx_next_ack → (r.link.near.sdu sound.most).acknowledged ≡ true
      below h = ap (λ s. s.acknowledged) (sound.near_sound.below _ h)

-- airs --------------------------------------------------------------------------------------------------------------

-- after a Put: each is older by one, and the new PDU is there
module _ (P Q : Waiting → Type 0) (older : (w : Waiting) → suc w.age < 64 → P w → Q (record { pdu = w.pdu; age = suc w.age })) where
  aged_all : (ws : List Waiting) → AllByRecursion P ws → AllByRecursion Q (aged ws)
  aged_all [] all = tt
  aged_all (w ∷ ws) all = go (ltb (suc w.age) age_limit) refl (aged_all ws all.1)
    where
      go : (young : Bool) → ltb (suc w.age) age_limit ≡ young → AllByRecursion Q (aged ws)
          → AllByRecursion Q (cond young (record { pdu = w.pdu; age = suc w.age } ∷ aged ws) (aged ws))
      go true e rest = (older w (ltb-true (suc w.age) age_limit e) all.0, rest)
      go false e rest = rest

  all_push : (ws : List Waiting) (w : Waiting) → AllByRecursion Q ws → Q w → AllByRecursion Q (ws ++ w ∷ [])
  all_push [] w all q = (q, tt)
  all_push (v ∷ ws) w all q = (all.0, all_push ws w all.1 q)

  pub put_all : (pdu : Bytes) (before after : List Waiting) → AllByRecursion P before → Q (record { pdu = pdu; age = 0 }) → Within after (after_put pdu before) → AllByRecursion Q after
  put_all pdu before after all q within = all_within Q within (go (carries pdu))
    where
      go : (b : Bool) → AllByRecursion Q (cond b (aged before ++ record { pdu = pdu; age = 0 } ∷ []) (aged before))
      go true = all_push (aged before) (record { pdu = pdu; age = 0 }) (aged_all before all) q
      go false = aged_all before all

-- each PDU that waits, seen another way
pub all_map : {A : Type 0} (P Q : A → Type 0) (xs : List A) → ((x : A) → P x → Q x) → AllByRecursion P xs → AllByRecursion Q xs
all_map P Q [] f all = tt
all_map P Q (x ∷ xs) f all = (f x all.0, all_map P Q xs f all.1)

-- what is let out was among them
pub all_at : {A : Type 0} (P : A → Type 0) (x : A) (xs : List A) → Within (x ∷ []) xs → AllByRecursion P xs → P x
all_at P x xs within all = (all_within P within all).0
