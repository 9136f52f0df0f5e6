-- The far end of RLC stays sound, step by step, and completes only SDUs that are true.
use Rattle.std.proofs.Common.{◌≡◌, ℕ, ◌+◌, ◌-◌, ◌%◌, ◌<◌, ◌≤◌, max, Bool, true, false, cond, not, ◌&&◌, ◌||◌, eqb, ltb, leb, ◌⊎◌, List, [], ◌∷◌, ◌++◌, length, sym, refl, ap, ◌∙◌, subst, inl, inr, ⊎_elim, mod-lt, arith}
use native.Mathlib.Nat.{add-mod_right}
use Rattle.protocol.specs.Bytes.{Bytes}
use Rattle.protocol.specs.Numbers.{sn_modulus}
use Rattle.protocol.specs.Pdus.{Amd, encode_pdcp}
use Rattle.protocol.specs.Receiving as far
use Rattle.protocol.specs.Searching.{update}
use Rattle.protocol.specs.Sending.{packet_limit}
use Rattle.protocol.specs.Settings.{Settings}
use Rattle.protocol.specs.Timers.{Timer, stopped, running, endless, runs, runs_out, ticked, stopped_if}
use Rattle.protocol.proofs.Counts.{one_count}
use Rattle.protocol.proofs.Invariants.{Packets, sdu, PartOf, PartialSound, FarSound}
use Rattle.protocol.proofs.Partials.{nothing_sound, received_sound, complete_bytes, complete_discards, part_fits}
use Rattle.protocol.proofs.Seeks.{seek_from, seek_to, seek_found, seek_before, update_same, update_other}
use Rattle.std.proofs.lemmas.List.{get_or_append_left, length_push}
use Rattle.std.proofs.lemmas.Bool.{both_ways, cases_eq, cases_lt, cond-true, cond-false, eqb-true, eqb-false, leb-false, le-leb, lt-leb, lt-ltb, le-ltb, not-true, not-false, or_parts, or_from, or_left}

-- what a sound far end is but for its timer. In a step it may not yet be known that the counts outside of `Known`
-- are not complete.
pub record CountsSound (Known : ℕ → Type 0) (acc : List Bytes) (next highest status : ℕ) (sdus : ℕ → far.Partial) : Type 0 where
  pub status_from : next ≤ status
  pub status_to : status ≤ highest
  pub window : highest ≤ next + 16
  pub seen : highest ≤ length acc
  pub below : (x : ℕ) → x < next → sdus x ≡ far.complete_sdu
  pub lowest : Known next → far.complete (sdus next) ≡ false
  pub at_status : Known status → far.complete (sdus status) ≡ false
  pub beyond : (x : ℕ) → highest ≤ x → sdus x ≡ far.nothing_held
  pub true_sdus : (x : ℕ) → next ≤ x → x < highest → PartialSound (sdu acc x) (sdus x)

abbrev Between : (ℕ → Type 0) → List Bytes → far.Far → Type 0
Between Known acc f = CountsSound Known acc f.rx_next f.rx_next_highest f.rx_highest_status f.sdu

abbrev SoundCounts : List Bytes → far.Far → Type 0
SoundCounts = Between (λ x. Unit {0})

counts_of : {acc : List Bytes} {f : far.Far} → FarSound acc f → SoundCounts acc f
counts_of h =
    record {
      status_from = h.status_from;
      status_to = h.status_to;
      window = h.window;
      seen = h.seen;
      below = h.below;
      lowest = λ k. h.lowest;
      at_status = λ k. h.status;
      beyond = h.beyond;
      true_sdus = h.true_sdus;
    }

-- the trigger lies in what was seen of the window
abbrev TriggerSound : far.Far → Type 0
TriggerSound f =
    runs f.t_reassembly ≡ true → (f.rx_next ≤ f.rx_next_status_trigger) × (f.rx_next_status_trigger ≤ f.rx_next_highest)

sound_of : {acc : List Bytes} {f : far.Far} → SoundCounts acc f → TriggerSound f → FarSound acc f
sound_of h trigger =
    record {
      status_from = h.status_from;
      status_to = h.status_to;
      window = h.window;
      seen = h.seen;
      below = h.below;
      lowest = h.lowest tt;
      status = h.at_status tt;
      beyond = h.beyond;
      trigger = trigger;
      true_sdus = h.true_sdus;
    }

-- packets -------------------------------------------------------------------------------------------------------------

pub far_new : FarSound [] far.new_far
far_new =
    record {
      status_from = omega arith;
      status_to = omega arith;
      window = omega arith;
      seen = omega arith;
      below = λ x l. absurd (omega (arith, l));
      lowest = refl;
      status = refl;
      beyond = λ x l. refl;
      trigger = λ r. absurd (both_ways false refl r);
      true_sdus = λ x lo hi. absurd (omega (arith, hi));
    }

-- a packet more changes no earlier SDU
pub sdu_given : (acc : List Bytes) (p : Bytes) (x : ℕ) → x < length acc → sdu (acc ++ p ∷ []) x ≡ sdu acc x
sdu_given acc p x l = ap (encode_pdcp (x % sn_modulus)) (get_or_append_left acc (p ∷ []) [] x l)

pub far_given : (acc : List Bytes) (p : Bytes) (f : far.Far) → FarSound acc f → FarSound (acc ++ p ∷ []) f
far_given acc p f h =
    sound_of
    (record {
      status_from = h.status_from;
      status_to = h.status_to;
      window = h.window;
      seen = omega (arith, h.seen, length_push acc p);
      below = h.below;
      lowest = λ k. h.lowest;
      at_status = λ k. h.status;
      beyond = h.beyond;
      true_sdus = λ x lo hi. subst (λ bytes. PartialSound bytes (f.sdu x)) (sym (sdu_given acc p x (omega (arith, hi, h.seen)))) (h.true_sdus x lo hi);
    })
    h.trigger

pub sdu_short : (acc : List Bytes) (x : ℕ) → Packets acc → x < length acc → length (sdu acc x) ≤ 502
sdu_short acc x packets l = omega (arith, (packets.short x l).1)

-- what is held from RX_Next on is true, in what was not seen too
pub true_sdu : (acc : List Bytes) (f : far.Far) → FarSound acc f → (x : ℕ) → f.rx_next ≤ x → PartialSound (sdu acc x) (f.sdu x)
true_sdu acc f h x lo =
    ⊎_elim (h.true_sdus x lo) (λ c. subst (PartialSound (sdu acc x)) (sym (h.beyond x c)) (nothing_sound (sdu acc x)))
    (cases_lt x f.rx_next_highest)

-- the steps ---------------------------------------------------------------------------------------------------------

-- where a search for an incomplete count ends
pub record Lands (f : far.Far) (from to : ℕ) : Type 0 where
  pub grows : from ≤ to
  pub stays : to ≤ f.rx_next_highest
  pub incomplete : far.complete (f.sdu to) ≡ false
  pub between : (y : ℕ) → from ≤ y → y < to → far.complete (f.sdu y) ≡ true

-- the counts that were not seen are not complete
unseen_open : (f : far.Far) → ((y : ℕ) → f.rx_next_highest ≤ y → f.sdu y ≡ far.nothing_held) → (y : ℕ)
    → f.rx_next_highest ≤ y → far.complete (f.sdu y) ≡ false
unseen_open f beyond y l = ap far.complete (beyond y l)

lands_from : (f : far.Far) (x : ℕ) → ((y : ℕ) → f.rx_next_highest ≤ y → f.sdu y ≡ far.nothing_held) → x ≤ f.rx_next_highest
    → Lands f x (far.incomplete_from f x)
lands_from f x beyond l =
    record {
      grows = seek_from test n x;
      stays = to;
      incomplete = ⊎_elim (λ h. not-true _ (seek_found test n x (omega (arith, h, l)))) (unseen_open f beyond (far.incomplete_from f x))
          (cases_lt (far.incomplete_from f x) f.rx_next_highest);
      between = λ y lo hi. not-false _ (seek_before test n x y lo hi);
    }
  where
    test : ℕ → Bool
    test y = not (far.complete (f.sdu y))

    n : ℕ
    n = f.rx_next_highest - x

    to : far.incomplete_from f x ≤ f.rx_next_highest
    to = omega (arith, seek_to test n x, l)

-- a variable that moves past x lands on a count that is not complete
moved_lands : (x : ℕ) (f : far.Far) (v : ℕ) → ((y : ℕ) → f.rx_next_highest ≤ y → f.sdu y ≡ far.nothing_held)
    → x ≤ f.rx_next_highest → v ≤ f.rx_next_highest → ((v ≡ x → ⊥) → far.complete (f.sdu v) ≡ false)
    → Lands f v (far.moved_past x f v)
moved_lands x f v beyond lx lv incomplete = go (far.complete (f.sdu x)) refl (eqb v x) refl
  where
    here : far.complete (f.sdu v) ≡ false → Lands f v v
    here e = record { grows = omega arith; stays = lv; incomplete = e; between = λ y lo hi. absurd (omega (arith, lo, hi)) }

    go : (done : Bool) → far.complete (f.sdu x) ≡ done → (same : Bool) → eqb v x ≡ same
        → Lands f v (cond (done && same) (far.incomplete_from f x) v)
    go true d true s = subst (λ w. Lands f w (far.incomplete_from f x)) (sym (eqb-true v x s)) (lands_from f x beyond lx)
    go true d false s = here (incomplete (eqb-false v x s))
    go false d true s = here (ap (λ w. far.complete (f.sdu w)) (eqb-true v x s) ∙ d)
    go false d false s = here (incomplete (eqb-false v x s))

-- 1: the new bytes are true ones. Count x may be complete now.
kept_counts : (acc : List Bytes) (f : far.Far) (x : ℕ) (a : Amd) → FarSound acc f → f.rx_next ≤ x → x < f.rx_next + 16
    → x < length acc → PartialSound (sdu acc x) (far.received a (f.sdu x)) → Between (λ y. y ≡ x → ⊥) acc (far.kept x a f)
kept_counts acc f x a h lo hi l new =
    record {
      status_from = h.status_from;
      status_to = omega (arith, h.status_to);
      window = omega (arith, h.window, hi);
      seen = omega (arith, h.seen, l);
      below = λ y b. update_other f.sdu x _ y (λ e. omega (arith, b, e, lo)) ∙ h.below y b;
      lowest = λ d. ap far.complete (update_other f.sdu x _ f.rx_next d) ∙ h.lowest;
      at_status = λ d. ap far.complete (update_other f.sdu x _ f.rx_highest_status d) ∙ h.status;
      beyond = λ y b.
          update_other f.sdu x _ y (λ e. omega (arith, b, e))
          ∙ h.beyond y (omega (arith, b));
      true_sdus = λ y b c. by_count y b (cases_eq y x);
    }
  where
    by_count : (y : ℕ) → f.rx_next ≤ y → (y ≡ x) ⊎ (y ≡ x → ⊥)
        → PartialSound (sdu acc y) (update f.sdu x (far.received a (f.sdu x)) y)
    by_count y b (inl e) =
        subst (λ z. PartialSound (sdu acc z) (update f.sdu x (far.received a (f.sdu x)) z)) (sym e)
        (subst (PartialSound (sdu acc x)) (sym (update_same f.sdu x (far.received a (f.sdu x)))) new)
    by_count y b (inr d) =
        subst (PartialSound (sdu acc y)) (sym (update_other f.sdu x (far.received a (f.sdu x)) y d))
        (true_sdu acc f h y b)

-- 2: RX_Next and RX_Highest_Status are past what is complete
module _ (acc : List Bytes) (f : far.Far) (x : ℕ) (h : Between (λ y. y ≡ x → ⊥) acc f) (to : x < f.rx_next_highest) where
  next_lands : Lands f f.rx_next (far.advanced x f).rx_next
  next_lands = moved_lands x f f.rx_next h.beyond (omega (arith, to)) (omega (arith, h.status_from, h.status_to)) h.lowest

  status_lands : Lands f f.rx_highest_status (far.advanced x f).rx_highest_status
  status_lands = moved_lands x f f.rx_highest_status h.beyond (omega (arith, to)) h.status_to h.at_status

  -- what stands below the new RX_Next was complete
  advanced_complete : (y : ℕ) → far.complete ((far.advanced x f).sdu y) ≡ far.complete (f.sdu y)
  advanced_complete y = ⊎_elim passed (λ l. ap far.complete (cond-false _ _ _ (le-ltb y _ l))) (cases_lt y (far.advanced x f).rx_next)
    where
      old : y < (far.advanced x f).rx_next → (y < f.rx_next) ⊎ (f.rx_next ≤ y) → far.complete (f.sdu y) ≡ true
      old l (inl b) = ap far.complete (h.below y b)
      old l (inr b) = next_lands.between y b l

      passed : y < (far.advanced x f).rx_next → far.complete ((far.advanced x f).sdu y) ≡ far.complete (f.sdu y)
      passed l = ap far.complete (cond-true _ _ _ (lt-ltb y _ l)) ∙ sym (old l (cases_lt y f.rx_next))

  still : (y : ℕ) → (far.advanced x f).rx_next ≤ y → (far.advanced x f).sdu y ≡ f.sdu y
  still y l = cond-false _ _ _ (le-ltb y _ l)

  in_order : (far.advanced x f).rx_next ≤ (far.advanced x f).rx_highest_status
  in_order = ⊎_elim (λ l. absurd (not_before l)) (λ l. l) (cases_lt (far.advanced x f).rx_highest_status (far.advanced x f).rx_next)
    where
      not_before : (far.advanced x f).rx_highest_status < (far.advanced x f).rx_next → ⊥
      not_before l =
          both_ways _ status_lands.incomplete
          (next_lands.between (far.advanced x f).rx_highest_status (omega (arith, h.status_from, status_lands.grows)) l)

  advanced_counts : SoundCounts acc (far.advanced x f)
  advanced_counts =
      record {
        status_from = in_order;
        status_to = status_lands.stays;
        window = omega (arith, h.window, next_lands.grows);
        seen = h.seen;
        below = λ y l. cond-true _ _ _ (lt-ltb y _ l);
        lowest = λ k. ap far.complete (still _ (omega arith)) ∙ next_lands.incomplete;
        at_status = λ k. ap far.complete (still _ in_order) ∙ status_lands.incomplete;
        beyond = λ y l. still y (omega (arith, l, next_lands.stays)) ∙ h.beyond y l;
        true_sdus = λ y lo hi.
            subst (PartialSound (sdu acc y)) (sym (still y lo)) (h.true_sdus y (omega (arith, lo, next_lands.grows)) hi);
      }

-- 3: a trigger that RX_Next has passed is given up
reassembled_sound : (acc : List Bytes) (f : far.Far) → SoundCounts acc f
    → (runs f.t_reassembly ≡ true → f.rx_next_status_trigger ≤ f.rx_next_highest) → FarSound acc (far.reassembled f)
reassembled_sound acc f h trigger = sound_of h (λ r. go _ refl r)
  where
    go : (stops : Bool)
        → (leb f.rx_next_status_trigger f.rx_next
        || (eqb f.rx_next_status_trigger (f.rx_next + 1) && not (far.has_hole (f.sdu f.rx_next)))) ≡ stops
        → runs (stopped_if stops f.t_reassembly) ≡ true
        → (f.rx_next ≤ f.rx_next_status_trigger) × (f.rx_next_status_trigger ≤ f.rx_next_highest)
    go true e r = absurd (both_ways false refl r)
    go false e r =
        let ahead : f.rx_next < f.rx_next_status_trigger = leb-false _ _ (or_parts (leb f.rx_next_status_trigger f.rx_next) _ e).0 in
        (omega (arith, ahead), trigger r)

-- A change of timers and polls alone: the counts that matter and the SDUs are as they were.
pub record SameSdus (f g : far.Far) : Type 0 where
  pub next_same : g.rx_next ≡ f.rx_next
  pub highest_same : g.rx_next_highest ≡ f.rx_next_highest
  pub sdus_same : (y : ℕ) → g.sdu y ≡ f.sdu y

-- 4
awaited_sound : (s : Settings) (low : ℕ) (acc : List Bytes) (f : far.Far) → FarSound acc f
    → FarSound acc (far.awaited s low f) × SameSdus f (far.awaited s low f)
awaited_sound s low acc f h =
    go (not (runs f.t_reassembly) && (ltb (low + 1) f.rx_next_highest || (eqb f.rx_next_highest (low + 1) && far.has_hole (f.sdu low))))
  where
    waiting : far.Far
    waiting = far.with_reassembly f f.rx_next_highest (running s.t_reassembly)

    go : (starts : Bool) → FarSound acc (cond starts waiting f) × SameSdus f (cond starts waiting f)
    go true = (
      sound_of (counts_of h) (λ r. (omega (arith, h.status_from, h.status_to), omega arith)),
      record { next_same = refl; highest_same = refl; sdus_same = λ y. refl },
    )
    go false = (h, record { next_same = refl; highest_same = refl; sdus_same = λ y. refl })

-- 5
answering_sound : (low : ℕ) (acc : List Bytes) (f : far.Far) → FarSound acc f → FarSound acc (far.answering low f)
answering_sound low acc f h = sound_of (counts_of h) h.trigger

reporting_sound : (acc : List Bytes) (f : far.Far) (r : far.Reporting) → FarSound acc f → FarSound acc (far.with_reporting f r)
reporting_sound acc f r h = sound_of (counts_of h) h.trigger

-- what a PDU that is not discarded leaves
pub record Taken (acc : List Bytes) (x : ℕ) (a : Amd) (f g : far.Far) : Type 0 where
  pub sound : FarSound acc g
  pub next_grows : f.rx_next ≤ g.rx_next
  pub highest_is : g.rx_next_highest ≡ max f.rx_next_highest (x + 1)
  -- a complete SDU gets no new byte
  pub was_incomplete : far.complete (f.sdu x) ≡ false
  pub completes : (y : ℕ) → far.complete (f.sdu y) ≡ true → far.complete (g.sdu y) ≡ true
  pub no_other : (y : ℕ) → far.complete (g.sdu y) ≡ true
      → (far.complete (f.sdu y) ≡ true) ⊎ ((y ≡ x) × (far.complete (far.received a (f.sdu x)) ≡ true))
  pub completed : far.complete (far.received a (f.sdu x)) ≡ true
      → (far.complete (g.sdu x) ≡ true) × (far.sdu_bytes (far.received a (f.sdu x)) ≡ sdu acc x)

pub far_taken : (s : Settings) (acc : List Bytes) (f : far.Far) (x : ℕ) (a : Amd) → FarSound acc f → f.rx_next ≤ x
    → far.discards f x a ≡ false → x < length acc → PartOf (sdu acc x) x a → Taken acc x a f (far.taken s x a f)
far_taken s acc f x a h lo kept_on l part =
    record {
      sound = answering_sound f.rx_next acc waits later.0;
      next_grows = omega (arith, (next_lands acc g x mid to).grows, later.1.next_same);
      highest_is = later.1.highest_same;
      was_incomplete = not_complete;
      completes = λ y c. changed y ∙ stays y c (cases_eq y x);
      no_other = λ y c. which y (sym (changed y) ∙ c) (cases_eq y x);
      completed = λ c. (changed x ∙ ap far.complete (update_same f.sdu x _) ∙ c, complete_bytes (sdu acc x) (far.received a (f.sdu x)) new c);
    }
  where
    tests : (leb (f.rx_next + 16) x ≡ false)
        × (leb (far.data_end a) (far.missing_from (f.sdu x) (length a.payload) (far.offset a.segment)) ≡ false)
    tests = or_parts (leb (f.rx_next + 16) x) _ kept_on

    was : PartialSound (sdu acc x) (f.sdu x)
    was = true_sdu acc f h x lo

    not_complete : far.complete (f.sdu x) ≡ false
    not_complete = go (far.complete (f.sdu x)) refl
      where
        go : (b : Bool) → far.complete (f.sdu x) ≡ b → b ≡ false
        go false e = refl
        go true e = absurd (both_ways _ tests.1 (complete_discards (sdu acc x) x a (f.sdu x) was part e))

    new : PartialSound (sdu acc x) (far.received a (f.sdu x))
    new = received_sound (sdu acc x) x a (f.sdu x) was part

    g : far.Far
    g = far.kept x a f

    mid : Between (λ y. y ≡ x → ⊥) acc g
    mid = kept_counts acc f x a h lo (leb-false _ _ tests.0) l new

    to : x < g.rx_next_highest
    to = omega (arith)

    moved : far.Far
    moved = far.advanced x g

    stopped_there : FarSound acc (far.reassembled moved)
    stopped_there =
        reassembled_sound acc moved (advanced_counts acc g x mid to)
        (λ r. omega (arith, (h.trigger r).1))

    waits : far.Far
    waits = far.awaited s moved.rx_next (far.reassembled moved)

    later : FarSound acc waits × SameSdus (far.reassembled moved) waits
    later = awaited_sound s moved.rx_next acc (far.reassembled moved) stopped_there

    changed : (y : ℕ) → far.complete (waits.sdu y) ≡ far.complete (g.sdu y)
    changed y = ap far.complete (later.1.sdus_same y) ∙ advanced_complete acc g x mid to y

    stays : (y : ℕ) → far.complete (f.sdu y) ≡ true → (y ≡ x) ⊎ (y ≡ x → ⊥) → far.complete (g.sdu y) ≡ true
    stays y c (inl e) = absurd (both_ways _ not_complete (sym (ap (λ z. far.complete (f.sdu z)) e) ∙ c))
    stays y c (inr d) = ap far.complete (update_other f.sdu x _ y d) ∙ c

    which : (y : ℕ) → far.complete (g.sdu y) ≡ true → (y ≡ x) ⊎ (y ≡ x → ⊥)
        → (far.complete (f.sdu y) ≡ true) ⊎ ((y ≡ x) × (far.complete (far.received a (f.sdu x)) ≡ true))
    which y c (inl e) =
        inr (e, sym (ap far.complete (ap (λ z. update f.sdu x (far.received a (f.sdu x)) z) e ∙ update_same f.sdu x _)) ∙ c)
    which y c (inr d) = inl (sym (ap far.complete (update_other f.sdu x (far.received a (f.sdu x)) y d)) ∙ c)

-- true parts that arrive ------------------------------------------------------------------------------------------------

-- a number stands for its count in the window that begins at RX_Next
pub rx_count_is : (f : far.Far) (x : ℕ) → f.rx_next ≤ x → x < f.rx_next + 4096 → far.rx_count f (x % sn_modulus) ≡ x
rx_count_is f x lo hi = sym ((one_count sn_modulus f.rx_next (x % sn_modulus) x (mod-lt x {m = sn_modulus} (omega arith))).1 (refl, lo, hi))

-- a part of an SDU below the window is taken for one beyond it
pub late_discards : (f : far.Far) (x : ℕ) (a : Amd) → x < f.rx_next → f.rx_next ≤ x + 4080
    → far.discards f (far.rx_count f (x % sn_modulus)) a ≡ true
late_discards f x a below near =
    let same : (x + 4096) % 4096 ≡ x % sn_modulus = add-mod_right x 4096 in
    let count : far.rx_count f (x % sn_modulus) ≡ x + 4096 =
    sym ((one_count sn_modulus f.rx_next (x % sn_modulus) (x + 4096) (mod-lt x {m = sn_modulus} (omega arith))).1 (same, omega arith, omega arith)) in
    or_left _ _ (le-leb (f.rx_next + 16) _ (omega (arith, count, near)))

-- A true part that is not too old is discarded, or taken under its count.
pub far_arrives : (s : Settings) (acc : List Bytes) (f : far.Far) (y : ℕ) (a : Amd) → Packets acc → FarSound acc f
    → y < length acc → PartOf (sdu acc y) y a → f.rx_next ≤ y + 4080 → y < f.rx_next + 4096
    → let x = far.rx_count f a.sn in
    (far.discards f x a ≡ true)
    ⊎ ((x ≡ y) × ((far.clashes (f.sdu x) a || leb packet_limit x) ≡ false) × Taken acc x a f (far.taken s x a f))
far_arrives s acc f y a packets h l part near to =
    subst Arrives (sym part.number) (⊎_elim (λ b. inl (late_discards f y a b near)) (λ lo. subst ArrivesAs (sym (rx_count_is f y lo to)) (in_window lo _ refl)) (cases_lt y f.rx_next))
  where
    ArrivesAs : ℕ → Type 0
    ArrivesAs x =
        (far.discards f x a ≡ true)
        ⊎ ((x ≡ y) × ((far.clashes (f.sdu x) a || leb packet_limit x) ≡ false) × Taken acc x a f (far.taken s x a f))

    Arrives : ℕ → Type 0
    Arrives sn = ArrivesAs (far.rx_count f sn)

    in_window : f.rx_next ≤ y → (b : Bool) → far.discards f y a ≡ b → ArrivesAs y
    in_window lo true e = inl e
    in_window lo false e =
        inr (
          refl,
          or_from _ _ (part_fits (sdu acc y) y a (f.sdu y) (sdu_short acc y packets l) (true_sdu acc f h y lo) part)
              (lt-leb packet_limit y (omega (arith, l, packets.few))),
          far_taken s acc f y a h lo e l part,
        )

pub far_discarded : (acc : List Bytes) (f : far.Far) (a : Amd) → FarSound acc f → FarSound acc (far.discarded a f)
far_discarded acc f a h = reporting_sound acc f _ h

pub far_reported : (s : Settings) (acc : List Bytes) (f : far.Far) → FarSound acc f → FarSound acc (far.reported s f)
far_reported s acc f h = sound_of (counts_of h) h.trigger

-- a Tick -------------------------------------------------------------------------------------------------------------

runs_from_out : (t : Timer) → runs_out t ≡ true → runs t ≡ true
runs_from_out stopped e = e
runs_from_out (running left) e = refl
runs_from_out endless e = refl

runs_before : (t : Timer) → runs (ticked t) ≡ true → runs t ≡ true
runs_before stopped e = e
runs_before (running left) e = refl
runs_before endless e = refl

-- the search for RX_Highest_Status begins at the trigger, which lies in what was seen of the window
given_up_sound : (s : Settings) (acc : List Bytes) (f : far.Far) → FarSound acc f → runs f.t_reassembly ≡ true
    → FarSound acc (far.given_up s f) × SameSdus f (far.given_up s f)
given_up_sound s acc f h r = (
  reporting_sound acc (far.answering f.rx_next (later_state)) _ (answering_sound f.rx_next acc later_state later.0),
  record { next_same = later.1.next_same; highest_same = later.1.highest_same; sdus_same = later.1.sdus_same },
)
  where
    place : Lands f f.rx_next_status_trigger (far.incomplete_from f f.rx_next_status_trigger)
    place = lands_from f f.rx_next_status_trigger h.beyond (h.trigger r).1

    g : far.Far
    g = far.with_highest_status f (far.incomplete_from f f.rx_next_status_trigger)

    given : FarSound acc g
    given =
        sound_of
        (record {
          status_from = omega (arith, (h.trigger r).0, place.grows);
          status_to = place.stays;
          window = h.window;
          seen = h.seen;
          below = h.below;
          lowest = λ k. h.lowest;
          at_status = λ k. place.incomplete;
          beyond = h.beyond;
          true_sdus = h.true_sdus;
        })
        (λ e. absurd (both_ways false refl e))

    later_state : far.Far
    later_state = far.awaited s g.rx_highest_status g

    later : FarSound acc later_state × SameSdus g later_state
    later = awaited_sound s g.rx_highest_status acc g given

pub far_ticked : (s : Settings) (acc : List Bytes) (f : far.Far) → FarSound acc f
    → FarSound acc (far.tick_far s f) × SameSdus f (far.tick_far s f)
far_ticked s acc f h = after (far.tick_reassembly s f) (go (runs_out f.t_reassembly) refl)
  where
    go : (out : Bool) → runs_out f.t_reassembly ≡ out
        → let g = cond out (far.given_up s f) (far.with_reassembly f f.rx_next_status_trigger (ticked f.t_reassembly)) in
        FarSound acc g × SameSdus f g
    go true e = given_up_sound s acc f h (runs_from_out f.t_reassembly e)
    go false e = (
      sound_of (counts_of h) (λ r. h.trigger (runs_before f.t_reassembly r)),
      record { next_same = refl; highest_same = refl; sdus_same = λ y. refl },
    )

    after : (g : far.Far) → FarSound acc g × SameSdus f g → FarSound acc (far.tick_prohibit g) × SameSdus f (far.tick_prohibit g)
    after g k = (
      sound_of (counts_of k.0) k.0.trigger,
      record { next_same = k.1.next_same; highest_same = k.1.highest_same; sdus_same = k.1.sdus_same },
    )
