-- What is taken in, and what is taken out.
use Rattle.std.proofs.Common.{◌≡◌, ℕ, ◌+◌, ◌^◌, ◌≤◌, Bool, true, false, cond, eqb, ltb, leb, List, [], ◌∷◌, length, Some, None, Ok, Option, sym, refl, ap, ◌∙◌, ⊎_elim, arith}
use Rattle.pdcp.specs.Stores.{Below, found, without, taken, taken_if}
use Rattle.pdcp.specs.Views.{State, sdu_in, answered, receives}
use Rattle.protocol.specs.Bytes.{Bytes, put}
use Rattle.protocol.specs.Numbers.{pdcp_count}
use Rattle.protocol.specs.Reading.{decode_pdcp}
use Rattle.protocol.specs.Reordering.{Stored, Pdcp, is_stored, due, counted, numbered, handed_up, takes}
use Rattle.protocol.specs.Settings.{Settings}
use Rattle.protocol.specs.Timers.{Timer, stopped, running, endless, runs_out, ticked}
use Rattle.std.proofs.lemmas.Bool.{both_ways, cond-true, cond-false, le-leb, le-ltb, ltb-false, or_cases, or_left, or_right}
use Rattle.wire.specs.Counts.{held_if}

-- taking in --------------------------------------------------------------------------------------------------------

-- a COUNT past 32 bits is out of range anyway
pub counted_held : (s : Settings) (o : Option ℕ) (packet : Bytes) (p : Pdcp) → counted s (held_if o) packet p ≡ counted s o packet p
counted_held s None packet p = refl
counted_held s (Some n) packet p = go (ltb n (2 ^ 32)) refl
  where
    go : (b : Bool) → ltb n (2 ^ 32) ≡ b → counted s (cond b (Some n) None) packet p ≡ counted s (Some n) packet p
    go true e = refl
    go false e =
        let large : 1000000 ≤ n = omega (arith, ltb-false n (2 ^ 32) e) in
        sym (cond-true _ _ _ (or_right (leb (p.rx_deliv + 16) n) (leb 1000000 n) (le-leb 1000000 n large)))

-- an SDU of the right length is taken as it is
pub whole_sdu : (bytes : Bytes) → length bytes ≤ 502 → sdu_in bytes ≡ bytes
whole_sdu bytes short = cond-false _ _ _ (le-ltb 502 (length bytes) short)

-- once nothing is due, an SDU is taken as one that RLC hands up
pub receives_up : (bytes : Bytes) (state : State) → length (due state.1) ≤ 0 → length bytes ≤ 502
    → answered (handed_up state.0 bytes state.1) state ≡ receives bytes state
receives_up bytes state none short =
    ap (λ r. answered r state)
    (sym (cond-false _ _ _ (le-ltb 0 (length (due state.1)) none)) ∙ ap (λ b. takes state.0 b state.1) (sym (whole_sdu bytes short)))

-- it is read, and its packet taken under its COUNT
pub received : (bytes : Bytes) (state : State) (sn : ℕ) (packet : Bytes) → length (due state.1) ≤ 0 → length bytes ≤ 502
    → Ok (sn, packet) ≡ decode_pdcp bytes
    → answered (counted state.0 (held_if (pdcp_count 4096 2048 state.1.rx_deliv sn)) packet state.1) state ≡ receives bytes state
received bytes state sn packet none short is =
    let s = state.0 in
    let p = state.1 in
    let first : counted s (held_if (pdcp_count 4096 2048 p.rx_deliv sn)) packet p ≡ numbered s (Ok (sn, packet)) p =
    counted_held s (pdcp_count 4096 2048 p.rx_deliv sn) packet p in
    let second : numbered s (Ok (sn, packet)) p ≡ handed_up s bytes p = ap (λ r. numbered s r p) is in
    ap (λ r. answered r state) (first ∙ second) ∙ receives_up bytes state none short

-- taking out -------------------------------------------------------------------------------------------------------

stored_without : (c : ℕ) (ss : List Stored) (k : ℕ) → is_stored (without c ss) k ≡ true → is_stored ss k ≡ true
stored_without c [] k e = e
stored_without c (s ∷ ss) k e = go (eqb s.count c) (stored_without c ss k) e
  where
    go : (b : Bool) → (is_stored (without c ss) k ≡ true → is_stored ss k ≡ true) → is_stored (cond b ss (s ∷ without c ss)) k ≡ true → is_stored (s ∷ ss) k ≡ true
    go true rest f = or_right (eqb s.count k) (is_stored ss k) f
    go false rest f =
        ⊎_elim (or_left (eqb s.count k) (is_stored ss k)) (λ h. or_right (eqb s.count k) (is_stored ss k) (rest h))
        (or_cases (eqb s.count k) (is_stored (without c ss) k) f)

-- what is left is below what it was
pub below_taken : (high c : ℕ) (buffer : Bytes) (ss : List Stored) → Below high ss → Below high (taken c buffer ss).2
below_taken high c buffer ss below = go (found ss c)
  where
    short : (b : Bool) (kept gone : Option ℕ × Bytes × List Stored) → kept.2 ≡ ss → gone.2 ≡ without c ss → Below high (cond b kept gone).2
    short true kept gone same less k e = below k (ap (λ rest. is_stored rest k) (sym same) ∙ e)
    short false kept gone same less k e = below k (stored_without c ss k (ap (λ rest. is_stored rest k) (sym less) ∙ e))

    go : (o : Option Bytes) → Below high (taken_if o c buffer ss).2
    go None = below
    go (Some packet) = short (ltb (length buffer) (length packet)) (None, buffer, ss) (Some (length packet), put packet buffer, without c ss) refl refl

-- a timer that runs out stops
pub out_stops : (t : Timer) → runs_out t ≡ true → ticked t ≡ stopped
out_stops stopped e = refl
out_stops (running left) e = cond-true _ _ _ e
out_stops endless e = absurd (both_ways false refl e)
