-- What pipe and pool let out and leave, and that every air may.
use Rattle.std.specs.Prelude.{◌≡◌, ℕ, zero, suc, ◌-◌, ◌<◌, ◌≤◌, Bool, true, false, cond, List, [], ◌∷◌, length, IfSome, Some, None, MatchBool, Option, nat_le, refl}
use Rattle.std.proofs.Common.{sym, ◌∙◌, ap, subst, arith}
use Rattle.air.specs.Kept.{pdu_at, left_by, out_at, put_in, Took}
use Rattle.air.specs.Meaning.{Sound, Answers}
use Rattle.air.specs.Queues.{capacity}
use Rattle.protocol.proofs.Strikes.{within_all, within_none, within_removed, within_drop, all_within}
use Rattle.protocol.specs.Airs.{Waiting, Within, kept, struck, max_pdu, max_draw, age_limit, carries, LetsOut, Takes, takes, laid, aged, after_put}
use Rattle.protocol.specs.Bytes.{Bytes, put}
use Rattle.std.proofs.lemmas.Bool.{cond-true, leb-true, and_parts}
use Rattle.std.specs.Option.{option_map}
use Rattle.std.specs.List.{remove, AllByRecursion, slice_get}

-- the k-th ---------------------------------------------------------------------------------------------------------

none_some : {X : Type 0} {x : X} → ◌≡◌ {A = Option X} None (Some x) → ⊥
none_some e = let z : ◌≡◌ {A = ℕ} 0 1 = cc in omega arith

pub all_nth : {X : Type 0} (P : X → Type 0) (xs : List X) (k : ℕ) (x : X) → slice_get xs k ≡ Some x → AllByRecursion P xs → P x
all_nth P [] k x e all = absurd (none_some e)
all_nth P (y ∷ xs) zero x e all = let same : y ≡ x = cc in subst P same all.0
all_nth P (y ∷ xs) (suc k) x e all = all_nth P xs k x e all.1

removed_past : {X : Type 0} (xs : List X) (k : ℕ) → slice_get xs k ≡ None → remove xs k ≡ xs
removed_past [] zero e = refl
removed_past [] (suc k) e = refl
removed_past (x ∷ xs) zero e = absurd (none_some (sym e))
removed_past (x ∷ xs) (suc k) e = ap (λ ys. x ∷ ys) (removed_past xs k e)

nothing_left_by : (k : ℕ) (keeps : Bool) (ws : List Waiting) → slice_get ws k ≡ None → left_by k keeps ws ≡ ws
nothing_left_by k true ws e = refl
nothing_left_by k false ws e = removed_past ws k e

-- a Take where there is no k-th, and one of the k-th
pub took_none : (k : ℕ) (keeps : Bool) (draw : ℕ) (buffer : Bytes) (ws : List Waiting) → slice_get ws k ≡ None → Took k keeps draw buffer None buffer ws ws
took_none k keeps draw buffer ws none = record {
  answers = sym (ap (option_map length) out);
  writes = sym (ap (λ o. laid o buffer) out);
  leaves = sym (left (takes draw buffer));
}
  where
    empty : (ready : Bool) → cond ready (pdu_at k ws) None ≡ None
    empty true = ap (option_map (λ w. w.pdu)) none
    empty false = refl

    out : out_at k draw buffer ws ≡ None
    out = empty (takes draw buffer)

    left : (ready : Bool) → cond ready (left_by k keeps ws) ws ≡ ws
    left true = nothing_left_by k keeps ws none
    left false = refl

pub took_some : (k : ℕ) (keeps : Bool) (draw : ℕ) (buffer written : Bytes) (ws after : List Waiting) (w : Waiting) → takes draw buffer ≡ true → slice_get ws k ≡ Some w
    → written ≡ put w.pdu buffer → after ≡ left_by k keeps ws → Took k keeps draw buffer (Some (length w.pdu)) written ws after
took_some k keeps draw buffer written ws after w ready some writes leaves =
    let out : out_at k draw buffer ws ≡ Some w.pdu = cond-true (takes draw buffer) (pdu_at k ws) None ready ∙ ap (option_map (λ w. w.pdu)) some in
    record {
      answers = sym (ap (option_map length) out);
      writes = writes ∙ sym (ap (λ o. laid o buffer) out);
      leaves = leaves ∙ sym (cond-true (takes draw buffer) (left_by k keeps ws) ws ready);
    }

-- every air may do so ----------------------------------------------------------------------------------------------

pub within_put : (pdu : Bytes) (ws after : List Waiting) → after ≡ put_in pdu ws → Within after (after_put pdu ws)
within_put pdu ws after e = subst (λ vs. Within vs (after_put pdu ws)) (sym e) (within_drop (length (after_put pdu ws) - capacity) (after_put pdu ws))

pub within_aged : (ws after : List Waiting) → after ≡ aged ws → Within after (aged ws)
within_aged ws after e = subst (λ vs. Within vs (aged ws)) (sym e) (within_all (aged ws))

within_left : (k : ℕ) (keeps : Bool) (ws : List Waiting) → Within (left_by k keeps ws) ws
within_left k true ws = within_all ws
within_left k false ws = within_removed k ws

waits_at : (k : ℕ) (ws : List Waiting) (w : Waiting) → slice_get ws k ≡ Some w → Within (w ∷ []) ws
waits_at k [] w e = absurd (none_some e)
waits_at zero (v ∷ ws) w e = let same : v ≡ w = cc in subst (λ u. Within (u ∷ []) (v ∷ ws)) same (kept v (within_none ws))
waits_at (suc k) (v ∷ ws) w e = struck v (waits_at k ws w e)

lets_out : (k : ℕ) (keeps : Bool) (ws : List Waiting) → LetsOut (pdu_at k ws) ws (left_by k keeps ws)
lets_out k keeps ws = go (slice_get ws k) refl
  where
    go : (o : Option Waiting) → slice_get ws k ≡ o → LetsOut (option_map (λ w. w.pdu) o) ws (left_by k keeps ws)
    go None e = within_left k keeps ws
    go (Some w) e = ((w.age, waits_at k ws w e), within_left k keeps ws)

pub took_answers : (k : ℕ) (keeps : Bool) (draw : ℕ) (buffer : Bytes) (answer : Option ℕ) (written : Bytes) (before after : List Waiting)
    → Took k keeps draw buffer answer written before after → Answers draw buffer answer written before after
took_answers k keeps draw buffer answer written before after took = (
  out_at k draw buffer before,
  took.answers,
  took.writes,
  subst (λ ws. Takes draw buffer (out_at k draw buffer before) before ws) (sym took.leaves) (go (takes draw buffer)),
)
  where
    go : (ready : Bool) → MatchBool ready (LetsOut (cond ready (pdu_at k before) None) before (cond ready (left_by k keeps before) before))
        ((cond ready (pdu_at k before) None ≡ None) × (cond ready (left_by k keeps before) before ≡ before))
    go true = lets_out k keeps before
    go false = (refl, refl)

-- what a Take of any air answers is the length of a PDU that it carries, and fits the buffer
abbrev pub Fits : Bytes → ℕ → Type 0
Fits buffer n = (1 ≤ n) × (n ≤ max_pdu) × (n ≤ length buffer)

pub answer_fits : (draw : ℕ) (buffer : Bytes) (answer : Option ℕ) (written : Bytes) (before after : List Waiting) → Sound before
    → Answers draw buffer answer written before after → IfSome answer (Fits buffer)
answer_fits draw buffer answer written before after sound taken =
    subst (λ o. IfSome o (Fits buffer)) (sym taken.1) (go taken.0 (takes draw buffer) refl taken.3)
  where
    go : (o : Option Bytes) (ready : Bool) → takes draw buffer ≡ ready → MatchBool ready (LetsOut o before after) ((o ≡ None) × (after ≡ before)) → IfSome (option_map length o) (Fits buffer)
    go None ready e h = tt
    go (Some pdu) false e h = absurd (none_some (sym h.0))
    go (Some pdu) true e h =
        let good = and_parts (nat_le 1 (length pdu)) (nat_le (length pdu) max_pdu) (all_within (λ w. (carries w.pdu ≡ true) × (w.age < age_limit)) h.0.1 sound).0.0 in
        let room = leb-true max_pdu (length buffer) (and_parts (nat_le draw max_draw) (nat_le max_pdu (length buffer)) e).1 in
        let long = leb-true (length pdu) max_pdu good.1 in
        (leb-true 1 (length pdu) good.0, long, omega arith)
