-- How far the entries of a status report were considered.
use Rattle.std.proofs.Common.{◌≡◌, ℕ, Bool, true, false, cond, not, ◌&&◌, ◌||◌, eqb, ltb, List, [], ◌∷◌, ◌++◌, length, sym, refl, ap, ◌∙◌, subst, arith}
use Rattle.protocol.specs.Pdus.{Entry}
use Rattle.protocol.specs.Sending as near
use Rattle.rlc_tx.proofs.InWindow.{same_sdus}
use Rattle.rlc_tx.proofs.Stages.{considered_again, counted_again}
use Rattle.rlc_tx.specs.Considered.{counts, considered_next, counted_by}
use Rattle.rlc_tx.specs.Touches.{named_of, counted_of, counted_if, touch_at, named_touch, entered, touched}
use Rattle.rlc_tx.specs.Windows.{sdus_in, bare, Holds}
use Rattle.rlc_tx.specs.declared.reporting.Touch.{Touch}
use Rattle.rlc_tx.specs.declared.windows.Window.{Window}
use Rattle.std.proofs.Math.Bool.{or-false, or-true, and-false, or_assoc}
use Rattle.std.proofs.lemmas.Bool.{both_ways, cond-true, cond-false, lt-ltb, ltb-true, eqb-true}
use Rattle.wire.specs.Counts.{count_of}

-- names of one entry more ---------------------------------------------------------------------------------------------

module _ (n : near.Near) (e : Entry) (x : ℕ) where
  abbrev hits : Bool
  hits = eqb (near.tx_count n e.nack_sn) x

  pub named_more : (es : List Entry) → near.named n (es ++ e ∷ []) x ≡ (near.named n es x || eqb (near.tx_count n e.nack_sn) x)
  named_more [] = or-false hits
  named_more (d ∷ es) = ap (λ b. eqb (near.tx_count n d.nack_sn) x || b) (named_more es) ∙ sym (or_assoc _ (near.named n es x) hits)

  pub bytes_more : (es : List Entry) (i : ℕ) → near.named_byte n (es ++ e ∷ []) x i ≡ (near.named_byte n es x i || (eqb (near.tx_count n e.nack_sn) x && near.names_byte e.missing i))
  bytes_more [] i = or-false (hits && near.names_byte e.missing i)
  bytes_more (d ∷ es) i =
      ap (λ b. (eqb (near.tx_count n d.nack_sn) x && near.names_byte d.missing i) || b) (bytes_more es i)
      ∙ sym (or_assoc _ (near.named_byte n es x i) (hits && near.names_byte e.missing i))

-- an SDU that is not named has no byte that is
pub unnamed_bytes : (n : near.Near) (es : List Entry) (x i : ℕ) → near.named n es x ≡ false → near.named_byte n es x i ≡ false
unnamed_bytes n [] x i h = refl
unnamed_bytes n (e ∷ es) x i h = go (eqb (near.tx_count n e.nack_sn) x) h (unnamed_bytes n es x i)
  where
    go : (b : Bool) → (b || near.named n es x) ≡ false → (near.named n es x ≡ false → near.named_byte n es x i ≡ false)
        → ((b && near.names_byte e.missing i) || near.named_byte n es x i) ≡ false
    go true f again = absurd (both_ways true f refl)
    go false f again = again f

-- an SDU, and what is noted of it --------------------------------------------------------------------------------------

abbrev staged : (in_window acknowledged named : Bool) → (ℕ → Bool) → near.Sdu → near.Sdu
staged in_window acknowledged named bytes s = cond (in_window && (not acknowledged && named)) (near.considered bytes s) s

-- after some entries: whether it is named, and whether its RETX_COUNT was changed
pub record Noted (named : Bool) (bytes : ℕ → Bool) (s : near.Sdu) (t : Touch) : Type 0 where
  pub names : named_of t ≡ named
  pub changed : s.acknowledged ≡ false → counted_of t ≡ (named && counts s.retx_count (near.newly_pending bytes s))

module _ (s : near.Sdu) (named : Bool) (bytes more : ℕ → Bool) (silent : named ≡ false → (i : ℕ) → bytes i ≡ false) (t : Touch) (noted : Noted named bytes s t) where
  -- an entry names it
  pub staged_named : s.acknowledged ≡ false → considered_next (counted_of t) more (staged true false named bytes s) ≡ near.considered (λ i. bytes i || more i) s
  staged_named open_now = ap (λ c. considered_next c more (staged true false named bytes s)) (noted.changed open_now) ∙ go named silent
    where
      go : (b : Bool) → (b ≡ false → (i : ℕ) → bytes i ≡ false)
          → considered_next (b && counts s.retx_count (near.newly_pending bytes s)) more (staged true false b bytes s) ≡ near.considered (λ i. bytes i || more i) s
      go true none = considered_again s bytes more
      go false none = ap (λ f. near.considered f s) (λ k. λ i. ap (λ b. b || more i) (sym (none refl i)) k)

  pub counted_named : s.acknowledged ≡ false
      → counted_by (counted_of t) more (staged true false named bytes s) ≡ counts s.retx_count (near.newly_pending (λ i. bytes i || more i) s)
  counted_named open_now = ap (λ c. counted_by c more (staged true false named bytes s)) (noted.changed open_now) ∙ go named silent
    where
      go : (b : Bool) → (b ≡ false → (i : ℕ) → bytes i ≡ false)
          → counted_by (b && counts s.retx_count (near.newly_pending bytes s)) more (staged true false b bytes s) ≡ counts s.retx_count (near.newly_pending (λ i. bytes i || more i) s)
      go true none = counted_again s bytes more
      go false none = ap (λ f. counts s.retx_count (near.newly_pending f s)) (λ k. λ i. ap (λ b. b || more i) (sym (none refl i)) k)

counted_if_named : (b : Bool) → named_of (counted_if b) ≡ true
counted_if_named true = refl
counted_if_named false = refl

counted_if_counted : (b : Bool) → counted_of (counted_if b) ≡ b
counted_if_counted true = refl
counted_if_counted false = refl

-- one entry more ------------------------------------------------------------------------------------------------------

staged_open : (in_window acknowledged named : Bool) (bytes : ℕ → Bool) (s : near.Sdu) → (staged in_window acknowledged named bytes s).acknowledged ≡ s.acknowledged
staged_open in_window acknowledged named bytes s = go (in_window && (not acknowledged && named))
  where
    go : (b : Bool) → (cond b (near.considered bytes s) s).acknowledged ≡ s.acknowledged
    go true = refl
    go false = refl

module _ (s : near.Sdu) (named : Bool) (bytes more : ℕ → Bool) (t : Touch) where
  nothing_new : (λ i. bytes i || (false && more i)) ≡ bytes
  nothing_new = λ k. λ i. or-false (bytes i) k

  -- what becomes of the SDU
  pub staged_more : (in_window acknowledged hit : Bool) → s.acknowledged ≡ acknowledged
      → (in_window ≡ true → hit ≡ true → acknowledged ≡ false → considered_next (counted_of t) more (staged true false named bytes s) ≡ near.considered (λ i. bytes i || more i) s)
      → let was = staged in_window acknowledged named bytes s in
      cond in_window (cond (not was.acknowledged && hit) (considered_next (counted_of t) more was) was) was
      ≡ staged in_window acknowledged (named || hit) (λ i. bytes i || (hit && more i)) s
  staged_more false acknowledged hit is step = refl
  staged_more true true hit is step = cond-false _ _ _ (ap (λ b. not b && hit) is)
  staged_more true false true is step =
      cond-true _ _ _ (ap (λ b. not b && true) (staged_open true false named bytes s ∙ is)) ∙ step refl refl refl
      ∙ sym (cond-true _ _ _ (or-true named))
  staged_more true false false is step =
      cond-false _ _ _ (and-false _) ∙ sym (ap (λ b. staged true false b (λ i. bytes i || (false && more i)) s) (or-false named) ∙ ap (λ f. staged true false named f s) nothing_new)

  -- what is noted of it
  pub noted_more : (in_window acknowledged hit : Bool) → in_window ≡ true → s.acknowledged ≡ acknowledged → Noted named bytes s t
      → (hit ≡ true → acknowledged ≡ false → counted_by (counted_of t) more (staged true false named bytes s) ≡ counts s.retx_count (near.newly_pending (λ i. bytes i || more i) s))
      → Noted (named || hit) (λ i. bytes i || (hit && more i)) s (cond hit (named_touch more (counted_of t) (staged in_window acknowledged named bytes s)) t)
  noted_more in_window acknowledged false inside is noted step =
      record {
        names = noted.names ∙ sym (or-false named);
        changed = λ open_now.
            noted.changed open_now
            ∙ sym (ap (λ b. b && counts s.retx_count (near.newly_pending (λ i. bytes i || (false && more i)) s)) (or-false named) ∙ ap (λ f. named && counts s.retx_count (near.newly_pending f s)) nothing_new);
      }
  noted_more in_window true true inside is noted step =
      record {
        names =
            ap named_of (cond-true _ _ _ (staged_open in_window true named bytes s ∙ is)) ∙ sym (or-true named);
        changed = λ open_now. absurd (both_ways _ open_now is);
      }
  noted_more in_window false true inside is noted step =
      let touch : named_touch more (counted_of t) (staged in_window false named bytes s) ≡ counted_if (counts s.retx_count (near.newly_pending (λ i. bytes i || more i) s)) =
      cond-false _ _ _ (staged_open in_window false named bytes s ∙ is)
      ∙ ap (λ w. counted_if (counted_by (counted_of t) more (staged w false named bytes s))) inside ∙ ap counted_if (step refl refl) in
      record {
        names = ap named_of touch ∙ counted_if_named _ ∙ sym (or-true named);
        changed = λ open_now. ap counted_of touch ∙ counted_if_counted _ ∙ sym (ap (λ b. b && counts s.retx_count (near.newly_pending (λ i. bytes i || more i) s)) (or-true named));
      }

-- the window after some entries
pub record Stage (before : Window) (es : List Entry) (w : Window) (touches : List Touch) : Type 0 where
  pub places : length touches ≡ 16
  pub sdus : bare w ≡ near.with_sdus (bare before) (near.considered_in (bare before) es)
  pub noted : (x : ℕ) → Holds before x → Noted (near.named (bare before) es x) (near.named_byte (bare before) es x) (sdus_in before x) (touch_at touches x)

module _ (before w after : Window) (es : List Entry) (e : Entry) (touches touches_after : List Touch) (stage : Stage before es w touches) where
  abbrev n : near.Near
  n = bare before

  abbrev so_far : ℕ → ℕ → Bool
  so_far x = near.named_byte n es x

  abbrev hit : ℕ → Bool
  hit x = eqb (near.tx_count n e.nack_sn) x

  abbrev was : ℕ → near.Sdu
  was x = staged (ltb x n.tx_next) (n.sdu x).acknowledged (near.named n es x) (so_far x) (n.sdu x)

  now_is : (x : ℕ)
      → staged (ltb x n.tx_next) (n.sdu x).acknowledged (near.named n es x || hit x) (λ i. so_far x i || (hit x && near.names_byte e.missing i)) (n.sdu x) ≡ near.considered_in n (es ++ e ∷ []) x
  now_is x =
      sym
      (ap (λ b. staged (ltb x n.tx_next) (n.sdu x).acknowledged b (near.named_byte n (es ++ e ∷ []) x) (n.sdu x)) (named_more n e x es)
      ∙ ap (λ f. staged (ltb x n.tx_next) (n.sdu x).acknowledged (near.named n es x || hit x) f (n.sdu x)) (λ k. λ i. bytes_more n e x es i k))

  -- where it is hit, it is in the window
  held_hit : (x : ℕ) → ltb x n.tx_next ≡ true → hit x ≡ true → Holds before x
  held_hit x inside h = record { from = omega (arith, eqb-true (near.tx_count n e.nack_sn) x h); to = ltb-true x n.tx_next inside }

  entered_more : (x : ℕ) → entered (near.with_sdus n (near.considered_in n es)) e touches x ≡ near.considered_in n (es ++ e ∷ []) x
  entered_more x =
      staged_more (n.sdu x) (near.named n es x) (so_far x) (near.names_byte e.missing) (touch_at touches x) (ltb x n.tx_next) (n.sdu x).acknowledged (hit x) refl
      (λ inside h open_now. staged_named (n.sdu x) (near.named n es x) (so_far x) (near.names_byte e.missing) (λ f i. unnamed_bytes n es x i f) (touch_at touches x) (stage.noted x (held_hit x inside h)) open_now)
      ∙ now_is x

  noted_now : (x : ℕ) → Holds before x → Noted (near.named n (es ++ e ∷ []) x) (near.named_byte n (es ++ e ∷ []) x) (n.sdu x) (touched (near.with_sdus n (near.considered_in n es)) e touches x)
  noted_now x held =
      subst (λ b. Noted b (near.named_byte n (es ++ e ∷ []) x) (n.sdu x) (cond (hit x) (named_touch (near.names_byte e.missing) (counted_of (touch_at touches x)) (was x)) (touch_at touches x))) (sym (named_more n e x es))
      (subst (λ f. Noted (near.named n es x || hit x) f (n.sdu x) (cond (hit x) (named_touch (near.names_byte e.missing) (counted_of (touch_at touches x)) (was x)) (touch_at touches x))) (sym (λ k. λ i. bytes_more n e x es i k))
      (noted_more (n.sdu x) (near.named n es x) (so_far x) (near.names_byte e.missing) (touch_at touches x) (ltb x n.tx_next) (n.sdu x).acknowledged (hit x) (lt-ltb x n.tx_next held.to) refl (stage.noted x held)
      (λ h open_now. counted_named (n.sdu x) (near.named n es x) (so_far x) (near.names_byte e.missing) (λ f i. unnamed_bytes n es x i f) (touch_at touches x) (stage.noted x held) open_now)))

  -- counts stay
  held_now : (x : ℕ) → Holds before x → Holds w x
  held_now x held =
      let first : count_of w.tx_next_ack ≡ count_of before.tx_next_ack = ap (λ (m : near.Near). m.tx_next_ack) stage.sdus in
      let next : count_of w.tx_next ≡ count_of before.tx_next = ap (λ (m : near.Near). m.tx_next) stage.sdus in
      record { from = omega (arith, first, held.from); to = omega (arith, next, held.to) }

  pub stage_more : bare after ≡ near.with_sdus (bare w) (entered (bare w) e touches) → length touches_after ≡ 16
      → ((x : ℕ) → Holds w x → touch_at touches_after x ≡ touched (bare w) e touches x) → Stage before (es ++ e ∷ []) after touches_after
  stage_more changes size touches_are =
      record {
        places = size;
        sdus = changes ∙ ap (λ m. near.with_sdus m (entered m e touches)) stage.sdus ∙ same_sdus n _ _ entered_more;
        noted = λ x held.
            subst (Noted (near.named n (es ++ e ∷ []) x) (near.named_byte n (es ++ e ∷ []) x) (n.sdu x)) (sym (touches_are x (held_now x held) ∙ ap (λ m. touched m e touches x) stage.sdus))
            (noted_now x held);
      }
