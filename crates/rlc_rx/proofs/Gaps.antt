-- The gaps of an SDU, and the entries that name them.
use Rattle.std.proofs.Common.{◌≡◌, ℕ, zero, suc, ◌+◌, ◌-◌, ◌%◌, ◌<◌, ◌≤◌, Bool, true, false, cond, not, eqb, ltb, List, [], ◌∷◌, length, is_some, Some, None, Option, sym, refl, ap, ◌∙◌, ⊎_elim, arith}
use Rattle.protocol.specs.Pdus.{Entry, every}
use Rattle.protocol.specs.Receiving as far
use Rattle.protocol.proofs.Seeks.{seek_from, seek_to, seek_found}
use Rattle.protocol.proofs.Reports.{limit_is}
use Rattle.rlc_rx.proofs.Tallies.{held_beyond, bounds_end}
use Rattle.rlc_rx.specs.Entries.{entries_from}
use Rattle.rlc_rx.specs.Gaps.{gap_at}
use Rattle.rlc_rx.specs.Slots.{partial_of}
use Rattle.rlc_rx.specs.declared.slots.Gap.{Gap}
use Rattle.rlc_rx.specs.declared.slots.Slot.{Slot}
use Rattle.std.proofs.lemmas.Bool.{both_ways, cases_lt, cases_eq, cond-true, cond-false, ltb-true, ltb-false, eq-eqb, ne_eqb, not-true, lt-ltb, le-ltb}
use Rattle.std.specs.Bool.{then_some}

-- two numbers of steps that go the same way
abbrev Same : far.Partial → (x f g : ℕ) → Type 0
Same p x f g = (i : ℕ) → 1 ≤ f → 1 ≤ g → i ≤ far.limit p → far.limit p ≤ i + f → far.limit p ≤ i + g → far.gaps p x f i ≡ far.gaps p x g i

module _ (p : far.Partial) where
  -- a gap has a byte
  pub gap_longer : (lim i : ℕ) → far.missing_from p (lim - i) i < lim
      → far.missing_from p (lim - i) i < far.held_from p (lim - far.missing_from p (lim - i) i) (far.missing_from p (lim - i) i)
  gap_longer lim i l = ⊎_elim (λ h. h) (λ h. absurd (empty h)) (cases_lt (far.missing_from p (lim - i) i) _)
    where
      missing : far.holds p (far.missing_from p (lim - i) i) ≡ false
      missing = not-true _ (seek_found (λ j. not (far.holds p j)) (lim - i) i (omega (arith, l, seek_from (λ j. not (far.holds p j)) (lim - i) i)))

      empty : far.held_from p (lim - far.missing_from p (lim - i) i) (far.missing_from p (lim - i) i) ≤ far.missing_from p (lim - i) i → ⊥
      empty h =
          let same : far.held_from p (lim - far.missing_from p (lim - i) i) (far.missing_from p (lim - i) i) ≡ far.missing_from p (lim - i) i =
          omega (arith, h, seek_from (far.holds p) (lim - far.missing_from p (lim - i) i) (far.missing_from p (lim - i) i)) in
          both_ways _ missing
          (sym (ap (far.holds p) same) ∙ seek_found (far.holds p) (lim - far.missing_from p (lim - i) i) (far.missing_from p (lim - i) i) (omega (arith, h, l)))

  gap_inside : (i : ℕ) → far.missing_from p (far.limit p - i) i < far.limit p → far.gap_stop p i ≤ far.limit p
  gap_inside i l =
      omega (arith, l, seek_to (far.holds p) (far.limit p - far.missing_from p (far.limit p - i) i) (far.missing_from p (far.limit p - i) i))

  -- the entries of a gap and of those behind it
  abbrev gaps_on : (x fuel : ℕ) → Option Gap → List Entry
  gaps_on x fuel None = []
  gaps_on x fuel (Some g) = far.gap_entry x g.so_start g.so_end ∷ cond (eqb g.stop (far.limit p)) [] (far.gaps p x fuel g.stop)

  gaps_first : (x fuel i : ℕ) → far.gaps p x (suc fuel) i ≡ gaps_on x fuel (gap_at p i)
  gaps_first x fuel i = go (ltb (far.missing_from p (far.limit p - i) i) (far.limit p)) (is_some p.known_end)
    where
      go : (b k : Bool)
          → cond b
          (far.gap_entry x (far.missing_from p (far.limit p - i) i) (far.gap_end p (far.gap_stop p i)) ∷ cond (eqb (far.gap_stop p i) (far.limit p)) [] (far.gaps p x fuel (far.gap_stop p i)))
          (cond k [] (far.gap_entry x (far.limit p) far.to_the_end ∷ []))
          ≡ gaps_on x fuel
          (cond b (Some (record { so_start = far.missing_from p (far.limit p - i) i; so_end = far.gap_end p (far.gap_stop p i); stop = far.gap_stop p i }))
          (cond k None (Some (record { so_start = far.limit p; so_end = far.to_the_end; stop = far.limit p }))))
      go true k = refl
      go false true = refl
      go false false = sym (ap (λ es. far.gap_entry x (far.limit p) far.to_the_end ∷ es) (cond-true _ _ _ (eq-eqb (far.limit p) (far.limit p) refl)))

  -- a gap from byte i on, with what fuel is left for those behind it
  record Ahead (i fuel : ℕ) (g : Gap) : Type 0 where
    pub stops : g.stop ≤ far.limit p
    pub further : (i < far.limit p) → i < g.stop
    pub enough : far.limit p ≤ g.stop + fuel

  gap_ahead : (i fuel : ℕ) (g : Gap) → i ≤ far.limit p → far.limit p ≤ i + suc fuel → gap_at p i ≡ Some g → Ahead i fuel g
  gap_ahead i fuel g le enough e = go (ltb (far.missing_from p (far.limit p - i) i) (far.limit p)) refl (is_some p.known_end) e
    where
      go : (b : Bool) → ltb (far.missing_from p (far.limit p - i) i) (far.limit p) ≡ b → (k : Bool)
          → cond b (Some (record { so_start = far.missing_from p (far.limit p - i) i; so_end = far.gap_end p (far.gap_stop p i); stop = far.gap_stop p i }))
          (cond k None (Some (record { so_start = far.limit p; so_end = far.to_the_end; stop = far.limit p })))
          ≡ Some g → Ahead i fuel g
      go true t k s =
          let stop_is : far.gap_stop p i ≡ g.stop = cc in
          let l = ltb-true _ _ t in
          let long = gap_longer (far.limit p) i l in
          let from = seek_from (λ j. not (far.holds p j)) (far.limit p - i) i in
          record {
            stops = omega (arith, stop_is, gap_inside i l);
            further = λ lt. omega (arith, stop_is, long, from);
            enough = omega (arith, stop_is, long, from, enough);
          }
      go false t true s = absurd (let z : ◌≡◌ {A = ℕ} 0 1 = cc in omega arith)
      go false t false s =
          let stop_is : far.limit p ≡ g.stop = cc in
          record { stops = omega (arith, stop_is); further = λ lt. omega (arith, stop_is, lt); enough = omega (arith, stop_is) }

  -- fuel that lasts to the end of the SDU is enough
  pub gaps_same : (x f g i : ℕ) → 1 ≤ f → 1 ≤ g → i ≤ far.limit p → far.limit p ≤ i + f → far.limit p ≤ i + g → far.gaps p x f i ≡ far.gaps p x g i
  gaps_same x zero g i some some' le enough enough' = absurd (omega (arith, some))
  gaps_same x (suc f) zero i some some' le enough enough' = absurd (omega (arith, some'))
  gaps_same x (suc f) (suc g) i some some' le enough enough' = gaps_first x f i ∙ on (gap_at p i) refl (gaps_same x f g) ∙ sym (gaps_first x g i)
    where
      behind : Same p x f g → (h : Gap) → far.limit p ≤ h.stop + f → far.limit p ≤ h.stop + g → h.stop ≤ far.limit p
          → cond (eqb h.stop (far.limit p)) [] (far.gaps p x f h.stop) ≡ cond (eqb h.stop (far.limit p)) [] (far.gaps p x g h.stop)
      behind again h lasts lasts' inside =
          ⊎_elim (λ e. cond-true _ _ _ (eq-eqb h.stop (far.limit p) e) ∙ sym (cond-true _ _ _ (eq-eqb h.stop (far.limit p) e)))
          (λ d. ap (cond (eqb h.stop (far.limit p)) []) (again h.stop (omega (arith, d, inside, lasts)) (omega (arith, d, inside, lasts')) inside lasts lasts'))
          (cases_eq h.stop (far.limit p))

      on : (o : Option Gap) → gap_at p i ≡ o → Same p x f g → gaps_on x f o ≡ gaps_on x g o
      on None e again = refl
      on (Some h) e again =
          let a = gap_ahead i f h le enough e in
          let b = gap_ahead i g h le enough' e in
          ap (λ es. far.gap_entry x h.so_start h.so_end ∷ es) (behind again h a.enough b.enough a.stops)

  -- there are few
  gaps_few : (x fuel i : ℕ) → length (far.gaps p x fuel i) ≤ fuel
  gaps_few x zero i = omega arith
  gaps_few x (suc fuel) i = go (ltb (far.missing_from p (far.limit p - i) i) (far.limit p)) (is_some p.known_end) (eqb (far.gap_stop p i) (far.limit p)) (gaps_few x fuel (far.gap_stop p i))
    where
      go : (b k e : Bool) → length (far.gaps p x fuel (far.gap_stop p i)) ≤ fuel
          → length
          (cond b
          (far.gap_entry x (far.missing_from p (far.limit p - i) i) (far.gap_end p (far.gap_stop p i)) ∷ cond e [] (far.gaps p x fuel (far.gap_stop p i)))
          (cond k [] (far.gap_entry x (far.limit p) far.to_the_end ∷ []))) ≤ suc fuel
      go true k true h = omega arith
      go true k false h = omega (arith, h)
      go false true e h = omega arith
      go false false e h = omega arith

  pub entries_few : (x : ℕ) (from : Option ℕ) → length (entries_from p x from) ≤ 503
  entries_few x None = omega arith
  entries_few x (Some i) = go (eqb (far.held_from p 502 0) 502)
    where
      go : (b : Bool) → length (cond b (record { nack_sn = x % 4096; missing = every } ∷ []) (far.gaps p x (suc 502 - i) i)) ≤ 503
      go true = omega arith
      go false = omega (arith, gaps_few x (suc 502 - i) i)

  module _ (short : far.limit p ≤ 502) (x : ℕ) where
    pub entries_start : entries_from p x (Some 0) ≡ far.sdu_entries x p
    entries_start =
        ap (cond (eqb (far.held_from p 502 0) 502) (record { nack_sn = x % 4096; missing = every } ∷ []))
        (gaps_same x (suc 502 - 0) 502 0 (omega arith) (omega arith) (omega arith) (omega (arith, short)) (omega (arith, short)))

    module _ (i : ℕ) (some : eqb (far.held_from p 502 0) 502 ≡ false) (inside : i ≤ far.limit p) where
      onward : (o : Option Gap) → gap_at p i ≡ o → entries_from p x (Some i) ≡ gaps_on x (502 - i) o
      onward o e =
          let more : suc 502 - i ≡ suc (502 - i) = omega (arith, inside, short) in
          cond-false _ _ _ some ∙ ap (λ n. far.gaps p x n i) more ∙ gaps_first x (502 - i) i ∙ ap (gaps_on x (502 - i)) e

      pub entries_over : gap_at p i ≡ None → entries_from p x (Some i) ≡ []
      entries_over e = onward None e

      pub entries_gap : (g : Gap) → gap_at p i ≡ Some g
          → entries_from p x (Some i) ≡ far.gap_entry x g.so_start g.so_end ∷ entries_from p x (then_some (ltb g.stop (far.limit p)) g.stop)
      entries_gap g e = onward (Some g) e ∙ ap (λ es. far.gap_entry x g.so_start g.so_end ∷ es) (⊎_elim before at_end (cases_lt g.stop (far.limit p)))
        where
          a : Ahead i (502 - i) g
          a = gap_ahead i (502 - i) g inside (omega (arith, short)) e

          before : g.stop < far.limit p
              → cond (eqb g.stop (far.limit p)) [] (far.gaps p x (502 - i) g.stop) ≡ entries_from p x (then_some (ltb g.stop (far.limit p)) g.stop)
          before lt =
              cond-false _ _ _ (ne_eqb g.stop (far.limit p) (λ s. omega (arith, s, lt)))
              ∙ gaps_same x (502 - i) (suc 502 - g.stop) g.stop (omega (arith, a.enough, lt)) (omega (arith, short, a.stops)) a.stops a.enough (omega (arith, short))
              ∙ sym (ap (λ b. entries_from p x (then_some b g.stop)) (lt-ltb g.stop (far.limit p) lt) ∙ cond-false _ _ _ some)

          at_end : far.limit p ≤ g.stop
              → cond (eqb g.stop (far.limit p)) [] (far.gaps p x (502 - i) g.stop) ≡ entries_from p x (then_some (ltb g.stop (far.limit p)) g.stop)
          at_end ge =
              cond-true _ _ _ (eq-eqb g.stop (far.limit p) (omega (arith, ge, a.stops)))
              ∙ sym (ap (λ b. entries_from p x (then_some b g.stop)) (le-ltb g.stop (far.limit p) ge))

-- the slot of an SDU -----------------------------------------------------------------------------------------------------------

module _ (s : Slot) where
  pub limit_short : far.limit (partial_of s) ≤ 502
  limit_short = go s.known_end refl
    where
      go : (o : Option ℕ) → s.known_end ≡ o → far.limit (partial_of s) ≤ 502
      go None e = omega (arith, limit_is (partial_of s) None e)
      go (Some n) e = omega (arith, limit_is (partial_of s) (Some n) e, (bounds_end s.known_end s.top n s.bounded e).1)

  holds_some : ltb 0 s.top ≡ ltb (far.held_from (partial_of s) 502 0) 502
  holds_some = held_beyond s.held s.bytes s.known_end 502 0 s.top (omega arith) s.short s.beyond s.highest

  low : far.held_from (partial_of s) 502 0 ≤ 0 + 502
  low = seek_to (far.holds (partial_of s)) 502 0

  pub empty_is : eqb s.top 0 ≡ eqb (far.held_from (partial_of s) 502 0) 502
  empty_is = ⊎_elim none some (cases_eq s.top 0)
    where
      none : s.top ≡ 0 → eqb s.top 0 ≡ eqb (far.held_from (partial_of s) 502 0) 502
      none e =
          let least : 502 ≤ far.held_from (partial_of s) 502 0 = ltb-false (far.held_from (partial_of s) 502 0) 502 (sym holds_some ∙ le-ltb 0 s.top (omega (arith, e))) in
          eq-eqb s.top 0 e ∙ sym (eq-eqb (far.held_from (partial_of s) 502 0) 502 (omega (arith, low, least)))

      some : (s.top ≡ 0 → ⊥) → eqb s.top 0 ≡ eqb (far.held_from (partial_of s) 502 0) 502
      some d =
          let less : far.held_from (partial_of s) 502 0 < 502 = ltb-true (far.held_from (partial_of s) 502 0) 502 (sym holds_some ∙ lt-ltb 0 s.top (omega (arith, d))) in
          ne_eqb s.top 0 d ∙ sym (ne_eqb (far.held_from (partial_of s) 502 0) 502 (λ e. omega (arith, e, less)))
