-- What a grant serves, by searches in the window.
use Rattle.std.proofs.Common.{◌≡◌, ℕ, ◌+◌, ◌-◌, ◌<◌, ◌≤◌, Bool, true, false, cond, not, eqb, ltb, length, is_some, Some, None, Option, sym, refl, ap, ◌∙◌, subst, ⊎_elim, arith}
use Rattle.protocol.proofs.Marks.{seek_is, begun, top_begun}
use Rattle.protocol.proofs.NearSpent.{run_lengths}
use Rattle.protocol.proofs.Seeks.{seek_from, seek_to, seek_found, seek_before}
use Rattle.protocol.specs.Searching.{seek}
use Rattle.protocol.specs.Sending as near
use Rattle.rlc_tx.specs.Plans.{Front, Serves, served_as}
use Rattle.rlc_tx.proofs.Marked.{seek_same}
use Rattle.rlc_tx.specs.Searches.{left, first_in}
use Rattle.std.proofs.lemmas.Bool.{both_ways, cases_lt, cond-true, cond-false, lt-ltb, le-ltb, ltb-true, ltb-false, eq-eqb, ne_eqb, eqb-true, not-false, not_from_false, not_from_true}
use Rattle.std.specs.Option.{option_map}

-- what a search in the window found
module _ (test : ℕ → Bool) (first next : ℕ) (order : first ≤ next) where
  found_before : (n k : ℕ) → cond (ltb n next) (Some n) None ≡ Some k → (n < next) × (n ≡ k)
  found_before n k e = go (ltb n next) refl e
    where
      go : (b : Bool) → ltb n next ≡ b → cond b (Some n) None ≡ Some k → (n < next) × (n ≡ k)
      go true t f = (ltb-true n next t, cc (f))
      go false t f = let z : ◌≡◌ {A = ℕ} 0 1 = cc (f) in absurd (omega (arith, z))

  pub found_at : (k : ℕ) → first_in test first next ≡ Some k → (first ≤ k) × (k < next) × (test k ≡ true) × ((j : ℕ) → first ≤ j → j < k → test j ≡ false)
  found_at k e =
      let f = found_before (seek test (next - first) first) k e in (
        omega (arith, f.1, seek_from test (next - first) first),
        omega (arith, f.0, f.1),
        subst (λ x. test x ≡ true) f.1 (seek_found test (next - first) first (omega (arith, f.0, order))),
        λ j lo hi. seek_before test (next - first) first j lo (omega (arith, hi, f.1)),
      )

  pub found_none : first_in test first next ≡ None → (j : ℕ) → first ≤ j → j < next → test j ≡ false
  found_none e j lo hi = seek_before test (next - first) first j lo (omega (arith, past, hi))
    where
      past : next ≤ seek test (next - first) first
      past = go (ltb (seek test (next - first) first) next) refl e
        where
          go : (b : Bool) → ltb (seek test (next - first) first) next ≡ b → cond b (Some (seek test (next - first) first)) None ≡ None → next ≤ seek test (next - first) first
          go true t f = let z : ◌≡◌ {A = ℕ} 0 1 = cc (f) in absurd (omega (arith, z))
          go false t f = ltb-false _ next t

-- where a search in the window ends
pub ends_at : (test : ℕ → Bool) (first next k : ℕ) → first ≤ next → first_in test first next ≡ Some k → seek test (next - first) first ≡ k
ends_at test first next k order e = (found_before test first next order (seek test (next - first) first) k e).1

pub ends_past : (test : ℕ → Bool) (first next : ℕ) → first ≤ next → first_in test first next ≡ None → seek test (next - first) first ≡ next
ends_past test first next order e =
    seek_is test (next - first) first next order (omega (arith, order)) (found_none test first next order e) (λ l. absurd (omega (arith, l, order)))

-- a near end whose window is in order
pub record InOrder (n : near.Near) : Type 0 where
  pub order : n.tx_next_ack ≤ n.tx_next
  pub window : n.tx_next ≤ n.tx_next_ack + 16
  pub beyond : (x : ℕ) → n.tx_next ≤ x → n.sdu x ≡ near.none_yet

module _ (n : near.Near) (ordered : InOrder n) (test : ℕ → near.Sdu → Bool) (fails : (x : ℕ) → test x near.none_yet ≡ false) where
  abbrev at : ℕ → Bool
  at x = test x (n.sdu x)

  -- what is not yet there does not pass
  pub window_found : (k : ℕ) → first_in (λ x. test x (n.sdu x)) n.tx_next_ack n.tx_next ≡ Some k → seek (λ x. test x (n.sdu x)) near.window_size n.tx_next_ack ≡ k
  window_found k e =
      let f = found_at at n.tx_next_ack n.tx_next ordered.order k e in
      seek_is at near.window_size n.tx_next_ack k f.0 (omega (arith, f.1, ordered.window)) f.3 (λ l. f.2)

  pub window_none : first_in (λ x. test x (n.sdu x)) n.tx_next_ack n.tx_next ≡ None → seek (λ x. test x (n.sdu x)) near.window_size n.tx_next_ack ≡ n.tx_next_ack + near.window_size
  window_none e =
      seek_is at near.window_size n.tx_next_ack (n.tx_next_ack + near.window_size) (omega arith) (omega arith)
      (λ j lo hi. ⊎_elim (found_none at n.tx_next_ack n.tx_next ordered.order e j lo) (λ l. ap (test j) (ordered.beyond j l) ∙ fails j) (cases_lt j n.tx_next)) (λ l. absurd (omega (arith, l)))

  -- a search over the whole window tells whether anything passes
  pub window_any : (found : Option ℕ) → first_in (λ x. test x (n.sdu x)) n.tx_next_ack n.tx_next ≡ found
      → ltb (seek (λ x. test x (n.sdu x)) near.window_size n.tx_next_ack) (n.tx_next_ack + near.window_size) ≡ is_some found
  window_any (Some k) e =
      lt-ltb _ _ (omega (arith, window_found k e, (found_at at n.tx_next_ack n.tx_next ordered.order k e).1, ordered.window))
  window_any None e = le-ltb _ _ (omega (arith, window_none e))

module _ (n : near.Near) (ordered : InOrder n) (grant : ℕ) where
  pub served_pending : (k : ℕ) → first_in (λ x. near.has near.is_pending (n.sdu x)) n.tx_next_ack n.tx_next ≡ Some k
      → near.served n grant ≡ Some (near.run_of false near.is_pending n grant k)
  served_pending k e =
      cond-true _ _ _ (window_any n ordered (λ x. near.has near.is_pending) (λ x. refl) (Some k) e)
      ∙ ap (λ x. Some (near.run_of false near.is_pending n grant x)) (window_found n ordered (λ x. near.has near.is_pending) (λ x. refl) k e)

  pub served_unsent : (found : Option ℕ) → first_in (λ x. near.has near.is_pending (n.sdu x)) n.tx_next_ack n.tx_next ≡ None
      → first_in (λ x. near.has near.is_unsent (n.sdu x)) n.tx_next_ack n.tx_next ≡ found
      → near.served n grant ≡ option_map (near.run_of true near.is_unsent n grant) found
  served_unsent found none e = cond-false _ _ _ (window_any n ordered (λ x. near.has near.is_pending) (λ x. refl) None none) ∙ go found e
    where
      go : (f : Option ℕ) → first_in (λ x. near.has near.is_unsent (n.sdu x)) n.tx_next_ack n.tx_next ≡ f
          → cond (ltb (near.count_with near.is_unsent n) (n.tx_next_ack + near.window_size)) (Some (near.run_of true near.is_unsent n grant (near.count_with near.is_unsent n))) None
          ≡ option_map (near.run_of true near.is_unsent n grant) f
      go (Some k) e =
          cond-true _ _ _ (window_any n ordered (λ x. near.has near.is_unsent) (λ x. refl) (Some k) e)
          ∙ ap (λ x. Some (near.run_of true near.is_unsent n grant x)) (window_found n ordered (λ x. near.has near.is_unsent) (λ x. refl) k e)
      go None e = cond-false _ _ _ (window_any n ordered (λ x. near.has near.is_unsent) (λ x. refl) None e)

-- a run that a grant serves is the front of such bytes
pub front_of : (test : near.Mark → Bool) (s : near.Sdu) (grant : ℕ) → near.has test s ≡ true → 5 ≤ grant
    → Front test s (near.byte_from test s 0) (near.run_from test s (near.byte_from test s 0) grant)
front_of test s grant has enough =
    record {
      none_before = λ i l. seek_before (λ j. test (s.mark j)) (length s.bytes - 0) 0 i (omega arith) l;
      all = λ i lo hi. not-false _ (seek_before (λ j. not (test (s.mark j))) (length s.bytes - from) from i lo (omega (arith, hi)));
      some = fits.0;
      inside = fits.1;
    }
  where
    from : ℕ
    from = near.byte_from test s 0

    fits : let start = near.byte_from test s 0 in
        let size = near.run_from test s start grant in
        (1 ≤ size) × (start + size ≤ length s.bytes) × (cond (eqb start 0) 2 4 + size ≤ grant)
    fits = run_lengths test s grant has enough

-- whether anything is left to send ------------------------------------------------------------------------------------

-- a search that does not pass the window's end ends there, or before
at_end : (test : ℕ → Bool) (first : ℕ) → eqb (seek test near.window_size first) (first + near.window_size) ≡ not (ltb (seek test near.window_size first) (first + near.window_size))
at_end test first = ⊎_elim (λ l. ne_eqb _ _ (λ e. omega (arith, e, l)) ∙ sym (not_from_true _ (lt-ltb _ _ l)))
    (λ l. eq-eqb _ _ (omega (arith, l, seek_to test near.window_size first)) ∙ sym (not_from_false _ (le-ltb _ _ l))) (cases_lt (seek test near.window_size first) (first + near.window_size))

pub nothing_left : (n : near.Near) → InOrder n → (found : Option ℕ) → first_in (λ x. near.has left (n.sdu x)) n.tx_next_ack n.tx_next ≡ found → near.nothing_to_send n ≡ not (is_some found)
nothing_left n ordered found e = at_end (λ x. near.has left (n.sdu x)) n.tx_next_ack ∙ ap not (window_any n ordered (λ x. near.has left) (λ x. refl) found e)

-- ... once a run was sent
pub nothing_after : (n : near.Near) → InOrder n → (run : near.Run) (found : Option ℕ)
    → first_in (λ x. near.has left (cond (eqb x run.count) (near.sent_run run (n.sdu x)) (n.sdu x))) n.tx_next_ack n.tx_next ≡ found
    → near.nothing_to_send (near.marked run n) ≡ not (is_some found)
nothing_after n ordered run found e =
    ap (λ k. eqb k (n.tx_next_ack + near.window_size)) (seek_same (λ x. near.has left ((near.marked run n).sdu x)) after same near.window_size n.tx_next_ack)
    ∙ at_end after n.tx_next_ack ∙ ap not (window_any n ordered (λ x s. near.has left (cond (eqb x run.count) (near.sent_run run s) s)) none found e)
  where
    after : ℕ → Bool
    after x = near.has left (cond (eqb x run.count) (near.sent_run run (n.sdu x)) (n.sdu x))

    none : (x : ℕ) → near.has left (cond (eqb x run.count) (near.sent_run run near.none_yet) near.none_yet) ≡ false
    none x = go (eqb x run.count)
      where
        go : (b : Bool) → near.has left (cond b (near.sent_run run near.none_yet) near.none_yet) ≡ false
        go true = refl
        go false = refl

    same : (x : ℕ) → near.has left ((near.marked run n).sdu x) ≡ near.has left (cond (eqb x run.count) (near.sent_run run (n.sdu x)) (n.sdu x))
    same x = go (eqb x run.count) refl
      where
        go : (b : Bool) → eqb x run.count ≡ b → near.has left (cond b (near.sent_run run (n.sdu run.count)) (n.sdu x)) ≡ near.has left (cond b (near.sent_run run (n.sdu x)) (n.sdu x))
        go true e = ap (λ y. near.has left (near.sent_run run (n.sdu y))) (sym (eqb-true x run.count e))
        go false e = refl

-- answers of searches ------------------------------------------------------------------------------------------------

pub some_mapped : {A B : Type 0} (f : A → B) (o : Option A) → is_some (option_map f o) ≡ is_some o
some_mapped f (Some a) = refl
some_mapped f None = refl

pub not_not : (x y : Bool) → not x ≡ y → x ≡ not y
not_not true y e = ap not e
not_not false y e = ap not e

module _ (n : near.Near) (ordered : InOrder n) (grant : ℕ) (enough : 5 ≤ grant) where
  of_test : (new : Bool) (k : ℕ) → k ≡ near.count_with (served_as new) n → ltb k (n.tx_next_ack + near.window_size) ≡ true → Serves n grant (near.run_of new (served_as new) n grant k)
  of_test new k is l =
      record {
        front = front_of (served_as new) (n.sdu k) grant has enough;
        low = omega (arith, is, seek_from (λ x. near.has (served_as new) (n.sdu x)) near.window_size n.tx_next_ack);
        high = ⊎_elim (λ h. h) (λ h. absurd (both_ways _ (ap (near.has (served_as new)) (ordered.beyond k h)) has)) (cases_lt k n.tx_next);
        fits = (run_lengths (served_as new) (n.sdu k) grant has enough).2;
      }
    where
      has : near.has (served_as new) (n.sdu k) ≡ true
      has =
          subst (λ x. near.has (served_as new) (n.sdu x) ≡ true) (sym is)
          (seek_found (λ x. near.has (served_as new) (n.sdu x)) near.window_size n.tx_next_ack (omega (arith, is, ltb-true _ _ l)))

  pub serves : (run : near.Run) → near.served n grant ≡ Some run → Serves n grant run
  serves run e =
      go (ltb (near.count_with near.is_pending n) (n.tx_next_ack + near.window_size)) refl (ltb (near.count_with near.is_unsent n) (n.tx_next_ack + near.window_size)) refl e
    where
      same : (r : near.Run) → Some r ≡ Some run → Serves n grant r → Serves n grant run
      same r e s = subst (Serves n grant) (cc (e)) s

      go : (p : Bool) → ltb (near.count_with near.is_pending n) (n.tx_next_ack + near.window_size) ≡ p
          → (u : Bool) → ltb (near.count_with near.is_unsent n) (n.tx_next_ack + near.window_size) ≡ u
          → cond p (Some (near.run_of false near.is_pending n grant (near.count_with near.is_pending n)))
          (cond u (Some (near.run_of true near.is_unsent n grant (near.count_with near.is_unsent n))) None) ≡ Some run
          → Serves n grant run
      go true t u v f = same _ f (of_test false (near.count_with near.is_pending n) refl t)
      go false t true v f = same _ f (of_test true (near.count_with near.is_unsent n) refl v)
      go false t false v f = let z : ◌≡◌ {A = ℕ} 0 1 = cc (f) in absurd (omega (arith, z))

-- one past the highest count that was begun -------------------------------------------------------------------------------

module _ (n : near.Near) (ordered : InOrder n) where
  abbrev unbegun : ℕ → Bool
  unbegun x = not (begun (n.sdu x))

  pub top_found : (k : ℕ) → first_in (λ x. not (begun (n.sdu x))) n.tx_next_ack n.tx_next ≡ Some k → near.top n ≡ k
  top_found k e =
      let f = found_at unbegun n.tx_next_ack n.tx_next ordered.order k e in
      seek_is unbegun near.window_size n.tx_next_ack k f.0 (omega (arith, f.1, ordered.window)) f.3 (λ l. f.2)

  pub top_none : first_in (λ x. not (begun (n.sdu x))) n.tx_next_ack n.tx_next ≡ None → near.top n ≡ n.tx_next
  top_none e =
      seek_is unbegun near.window_size n.tx_next_ack n.tx_next ordered.order ordered.window (found_none unbegun n.tx_next_ack n.tx_next ordered.order e)
      (λ l. ap (λ s. not (begun s)) (ordered.beyond n.tx_next (omega arith)))

  -- it is in the window
  pub top_to : near.top n ≤ n.tx_next
  top_to =
      ⊎_elim (λ l. absurd (both_ways _ (ap begun (ordered.beyond n.tx_next (omega arith))) (top_begun n n.tx_next ordered.order l))) (λ l. l) (cases_lt n.tx_next (near.top n))
