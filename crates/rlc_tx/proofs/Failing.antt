-- When a link has failed.
use Rattle.std.proofs.Common.{◌≡◌, ℕ, ◌<◌, ◌≤◌, Bool, true, false, ◌||◌, map, is_some, Some, None, Option, sym, refl, ap, ◌∙◌, ⊎_elim}
use Rattle.protocol.specs.Sending as near
use Rattle.protocol.specs.Settings.{Settings}
use Rattle.rlc_tx.proofs.InWindow.{below, beyond}
use Rattle.rlc_tx.proofs.OfEnd.{bare_ordered}
use Rattle.rlc_tx.proofs.Served.{InOrder, found_none, window_any}
use Rattle.rlc_tx.specs.Ends.{set_by}
use Rattle.rlc_tx.specs.Slots.{sdu_of}
use Rattle.rlc_tx.specs.Searches.{first_in, exhausted_in}
use Rattle.rlc_tx.specs.Windows.{sdus_in, bare, Untired}
use Rattle.rlc_tx.specs.declared.ends.NearEnd.{NearEnd}
use Rattle.rlc_tx.specs.declared.windows.Window.{Window}
use Rattle.std.proofs.lemmas.Bool.{both_ways, cases_lt, or_parts}
use Rattle.wire.specs.Counts.{count_of}

-- by a search in the window
pub fails_is : (s : Settings) (n : near.Near) → InOrder n
    → near.fails s n ≡ is_some (first_in (λ x. near.exhausted s.max_retx (n.sdu x).retx_count) n.tx_next_ack n.tx_next)
fails_is s n ordered = window_any n ordered (λ x t. near.exhausted s.max_retx t.retx_count) (λ x. refl) _ refl

none_of : (o : Option ℕ) → is_some o ≡ false → o ≡ None
none_of (Some x) e = absurd (both_ways true e refl)
none_of None e = refl

-- as long as it has not, no SDU was sent too often
pub still_untired : (failed : Bool) (max_retx : ℕ) (w : Window) → (failed || exhausted_in max_retx w) ≡ false → Untired max_retx (sdus_in w)
still_untired failed max_retx w alive x = ⊎_elim under (λ from. ⊎_elim (within from) (past from) (cases_lt x (count_of w.tx_next))) (cases_lt x (count_of w.tx_next_ack))
  where
    retx : near.Sdu → Bool
    retx s = near.exhausted max_retx s.retx_count

    under : x < count_of w.tx_next_ack → near.exhausted max_retx (sdus_in w x).retx_count ≡ false
    under l = ap retx (below (map sdu_of w.slots) _ _ x l)

    past : count_of w.tx_next_ack ≤ x → count_of w.tx_next ≤ x → near.exhausted max_retx (sdus_in w x).retx_count ≡ false
    past from l = ap retx (beyond (map sdu_of w.slots) _ _ x from l)

    within : count_of w.tx_next_ack ≤ x → x < count_of w.tx_next → near.exhausted max_retx (sdus_in w x).retx_count ≡ false
    within from l = found_none (λ y. near.exhausted max_retx (sdus_in w y).retx_count) _ _ w.ordered (none_of _ (or_parts failed _ alive).1) x from l

-- a near end with another window, polls and failure
abbrev pub over : near.Near → near.Polling → Bool → near.Near → near.Near
over n polling failed m =
    record {
      pdcp_tx_next = n.pdcp_tx_next;
      tx_next = m.tx_next;
      tx_next_ack = m.tx_next_ack;
      sdu = m.sdu;
      polling = polling;
      failed = failed;
    }

-- it fails as the rules say
pub failed_as : (e : NearEnd) (w : Window) (n : near.Near) (failed : Bool) → bare w ≡ n → failed ≡ (e.failed || exhausted_in e.settings.max_retx w) → failed ≡ (e.failed || near.fails (set_by e) n)
failed_as e w n failed same is = is ∙ ap (λ b. e.failed || b) (sym (fails_is (set_by e) (bare w) (bare_ordered w)) ∙ ap (near.fails (set_by e)) same)
