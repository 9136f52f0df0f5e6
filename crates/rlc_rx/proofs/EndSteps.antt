-- The far end's steps, from those of its window.
use Rattle.std.proofs.Common.{◌≡◌, ℕ, ◌+◌, Bool, true, false, cond, not, ◌&&◌, ◌||◌, eqb, ltb, leb, refl, ap, ◌∙◌}
use Rattle.protocol.specs.Pdus.{Amd}
use Rattle.protocol.specs.Receiving as far
use Rattle.protocol.specs.Settings.{Settings}
use Rattle.protocol.specs.Timers.{Timer, runs, running, stopped, stopped_if}
use Rattle.rlc_rx.specs.Windows.{far_with, window_of, Takes, Answers, trigger_passed}
use Rattle.rlc_rx.specs.declared.windows.Window.{Window}
use Rattle.rlc_rx.proofs.WindowSteps.{next, high, status, trigger}

-- polls and t-Reassembly do not touch one another
answering_awaited : (s : Settings) (low from : ℕ) (f : far.Far) → far.awaited s low (far.answering from f) ≡ far.answering from (far.awaited s low f)
answering_awaited s low from f = go (not (runs f.t_reassembly) && (ltb (low + 1) f.rx_next_highest || (eqb f.rx_next_highest (low + 1) && far.has_hole (f.sdu low))))
  where
    go : (b : Bool)
        → cond b (far.with_reassembly (far.answering from f) f.rx_next_highest (running s.t_reassembly)) (far.answering from f)
        ≡ far.answering from (cond b (far.with_reassembly f f.rx_next_highest (running s.t_reassembly)) f)
    go true = refl
    go false = refl

-- whether nothing below the trigger is missing
abbrev pub settled : far.Far → Bool
settled f = leb f.rx_next_status_trigger f.rx_next || (eqb f.rx_next_status_trigger (f.rx_next + 1) && not (far.has_hole (f.sdu f.rx_next)))

module _ (s : Settings) (w w' : Window) (t : Timer) (r : far.Reporting) (p : Timer) where
  abbrev before : far.Far
  before = far_with w t r p

  module _ (w'' : Window) (x : ℕ) (a : Amd) (keeps : Takes (far.kept x a) w w') (answered stops : Bool)
      (advances : Answers answered (λ f. far.answering f.rx_next (far.advanced x f)) w' w'')
      (stops_is : stops ≡ settled (window_of w'')) where
    abbrev g : far.Far
    g = far.advanced x (far.kept x a before)

    both : (t' : Timer) → far_with w'' t' (far.triggered_if answered r) p ≡ far.answering (next w) (far.advanced x (far.kept x a (far_with w t' r p)))
    both t' =
        advances t' r p ∙ ap (λ f. far.answering f.rx_next (far.advanced x f)) (keeps t' r p)

    stops_there : stops ≡ settled g
    stops_there = stops_is ∙ ap settled (both t)

    pub taken_is : far.awaited s (next w'') (far_with w'' (stopped_if stops t) (far.triggered_if answered r) p) ≡ far.taken s x a before
    taken_is =
        ap (λ f. far.awaited s f.rx_next f) (both (stopped_if stops t))
        ∙ ap (λ b. far.awaited s g.rx_next (far.answering (next w) (far.advanced x (far.kept x a (far_with w (stopped_if b t) r p))))) stops_there
        ∙ answering_awaited s g.rx_next (next w) (far.reassembled g)

  module _ (passes : (t' : Timer) (r' : far.Reporting) (p' : Timer) → far_with w' stopped r' p' ≡ trigger_passed (far_with w t' r' p')) where
    abbrev reached : ℕ
    reached = far.incomplete_from before (trigger w)

    pub given_up_is : far.awaited s (status w') (far_with w' stopped (far.triggered r) p) ≡ far.given_up s before
    given_up_is =
        ap (λ f. far.awaited s f.rx_highest_status f) (passes t (far.triggered r) p)
        ∙ go (true && (ltb (reached + 1) (high w) || (eqb (high w) (reached + 1) && far.has_hole (before.sdu reached)))) (far.with_highest_status before reached)
      where
        go : (b : Bool) (g : far.Far)
            → cond b (far.with_reassembly (far.with_reporting (far.answering (next w) g) (far.triggered r)) (high w) (running s.t_reassembly))
            (far.with_reporting (far.answering (next w) g) (far.triggered r))
            ≡ far.with_reporting (far.answering (next w) (cond b (far.with_reassembly g (high w) (running s.t_reassembly)) g)) (far.triggered r)
        go true g = refl
        go false g = refl
