-- The window once a status report was read.
use Rattle.std.proofs.Common.{◌≡◌, ℕ, ◌<◌, ◌≤◌, Bool, true, false, cond, ltb, List, map, sym, refl, ap, ◌∙◌, arith}
use Rattle.protocol.specs.Pdus.{Entry}
use Rattle.protocol.specs.Sending as near
use Rattle.rlc_tx.proofs.InWindow.{below, same_sdus}
use Rattle.rlc_tx.proofs.Settled.{settled_is, settled_retx}
use Rattle.rlc_tx.specs.Slots.{sdu_of}
use Rattle.rlc_tx.specs.Touches.{named_of, touch_at, settled_to}
use Rattle.rlc_tx.specs.Windows.{sdus_in, bare, Holds, Untired}
use Rattle.rlc_tx.specs.declared.reporting.Touch.{Touch}
use Rattle.rlc_tx.specs.declared.windows.Window.{Window}
use Rattle.wire.specs.Counts.{count_of}

module _ (e considered settled w : Window) (touches : List Touch) (ack : ℕ) (es : List Entry)
    (considers : bare considered ≡ near.with_sdus (bare e) (near.considered_in (bare e) es))
    (settles : bare settled ≡ near.with_sdus (bare considered) (settled_to (count_of considered.tx_next_ack) (count_of considered.tx_next) ack touches (sdus_in considered)))
    (advances : bare w ≡ near.advanced (bare settled)) where
  -- no RETX-COUNT has changed since
  pub untired_after : (max_retx : ℕ) → Untired max_retx (sdus_in considered) → Untired max_retx (sdus_in w)
  untired_after max_retx untired x = ap (λ (n : near.Near). near.exhausted max_retx (n.sdu x).retx_count) advances ∙ go (ltb x _)
    where
      go : (b : Bool) → near.exhausted max_retx (cond b near.gone (sdus_in settled x)).retx_count ≡ false
      go true = refl
      go false =
          ap (λ (n : near.Near). near.exhausted max_retx (n.sdu x).retx_count) settles
          ∙ ap (near.exhausted max_retx) (settled_retx (count_of considered.tx_next_ack) (count_of considered.tx_next) ack touches (sdus_in considered) x) ∙ untired x

  -- the window as the rules say
  pub window_after : ack ≤ count_of e.tx_next → ((x : ℕ) → Holds e x → named_of (touch_at touches x) ≡ near.named (bare e) es x)
      → bare w ≡ near.advanced (near.with_sdus (bare e) (λ x. near.acknowledged_in (bare e) ack es x (near.considered_in (bare e) es x)))
  window_after inside names =
      advances
      ∙ ap near.advanced
      (settles ∙ ap (λ m. near.with_sdus m (settled_to m.tx_next_ack m.tx_next ack touches m.sdu)) considers
      ∙ same_sdus (bare e) _ _ (settled_is e ack inside es touches (near.considered_in (bare e) es) gone_below names))
    where
      gone_below : (x : ℕ) → x < count_of e.tx_next_ack → near.considered_in (bare e) es x ≡ near.gone
      gone_below x l =
          ap (λ (m : near.Near). m.sdu x) (sym considers) ∙ below (map sdu_of considered.slots) _ _ x (omega (arith, l, ap (λ (m : near.Near). m.tx_next_ack) considers))
