-- What a Tick leaves when t-PollRetransmit runs out.
use Rattle.std.proofs.Common.{◌≡◌, true, false, refl, ap, ◌∙◌}
use Rattle.protocol.specs.Sending as near
use Rattle.protocol.specs.Settings.{Settings}
use Rattle.protocol.specs.Timers as timers
use Rattle.std.proofs.lemmas.Bool.{both_ways, cond-true, cond-false}

pub ticked_out : (t : timers.Timer) → timers.runs_out t ≡ true → timers.ticked t ≡ timers.stopped
ticked_out timers.stopped e = absurd (both_ways false refl e)
ticked_out (timers.running left) e = cond-true _ _ _ e
ticked_out timers.endless e = absurd (both_ways false refl e)

module _ (s : Settings) (n : near.Near) (out : timers.runs_out n.polling.t_poll_retransmit ≡ true) where
  -- a poll is owed, and the timer has stopped
  pub owing_is : (t : timers.Timer) → t ≡ timers.ticked n.polling.t_poll_retransmit
      → near.with_polling n (record { poll_sn = n.polling.poll_sn; pdu_without_poll = n.polling.pdu_without_poll; owed = true; t_poll_retransmit = t }) ≡ near.owing n
  owing_is t is =
      ap (λ u. near.with_polling n (record { poll_sn = n.polling.poll_sn; pdu_without_poll = n.polling.pdu_without_poll; owed = true; t_poll_retransmit = u }))
      (is ∙ ticked_out n.polling.t_poll_retransmit out)

  pub tick_repeats : near.nothing_to_send n ≡ true → near.tick_near s n ≡ near.failed_if s (near.considered_all (near.highest_sent n) (near.owing n))
  tick_repeats none = cond-true _ _ _ out ∙ cond-true _ _ _ none

  pub tick_owes : near.nothing_to_send n ≡ false → near.tick_near s n ≡ near.owing n
  tick_owes some = cond-true _ _ _ out ∙ cond-false _ _ _ some
