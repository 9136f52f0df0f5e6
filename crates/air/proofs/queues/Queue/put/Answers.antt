use Rattle.std.proofs.Common.{◌≡◌, ◌<◌, ◌≤◌, [], ◌∷◌, ◌++◌, sym, ap, ◌∙◌, subst, arith}
use Rattle.air.specs.Soundness.{length_held}
use Rattle.air.proofs.Fronts.{length_waits}
use Rattle.air.proofs.Notes.{each_removed}
use Rattle.air.proofs.Pushes.{newest_short, newest_room, newest_full}
use Rattle.air.proofs.queues.Queue.put.Goals as goal
use Rattle.air.proofs.queues.Queue.put.Goals.{then-self-eq-CAPACITY, else-self-eq-CAPACITY}
use Rattle.air.specs.Kept.{newest}
use Rattle.air.specs.Queues.{Each}
use Rattle.air.specs.Waits.{held_entries, waits}
use Rattle.air.specs.declared.queues.Queue.{Queue}
use Rattle.protocol.specs.Airs.{Waiting}
use Rattle.protocol.proofs.Strikes.{after_put_no, after_put_yes}
use Rattle.std.proofs.lemmas.Bool.{leb-true, and_parts}

pub returns-then-not-carries : goal.returns-then-not-carries
returns-then-not-carries c =
    let q = c.grow_older.new.self in
    sym (newest_short (waits q) (omega (arith, length_waits q, q.bounded.1)))
    ∙ ap newest (c.grow_older.ensures.after ∙ sym (after_put_no c.args.pdu.now (waits c.args.self.now) (sym c.if-not-carries.ensures)))

pub push-requires : goal.push-requires
push-requires c =
    let q = c.grow_older.new.self in
    let Old : Queue → Type 0 = λ q. Each (λ e. 1 ≤ e.age) (held_entries q) in
    let Room : Queue → Type 0 = λ q. q.held < 8 in
    record {
      room =
          elim c.if-self-eq-CAPACITY.branch [
            | then-self-eq-CAPACITY w ↦ subst Room (sym w.self-is) (omega (arith, w.remove.ensures.held, w.if-self-eq-CAPACITY.true))
            | else-self-eq-CAPACITY w ↦ subst Room (sym w.self-is) (omega (arith, w.if-self-eq-CAPACITY.false, q.bounded.1))
          ];
      carried = let long = and_parts _ _ (sym c.if-not-carries.ensures) in (leb-true _ _ long.0, leb-true _ _ long.1);
      old =
          elim c.if-self-eq-CAPACITY.branch [
            | then-self-eq-CAPACITY w ↦ subst Old (sym w.self-is) (subst (λ es. Each (λ e. 1 ≤ e.age) es) (sym w.remove.ensures.entries) (each_removed (held_entries q) 0 (omega (arith, length_held q, w.if-self-eq-CAPACITY.true)) (λ e. 1 ≤ e.age) c.grow_older.ensures.old))
            | else-self-eq-CAPACITY w ↦ subst Old (sym w.self-is) c.grow_older.ensures.old
          ];
    }

pub returns : goal.returns
returns c =
    let q = c.grow_older.new.self in
    let new : Waiting = record { pdu = c.args.pdu.now; age = 0 } in
    let added : waits c.if-self-eq-CAPACITY.self ++ new ∷ [] ≡ newest (waits q ++ new ∷ []) =
    elim c.if-self-eq-CAPACITY.branch [
      | then-self-eq-CAPACITY w ↦ ap (λ q. waits q ++ new ∷ []) w.self-is ∙ ap (λ ws. ws ++ new ∷ []) w.remove.ensures.after ∙ newest_full (waits q) new (length_waits q ∙ w.if-self-eq-CAPACITY.true)
      | else-self-eq-CAPACITY w ↦ ap (λ q. waits q ++ new ∷ []) w.self-is ∙ newest_room (waits q) new (omega (arith, length_waits q, w.if-self-eq-CAPACITY.false, q.bounded.1))
    ] in
    c.push.ensures ∙ added ∙ ap (λ ws. newest (ws ++ new ∷ [])) c.grow_older.ensures.after
    ∙ ap newest (sym (after_put_yes c.args.pdu.now (waits c.args.self.now) (sym c.if-not-carries.ensures)))
