use Rattle.std.proofs.Common.{◌≡◌, ℕ, ◌+◌, ◌-◌, Bool, true, false, cond, eqb, ltb, sym, refl, ap, ◌∙◌, subst, rules}
use Rattle.protocol.specs.Sending.{Run, has, sent_run}
use Rattle.rlc_tx.proofs.Found.{found_by}
use Rattle.rlc_tx.proofs.OfEnd.{ordered}
use Rattle.rlc_tx.proofs.OfSlot.{slot_left}
use Rattle.rlc_tx.proofs.Sends.{left_after}
use Rattle.rlc_tx.proofs.Served.{nothing_after, some_mapped, not_not}
use Rattle.rlc_tx.proofs.ends.NearEnd.is_last.Goals as goal
use Rattle.rlc_tx.specs.Ends.{near_of}
use Rattle.rlc_tx.specs.Plans.{run_of, served_as, Front}
use Rattle.rlc_tx.specs.Searches.{left}
use Rattle.rlc_tx.specs.Slots.{sdu_of}
use Rattle.rlc_tx.specs.declared.slots.Slot.{Slot}
use Rattle.std.proofs.lemmas.Bool.{eqb-true}
use Rattle.std.specs.Option.{option_map}
use Rattle.wire.specs.Counts.{count_of}

-- what is left of an SDU, once the run was sent
left_then : (slot : Slot) (run : Run) (x : ℕ) → (x ≡ run.count → Front (served_as run.new) (sdu_of slot) run.from run.size)
    → ltb (cond (eqb x run.count) run.size 0) (slot.pending + (slot.size - slot.sent)) ≡ has left (cond (eqb x run.count) (sent_run run (sdu_of slot)) (sdu_of slot))
left_then slot run x front = go (eqb x run.count) refl
  where
    go : (b : Bool) → eqb x run.count ≡ b → ltb (cond b run.size 0) (slot.pending + (slot.size - slot.sent)) ≡ has left (cond b (sent_run run (sdu_of slot)) (sdu_of slot))
    go true e = sym (left_after slot run (front (eqb-true x run.count e)))
    go false e = sym (slot_left slot)

pub returns : goal.returns
returns c =
    let n = c.args.self.now in
    let run = run_of c.args.run in
    let found =
    found_by _ _ n.window (λ x s. has left (cond (eqb x run.count) (sent_run run s) s)) (option_map count_of c.first.result) c.first.ensures
    (λ count slot b at p.
    let told : b ≡ ltb (cond (eqb (count_of count) run.count) run.size 0) (slot.now.pending + (slot.now.size - slot.now.sent)) = search rules in
    told ∙ left_then slot.now run (count_of count) (λ same. subst (λ s. Front (served_as run.new) s run.from run.size) (sym (at ∙ ap (near_of n).sdu same)) c.requires)) in
    not_not _ _ (cc (some_mapped count_of c.first.result)) ∙ sym (nothing_after (near_of n) (ordered n) run (option_map count_of c.first.result) (sym found))
