use Rattle.std.proofs.Common.{◌≡◌, ◌+◌, ◌<◌, sym, ap, ◌∙◌, arith}
use Rattle.rlc_tx.proofs.Marked.{first_is, first_begun, first_pending}
use Rattle.rlc_tx.proofs.OfSlot.{marked, slot_pending, slot_first_pending}
use Rattle.rlc_tx.proofs.slots.Slot.first_pending.Goals as goal
use Rattle.std.proofs.lemmas.Bool.{ltb-true}

pub overflow_add-result : goal.overflow_add-result
overflow_add-result c =
    let s = c.args.self.now in
    omega (arith, c.count_front.ensures, first_begun _ _ _ _ _ (marked s), s.within, s.short)

pub returns : goal.returns
returns c =
    let s = c.args.self.now in
    let some : 0 < s.pending = ltb-true 0 s.pending (sym (slot_pending s) ∙ c.requires) in
    let first : s.low + c.count_front.result ≡ first_pending _ _ _ _ _ (marked s) = ap (λ n. s.low + n) c.count_front.ensures in
    record {
      value = first ∙ sym (slot_first_pending s some);
      within = omega (arith, first, (first_is _ _ _ _ _ (marked s) some).0, s.within);
    }
