use Rattle.std.proofs.Common.{◌≡◌, ◌+◌, true, false, take, sym, ap, ◌∙◌, subst}
use Rattle.protocol.specs.Sending.{names_byte}
use Rattle.rlc_tx.proofs.Changes.{pended}
use Rattle.rlc_tx.proofs.Considers.{considered_marks, newly_is, still_bounded}
use Rattle.rlc_tx.proofs.OfSlot.{marked, facts}
use Rattle.rlc_tx.proofs.slots.Slot.consider.Goals as goal
use Rattle.rlc_tx.specs.Considered.{counted_once, has_counted}
use Rattle.rlc_tx.specs.Marks.{bounded}
use Rattle.wire.specs.Views.{missing_of}

pub invariant_of-self : goal.invariant_of-self
invariant_of-self c =
    let s = c.args.self.now in
    let from = c.named-start.result.start in
    let to = c.named-start.result.end in
    let n = c.replace-newly.result in
    facts s.stored
    (pended s.marks c.replace-newly.new.marks s.size s.sent s.pending s.low from to (marked s) c.named-start.ensures.from c.named-start.ensures.to c.replace-newly.ensures.after
    n c.replace-newly.ensures.changed c.min-self.result c.min-self.ensures)
    (subst (λ a. bounded a (s.pending + n) c.raised-self.result ≡ true) (sym c.requires)
    (ap (bounded false (s.pending + n)) c.raised-self.ensures
    ∙ still_bounded c.args.counted s.retx_count s.pending n (subst (λ a. bounded a s.pending s.retx_count ≡ true) c.requires s.few)))

pub returns : goal.returns
returns c =
    let s = c.args.self.now in
    let from = c.named-start.result.start in
    let to = c.named-start.result.end in
    let names = names_byte (missing_of c.args.missing) in
    let newly = newly_is s names from to c.named-start.ensures.from c.named-start.ensures.to c.named-start.ensures.names c.replace-newly.result c.replace-newly.ensures.changed in
    let retx = c.raised-self.ensures ∙ ap (counted_once c.args.counted s.retx_count) newly in
    record {
      after = λ i.
          record {
            bytes = take s.size s.bytes;
            mark = λ k. considered_marks s names from to c.named-start.ensures.from c.named-start.ensures.to c.named-start.ensures.names c.replace-newly.new.marks c.replace-newly.ensures.after k i;
            acknowledged = s.acknowledged;
            retx_count = retx i;
          };
      done = c.has_changed-done.ensures ∙ ap (has_counted c.args.counted s.retx_count) newly;
    }
