use Rattle.std.proofs.Common.{◌≡◌, ◌+◌, ◌-◌, ◌<◌, true, ◌++◌, length, take, drop, replicate, sym, refl, ap, ◌∙◌, subst, arith}
use borrow.Rule.Slice.PartMut.{put_mid}
use Rattle.rlc_rx.proofs.Merging.{merged_all, merged_held, merged_new}
use Rattle.rlc_rx.proofs.Tallies.{none_higher}
use Rattle.rlc_rx.proofs.flags.put.Goals as goal
use Rattle.rlc_rx.proofs.flags.put.Goals.{then-not-held-offset, else-not-held-offset}
use Rattle.rlc_rx.specs.Flags.{Merged}
use Rattle.std.proofs.lemmas.List.Edits.{paste_all}
use Rattle.std.proofs.lemmas.List.{length-replicate, length-take-le, length-drop}
use Rattle.std.proofs.lemmas.Slice.{put_mid-paste}

pub returns-then-is_behind : goal.returns-then-is_behind
returns-then-is_behind c =
    let offset = c.args.offset in
    let payload = c.args.data.now in
    let bytes = c.args.bytes.now in
    let held = c.args.held.now in
    let n = length payload in
    let k = offset + n - offset in
    let same : n ≡ k = omega arith in
    let part : length (take k (drop offset held)) ≡ n =
    length-take-le k (drop offset held) (omega (arith, length-drop offset held, c.requires.room, c.requires.sizes)) ∙ sym same in
    let flags : c.fill.new.self ≡ replicate n true = c.fill.ensures.after (λ y e. e) ∙ ap (λ m. replicate m true) part in
    let written : put_mid offset k bytes c.copy_from_slice.new.self ≡ take offset bytes ++ (payload ++ drop (offset + n) bytes) =
    put_mid-paste offset k bytes c.copy_from_slice.new.self payload n c.copy_from_slice.ensures.after same refl ∙ paste_all bytes offset payload n refl in
    let marked : put_mid offset k held c.fill.new.self ≡ take offset held ++ (replicate n true ++ drop (offset + n) held) =
    put_mid-paste offset k held c.fill.new.self (replicate n true) n flags same (sym (length-replicate n true))
    ∙ paste_all held offset (replicate n true) n (sym (length-replicate n true)) in
    subst (λ bs. Merged offset n payload bytes bs held (put_mid offset k held c.fill.new.self) n) (sym written)
    (subst (λ hs. Merged offset n payload bytes (take offset bytes ++ (payload ++ drop (offset + n) bytes)) held hs n) (sym marked)
    (merged_all offset payload bytes held c.requires.room c.requires.sizes (none_higher c.args.top offset held c.if-is_behind.true c.requires.beyond)))

pub loop-i-preserved : goal.loop-i-preserved
loop-i-preserved c =
    let i = c.loop-i.i in
    let m = c.loop-i.invariant.0 in
    let room : c.args.offset + i < length c.args.bytes.now = omega (arith, c.requires.room, c.loop-i-test.true) in
    elim c.if-not-held-offset.branch [
      | then-not-held-offset w ↦ simp (w.bytes-is, w.held-is, w.new-is) (merged_new _ _ _ _ _ _ _ _ m room c.requires.sizes w.if-not-held-offset.true, omega (arith, c.loop-i.invariant.1))
      | else-not-held-offset w ↦ simp (w.bytes-is, w.held-is, w.new-is) (merged_held _ _ _ _ _ _ _ _ m w.if-not-held-offset.false, omega (arith, c.loop-i.invariant.1))
    ]
