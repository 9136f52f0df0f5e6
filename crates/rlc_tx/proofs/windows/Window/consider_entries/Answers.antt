use Rattle.std.proofs.Common.{◌≡◌, [], ◌∷◌, ◌++◌, map, sym, ap, ◌∙◌, subst, append_assoc}
use Rattle.rlc_tx.proofs.Progress.{Stage, stage_more}
use Rattle.rlc_tx.proofs.windows.Window.consider_entries.Goals as goal
use Rattle.std.proofs.lemmas.List.{map-append}
use Rattle.wire.specs.Views.{entries_of, entry_of}

pub loop-entry-preserved : goal.loop-entry-preserved
loop-entry-preserved c =
    let e = entry_of c.in-Some.entry in
    let done = map entry_of c.loop-entry.yielded in
    let more : map entry_of (c.loop-entry.yielded ++ c.in-Some.entry ∷ []) ≡ done ++ e ∷ [] = map-append entry_of c.loop-entry.yielded (c.in-Some.entry ∷ []) in (
      subst (λ es. Stage c.args.self.now es c.consider_entry.new.self c.consider_entry.new.touches) (sym more)
          (stage_more c.args.self.now c.loop-entry.self c.consider_entry.new.self done e c.loop-entry.touches c.consider_entry.new.touches c.loop-entry.invariant.0
          c.consider_entry.ensures.sdus c.consider_entry.array_long c.consider_entry.ensures.touches),
      ap (λ es. es ++ entries_of c.next.new.self) more ∙ append_assoc done (e ∷ []) (entries_of c.next.new.self)
          ∙ ap (λ es. done ++ es) (sym c.in-Some.ensures.steps) ∙ c.loop-entry.invariant.1,
    )
