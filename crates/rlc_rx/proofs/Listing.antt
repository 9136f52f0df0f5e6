-- A report's entries, SDU by SDU.
use Rattle.std.proofs.Common.{◌≡◌, ℕ, suc, ◌+◌, ◌-◌, ◌<◌, ◌≤◌, true, false, List, [], ◌∷◌, ◌++◌, Ok, Err, Result, sym, refl, ap, ◌∙◌, arith}
use Rattle.protocol.specs.Bytes.{Bytes}
use Rattle.protocol.specs.Drafts.{Draft, add, then, fill}
use Rattle.protocol.specs.Pdus.{Entry}
use Rattle.protocol.specs.Receiving as far
use Rattle.protocol.specs.declared.faults.Fault.{Fault}
use Rattle.std.proofs.lemmas.Bool.{cond-true, cond-false, le-leb, lt-leb}

-- entries behind others
fill-append : (es fs : List Entry) (d : Draft) (b : Bytes)
    → fill (es ++ fs) d b ≡ then (fill es d b).answer (fill es d b) (fill fs (fill es d b).draft (fill es d b).buffer)
fill-append [] fs d b = refl
fill-append (e ∷ es) fs d b = go (add e d b).answer refl (fill-append es fs (add e d b).draft (add e d b).buffer)
  where
    go : (r : Result (Unit {0}) Fault) → (add e d b).answer ≡ r
        → fill (es ++ fs) (add e d b).draft (add e d b).buffer
        ≡ then (fill es (add e d b).draft (add e d b).buffer).answer (fill es (add e d b).draft (add e d b).buffer)
        (fill fs (fill es (add e d b).draft (add e d b).buffer).draft (fill es (add e d b).draft (add e d b).buffer).buffer)
        → then r (add e d b) (fill (es ++ fs) (add e d b).draft (add e d b).buffer)
        ≡ then (then r (add e d b) (fill es (add e d b).draft (add e d b).buffer)).answer (then r (add e d b) (fill es (add e d b).draft (add e d b).buffer))
        (fill fs (then r (add e d b) (fill es (add e d b).draft (add e d b).buffer)).draft (then r (add e d b) (fill es (add e d b).draft (add e d b).buffer)).buffer)
    go (Ok u) t rest = rest
    go (Err f) t rest = sym (ap (λ r. then r (add e d b) (fill fs (add e d b).draft (add e d b).buffer)) t)

pub fill_behind : (es fs : List Entry) (d d' : Draft) (b b' : Bytes) (r : Result (Unit {0}) Fault) → record { answer = r; draft = d'; buffer = b' } ≡ fill es d b
    → fill (es ++ fs) d b ≡ then r (record { answer = r; draft = d'; buffer = b' }) (fill fs d' b')
fill_behind es fs d d' b b' r e = fill-append es fs d b ∙ ap (λ s. then s.answer s (fill fs s.draft s.buffer)) (sym e)

-- the report on the counts from x on
abbrev pub report_at : far.Far → (high x room : ℕ) → far.Report
report_at f high x room = far.report_from f (high - x) x room

module _ (f : far.Far) (high x room : ℕ) (more : x < high) where
  next : high - x ≡ suc (high - (x + 1))
  next = omega (arith, more)

  pub report_complete : far.complete (f.sdu x) ≡ true → report_at f high x room ≡ report_at f high (x + 1) room
  report_complete c = ap (λ m. far.report_from f m x room) next ∙ cond-true _ _ _ c ∙ ap (λ y. far.report_from f (high - (x + 1)) y room) (omega arith)

  pub report_stops : far.complete (f.sdu x) ≡ false → room < far.entries_length (far.sdu_entries x (f.sdu x))
      → report_at f high x room ≡ record { ack = x; entries = [] }
  report_stops c lt = ap (λ m. far.report_from f m x room) next ∙ cond-false _ _ _ c ∙ cond-false _ _ _ (lt-leb _ room lt)

  pub report_lists : far.complete (f.sdu x) ≡ false → far.entries_length (far.sdu_entries x (f.sdu x)) ≤ room
      → report_at f high x room ≡ far.behind (far.sdu_entries x (f.sdu x)) (report_at f high (x + 1) (room - far.entries_length (far.sdu_entries x (f.sdu x))))
  report_lists c le =
      ap (λ m. far.report_from f m x room) next ∙ cond-false _ _ _ c ∙ cond-true _ _ _ (le-leb _ room le)
      ∙ ap (λ y. far.behind (far.sdu_entries x (f.sdu x)) (far.report_from f (high - (x + 1)) y (room - far.entries_length (far.sdu_entries x (f.sdu x))))) (omega arith)
