-- A PDU that a grant sends is written.
use Rattle.std.proofs.Common.{◌≡◌, ℕ, ◌≤◌, length, None, Ok, ap, ◌∙◌, arith}
use Rattle.protocol.proofs.Calls.{segment_readable}
use Rattle.protocol.proofs.NearSpent.{part_long, part_size, segment_offset}
use Rattle.protocol.specs.Bytes.{Bytes, put}
use Rattle.protocol.specs.Pdus.{amd, encode}
use Rattle.protocol.specs.Sending as near
use Rattle.protocol.specs.Settings.{Settings}
use Rattle.protocol.specs.Writing.{write, written, pdu_fault}
use Rattle.rlc_tx.specs.Plans.{Serves}
use Rattle.std.proofs.lemmas.Bool.{cond-false, le-ltb, ne_eqb}

module _ (s : Settings) (run : near.Run) (n : near.Near) (grant : ℕ) (serves : Serves n grant run) where
  abbrev bytes : Bytes
  bytes = (n.sdu run.count).bytes

  -- it is no longer than its grant
  pub pdu_fits : length (encode (amd (near.amd_of_run s run n))) ≤ grant
  pdu_fits = omega (arith, part_size (near.polls s run n) bytes run.count run.from run.size serves.front.some serves.front.inside, serves.fits)

  fine : length (n.sdu run.count).bytes ≤ 502 → pdu_fault (amd (near.amd_of_run s run n)) ≡ None
  fine short =
      let long = part_long (near.polls s run n) bytes run.count run.from run.size serves.front.some serves.front.inside in
      cond-false _ _ _ (ne_eqb (length (near.amd_of_run s run n).payload) 0 (λ none. omega (arith, long, none, serves.front.some)))
      ∙ segment_readable run.from run.size (length bytes) (length (near.amd_of_run s run n).payload) (omega (arith, long, segment_offset run.from run.size (length bytes), serves.front.inside, short))

  pub pdu_written : (buffer : Bytes) → grant ≤ length buffer → length (n.sdu run.count).bytes ≤ 502
      → write (amd (near.amd_of_run s run n)) buffer ≡ (Ok (length (encode (amd (near.amd_of_run s run n)))), put (encode (amd (near.amd_of_run s run n))) buffer)
  pdu_written buffer room short =
      cond-false _ _ _ (le-ltb (length buffer) (length (encode (amd (near.amd_of_run s run n)))) (omega (arith, pdu_fits, room)))
      ∙ ap (λ f. written f (encode (amd (near.amd_of_run s run n))) buffer) (fine short)
