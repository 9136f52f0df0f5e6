use Rattle.std.proofs.Common.{◌≡◌, ℕ, ◌-◌, Bool, false, cond, not, ltb, map, ap, ◌∙◌, arith, rules}
use Rattle.protocol.proofs.Seeks.{seek_from}
use Rattle.protocol.specs.Searching.{seek}
use Rattle.protocol.specs.Sending.{new_near, gone}
use Rattle.rlc_tx.proofs.Found.{found_by, unwrap_mapped, ends}
use Rattle.rlc_tx.proofs.InWindow.{slid}
use Rattle.rlc_tx.proofs.windows.Window.advance.Goals as goal
use Rattle.rlc_tx.specs.Slots.{sdu_of}
use Rattle.rlc_tx.specs.Searches.{first_in}
use Rattle.rlc_tx.specs.Windows.{sdus_in}
use Rattle.rlc_tx.specs.declared.windows.Window.{Window}
use Rattle.std.proofs.Common.{Option, unwrap_or}
use Rattle.std.specs.Option.{option_map}
use Rattle.wire.specs.Counts.{count_of}
use Rattle.wire.specs.declared.counts.Count.{Count}
use Rattle.wire.specs.declared.counts.Rlc.{Rlc}

abbrev is_open : Window → ℕ → Bool
is_open w x = not (sdus_in w x).acknowledged

abbrev start : Window → ℕ
start w = seek (is_open w) (count_of w.tx_next - count_of w.tx_next_ack) (count_of w.tx_next_ack)

start_is : (w : Window) (found : Option (Count Rlc)) (count : Count Rlc) → count ≡ unwrap_or found w.tx_next
    → option_map count_of found ≡ first_in (is_open w) (count_of w.tx_next_ack) (count_of w.tx_next) → count_of count ≡ start w
start_is w found count is e = ap count_of is ∙ unwrap_mapped count_of found w.tx_next ∙ ends (is_open w) _ _ w.ordered (option_map count_of found) e

pub returns : goal.returns
returns c =
    let w = c.args.self.now in
    let at = start_is w c.first.result c.unwrap_or-self.result c.unwrap_or-self.ensures (found_by _ _ w (λ x s. not s.acknowledged) (option_map count_of c.first.result) c.first.ensures (λ count slot b at p. search rules)) in
    let from = seek_from (is_open w) (count_of w.tx_next - count_of w.tx_next_ack) (count_of w.tx_next_ack) in
    λ i.
    record {
      pdcp_tx_next = 0;
      tx_next = count_of w.tx_next;
      tx_next_ack = at i;
      sdu = λ x. (slid (map sdu_of w.slots) (count_of w.tx_next_ack) (count_of w.tx_next) (count_of c.unwrap_or-self.result) (omega (arith, at, from)) x ∙ ap (λ to. cond (ltb x to) gone (sdus_in w x)) at) i;
      polling = new_near.polling;
      failed = false;
    }
