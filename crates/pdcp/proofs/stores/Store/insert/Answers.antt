use Rattle.std.proofs.Common.{◌≡◌, ℕ, ap, ◌∙◌, arith}
use Rattle.pdcp.proofs.Windows.{held_insert}
use Rattle.pdcp.proofs.stores.Store.insert.Goals as goal
use Rattle.pdcp.specs.Stores.{stored_of}
use Rattle.protocol.specs.Reordering.{Stored, is_stored, insert}

pub returns : goal.returns
returns c =
    let s = c.reach.new.self in
    let n = c.value-2.result in
    let same : n ≡ c.args.count.value = c.value-2.ensures in
    let reached = c.reach.ensures.reached in
    let before = c.reach.ensures.same in
    let entry : ℕ → Stored = λ m. record { count = m; packet = c.args.packet.now.bytes.now } in
    held_insert s.places s.first n s.sized (omega (arith, reached.0, same, c.value.ensures)) (omega (arith, reached.1, same, c.value.ensures)) c.fill.new.self
    c.args.packet.now.bytes.now c.fill.ensures (ap (is_stored (stored_of s)) same ∙ ap (λ ss. is_stored ss c.args.count.value) before ∙ c.requires.new)
    ∙ ap (λ m. insert (entry m) (stored_of s)) same ∙ ap (insert (entry c.args.count.value)) before
