use Rattle.std.proofs.Common.{◌≡◌, ◌≤◌}
use Rattle.protocol.specs.Drafts.{fill}
use Rattle.rlc_rx.proofs.Listing.{report_at}
use Rattle.rlc_rx.proofs.ends.FarEnd.list_missing.Given as goal
use Rattle.rlc_rx.specs.Views.{far_of}
use Rattle.wire.specs.Drafted.{draft_of}

-- what is left to list does the same
abbrev pub invariant-loop-x : goal.invariant-loop-x
invariant-loop-x l =
    ((report_at (far_of l.self) (far_of l.self).rx_highest_status (far_of l.self).rx_next l.most).ack
    ≡ (report_at (far_of l.self) (far_of l.self).rx_highest_status l.x l.room).ack)
    × (fill (report_at (far_of l.self) (far_of l.self).rx_highest_status (far_of l.self).rx_next l.most).entries (draft_of l.initial.draft) l.initial.buffer
    ≡ fill (report_at (far_of l.self) (far_of l.self).rx_highest_status l.x l.room).entries (draft_of l.draft) l.buffer)
    × (l.room ≤ l.most)
