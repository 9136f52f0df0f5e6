-- A worked series: one packet, cut in three, carried and collected.
use Rattle.std.specs.Prelude.{◌≡◌, false, List, [], ◌∷◌, replicate, Some, None}
use Rattle.protocol.specs.Bytes.{Bytes}
use Rattle.protocol.specs.Links.{Answer, new_link, accepted, sent, arrived, kept, handed_up, collected}
use Rattle.protocol.specs.Receiving as far
use Rattle.protocol.specs.Sending as near
use Rattle.protocol.specs.Series.{hex, Turn, gives, near_grant, far_arrival, collects, Seen, Shown, play, shown}
use Rattle.protocol.specs.Settings.{Settings}
use Rattle.protocol.specs.Timers.{stopped, running}

abbrev pub settings : Settings
settings =
    record {
      poll_pdu = None;
      max_retx = 4;
      t_poll_retransmit = 40;
      t_reassembly = 20;
      t_status_prohibit = 1;
      t_reordering = None;
    }

abbrev pub turns : List Turn
turns =
    (gives (hex 3 0x414243))
    ∷ (near_grant 5)
    ∷ (far_arrival (Some (hex 5 0x9000800041)))
    ∷ (near_grant 5)
    ∷ (far_arrival (Some (hex 5 0xb000000342)))
    ∷ (near_grant 5)
    ∷ (far_arrival (Some (hex 5 0xe000000443)))
    ∷ collects
    ∷ []

abbrev saw : Answer → Seen
saw answer = record { answer = answer; puts = None; packet = [] }

abbrev puts : Answer → Bytes → Seen
puts answer pdu = record { answer = answer; puts = Some pdu; packet = [] }

abbrev hands : Answer → Bytes → Seen
hands answer packet = record { answer = answer; puts = None; packet = packet }

abbrev pub answers : List Seen
answers =
    saw (accepted 0)
    ∷ puts (sent 5) (hex 5 0x9000800041)
    ∷ saw (arrived kept 0)
    ∷ puts (sent 5) (hex 5 0xb000000342)
    ∷ saw (arrived kept 0)
    ∷ puts (sent 5) (hex 5 0xe000000443)
    ∷ saw (arrived handed_up 1)
    ∷ hands (collected 3) (hex 3 0x414243)
    ∷ []

abbrev pub end : Shown
end =
    record {
      pdcp_tx_next = 1;
      tx_next = 1;
      tx_next_ack = 0;
      polling = record { poll_sn = 0; pdu_without_poll = 0; owed = false; t_poll_retransmit = (running 40) };
      failed = false;
      sdus =
          record { acknowledged = false; marks = replicate 5 near.sent; retx_count = None }
          ∷ [];
      rx_next = 1;
      rx_next_highest = 1;
      rx_highest_status = 1;
      rx_next_status_trigger = 0;
      t_reassembly = stopped;
      reporting = far.wanted;
      t_status_prohibit = stopped;
      polls = [];
      gaps = [];
      rx_deliv = 1;
      pdcp_rx_next = 1;
      rx_reord = 0;
      t_reordering = stopped;
      due = [];
      stored = [];
    }

abbrev pub Plays : Type 0
Plays = ((play settings turns new_link).seen ≡ answers) × (shown (play settings turns new_link).link ≡ end)
