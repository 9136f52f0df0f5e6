-- A worked series: nearly every report is lost, polls are answered late, t-Reordering never runs out.
use Rattle.std.specs.Prelude.{◌≡◌, true, false, List, [], ◌∷◌, replicate, Some, None}
use Rattle.protocol.specs.Bytes.{Bytes}
use Rattle.protocol.specs.Links.{Answer, new_link, accepted, sent, arrived, none, discarded, kept, handed_up, ticked, nothing_due, refused}
use Rattle.protocol.specs.Pdus.{every}
use Rattle.protocol.specs.Receiving as far
use Rattle.protocol.specs.Refusals.{at}
use Rattle.protocol.specs.Sending as near
use Rattle.protocol.specs.Series.{hex, Turn, gives, near_grant, far_grant, near_arrival, far_arrival, near_tick, far_tick, collects, Seen, Shown, play, shown}
use Rattle.protocol.specs.Settings.{Settings}
use Rattle.protocol.specs.Timers.{stopped, running, endless}
use Rattle.protocol.specs.declared.faults.Refusal.TheVariants.{LinkFailed}

abbrev pub settings : Settings
settings =
    record {
      poll_pdu = None;
      max_retx = 1;
      t_poll_retransmit = 1;
      t_reassembly = 5;
      t_status_prohibit = 1;
      t_reordering = None;
    }

abbrev pub turns : List Turn
turns =
    near_tick
    ∷ near_tick
    ∷ (near_grant 18)
    ∷ (far_grant 7)
    ∷ (near_arrival None)
    ∷ collects
    ∷ (near_grant 107)
    ∷ near_tick
    ∷ (near_grant 19)
    ∷ (near_grant 16)
    ∷ (far_arrival None)
    ∷ (far_arrival None)
    ∷ (far_arrival None)
    ∷ near_tick
    ∷ (far_arrival None)
    ∷ far_tick
    ∷ (near_arrival None)
    ∷ (far_arrival None)
    ∷ near_tick
    ∷ (near_grant 43)
    ∷ near_tick
    ∷ far_tick
    ∷ near_tick
    ∷ (near_arrival None)
    ∷ far_tick
    ∷ (far_arrival None)
    ∷ near_tick
    ∷ near_tick
    ∷ (near_grant 34)
    ∷ near_tick
    ∷ (gives (hex 7 0x240819d7c7e6dd))
    ∷ (far_arrival None)
    ∷ (gives (hex 8 0x7275da5d15d04d08))
    ∷ (near_grant 41)
    ∷ near_tick
    ∷ (near_grant 44)
    ∷ (near_arrival None)
    ∷ (gives (hex 9 0x3e459fb8935f1dc08d))
    ∷ near_tick
    ∷ (near_grant 75)
    ∷ near_tick
    ∷ collects
    ∷ (near_arrival None)
    ∷ (far_arrival (Some (hex 13 0xc00280023e459fb8935f1dc08d)))
    ∷ (far_grant 68)
    ∷ near_tick
    ∷ near_tick
    ∷ (near_grant 35)
    ∷ (gives (hex 5 0x87b654a8ba))
    ∷ (far_arrival (Some (hex 12 0xc00180017275da5d15d04d08)))
    ∷ (far_arrival (Some (hex 13 0xc00280023e459fb8935f1dc08d)))
    ∷ (near_grant 7)
    ∷ near_tick
    ∷ (far_arrival (Some (hex 13 0xc00280023e459fb8935f1dc08d)))
    ∷ (far_arrival (Some (hex 13 0xc00280023e459fb8935f1dc08d)))
    ∷ (far_grant 80)
    ∷ (gives (hex 5 0xa4f61c7a11))
    ∷ (gives (hex 12 0x61d574ff2c602ea85baae165))
    ∷ (far_arrival (Some (hex 7 0x9003800387b654)))
    ∷ (near_arrival None)
    ∷ near_tick
    ∷ near_tick
    ∷ collects
    ∷ (near_grant 94)
    ∷ near_tick
    ∷ (near_grant 65)
    ∷ (near_arrival None)
    ∷ (far_grant 49)
    ∷ (near_grant 14)
    ∷ near_tick
    ∷ (near_arrival None)
    ∷ (near_grant 56)
    ∷ (near_arrival None)
    ∷ (far_arrival (Some (hex 7 0x9003800387b654)))
    ∷ (near_grant 47)
    ∷ near_tick
    ∷ (far_grant 7)
    ∷ (far_arrival (Some (hex 6 0xe005000ce165)))
    ∷ (far_arrival (Some (hex 6 0xe005000ce165)))
    ∷ (far_grant 67)
    ∷ (near_grant 17)
    ∷ (gives (hex 6 0xa9e636958f71))
    ∷ (far_grant 6)
    ∷ near_tick
    ∷ (near_grant 81)
    ∷ (far_arrival (Some (hex 16 0xc005800561d574ff2c602ea85baae165)))
    ∷ (near_grant 71)
    ∷ far_tick
    ∷ near_tick
    ∷ (near_grant 74)
    ∷ (far_grant 28)
    ∷ near_tick
    ∷ collects
    ∷ (near_arrival None)
    ∷ (near_grant 60)
    ∷ (near_grant 36)
    ∷ collects
    ∷ (far_grant 42)
    ∷ (far_grant 30)
    ∷ (far_grant 16)
    ∷ (far_grant 5)
    ∷ far_tick
    ∷ near_tick
    ∷ (near_grant 16)
    ∷ (near_grant 91)
    ∷ (far_arrival (Some (hex 7 0x9003800387b654)))
    ∷ (far_grant 6)
    ∷ (near_grant 11)
    ∷ (gives (hex 5 0xb79059700c))
    ∷ near_tick
    ∷ (near_arrival None)
    ∷ (gives (hex 5 0xb79059700c))
    ∷ (near_grant 46)
    ∷ (far_arrival (Some (hex 6 0xe0030005a8ba)))
    ∷ (far_arrival (Some (hex 7 0x9003800387b654)))
    ∷ (far_arrival (Some (hex 7 0x9003800387b654)))
    ∷ (far_grant 67)
    ∷ (far_grant 19)
    ∷ (near_grant 25)
    ∷ near_tick
    ∷ (far_grant 34)
    ∷ far_tick
    ∷ near_tick
    ∷ (far_arrival (Some (hex 14 0x9005800561d574ff2c602ea85baa)))
    ∷ (gives (hex 5 0xb79059700c))
    ∷ (near_grant 91)
    ∷ (near_arrival None)
    ∷ (near_grant 18)
    ∷ (far_arrival (Some (hex 14 0x9005800561d574ff2c602ea85baa)))
    ∷ near_tick
    ∷ (near_arrival None)
    ∷ (near_arrival None)
    ∷ near_tick
    ∷ (near_grant 47)
    ∷ far_tick
    ∷ near_tick
    ∷ near_tick
    ∷ (near_grant 115)
    ∷ (far_arrival (Some (hex 6 0xe0030005a8ba)))
    ∷ (near_arrival None)
    ∷ far_tick
    ∷ (far_arrival (Some (hex 10 0xc0068006a9e636958f71)))
    ∷ (near_arrival None)
    ∷ near_tick
    ∷ near_tick
    ∷ (near_arrival None)
    ∷ far_tick
    ∷ (far_arrival (Some (hex 14 0x9005800561d574ff2c602ea85baa)))
    ∷ (near_grant 89)
    ∷ (near_grant 25)
    ∷ near_tick
    ∷ (near_arrival None)
    ∷ near_tick
    ∷ near_tick
    ∷ near_tick
    ∷ near_tick
    ∷ collects
    ∷ (far_arrival None)
    ∷ (gives (hex 5 0xb79059700c))
    ∷ (far_arrival None)
    ∷ (far_arrival None)
    ∷ (far_grant 85)
    ∷ (near_grant 14)
    ∷ (gives (hex 5 0xb79059700c))
    ∷ (far_arrival None)
    ∷ near_tick
    ∷ collects
    ∷ (far_grant 14)
    ∷ (near_grant 42)
    ∷ (gives (hex 5 0xb79059700c))
    ∷ near_tick
    ∷ (near_grant 36)
    ∷ near_tick
    ∷ near_tick
    ∷ (far_grant 15)
    ∷ collects
    ∷ (near_grant 64)
    ∷ (near_grant 84)
    ∷ (near_grant 107)
    ∷ (near_arrival None)
    ∷ []

abbrev saw : Answer → Seen
saw answer = record { answer = answer; puts = None; packet = [] }

abbrev puts : Answer → Bytes → Seen
puts answer pdu = record { answer = answer; puts = Some pdu; packet = [] }

abbrev hands : Answer → Bytes → Seen
hands answer packet = record { answer = answer; puts = None; packet = packet }

abbrev pub answers : List Seen
answers =
    saw ticked
    ∷ saw ticked
    ∷ saw (sent 0)
    ∷ saw (sent 0)
    ∷ saw (arrived none 0)
    ∷ saw nothing_due
    ∷ saw (sent 0)
    ∷ saw ticked
    ∷ saw (sent 0)
    ∷ saw (sent 0)
    ∷ saw (arrived none 0)
    ∷ saw (arrived none 0)
    ∷ saw (arrived none 0)
    ∷ saw ticked
    ∷ saw (arrived none 0)
    ∷ saw ticked
    ∷ saw (arrived none 0)
    ∷ saw (arrived none 0)
    ∷ saw ticked
    ∷ saw (sent 0)
    ∷ saw ticked
    ∷ saw ticked
    ∷ saw ticked
    ∷ saw (arrived none 0)
    ∷ saw ticked
    ∷ saw (arrived none 0)
    ∷ saw ticked
    ∷ saw ticked
    ∷ saw (sent 0)
    ∷ saw ticked
    ∷ saw (accepted 0)
    ∷ saw (arrived none 0)
    ∷ saw (accepted 1)
    ∷ puts (sent 11) (hex 11 0x80008000240819d7c7e6dd)
    ∷ saw ticked
    ∷ puts (sent 12) (hex 12 0xc00180017275da5d15d04d08)
    ∷ saw (arrived none 0)
    ∷ saw (accepted 2)
    ∷ saw ticked
    ∷ puts (sent 13) (hex 13 0xc00280023e459fb8935f1dc08d)
    ∷ saw ticked
    ∷ saw nothing_due
    ∷ saw (arrived none 0)
    ∷ saw (arrived handed_up 0)
    ∷ saw (sent 0)
    ∷ saw ticked
    ∷ saw ticked
    ∷ puts (sent 13) (hex 13 0xc00280023e459fb8935f1dc08d)
    ∷ saw (accepted 3)
    ∷ saw (arrived handed_up 0)
    ∷ saw (arrived discarded 0)
    ∷ puts (sent 7) (hex 7 0x9003800387b654)
    ∷ saw ticked
    ∷ saw (arrived discarded 0)
    ∷ saw (arrived discarded 0)
    ∷ puts (sent 3) (hex 3 0x000000)
    ∷ saw (accepted 4)
    ∷ saw (accepted 5)
    ∷ saw (arrived kept 0)
    ∷ saw (arrived none 0)
    ∷ saw ticked
    ∷ saw ticked
    ∷ saw nothing_due
    ∷ puts (sent 6) (hex 6 0xe0030005a8ba)
    ∷ saw ticked
    ∷ puts (sent 9) (hex 9 0xc0048004a4f61c7a11)
    ∷ saw (arrived none 0)
    ∷ saw (sent 0)
    ∷ puts (sent 14) (hex 14 0x9005800561d574ff2c602ea85baa)
    ∷ saw ticked
    ∷ saw (arrived none 0)
    ∷ puts (sent 6) (hex 6 0xe005000ce165)
    ∷ saw (arrived none 0)
    ∷ saw (arrived discarded 0)
    ∷ saw (sent 0)
    ∷ saw ticked
    ∷ saw (sent 0)
    ∷ saw (arrived kept 0)
    ∷ saw (arrived discarded 0)
    ∷ saw (sent 0)
    ∷ puts (sent 16) (hex 16 0xc005800561d574ff2c602ea85baae165)
    ∷ saw (accepted 6)
    ∷ saw (sent 0)
    ∷ saw ticked
    ∷ puts (sent 10) (hex 10 0xc0068006a9e636958f71)
    ∷ saw (arrived handed_up 0)
    ∷ saw (sent 0)
    ∷ saw ticked
    ∷ saw ticked
    ∷ puts (sent 10) (hex 10 0xc0068006a9e636958f71)
    ∷ puts (sent 3) (hex 3 0x000000)
    ∷ saw ticked
    ∷ saw nothing_due
    ∷ saw (arrived none 0)
    ∷ saw (refused (at LinkFailed 0))
    ∷ saw (refused (at LinkFailed 0))
    ∷ saw nothing_due
    ∷ saw (sent 0)
    ∷ saw (sent 0)
    ∷ saw (sent 0)
    ∷ saw (sent 0)
    ∷ saw ticked
    ∷ saw ticked
    ∷ saw (refused (at LinkFailed 0))
    ∷ saw (refused (at LinkFailed 0))
    ∷ saw (arrived discarded 0)
    ∷ saw (sent 0)
    ∷ saw (refused (at LinkFailed 0))
    ∷ saw (refused (at LinkFailed 0))
    ∷ saw ticked
    ∷ saw (arrived none 0)
    ∷ saw (refused (at LinkFailed 0))
    ∷ saw (refused (at LinkFailed 0))
    ∷ saw (arrived handed_up 0)
    ∷ saw (arrived discarded 0)
    ∷ saw (arrived discarded 0)
    ∷ saw (sent 0)
    ∷ saw (sent 0)
    ∷ saw (refused (at LinkFailed 0))
    ∷ saw ticked
    ∷ saw (sent 0)
    ∷ saw ticked
    ∷ saw ticked
    ∷ saw (arrived discarded 0)
    ∷ saw (refused (at LinkFailed 0))
    ∷ saw (refused (at LinkFailed 0))
    ∷ saw (arrived none 0)
    ∷ saw (refused (at LinkFailed 0))
    ∷ saw (arrived discarded 0)
    ∷ saw ticked
    ∷ saw (arrived none 0)
    ∷ saw (arrived none 0)
    ∷ saw ticked
    ∷ saw (refused (at LinkFailed 0))
    ∷ saw ticked
    ∷ saw ticked
    ∷ saw ticked
    ∷ saw (refused (at LinkFailed 0))
    ∷ saw (arrived discarded 0)
    ∷ saw (arrived none 0)
    ∷ saw ticked
    ∷ saw (arrived handed_up 0)
    ∷ saw (arrived none 0)
    ∷ saw ticked
    ∷ saw ticked
    ∷ saw (arrived none 0)
    ∷ saw ticked
    ∷ saw (arrived discarded 0)
    ∷ saw (refused (at LinkFailed 0))
    ∷ saw (refused (at LinkFailed 0))
    ∷ saw ticked
    ∷ saw (arrived none 0)
    ∷ saw ticked
    ∷ saw ticked
    ∷ saw ticked
    ∷ saw ticked
    ∷ saw nothing_due
    ∷ saw (arrived none 0)
    ∷ saw (refused (at LinkFailed 0))
    ∷ saw (arrived none 0)
    ∷ saw (arrived none 0)
    ∷ puts (sent 5) (hex 5 0x0004800000)
    ∷ saw (refused (at LinkFailed 0))
    ∷ saw (refused (at LinkFailed 0))
    ∷ saw (arrived none 0)
    ∷ saw ticked
    ∷ saw nothing_due
    ∷ saw (sent 0)
    ∷ saw (refused (at LinkFailed 0))
    ∷ saw (refused (at LinkFailed 0))
    ∷ saw ticked
    ∷ saw (refused (at LinkFailed 0))
    ∷ saw ticked
    ∷ saw ticked
    ∷ saw (sent 0)
    ∷ saw nothing_due
    ∷ saw (refused (at LinkFailed 0))
    ∷ saw (refused (at LinkFailed 0))
    ∷ saw (refused (at LinkFailed 0))
    ∷ saw (arrived none 0)
    ∷ []

abbrev pub end : Shown
end =
    record {
      pdcp_tx_next = 7;
      tx_next = 7;
      tx_next_ack = 0;
      polling = record { poll_sn = 6; pdu_without_poll = 0; owed = true; t_poll_retransmit = stopped };
      failed = true;
      sdus =
          record { acknowledged = false; marks = replicate 9 near.sent; retx_count = None }
          ∷ record { acknowledged = false; marks = replicate 10 near.sent; retx_count = None }
          ∷ record { acknowledged = false; marks = replicate 11 near.sent; retx_count = Some 0 }
          ∷ record { acknowledged = false; marks = replicate 7 near.sent; retx_count = None }
          ∷ record { acknowledged = false; marks = replicate 7 near.sent; retx_count = None }
          ∷ record { acknowledged = false; marks = replicate 14 near.sent; retx_count = Some 0 }
          ∷ record { acknowledged = false; marks = replicate 8 near.pending; retx_count = Some 1 }
          ∷ [];
      rx_next = 0;
      rx_next_highest = 7;
      rx_highest_status = 4;
      rx_next_status_trigger = 6;
      t_reassembly = (running 4);
      reporting = far.barred;
      t_status_prohibit = (running 1);
      polls = 5 ∷ 6 ∷ [];
      gaps = Some (record { nack_sn = 0; missing = every } ∷ []) ∷ None ∷ None ∷ None ∷ Some (record { nack_sn = 4; missing = every } ∷ []) ∷ None ∷ None ∷ [];
      rx_deliv = 0;
      pdcp_rx_next = 7;
      rx_reord = 3;
      t_reordering = endless;
      due = [];
      stored = 1 ∷ 2 ∷ 3 ∷ 5 ∷ 6 ∷ [];
    }

abbrev pub Plays : Type 0
Plays = ((play settings turns new_link).seen ≡ answers) × (shown (play settings turns new_link).link ≡ end)
