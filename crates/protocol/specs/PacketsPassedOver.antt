-- A worked series: t-Reordering runs out more than once, SDUs are acknowledged out of order, the link fails.
use Rattle.std.specs.Prelude.{◌≡◌, true, false, List, [], ◌∷◌, ◌++◌, replicate, Some, None}
use Rattle.protocol.specs.Bytes.{Bytes}
use Rattle.protocol.specs.Links.{Answer, new_link, accepted, sent, arrived, none, taken, discarded, kept, handed_up, ticked, collected, nothing_due, refused}
use Rattle.protocol.specs.Pdus.{every, span}
use Rattle.protocol.specs.Receiving as far
use Rattle.protocol.specs.Refusals.{at}
use Rattle.protocol.specs.Sending as near
use Rattle.protocol.specs.Series.{hex, Turn, gives, near_grant, far_grant, near_arrival, far_arrival, near_tick, far_tick, collects, Seen, Shown, play, shown}
use Rattle.protocol.specs.Settings.{Settings}
use Rattle.protocol.specs.Timers.{stopped, running}
use Rattle.protocol.specs.declared.faults.Refusal.TheVariants.{LinkFailed, GrantSize}

abbrev pub settings : Settings
settings =
    record {
      poll_pdu = (Some 2);
      max_retx = 1;
      t_poll_retransmit = 1;
      t_reassembly = 1;
      t_status_prohibit = 2;
      t_reordering = (Some 4);
    }

abbrev pub turns : List Turn
turns =
    (near_arrival None)
    ∷ (far_grant 90)
    ∷ (far_grant 55)
    ∷ (near_grant 22)
    ∷ near_tick
    ∷ (far_arrival None)
    ∷ (far_arrival None)
    ∷ (near_grant 70)
    ∷ near_tick
    ∷ (near_grant 66)
    ∷ far_tick
    ∷ (gives (hex 7 0xe267886e69c4d2))
    ∷ (near_grant 28)
    ∷ (far_arrival (Some (hex 11 0xc0008000e267886e69c4d2)))
    ∷ collects
    ∷ (near_arrival None)
    ∷ near_tick
    ∷ (near_arrival None)
    ∷ (near_grant 94)
    ∷ (near_arrival None)
    ∷ (near_grant 114)
    ∷ (far_arrival None)
    ∷ (near_grant 63)
    ∷ (far_arrival None)
    ∷ (far_arrival None)
    ∷ (near_arrival None)
    ∷ collects
    ∷ (far_arrival None)
    ∷ (far_arrival None)
    ∷ (far_grant 5)
    ∷ collects
    ∷ (far_grant 12)
    ∷ (far_arrival None)
    ∷ far_tick
    ∷ (far_arrival None)
    ∷ (far_grant 52)
    ∷ (gives (hex 12 0x19d7bc3e092c0db5eb45bd05))
    ∷ (far_arrival None)
    ∷ near_tick
    ∷ (near_arrival (Some (hex 3 0x000100)))
    ∷ (far_arrival None)
    ∷ (far_grant 85)
    ∷ (far_arrival None)
    ∷ far_tick
    ∷ (far_arrival None)
    ∷ (near_arrival (Some (hex 3 0x000100)))
    ∷ near_tick
    ∷ (near_grant 99)
    ∷ (near_arrival (Some (hex 3 0x000100)))
    ∷ (near_grant 55)
    ∷ (near_arrival (Some (hex 3 0x000100)))
    ∷ (far_grant 15)
    ∷ (near_grant 23)
    ∷ far_tick
    ∷ (near_grant 99)
    ∷ collects
    ∷ (gives (hex 5 0xca15034014))
    ∷ (near_arrival (Some (hex 3 0x000100)))
    ∷ far_tick
    ∷ (near_grant 50)
    ∷ (near_grant 72)
    ∷ (near_grant 52)
    ∷ (far_grant 108)
    ∷ (near_arrival (Some (hex 3 0x000100)))
    ∷ (near_grant 111)
    ∷ (near_arrival None)
    ∷ (near_grant 17)
    ∷ (far_grant 16)
    ∷ near_tick
    ∷ (near_arrival None)
    ∷ (near_grant 8)
    ∷ (near_arrival None)
    ∷ collects
    ∷ (far_arrival (Some (hex 8 0xd0028002ca150340)))
    ∷ far_tick
    ∷ collects
    ∷ (near_grant 115)
    ∷ far_tick
    ∷ (gives (hex 1 0xb6))
    ∷ (far_arrival None)
    ∷ far_tick
    ∷ near_tick
    ∷ (near_grant 109)
    ∷ (gives (hex 11 0xa22496816ed44e69076ab5))
    ∷ (far_arrival None)
    ∷ (near_arrival None)
    ∷ far_tick
    ∷ (far_arrival None)
    ∷ (near_grant 1)
    ∷ far_tick
    ∷ (near_grant 81)
    ∷ far_tick
    ∷ near_tick
    ∷ near_tick
    ∷ (gives (hex 11 0x10e20a05fe5afaee4fef34))
    ∷ (far_grant 9)
    ∷ (far_grant 66)
    ∷ (far_arrival (Some (hex 15 0xc0048004a22496816ed44e69076ab5)))
    ∷ (near_arrival (Some (hex 5 0x0002800010)))
    ∷ far_tick
    ∷ (far_arrival (Some (hex 15 0xc0048004a22496816ed44e69076ab5)))
    ∷ (far_arrival (Some (hex 15 0xc0048004a22496816ed44e69076ab5)))
    ∷ near_tick
    ∷ collects
    ∷ (far_grant 9)
    ∷ (far_arrival (Some (hex 15 0xc0048004a22496816ed44e69076ab5)))
    ∷ (near_grant 72)
    ∷ (near_arrival None)
    ∷ (near_arrival None)
    ∷ near_tick
    ∷ (near_grant 14)
    ∷ (far_arrival (Some (hex 15 0xc0048004a22496816ed44e69076ab5)))
    ∷ collects
    ∷ (gives (hex 2 0x3e78))
    ∷ (far_arrival (Some (hex 14 0xd0048004a22496816ed44e69076a)))
    ∷ far_tick
    ∷ collects
    ∷ (far_grant 99)
    ∷ (far_grant 68)
    ∷ (far_arrival (Some (hex 14 0xd0048004a22496816ed44e69076a)))
    ∷ (far_arrival (Some (hex 15 0xc0048004a22496816ed44e69076ab5)))
    ∷ (near_arrival None)
    ∷ (near_arrival None)
    ∷ (near_arrival None)
    ∷ (near_grant 43)
    ∷ (near_grant 98)
    ∷ far_tick
    ∷ far_tick
    ∷ collects
    ∷ collects
    ∷ (near_arrival None)
    ∷ far_tick
    ∷ (near_grant 29)
    ∷ (gives (hex 1 0x82))
    ∷ (near_grant 116)
    ∷ (gives (hex 5 0xe6c0da481a))
    ∷ (far_grant 7)
    ∷ (near_grant 20)
    ∷ (gives (hex 12 0x409b61bf53b3a3b60493c232))
    ∷ (near_arrival (Some (hex 5 0x0002800010)))
    ∷ (far_grant 11)
    ∷ (far_grant 87)
    ∷ (near_grant 97)
    ∷ (near_grant 103)
    ∷ (near_grant 94)
    ∷ far_tick
    ∷ (near_arrival None)
    ∷ (far_arrival (Some (hex 15 0xc0048004a22496816ed44e69076ab5)))
    ∷ (near_arrival None)
    ∷ (far_arrival (Some (hex 15 0xc0048004a22496816ed44e69076ab5)))
    ∷ (far_arrival (Some (hex 5 0xc007800782)))
    ∷ (near_grant 0)
    ∷ near_tick
    ∷ (near_arrival None)
    ∷ (near_grant 55)
    ∷ (far_grant 11)
    ∷ (near_grant 44)
    ∷ (near_arrival None)
    ∷ (near_arrival None)
    ∷ (far_arrival (Some (hex 5 0xc007800782)))
    ∷ (far_grant 13)
    ∷ (near_grant 59)
    ∷ (near_arrival None)
    ∷ (near_arrival None)
    ∷ (near_arrival None)
    ∷ (gives (hex 4 0x23923ee3))
    ∷ (near_grant 104)
    ∷ collects
    ∷ (near_arrival None)
    ∷ far_tick
    ∷ (near_arrival None)
    ∷ (far_grant 73)
    ∷ (near_arrival (Some (hex 17 0x0008800018002c0006ffff003800580060)))
    ∷ far_tick
    ∷ near_tick
    ∷ (near_arrival None)
    ∷ far_tick
    ∷ (far_grant 49)
    ∷ (near_arrival None)
    ∷ (near_arrival None)
    ∷ []

abbrev saw : Answer → Seen
saw answer = record { answer = answer; puts = None; packet = [] }

abbrev puts : Answer → Bytes → Seen
puts answer pdu = record { answer = answer; puts = Some pdu; packet = [] }

abbrev hands : Answer → Bytes → Seen
hands answer packet = record { answer = answer; puts = None; packet = packet }

abbrev pub answers : List Seen
answers =
    saw (arrived none 0)
    ∷ saw (sent 0)
    ∷ saw (sent 0)
    ∷ saw (sent 0)
    ∷ saw ticked
    ∷ saw (arrived none 0)
    ∷ saw (arrived none 0)
    ∷ saw (sent 0)
    ∷ saw ticked
    ∷ saw (sent 0)
    ∷ saw ticked
    ∷ saw (accepted 0)
    ∷ puts (sent 11) (hex 11 0xc0008000e267886e69c4d2)
    ∷ saw (arrived handed_up 1)
    ∷ hands (collected 7) (hex 7 0xe267886e69c4d2)
    ∷ saw (arrived none 0)
    ∷ saw ticked
    ∷ saw (arrived none 0)
    ∷ puts (sent 11) (hex 11 0xc0008000e267886e69c4d2)
    ∷ saw (arrived none 0)
    ∷ saw (sent 0)
    ∷ saw (arrived none 0)
    ∷ saw (sent 0)
    ∷ saw (arrived none 0)
    ∷ saw (arrived none 0)
    ∷ saw (arrived none 0)
    ∷ saw nothing_due
    ∷ saw (arrived none 0)
    ∷ saw (arrived none 0)
    ∷ puts (sent 3) (hex 3 0x000100)
    ∷ saw nothing_due
    ∷ saw (sent 0)
    ∷ saw (arrived none 0)
    ∷ saw ticked
    ∷ saw (arrived none 0)
    ∷ saw (sent 0)
    ∷ saw (accepted 1)
    ∷ saw (arrived none 0)
    ∷ saw ticked
    ∷ saw (arrived taken 0)
    ∷ saw (arrived none 0)
    ∷ saw (sent 0)
    ∷ saw (arrived none 0)
    ∷ saw ticked
    ∷ saw (arrived none 0)
    ∷ saw (arrived taken 0)
    ∷ saw ticked
    ∷ puts (sent 16) (hex 16 0xc001800119d7bc3e092c0db5eb45bd05)
    ∷ saw (arrived taken 0)
    ∷ saw (sent 0)
    ∷ saw (arrived taken 0)
    ∷ saw (sent 0)
    ∷ saw (sent 0)
    ∷ saw ticked
    ∷ saw (sent 0)
    ∷ saw nothing_due
    ∷ saw (accepted 2)
    ∷ saw (arrived taken 0)
    ∷ saw ticked
    ∷ puts (sent 9) (hex 9 0xc0028002ca15034014)
    ∷ saw (sent 0)
    ∷ saw (sent 0)
    ∷ saw (sent 0)
    ∷ saw (arrived taken 0)
    ∷ saw (sent 0)
    ∷ saw (arrived none 0)
    ∷ saw (sent 0)
    ∷ saw (sent 0)
    ∷ saw ticked
    ∷ saw (arrived none 0)
    ∷ puts (sent 8) (hex 8 0xd0028002ca150340)
    ∷ saw (arrived none 0)
    ∷ saw nothing_due
    ∷ saw (arrived kept 0)
    ∷ saw ticked
    ∷ saw nothing_due
    ∷ puts (sent 5) (hex 5 0xe002000614)
    ∷ saw ticked
    ∷ saw (accepted 3)
    ∷ saw (arrived none 0)
    ∷ saw ticked
    ∷ saw ticked
    ∷ puts (sent 5) (hex 5 0xc0038003b6)
    ∷ saw (accepted 4)
    ∷ saw (arrived none 0)
    ∷ saw (arrived none 0)
    ∷ saw ticked
    ∷ saw (arrived none 0)
    ∷ saw (refused (at GrantSize 0))
    ∷ saw ticked
    ∷ puts (sent 15) (hex 15 0xc0048004a22496816ed44e69076ab5)
    ∷ saw ticked
    ∷ saw ticked
    ∷ saw ticked
    ∷ saw (accepted 5)
    ∷ puts (sent 5) (hex 5 0x0002800010)
    ∷ saw (sent 0)
    ∷ saw (arrived handed_up 0)
    ∷ saw (arrived taken 0)
    ∷ saw ticked
    ∷ saw (arrived discarded 0)
    ∷ saw (arrived discarded 0)
    ∷ saw ticked
    ∷ saw nothing_due
    ∷ saw (sent 0)
    ∷ saw (arrived discarded 0)
    ∷ puts (sent 16) (hex 16 0xc001800119d7bc3e092c0db5eb45bd05)
    ∷ saw (arrived none 0)
    ∷ saw (arrived none 0)
    ∷ saw ticked
    ∷ puts (sent 14) (hex 14 0xd0048004a22496816ed44e69076a)
    ∷ saw (arrived discarded 0)
    ∷ saw nothing_due
    ∷ saw (accepted 6)
    ∷ saw (arrived discarded 0)
    ∷ saw ticked
    ∷ saw nothing_due
    ∷ puts (sent 13) (hex 13 0x0005800018002c0006ffff0030)
    ∷ saw (sent 0)
    ∷ saw (arrived discarded 0)
    ∷ saw (arrived discarded 0)
    ∷ saw (arrived none 0)
    ∷ saw (arrived none 0)
    ∷ saw (arrived none 0)
    ∷ puts (sent 5) (hex 5 0xa004000cb5)
    ∷ puts (sent 15) (hex 15 0x8005800510e20a05fe5afaee4fef34)
    ∷ saw ticked
    ∷ saw ticked
    ∷ hands (collected 11) (hex 11 0xa22496816ed44e69076ab5)
    ∷ saw nothing_due
    ∷ saw (arrived none 0)
    ∷ saw ticked
    ∷ puts (sent 6) (hex 6 0xc00680063e78)
    ∷ saw (accepted 7)
    ∷ puts (sent 5) (hex 5 0xc007800782)
    ∷ saw (accepted 8)
    ∷ puts (sent 5) (hex 5 0x0002800010)
    ∷ puts (sent 9) (hex 9 0xc0088008e6c0da481a)
    ∷ saw (accepted 9)
    ∷ saw (arrived taken 0)
    ∷ saw (sent 0)
    ∷ saw (sent 0)
    ∷ saw (refused (at LinkFailed 0))
    ∷ saw (refused (at LinkFailed 0))
    ∷ saw (refused (at LinkFailed 0))
    ∷ saw ticked
    ∷ saw (arrived none 0)
    ∷ saw (arrived discarded 0)
    ∷ saw (arrived none 0)
    ∷ saw (arrived discarded 0)
    ∷ saw (arrived handed_up 0)
    ∷ saw (refused (at GrantSize 0))
    ∷ saw ticked
    ∷ saw (arrived none 0)
    ∷ saw (refused (at LinkFailed 0))
    ∷ saw (sent 0)
    ∷ saw (refused (at LinkFailed 0))
    ∷ saw (arrived none 0)
    ∷ saw (arrived none 0)
    ∷ saw (arrived discarded 0)
    ∷ saw (sent 0)
    ∷ saw (refused (at LinkFailed 0))
    ∷ saw (arrived none 0)
    ∷ saw (arrived none 0)
    ∷ saw (arrived none 0)
    ∷ saw (refused (at LinkFailed 0))
    ∷ saw (refused (at LinkFailed 0))
    ∷ saw nothing_due
    ∷ saw (arrived none 0)
    ∷ saw ticked
    ∷ saw (arrived none 0)
    ∷ puts (sent 17) (hex 17 0x0008800018002c0006ffff003800580060)
    ∷ saw (arrived taken 0)
    ∷ saw ticked
    ∷ saw ticked
    ∷ saw (arrived none 0)
    ∷ saw ticked
    ∷ saw (sent 0)
    ∷ saw (arrived none 0)
    ∷ saw (arrived none 0)
    ∷ []

abbrev pub end : Shown
end =
    record {
      pdcp_tx_next = 10;
      tx_next = 10;
      tx_next_ack = 1;
      polling = record { poll_sn = 8; pdu_without_poll = 0; owed = true; t_poll_retransmit = stopped };
      failed = true;
      sdus =
          record { acknowledged = false; marks = replicate 14 near.pending; retx_count = Some 1 }
          ∷ record { acknowledged = false; marks = replicate 6 near.sent ++ replicate 1 near.pending; retx_count = Some 1 }
          ∷ record { acknowledged = false; marks = replicate 3 near.pending; retx_count = Some 0 }
          ∷ record { acknowledged = true; marks = replicate 13 near.sent; retx_count = Some 0 }
          ∷ record { acknowledged = false; marks = replicate 13 near.pending; retx_count = Some 0 }
          ∷ record { acknowledged = false; marks = replicate 4 near.pending; retx_count = Some 0 }
          ∷ record { acknowledged = true; marks = replicate 3 near.sent; retx_count = None }
          ∷ record { acknowledged = false; marks = replicate 7 near.sent; retx_count = None }
          ∷ record { acknowledged = false; marks = replicate 14 near.unsent; retx_count = None }
          ∷ [];
      rx_next = 1;
      rx_next_highest = 8;
      rx_highest_status = 8;
      rx_next_status_trigger = 8;
      t_reassembly = stopped;
      reporting = far.quiet;
      t_status_prohibit = stopped;
      polls = [];
      gaps = Some (record { nack_sn = 1; missing = every } ∷ []) ∷ Some (record { nack_sn = 2; missing = span 0x6 0xffff } ∷ []) ∷ Some (record { nack_sn = 3; missing = every } ∷ []) ∷ None ∷ Some (record { nack_sn = 5; missing = every } ∷ []) ∷ Some (record { nack_sn = 6; missing = every } ∷ []) ∷ None ∷ [];
      rx_deliv = 5;
      pdcp_rx_next = 8;
      rx_reord = 8;
      t_reordering = (running 1);
      due = [];
      stored = 7 ∷ [];
    }

abbrev pub Plays : Type 0
Plays = ((play settings turns new_link).seen ≡ answers) × (shown (play settings turns new_link).link ≡ end)
