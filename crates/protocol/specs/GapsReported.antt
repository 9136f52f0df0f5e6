-- A worked series: gaps within SDUs are reported and only these bytes are sent again.
use Rattle.std.specs.Prelude.{◌≡◌, true, false, List, [], ◌∷◌, ◌++◌, replicate, Some, None}
use Rattle.protocol.specs.Bytes.{Bytes}
use Rattle.protocol.specs.Links.{Answer, new_link, accepted, sent, arrived, none, taken, discarded, kept, handed_up, ticked, nothing_due}
use Rattle.protocol.specs.Pdus.{every, span}
use Rattle.protocol.specs.Receiving as far
use Rattle.protocol.specs.Sending as near
use Rattle.protocol.specs.Series.{hex, Turn, gives, near_grant, far_grant, near_arrival, far_arrival, near_tick, far_tick, collects, Seen, Shown, play, shown}
use Rattle.protocol.specs.Settings.{Settings}
use Rattle.protocol.specs.Timers.{running, endless}

abbrev pub settings : Settings
settings =
    record {
      poll_pdu = (Some 255);
      max_retx = 8;
      t_poll_retransmit = 8;
      t_reassembly = 5;
      t_status_prohibit = 1;
      t_reordering = None;
    }

abbrev pub turns : List Turn
turns =
    (far_arrival None)
    ∷ near_tick
    ∷ (far_grant 18)
    ∷ (near_arrival None)
    ∷ (far_arrival None)
    ∷ (far_arrival None)
    ∷ (near_arrival None)
    ∷ collects
    ∷ (near_arrival None)
    ∷ (gives (hex 9 0xaf31ed100d79513a1f))
    ∷ (near_grant 5)
    ∷ (far_arrival None)
    ∷ (near_grant 7)
    ∷ (far_arrival None)
    ∷ (far_arrival None)
    ∷ far_tick
    ∷ (near_grant 20)
    ∷ (near_grant 22)
    ∷ (far_arrival None)
    ∷ (far_arrival None)
    ∷ (gives (hex 5 0x038d6062aa))
    ∷ (near_grant 12)
    ∷ (near_arrival None)
    ∷ (near_arrival None)
    ∷ (far_arrival None)
    ∷ (far_arrival None)
    ∷ (near_arrival None)
    ∷ (gives (hex 6 0xf63eaa3001d3))
    ∷ (near_grant 18)
    ∷ (near_arrival None)
    ∷ (far_arrival None)
    ∷ (near_grant 7)
    ∷ (far_arrival None)
    ∷ (far_arrival None)
    ∷ (near_grant 24)
    ∷ (far_arrival None)
    ∷ (far_grant 13)
    ∷ (near_grant 9)
    ∷ (far_arrival None)
    ∷ (far_arrival None)
    ∷ far_tick
    ∷ far_tick
    ∷ (near_arrival None)
    ∷ (near_grant 24)
    ∷ near_tick
    ∷ (far_arrival None)
    ∷ (far_arrival None)
    ∷ (near_arrival None)
    ∷ (near_grant 11)
    ∷ (far_arrival None)
    ∷ (near_grant 5)
    ∷ (near_grant 18)
    ∷ (far_arrival None)
    ∷ (near_grant 12)
    ∷ (near_grant 18)
    ∷ (far_arrival None)
    ∷ (far_arrival None)
    ∷ (far_arrival None)
    ∷ (far_grant 12)
    ∷ (near_grant 14)
    ∷ (near_grant 9)
    ∷ (near_arrival None)
    ∷ (far_arrival None)
    ∷ (near_grant 15)
    ∷ (near_grant 16)
    ∷ (far_arrival None)
    ∷ (near_grant 7)
    ∷ (near_arrival None)
    ∷ (far_grant 5)
    ∷ (far_grant 15)
    ∷ (far_arrival None)
    ∷ (near_arrival None)
    ∷ (far_arrival None)
    ∷ (gives (hex 12 0xc2e06f921c9a4e2e4bda7cd0))
    ∷ (far_arrival None)
    ∷ (near_arrival None)
    ∷ (far_arrival None)
    ∷ (far_grant 7)
    ∷ (near_grant 24)
    ∷ (gives (hex 7 0x76ba192e4bc73a))
    ∷ (near_grant 5)
    ∷ (near_grant 7)
    ∷ (near_grant 13)
    ∷ (far_arrival (Some (hex 16 0xc0038003c2e06f921c9a4e2e4bda7cd0)))
    ∷ collects
    ∷ near_tick
    ∷ near_tick
    ∷ (near_arrival None)
    ∷ (far_grant 7)
    ∷ (far_arrival (Some (hex 5 0x9004800476)))
    ∷ near_tick
    ∷ (far_grant 14)
    ∷ (far_arrival (Some (hex 16 0xc0038003c2e06f921c9a4e2e4bda7cd0)))
    ∷ far_tick
    ∷ (near_arrival None)
    ∷ (gives (hex 12 0x28b0f26537e8db9e23156edd))
    ∷ (far_arrival (Some (hex 5 0x9004800476)))
    ∷ (near_grant 14)
    ∷ collects
    ∷ (far_grant 10)
    ∷ near_tick
    ∷ (near_grant 15)
    ∷ (gives (hex 8 0x3e1a81c2df569fbd))
    ∷ (far_arrival (Some (hex 14 0x9005800528b0f26537e8db9e2315)))
    ∷ far_tick
    ∷ (near_arrival None)
    ∷ near_tick
    ∷ near_tick
    ∷ (gives (hex 9 0x03c58b65d5ef344094))
    ∷ (near_grant 18)
    ∷ (near_arrival None)
    ∷ (near_grant 15)
    ∷ (far_grant 10)
    ∷ far_tick
    ∷ (far_arrival (Some (hex 16 0xc0038003c2e06f921c9a4e2e4bda7cd0)))
    ∷ (far_arrival (Some (hex 14 0x9005800528b0f26537e8db9e2315)))
    ∷ (far_grant 16)
    ∷ (near_grant 20)
    ∷ (far_grant 16)
    ∷ (gives (hex 5 0xbcf5bee82d))
    ∷ (near_grant 16)
    ∷ (far_grant 6)
    ∷ (near_arrival (Some (hex 3 0x000000)))
    ∷ (near_grant 14)
    ∷ (near_arrival None)
    ∷ (gives (hex 10 0x719d4424f628aa1ae26e))
    ∷ far_tick
    ∷ (near_grant 24)
    ∷ (far_arrival None)
    ∷ (far_arrival None)
    ∷ far_tick
    ∷ far_tick
    ∷ (far_grant 7)
    ∷ near_tick
    ∷ (far_arrival None)
    ∷ (far_grant 13)
    ∷ (far_grant 12)
    ∷ (far_arrival None)
    ∷ far_tick
    ∷ far_tick
    ∷ (far_arrival None)
    ∷ (near_grant 23)
    ∷ far_tick
    ∷ (near_arrival (Some (hex 7 0x00028000080010)))
    ∷ (near_grant 13)
    ∷ (far_grant 8)
    ∷ (near_grant 14)
    ∷ far_tick
    ∷ collects
    ∷ near_tick
    ∷ (far_arrival (Some (hex 9 0xc0018001038d6062aa)))
    ∷ far_tick
    ∷ (gives (hex 9 0x9926a249ab0b81f00d))
    ∷ (gives (hex 2 0x8c76))
    ∷ (near_grant 19)
    ∷ (far_arrival (Some (hex 9 0xc0018001038d6062aa)))
    ∷ (near_arrival None)
    ∷ (far_arrival None)
    ∷ (far_arrival None)
    ∷ (far_arrival None)
    ∷ (far_arrival None)
    ∷ (far_arrival None)
    ∷ collects
    ∷ far_tick
    ∷ (far_arrival None)
    ∷ (near_arrival None)
    ∷ (gives (hex 5 0xaa465a6735))
    ∷ (far_grant 19)
    ∷ near_tick
    ∷ (far_arrival None)
    ∷ (near_arrival (Some (hex 19 0x00068000080028004c0003ffff0054000cffff)))
    ∷ (far_arrival None)
    ∷ (near_grant 11)
    ∷ (near_grant 22)
    ∷ (near_grant 7)
    ∷ (near_grant 5)
    ∷ collects
    ∷ (far_arrival (Some (hex 6 0xa00000093a1f)))
    ∷ (near_grant 14)
    ∷ (near_grant 8)
    ∷ []

abbrev saw : Answer → Seen
saw answer = record { answer = answer; puts = None; packet = [] }

abbrev puts : Answer → Bytes → Seen
puts answer pdu = record { answer = answer; puts = Some pdu; packet = [] }

abbrev hands : Answer → Bytes → Seen
hands answer packet = record { answer = answer; puts = None; packet = packet }

abbrev pub answers : List Seen
answers =
    saw (arrived none 0)
    ∷ saw ticked
    ∷ saw (sent 0)
    ∷ saw (arrived none 0)
    ∷ saw (arrived none 0)
    ∷ saw (arrived none 0)
    ∷ saw (arrived none 0)
    ∷ saw nothing_due
    ∷ saw (arrived none 0)
    ∷ saw (accepted 0)
    ∷ puts (sent 5) (hex 5 0x90008000af)
    ∷ saw (arrived none 0)
    ∷ puts (sent 7) (hex 7 0xb000000331ed10)
    ∷ saw (arrived none 0)
    ∷ saw (arrived none 0)
    ∷ saw ticked
    ∷ puts (sent 9) (hex 9 0xe00000060d79513a1f)
    ∷ saw (sent 0)
    ∷ saw (arrived none 0)
    ∷ saw (arrived none 0)
    ∷ saw (accepted 1)
    ∷ puts (sent 9) (hex 9 0xc0018001038d6062aa)
    ∷ saw (arrived none 0)
    ∷ saw (arrived none 0)
    ∷ saw (arrived none 0)
    ∷ saw (arrived none 0)
    ∷ saw (arrived none 0)
    ∷ saw (accepted 2)
    ∷ puts (sent 10) (hex 10 0xc0028002f63eaa3001d3)
    ∷ saw (arrived none 0)
    ∷ saw (arrived none 0)
    ∷ saw (sent 0)
    ∷ saw (arrived none 0)
    ∷ saw (arrived none 0)
    ∷ saw (sent 0)
    ∷ saw (arrived none 0)
    ∷ saw (sent 0)
    ∷ saw (sent 0)
    ∷ saw (arrived none 0)
    ∷ saw (arrived none 0)
    ∷ saw ticked
    ∷ saw ticked
    ∷ saw (arrived none 0)
    ∷ saw (sent 0)
    ∷ saw ticked
    ∷ saw (arrived none 0)
    ∷ saw (arrived none 0)
    ∷ saw (arrived none 0)
    ∷ saw (sent 0)
    ∷ saw (arrived none 0)
    ∷ saw (sent 0)
    ∷ saw (sent 0)
    ∷ saw (arrived none 0)
    ∷ saw (sent 0)
    ∷ saw (sent 0)
    ∷ saw (arrived none 0)
    ∷ saw (arrived none 0)
    ∷ saw (arrived none 0)
    ∷ saw (sent 0)
    ∷ saw (sent 0)
    ∷ saw (sent 0)
    ∷ saw (arrived none 0)
    ∷ saw (arrived none 0)
    ∷ saw (sent 0)
    ∷ saw (sent 0)
    ∷ saw (arrived none 0)
    ∷ saw (sent 0)
    ∷ saw (arrived none 0)
    ∷ saw (sent 0)
    ∷ saw (sent 0)
    ∷ saw (arrived none 0)
    ∷ saw (arrived none 0)
    ∷ saw (arrived none 0)
    ∷ saw (accepted 3)
    ∷ saw (arrived none 0)
    ∷ saw (arrived none 0)
    ∷ saw (arrived none 0)
    ∷ saw (sent 0)
    ∷ puts (sent 16) (hex 16 0xc0038003c2e06f921c9a4e2e4bda7cd0)
    ∷ saw (accepted 4)
    ∷ puts (sent 5) (hex 5 0x9004800476)
    ∷ puts (sent 7) (hex 7 0xb0040003ba192e)
    ∷ puts (sent 7) (hex 7 0xe00400064bc73a)
    ∷ saw (arrived handed_up 0)
    ∷ saw nothing_due
    ∷ saw ticked
    ∷ saw ticked
    ∷ saw (arrived none 0)
    ∷ saw (sent 0)
    ∷ saw (arrived kept 0)
    ∷ saw ticked
    ∷ saw (sent 0)
    ∷ saw (arrived discarded 0)
    ∷ saw ticked
    ∷ saw (arrived none 0)
    ∷ saw (accepted 5)
    ∷ saw (arrived discarded 0)
    ∷ puts (sent 14) (hex 14 0x9005800528b0f26537e8db9e2315)
    ∷ saw nothing_due
    ∷ puts (sent 3) (hex 3 0x000000)
    ∷ saw ticked
    ∷ puts (sent 6) (hex 6 0xe005000c6edd)
    ∷ saw (accepted 6)
    ∷ saw (arrived kept 0)
    ∷ saw ticked
    ∷ saw (arrived none 0)
    ∷ saw ticked
    ∷ saw ticked
    ∷ saw (accepted 7)
    ∷ puts (sent 12) (hex 12 0x800680063e1a81c2df569fbd)
    ∷ saw (arrived none 0)
    ∷ puts (sent 13) (hex 13 0xc007800703c58b65d5ef344094)
    ∷ saw (sent 0)
    ∷ saw ticked
    ∷ saw (arrived discarded 0)
    ∷ saw (arrived discarded 0)
    ∷ puts (sent 3) (hex 3 0x000000)
    ∷ saw (sent 0)
    ∷ saw (sent 0)
    ∷ saw (accepted 8)
    ∷ puts (sent 9) (hex 9 0xc0088008bcf5bee82d)
    ∷ saw (sent 0)
    ∷ saw (arrived taken 0)
    ∷ saw (sent 0)
    ∷ saw (arrived none 0)
    ∷ saw (accepted 9)
    ∷ saw ticked
    ∷ puts (sent 14) (hex 14 0xc0098009719d4424f628aa1ae26e)
    ∷ saw (arrived none 0)
    ∷ saw (arrived none 0)
    ∷ saw ticked
    ∷ saw ticked
    ∷ puts (sent 7) (hex 7 0x00028000080010)
    ∷ saw ticked
    ∷ saw (arrived none 0)
    ∷ saw (sent 0)
    ∷ saw (sent 0)
    ∷ saw (arrived none 0)
    ∷ saw ticked
    ∷ saw ticked
    ∷ saw (arrived none 0)
    ∷ saw (sent 0)
    ∷ saw ticked
    ∷ saw (arrived taken 0)
    ∷ puts (sent 13) (hex 13 0x80008000af31ed100d79513a1f)
    ∷ saw (sent 0)
    ∷ puts (sent 9) (hex 9 0xc0018001038d6062aa)
    ∷ saw ticked
    ∷ saw nothing_due
    ∷ saw ticked
    ∷ saw (arrived handed_up 0)
    ∷ saw ticked
    ∷ saw (accepted 10)
    ∷ saw (accepted 11)
    ∷ puts (sent 13) (hex 13 0x800a800a9926a249ab0b81f00d)
    ∷ saw (arrived discarded 0)
    ∷ saw (arrived none 0)
    ∷ saw (arrived none 0)
    ∷ saw (arrived none 0)
    ∷ saw (arrived none 0)
    ∷ saw (arrived none 0)
    ∷ saw (arrived none 0)
    ∷ saw nothing_due
    ∷ saw ticked
    ∷ saw (arrived none 0)
    ∷ saw (arrived none 0)
    ∷ saw (accepted 12)
    ∷ puts (sent 19) (hex 19 0x00068000080028004c0003ffff0054000cffff)
    ∷ saw ticked
    ∷ saw (arrived none 0)
    ∷ saw (arrived taken 0)
    ∷ saw (arrived none 0)
    ∷ puts (sent 11) (hex 11 0x90008000af31ed100d7951)
    ∷ puts (sent 6) (hex 6 0xa00000093a1f)
    ∷ puts (sent 7) (hex 7 0x90028002f63eaa)
    ∷ puts (sent 5) (hex 5 0xb002000530)
    ∷ saw nothing_due
    ∷ saw (arrived kept 0)
    ∷ puts (sent 6) (hex 6 0xa002000601d3)
    ∷ puts (sent 8) (hex 8 0xb0040003ba192e4b)
    ∷ []

abbrev pub end : Shown
end =
    record {
      pdcp_tx_next = 13;
      tx_next = 13;
      tx_next_ack = 0;
      polling = record { poll_sn = 9; pdu_without_poll = 1; owed = false; t_poll_retransmit = (running 6) };
      failed = false;
      sdus =
          record { acknowledged = false; marks = replicate 11 near.sent; retx_count = Some 1 }
          ∷ record { acknowledged = true; marks = replicate 7 near.sent; retx_count = Some 0 }
          ∷ record { acknowledged = false; marks = replicate 8 near.sent; retx_count = Some 0 }
          ∷ record { acknowledged = true; marks = replicate 14 near.sent; retx_count = None }
          ∷ record { acknowledged = false; marks = replicate 7 near.sent ++ replicate 2 near.pending; retx_count = Some 0 }
          ∷ record { acknowledged = false; marks = replicate 12 near.sent ++ replicate 2 near.pending; retx_count = Some 0 }
          ∷ record { acknowledged = false; marks = replicate 10 near.sent; retx_count = None }
          ∷ record { acknowledged = false; marks = replicate 11 near.sent; retx_count = None }
          ∷ record { acknowledged = false; marks = replicate 7 near.sent; retx_count = None }
          ∷ record { acknowledged = false; marks = replicate 12 near.sent; retx_count = None }
          ∷ record { acknowledged = false; marks = replicate 11 near.sent; retx_count = None }
          ∷ record { acknowledged = false; marks = replicate 4 near.unsent; retx_count = None }
          ∷ record { acknowledged = false; marks = replicate 7 near.unsent; retx_count = None }
          ∷ [];
      rx_next = 0;
      rx_next_highest = 6;
      rx_highest_status = 6;
      rx_next_status_trigger = 6;
      t_reassembly = (running 3);
      reporting = far.barred;
      t_status_prohibit = (running 1);
      polls = [];
      gaps = Some (record { nack_sn = 0; missing = span 0x0 0x8 } ∷ []) ∷ None ∷ Some (record { nack_sn = 2; missing = every } ∷ []) ∷ None ∷ Some (record { nack_sn = 4; missing = span 0x3 0xffff } ∷ []) ∷ Some (record { nack_sn = 5; missing = span 0xc 0xffff } ∷ []) ∷ [];
      rx_deliv = 0;
      pdcp_rx_next = 4;
      rx_reord = 4;
      t_reordering = endless;
      due = [];
      stored = 1 ∷ 3 ∷ [];
    }

abbrev pub Plays : Type 0
Plays = ((play settings turns new_link).seen ≡ answers) × (shown (play settings turns new_link).link ≡ end)
