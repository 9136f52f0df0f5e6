-- A worked series: t-Reordering runs out and packets are given up, gaps are reported by their bytes, the link fails.
use Rattle.std.specs.Prelude.{◌≡◌, true, false, List, [], ◌∷◌, ◌++◌, replicate, Some, None}
use Rattle.protocol.specs.Bytes.{Bytes}
use Rattle.protocol.specs.Links.{Answer, new_link, accepted, sent, arrived, none, taken, discarded, kept, handed_up, ticked, collected, nothing_due, refused}
use Rattle.protocol.specs.Pdus.{every, span}
use Rattle.protocol.specs.Receiving as far
use Rattle.protocol.specs.Refusals.{at}
use Rattle.protocol.specs.Sending as near
use Rattle.protocol.specs.Series.{hex, Turn, gives, near_grant, far_grant, near_arrival, far_arrival, near_tick, far_tick, collects, Seen, Shown, play, shown}
use Rattle.protocol.specs.Settings.{Settings}
use Rattle.protocol.specs.Timers.{stopped, running}
use Rattle.protocol.specs.declared.faults.Refusal.TheVariants.{LinkFailed, GrantSize}

abbrev pub settings : Settings
settings =
    record {
      poll_pdu = (Some 3);
      max_retx = 4;
      t_poll_retransmit = 8;
      t_reassembly = 5;
      t_status_prohibit = 4;
      t_reordering = (Some 4);
    }

abbrev pub turns : List Turn
turns =
    (gives (hex 4 0x6e514753))
    ∷ (gives (hex 12 0x4dcc15d04ed4155bf1f28891))
    ∷ (near_grant 6)
    ∷ (gives (hex 12 0x2078697b13ef8f58aa41a40c))
    ∷ (near_grant 5)
    ∷ (near_grant 512)
    ∷ (gives (hex 8 0xf773ddd356860981))
    ∷ (gives (hex 8 0xd4eb99665171fa85))
    ∷ (near_grant 6)
    ∷ (near_grant 512)
    ∷ (near_grant 1)
    ∷ (near_grant 513)
    ∷ (gives (hex 9 0xb0ecd2a90ed662dffc))
    ∷ (gives (hex 9 0x012c0222f8f51396a7))
    ∷ (gives (hex 1 0x01))
    ∷ (near_grant 6)
    ∷ (gives (hex 12 0x0e4fb2a406ae2503d0a418c1))
    ∷ (near_grant 511)
    ∷ (gives (hex 4 0x33cbfd6a))
    ∷ (near_grant 7)
    ∷ (near_grant 6)
    ∷ (gives (hex 11 0x313758e6b1f6547ebc6e89))
    ∷ (near_grant 20)
    ∷ (gives (hex 2 0x3329))
    ∷ (near_grant 5)
    ∷ (far_arrival (Some (hex 6 0xf0030005d356)))
    ∷ (far_arrival (Some (hex 7 0xa0030007860981)))
    ∷ (far_arrival (Some (hex 6 0xf0030005d356)))
    ∷ (near_grant 7)
    ∷ (far_arrival (Some (hex 6 0xf0030005d356)))
    ∷ (near_grant 512)
    ∷ collects
    ∷ collects
    ∷ (far_arrival (Some (hex 8 0xa00400065171fa85)))
    ∷ collects
    ∷ (near_grant 511)
    ∷ (far_arrival (Some (hex 6 0xf0030005d356)))
    ∷ collects
    ∷ collects
    ∷ collects
    ∷ (far_arrival (Some (hex 8 0xa00400065171fa85)))
    ∷ (near_grant 5)
    ∷ (far_arrival (Some (hex 8 0xa00400065171fa85)))
    ∷ (far_arrival None)
    ∷ collects
    ∷ (far_arrival None)
    ∷ (far_arrival None)
    ∷ (near_grant 20)
    ∷ collects
    ∷ (near_grant 7)
    ∷ far_tick
    ∷ near_tick
    ∷ far_tick
    ∷ far_tick
    ∷ far_tick
    ∷ far_tick
    ∷ far_tick
    ∷ (far_grant 7)
    ∷ (far_grant 5)
    ∷ far_tick
    ∷ far_tick
    ∷ near_tick
    ∷ far_tick
    ∷ near_tick
    ∷ (far_grant 7)
    ∷ far_tick
    ∷ (far_grant 512)
    ∷ near_tick
    ∷ far_tick
    ∷ (far_grant 11)
    ∷ (far_grant 16)
    ∷ far_tick
    ∷ far_tick
    ∷ far_tick
    ∷ near_tick
    ∷ (near_arrival (Some (hex 21 0x000580000800180028003c00000004004400000005)))
    ∷ (far_grant 8)
    ∷ (near_arrival (Some (hex 7 0x00028000080010)))
    ∷ (far_grant 7)
    ∷ (near_arrival (Some (hex 7 0x00028000080010)))
    ∷ (far_grant 7)
    ∷ far_tick
    ∷ (near_grant 7)
    ∷ (near_arrival (Some (hex 7 0x00028000080010)))
    ∷ (near_grant 511)
    ∷ far_tick
    ∷ (near_grant 5)
    ∷ (near_arrival (Some (hex 7 0x00028000080010)))
    ∷ (near_grant 6)
    ∷ (far_grant 472)
    ∷ far_tick
    ∷ (near_grant 7)
    ∷ far_tick
    ∷ (far_grant 20)
    ∷ far_tick
    ∷ (near_arrival (Some (hex 7 0x00028000080010)))
    ∷ (near_grant 7)
    ∷ far_tick
    ∷ far_tick
    ∷ (near_arrival (Some (hex 7 0x00028000080010)))
    ∷ (gives (hex 12 0xd2a5b7ea425f4ded3bf611db))
    ∷ (gives (hex 12 0xd2a5b7ea425f4ded3bf611db))
    ∷ (gives (hex 12 0xd2a5b7ea425f4ded3bf611db))
    ∷ (gives (hex 12 0xd2a5b7ea425f4ded3bf611db))
    ∷ (near_grant 5)
    ∷ (near_grant 7)
    ∷ (near_grant 511)
    ∷ (near_grant 5)
    ∷ (near_grant 511)
    ∷ (near_grant 7)
    ∷ (near_grant 32)
    ∷ (near_grant 512)
    ∷ (near_grant 511)
    ∷ (near_grant 32)
    ∷ (gives (hex 12 0xd2a5b7ea425f4ded3bf611db))
    ∷ (near_grant 0)
    ∷ (near_grant 450)
    ∷ (near_grant 20)
    ∷ (near_grant 511)
    ∷ (near_grant 20)
    ∷ (near_grant 7)
    ∷ (near_grant 20)
    ∷ (near_grant 6)
    ∷ (near_grant 90)
    ∷ (gives (hex 12 0xd2a5b7ea425f4ded3bf611db))
    ∷ collects
    ∷ (near_grant 512)
    ∷ (far_arrival (Some (hex 7 0x900080006e5147)))
    ∷ (far_arrival (Some (hex 12 0xa00600032c0222f8f51396a7)))
    ∷ (far_arrival (Some (hex 5 0x8007800701)))
    ∷ (far_arrival (Some (hex 6 0x900080006e51)))
    ∷ (far_arrival (Some (hex 7 0x900080006e5147)))
    ∷ (near_grant 265)
    ∷ (far_arrival (Some (hex 5 0x900180014d)))
    ∷ (far_arrival None)
    ∷ collects
    ∷ (far_arrival None)
    ∷ (far_arrival None)
    ∷ collects
    ∷ (near_grant 27)
    ∷ collects
    ∷ (far_arrival None)
    ∷ (near_grant 8191)
    ∷ (far_arrival None)
    ∷ (far_arrival None)
    ∷ (far_arrival None)
    ∷ (far_arrival None)
    ∷ (far_arrival None)
    ∷ (near_grant 466)
    ∷ collects
    ∷ near_tick
    ∷ far_tick
    ∷ near_tick
    ∷ far_tick
    ∷ (far_grant 16)
    ∷ near_tick
    ∷ (far_grant 511)
    ∷ far_tick
    ∷ (far_grant 75)
    ∷ far_tick
    ∷ collects
    ∷ far_tick
    ∷ far_tick
    ∷ far_tick
    ∷ far_tick
    ∷ (far_grant 7)
    ∷ far_tick
    ∷ near_tick
    ∷ (far_grant 511)
    ∷ near_tick
    ∷ far_tick
    ∷ near_tick
    ∷ (far_grant 16)
    ∷ (far_grant 7)
    ∷ near_tick
    ∷ far_tick
    ∷ (near_arrival (Some (hex 3 0x000000)))
    ∷ (far_grant 20)
    ∷ (near_grant 512)
    ∷ (far_grant 13)
    ∷ []

abbrev saw : Answer → Seen
saw answer = record { answer = answer; puts = None; packet = [] }

abbrev puts : Answer → Bytes → Seen
puts answer pdu = record { answer = answer; puts = Some pdu; packet = [] }

abbrev hands : Answer → Bytes → Seen
hands answer packet = record { answer = answer; puts = None; packet = packet }

abbrev pub answers : List Seen
answers =
    saw (accepted 0)
    ∷ saw (accepted 1)
    ∷ puts (sent 6) (hex 6 0x900080006e51)
    ∷ saw (accepted 2)
    ∷ puts (sent 5) (hex 5 0xb000000447)
    ∷ puts (sent 5) (hex 5 0xe000000553)
    ∷ saw (accepted 3)
    ∷ saw (accepted 4)
    ∷ puts (sent 6) (hex 6 0x900180014dcc)
    ∷ puts (sent 14) (hex 14 0xa001000415d04ed4155bf1f28891)
    ∷ saw (refused (at GrantSize 0))
    ∷ saw (refused (at GrantSize 0))
    ∷ saw (accepted 5)
    ∷ saw (accepted 6)
    ∷ saw (accepted 7)
    ∷ puts (sent 6) (hex 6 0xd00280022078)
    ∷ saw (accepted 8)
    ∷ puts (sent 14) (hex 14 0xa0020004697b13ef8f58aa41a40c)
    ∷ saw (accepted 9)
    ∷ puts (sent 7) (hex 7 0x90038003f773dd)
    ∷ puts (sent 6) (hex 6 0xf0030005d356)
    ∷ saw (accepted 10)
    ∷ puts (sent 7) (hex 7 0xa0030007860981)
    ∷ saw (accepted 11)
    ∷ puts (sent 5) (hex 5 0x90048004d4)
    ∷ saw (arrived kept 0)
    ∷ saw (arrived kept 0)
    ∷ saw (arrived discarded 0)
    ∷ puts (sent 7) (hex 7 0xf0040003eb9966)
    ∷ saw (arrived discarded 0)
    ∷ puts (sent 8) (hex 8 0xa00400065171fa85)
    ∷ saw nothing_due
    ∷ saw nothing_due
    ∷ saw (arrived kept 0)
    ∷ saw nothing_due
    ∷ puts (sent 13) (hex 13 0x80058005b0ecd2a90ed662dffc)
    ∷ saw (arrived discarded 0)
    ∷ saw nothing_due
    ∷ saw nothing_due
    ∷ saw nothing_due
    ∷ saw (arrived discarded 0)
    ∷ puts (sent 5) (hex 5 0xd006800601)
    ∷ saw (arrived discarded 0)
    ∷ saw (arrived none 0)
    ∷ saw nothing_due
    ∷ saw (arrived none 0)
    ∷ saw (arrived none 0)
    ∷ puts (sent 12) (hex 12 0xa00600032c0222f8f51396a7)
    ∷ saw nothing_due
    ∷ puts (sent 5) (hex 5 0x8007800701)
    ∷ saw ticked
    ∷ saw ticked
    ∷ saw ticked
    ∷ saw ticked
    ∷ saw ticked
    ∷ saw ticked
    ∷ saw ticked
    ∷ puts (sent 7) (hex 7 0x00028000080010)
    ∷ saw (sent 0)
    ∷ saw ticked
    ∷ saw ticked
    ∷ saw ticked
    ∷ saw ticked
    ∷ saw ticked
    ∷ saw (sent 0)
    ∷ saw ticked
    ∷ puts (sent 21) (hex 21 0x000580000800180028003c00000004004400000005)
    ∷ saw ticked
    ∷ saw ticked
    ∷ saw (sent 0)
    ∷ saw (sent 0)
    ∷ saw ticked
    ∷ saw ticked
    ∷ saw ticked
    ∷ saw ticked
    ∷ saw (arrived taken 0)
    ∷ saw (sent 0)
    ∷ saw (arrived taken 0)
    ∷ saw (sent 0)
    ∷ saw (arrived taken 0)
    ∷ saw (sent 0)
    ∷ saw ticked
    ∷ puts (sent 7) (hex 7 0x900080006e5147)
    ∷ saw (arrived taken 0)
    ∷ puts (sent 8) (hex 8 0x800080006e514753)
    ∷ saw ticked
    ∷ puts (sent 5) (hex 5 0x900180014d)
    ∷ saw (arrived taken 0)
    ∷ puts (sent 6) (hex 6 0x900080006e51)
    ∷ saw (sent 0)
    ∷ saw ticked
    ∷ puts (sent 6) (hex 6 0xa00000044753)
    ∷ saw ticked
    ∷ saw (sent 0)
    ∷ saw ticked
    ∷ saw (arrived taken 0)
    ∷ puts (sent 7) (hex 7 0x900080006e5147)
    ∷ saw ticked
    ∷ saw ticked
    ∷ saw (arrived taken 0)
    ∷ saw (refused (at LinkFailed 0))
    ∷ saw (refused (at LinkFailed 0))
    ∷ saw (refused (at LinkFailed 0))
    ∷ saw (refused (at LinkFailed 0))
    ∷ saw (refused (at LinkFailed 0))
    ∷ saw (refused (at LinkFailed 0))
    ∷ saw (refused (at LinkFailed 0))
    ∷ saw (refused (at LinkFailed 0))
    ∷ saw (refused (at LinkFailed 0))
    ∷ saw (refused (at LinkFailed 0))
    ∷ saw (refused (at LinkFailed 0))
    ∷ saw (refused (at LinkFailed 0))
    ∷ saw (refused (at LinkFailed 0))
    ∷ saw (refused (at LinkFailed 0))
    ∷ saw (refused (at LinkFailed 0))
    ∷ saw (refused (at GrantSize 0))
    ∷ saw (refused (at LinkFailed 0))
    ∷ saw (refused (at LinkFailed 0))
    ∷ saw (refused (at LinkFailed 0))
    ∷ saw (refused (at LinkFailed 0))
    ∷ saw (refused (at LinkFailed 0))
    ∷ saw (refused (at LinkFailed 0))
    ∷ saw (refused (at LinkFailed 0))
    ∷ saw (refused (at LinkFailed 0))
    ∷ saw (refused (at LinkFailed 0))
    ∷ saw nothing_due
    ∷ saw (refused (at LinkFailed 0))
    ∷ saw (arrived kept 0)
    ∷ saw (arrived kept 0)
    ∷ saw (arrived handed_up 0)
    ∷ saw (arrived discarded 0)
    ∷ saw (arrived discarded 0)
    ∷ saw (refused (at LinkFailed 0))
    ∷ saw (arrived kept 0)
    ∷ saw (arrived none 0)
    ∷ saw nothing_due
    ∷ saw (arrived none 0)
    ∷ saw (arrived none 0)
    ∷ saw nothing_due
    ∷ saw (refused (at LinkFailed 0))
    ∷ saw nothing_due
    ∷ saw (arrived none 0)
    ∷ saw (refused (at GrantSize 0))
    ∷ saw (arrived none 0)
    ∷ saw (arrived none 0)
    ∷ saw (arrived none 0)
    ∷ saw (arrived none 0)
    ∷ saw (arrived none 0)
    ∷ saw (refused (at LinkFailed 0))
    ∷ saw nothing_due
    ∷ saw ticked
    ∷ saw ticked
    ∷ saw ticked
    ∷ saw ticked
    ∷ saw (sent 0)
    ∷ saw ticked
    ∷ saw (sent 0)
    ∷ saw ticked
    ∷ saw (sent 0)
    ∷ saw ticked
    ∷ hands (collected 1) (hex 1 0x01)
    ∷ saw ticked
    ∷ saw ticked
    ∷ saw ticked
    ∷ saw ticked
    ∷ puts (sent 3) (hex 3 0x000000)
    ∷ saw ticked
    ∷ saw ticked
    ∷ saw (sent 0)
    ∷ saw ticked
    ∷ saw ticked
    ∷ saw ticked
    ∷ saw (sent 0)
    ∷ saw (sent 0)
    ∷ saw ticked
    ∷ saw ticked
    ∷ saw (arrived taken 0)
    ∷ saw (sent 0)
    ∷ saw (refused (at LinkFailed 0))
    ∷ saw (sent 0)
    ∷ []

abbrev pub end : Shown
end =
    record {
      pdcp_tx_next = 12;
      tx_next = 12;
      tx_next_ack = 0;
      polling = record { poll_sn = 6; pdu_without_poll = 2; owed = true; t_poll_retransmit = stopped };
      failed = true;
      sdus =
          record { acknowledged = false; marks = replicate 6 near.pending; retx_count = Some 4 }
          ∷ record { acknowledged = false; marks = replicate 14 near.pending; retx_count = Some 1 }
          ∷ record { acknowledged = false; marks = replicate 14 near.pending; retx_count = Some 0 }
          ∷ record { acknowledged = false; marks = replicate 5 near.pending ++ replicate 5 near.sent; retx_count = Some 0 }
          ∷ record { acknowledged = false; marks = replicate 6 near.pending ++ replicate 4 near.sent; retx_count = Some 0 }
          ∷ record { acknowledged = false; marks = replicate 11 near.sent; retx_count = None }
          ∷ record { acknowledged = false; marks = replicate 11 near.sent; retx_count = None }
          ∷ record { acknowledged = false; marks = replicate 3 near.sent; retx_count = None }
          ∷ record { acknowledged = false; marks = replicate 14 near.unsent; retx_count = None }
          ∷ record { acknowledged = false; marks = replicate 6 near.unsent; retx_count = None }
          ∷ record { acknowledged = false; marks = replicate 13 near.unsent; retx_count = None }
          ∷ record { acknowledged = false; marks = replicate 4 near.unsent; retx_count = None }
          ∷ [];
      rx_next = 0;
      rx_next_highest = 8;
      rx_highest_status = 8;
      rx_next_status_trigger = 8;
      t_reassembly = stopped;
      reporting = far.barred_wanted;
      t_status_prohibit = (running 1);
      polls = [];
      gaps = Some (record { nack_sn = 0; missing = span 0x5 0xffff } ∷ []) ∷ Some (record { nack_sn = 1; missing = span 0x3 0xffff } ∷ []) ∷ Some (record { nack_sn = 2; missing = every } ∷ []) ∷ Some (record { nack_sn = 3; missing = span 0x0 0x4 } ∷ []) ∷ Some (record { nack_sn = 4; missing = span 0x0 0x5 } ∷ []) ∷ Some (record { nack_sn = 5; missing = every } ∷ []) ∷ Some (record { nack_sn = 6; missing = span 0x0 0x2 } ∷ []) ∷ None ∷ [];
      rx_deliv = 8;
      pdcp_rx_next = 8;
      rx_reord = 8;
      t_reordering = stopped;
      due = [];
      stored = [];
    }

abbrev pub Plays : Type 0
Plays = ((play settings turns new_link).seen ≡ answers) × (shown (play settings turns new_link).link ≡ end)
