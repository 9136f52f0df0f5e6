-- A worked series: polls that are repeated when t-PollRetransmit runs out, segments sent again, packets reordered.
use Rattle.std.specs.Prelude.{◌≡◌, true, false, List, [], ◌∷◌, replicate, Some, None}
use Rattle.protocol.specs.Bytes.{Bytes}
use Rattle.protocol.specs.Links.{Answer, new_link, accepted, sent, arrived, none, taken, discarded, handed_up, ticked, collected, nothing_due, refused}
use Rattle.protocol.specs.Receiving as far
use Rattle.protocol.specs.Refusals.{at}
use Rattle.protocol.specs.Sending as near
use Rattle.protocol.specs.Series.{hex, Turn, gives, near_grant, far_grant, near_arrival, far_arrival, near_tick, far_tick, collects, Seen, Shown, play, shown}
use Rattle.protocol.specs.Settings.{Settings}
use Rattle.protocol.specs.Timers.{stopped, running}
use Rattle.protocol.specs.declared.faults.Refusal.TheVariants.{GrantSize, PacketDue}

abbrev pub settings : Settings
settings =
    record {
      poll_pdu = (Some 5);
      max_retx = 8;
      t_poll_retransmit = 1;
      t_reassembly = 2;
      t_status_prohibit = 2;
      t_reordering = (Some 3);
    }

abbrev pub turns : List Turn
turns =
    (near_grant 83)
    ∷ (far_arrival None)
    ∷ (gives (hex 2 0x42d7))
    ∷ (near_arrival None)
    ∷ far_tick
    ∷ (near_grant 12)
    ∷ (far_arrival None)
    ∷ (far_grant 117)
    ∷ (near_grant 95)
    ∷ (far_arrival None)
    ∷ (gives (hex 1 0x19))
    ∷ collects
    ∷ near_tick
    ∷ (near_grant 11)
    ∷ (far_arrival None)
    ∷ far_tick
    ∷ far_tick
    ∷ near_tick
    ∷ (near_grant 62)
    ∷ (gives (hex 2 0xe45c))
    ∷ far_tick
    ∷ (near_arrival None)
    ∷ far_tick
    ∷ far_tick
    ∷ (near_arrival None)
    ∷ (far_arrival (Some (hex 5 0xc001800119)))
    ∷ (near_grant 33)
    ∷ (far_arrival (Some (hex 6 0xc0028002e45c)))
    ∷ (far_arrival None)
    ∷ (gives (hex 1 0x78))
    ∷ (far_arrival None)
    ∷ (far_arrival None)
    ∷ (gives (hex 1 0x09))
    ∷ (far_arrival None)
    ∷ (near_grant 7)
    ∷ (far_arrival (Some (hex 5 0x8003800378)))
    ∷ (near_arrival None)
    ∷ (gives (hex 1 0x81))
    ∷ (near_grant 72)
    ∷ (far_arrival (Some (hex 5 0x8004800409)))
    ∷ (near_grant 75)
    ∷ (near_grant 49)
    ∷ (far_arrival (Some (hex 5 0xc005800581)))
    ∷ (near_arrival None)
    ∷ (near_grant 64)
    ∷ near_tick
    ∷ near_tick
    ∷ (gives (hex 2 0x8df4))
    ∷ (far_arrival None)
    ∷ (far_arrival None)
    ∷ near_tick
    ∷ far_tick
    ∷ (gives (hex 1 0xee))
    ∷ (far_arrival None)
    ∷ far_tick
    ∷ (near_grant 112)
    ∷ far_tick
    ∷ (far_arrival None)
    ∷ (far_arrival None)
    ∷ collects
    ∷ far_tick
    ∷ collects
    ∷ collects
    ∷ collects
    ∷ collects
    ∷ (far_grant 51)
    ∷ (near_grant 117)
    ∷ (far_arrival (Some (hex 5 0xc005800581)))
    ∷ (gives (hex 1 0x47))
    ∷ (gives (hex 1 0xb1))
    ∷ (gives (hex 1 0xdf))
    ∷ (near_grant 59)
    ∷ (near_grant 16)
    ∷ near_tick
    ∷ (gives (hex 1 0x68))
    ∷ (far_arrival (Some (hex 5 0x80078007ee)))
    ∷ (near_grant 35)
    ∷ far_tick
    ∷ (near_arrival (Some (hex 5 0x0006800000)))
    ∷ (far_grant 56)
    ∷ (near_arrival None)
    ∷ (far_arrival (Some (hex 5 0xc0098009b1)))
    ∷ (near_grant 120)
    ∷ collects
    ∷ (near_grant 12)
    ∷ (near_arrival None)
    ∷ (near_grant 90)
    ∷ (far_arrival (Some (hex 5 0xc0098009b1)))
    ∷ (near_arrival None)
    ∷ far_tick
    ∷ (far_arrival (Some (hex 5 0xc00b800b68)))
    ∷ (far_arrival None)
    ∷ (near_grant 7)
    ∷ far_tick
    ∷ collects
    ∷ (near_grant 103)
    ∷ (far_arrival None)
    ∷ (far_arrival None)
    ∷ (near_grant 50)
    ∷ (near_arrival None)
    ∷ (near_grant 22)
    ∷ (far_arrival None)
    ∷ (far_arrival None)
    ∷ far_tick
    ∷ (near_grant 113)
    ∷ (near_arrival None)
    ∷ far_tick
    ∷ far_tick
    ∷ (gives (hex 1 0x95))
    ∷ collects
    ∷ collects
    ∷ near_tick
    ∷ (far_arrival None)
    ∷ (near_grant 53)
    ∷ (near_grant 97)
    ∷ (far_arrival (Some (hex 5 0xc00c800c95)))
    ∷ (far_grant 85)
    ∷ collects
    ∷ (near_grant 27)
    ∷ (far_arrival None)
    ∷ (far_grant 513)
    ∷ collects
    ∷ (far_grant 90)
    ∷ (far_arrival None)
    ∷ (near_grant 47)
    ∷ (near_grant 513)
    ∷ near_tick
    ∷ (far_arrival None)
    ∷ (near_arrival (Some (hex 11 0x000d8000080068008800a0)))
    ∷ (near_grant 93)
    ∷ (near_grant 21)
    ∷ (near_grant 103)
    ∷ (near_arrival None)
    ∷ (far_arrival (Some (hex 6 0x800680068df4)))
    ∷ (near_grant 12)
    ∷ (near_grant 40)
    ∷ (near_grant 85)
    ∷ (far_arrival (Some (hex 5 0x8008800847)))
    ∷ (near_arrival None)
    ∷ (far_grant 109)
    ∷ near_tick
    ∷ (near_arrival None)
    ∷ (near_grant 71)
    ∷ (near_grant 71)
    ∷ (near_grant 11)
    ∷ (far_arrival (Some (hex 5 0xc00a800adf)))
    ∷ near_tick
    ∷ far_tick
    ∷ far_tick
    ∷ far_tick
    ∷ (far_arrival (Some (hex 5 0xc00a800adf)))
    ∷ far_tick
    ∷ (gives (hex 1 0x0b))
    ∷ (far_arrival None)
    ∷ (far_arrival None)
    ∷ (near_arrival None)
    ∷ (far_grant 65)
    ∷ (near_grant 98)
    ∷ far_tick
    ∷ (near_arrival (Some (hex 5 0x000d800000)))
    ∷ (far_arrival (Some (hex 5 0xc00a800adf)))
    ∷ (far_grant 13)
    ∷ collects
    ∷ (far_arrival None)
    ∷ (near_grant 35)
    ∷ far_tick
    ∷ (near_grant 116)
    ∷ (near_arrival None)
    ∷ (near_grant 74)
    ∷ (gives (hex 2 0x9612))
    ∷ (far_grant 27)
    ∷ (near_arrival (Some (hex 5 0x000d800000)))
    ∷ (near_grant 99)
    ∷ (far_arrival (Some (hex 6 0x8000800042d7)))
    ∷ (near_grant 108)
    ∷ (near_arrival None)
    ∷ (gives (hex 1 0x62))
    ∷ (near_grant 39)
    ∷ (far_arrival (Some (hex 6 0xc00e800e9612)))
    ∷ (far_arrival (Some (hex 5 0xc00d800d0b)))
    ∷ []

abbrev saw : Answer → Seen
saw answer = record { answer = answer; puts = None; packet = [] }

abbrev puts : Answer → Bytes → Seen
puts answer pdu = record { answer = answer; puts = Some pdu; packet = [] }

abbrev hands : Answer → Bytes → Seen
hands answer packet = record { answer = answer; puts = None; packet = packet }

abbrev pub answers : List Seen
answers =
    saw (sent 0)
    ∷ saw (arrived none 0)
    ∷ saw (accepted 0)
    ∷ saw (arrived none 0)
    ∷ saw ticked
    ∷ puts (sent 6) (hex 6 0xc000800042d7)
    ∷ saw (arrived none 0)
    ∷ saw (sent 0)
    ∷ saw (sent 0)
    ∷ saw (arrived none 0)
    ∷ saw (accepted 1)
    ∷ saw nothing_due
    ∷ saw ticked
    ∷ puts (sent 5) (hex 5 0xc001800119)
    ∷ saw (arrived none 0)
    ∷ saw ticked
    ∷ saw ticked
    ∷ saw ticked
    ∷ puts (sent 5) (hex 5 0xc001800119)
    ∷ saw (accepted 2)
    ∷ saw ticked
    ∷ saw (arrived none 0)
    ∷ saw ticked
    ∷ saw ticked
    ∷ saw (arrived none 0)
    ∷ saw (arrived handed_up 0)
    ∷ puts (sent 6) (hex 6 0xc0028002e45c)
    ∷ saw (arrived handed_up 0)
    ∷ saw (arrived none 0)
    ∷ saw (accepted 3)
    ∷ saw (arrived none 0)
    ∷ saw (arrived none 0)
    ∷ saw (accepted 4)
    ∷ saw (arrived none 0)
    ∷ puts (sent 5) (hex 5 0x8003800378)
    ∷ saw (arrived handed_up 0)
    ∷ saw (arrived none 0)
    ∷ saw (accepted 5)
    ∷ puts (sent 5) (hex 5 0x8004800409)
    ∷ saw (arrived handed_up 0)
    ∷ puts (sent 5) (hex 5 0xc005800581)
    ∷ saw (sent 0)
    ∷ saw (arrived handed_up 0)
    ∷ saw (arrived none 0)
    ∷ saw (sent 0)
    ∷ saw ticked
    ∷ saw ticked
    ∷ saw (accepted 6)
    ∷ saw (arrived none 0)
    ∷ saw (arrived none 0)
    ∷ saw ticked
    ∷ saw ticked
    ∷ saw (accepted 7)
    ∷ saw (arrived none 0)
    ∷ saw ticked
    ∷ puts (sent 5) (hex 5 0xc005800581)
    ∷ saw ticked
    ∷ saw (refused (at PacketDue 0))
    ∷ saw (refused (at PacketDue 0))
    ∷ hands (collected 1) (hex 1 0x19)
    ∷ saw ticked
    ∷ hands (collected 2) (hex 2 0xe45c)
    ∷ hands (collected 1) (hex 1 0x78)
    ∷ hands (collected 1) (hex 1 0x09)
    ∷ hands (collected 1) (hex 1 0x81)
    ∷ puts (sent 5) (hex 5 0x0006800000)
    ∷ puts (sent 6) (hex 6 0x800680068df4)
    ∷ saw (arrived discarded 0)
    ∷ saw (accepted 8)
    ∷ saw (accepted 9)
    ∷ saw (accepted 10)
    ∷ puts (sent 5) (hex 5 0x80078007ee)
    ∷ puts (sent 5) (hex 5 0x8008800847)
    ∷ saw ticked
    ∷ saw (accepted 11)
    ∷ saw (arrived handed_up 0)
    ∷ puts (sent 5) (hex 5 0xc0098009b1)
    ∷ saw ticked
    ∷ saw (arrived taken 0)
    ∷ saw (sent 0)
    ∷ saw (arrived none 0)
    ∷ saw (arrived handed_up 0)
    ∷ puts (sent 6) (hex 6 0x8000800042d7)
    ∷ saw nothing_due
    ∷ puts (sent 5) (hex 5 0x800a800adf)
    ∷ saw (arrived none 0)
    ∷ puts (sent 5) (hex 5 0xc00b800b68)
    ∷ saw (arrived discarded 0)
    ∷ saw (arrived none 0)
    ∷ saw ticked
    ∷ saw (arrived handed_up 0)
    ∷ saw (arrived none 0)
    ∷ saw (sent 0)
    ∷ saw ticked
    ∷ hands (collected 1) (hex 1 0xee)
    ∷ saw (sent 0)
    ∷ saw (arrived none 0)
    ∷ saw (arrived none 0)
    ∷ saw (sent 0)
    ∷ saw (arrived none 0)
    ∷ saw (sent 0)
    ∷ saw (arrived none 0)
    ∷ saw (arrived none 0)
    ∷ saw ticked
    ∷ saw (sent 0)
    ∷ saw (arrived none 0)
    ∷ saw ticked
    ∷ saw ticked
    ∷ saw (accepted 12)
    ∷ hands (collected 1) (hex 1 0xb1)
    ∷ hands (collected 1) (hex 1 0x68)
    ∷ saw ticked
    ∷ saw (arrived none 0)
    ∷ puts (sent 5) (hex 5 0xc00c800c95)
    ∷ saw (sent 0)
    ∷ saw (arrived handed_up 1)
    ∷ puts (sent 11) (hex 11 0x000d8000080068008800a0)
    ∷ hands (collected 1) (hex 1 0x95)
    ∷ saw (sent 0)
    ∷ saw (arrived none 0)
    ∷ saw (refused (at GrantSize 0))
    ∷ saw nothing_due
    ∷ saw (sent 0)
    ∷ saw (arrived none 0)
    ∷ saw (sent 0)
    ∷ saw (refused (at GrantSize 0))
    ∷ saw ticked
    ∷ saw (arrived none 0)
    ∷ saw (arrived taken 0)
    ∷ puts (sent 6) (hex 6 0xc000800042d7)
    ∷ puts (sent 6) (hex 6 0x800680068df4)
    ∷ puts (sent 5) (hex 5 0x8008800847)
    ∷ saw (arrived none 0)
    ∷ saw (arrived handed_up 0)
    ∷ puts (sent 5) (hex 5 0xc00a800adf)
    ∷ saw (sent 0)
    ∷ saw (sent 0)
    ∷ saw (arrived handed_up 0)
    ∷ saw (arrived none 0)
    ∷ saw (sent 0)
    ∷ saw ticked
    ∷ saw (arrived none 0)
    ∷ puts (sent 5) (hex 5 0xc00a800adf)
    ∷ saw (sent 0)
    ∷ saw (sent 0)
    ∷ saw (arrived handed_up 0)
    ∷ saw ticked
    ∷ saw ticked
    ∷ saw ticked
    ∷ saw ticked
    ∷ saw (arrived discarded 0)
    ∷ saw ticked
    ∷ saw (accepted 13)
    ∷ saw (arrived none 0)
    ∷ saw (arrived none 0)
    ∷ saw (arrived none 0)
    ∷ puts (sent 5) (hex 5 0x000d800000)
    ∷ puts (sent 5) (hex 5 0xc00a800adf)
    ∷ saw ticked
    ∷ saw (arrived taken 0)
    ∷ saw (arrived discarded 0)
    ∷ saw (sent 0)
    ∷ saw nothing_due
    ∷ saw (arrived none 0)
    ∷ puts (sent 6) (hex 6 0x8000800042d7)
    ∷ saw ticked
    ∷ puts (sent 5) (hex 5 0xc00d800d0b)
    ∷ saw (arrived none 0)
    ∷ saw (sent 0)
    ∷ saw (accepted 14)
    ∷ puts (sent 5) (hex 5 0x000d800000)
    ∷ saw (arrived taken 0)
    ∷ puts (sent 6) (hex 6 0x8000800042d7)
    ∷ saw (arrived handed_up 0)
    ∷ puts (sent 6) (hex 6 0xc00e800e9612)
    ∷ saw (arrived none 0)
    ∷ saw (accepted 15)
    ∷ puts (sent 5) (hex 5 0xc00f800f62)
    ∷ saw (arrived handed_up 0)
    ∷ saw (arrived handed_up 2)
    ∷ []

abbrev pub end : Shown
end =
    record {
      pdcp_tx_next = 16;
      tx_next = 16;
      tx_next_ack = 0;
      polling = record { poll_sn = 15; pdu_without_poll = 0; owed = false; t_poll_retransmit = (running 1) };
      failed = false;
      sdus =
          record { acknowledged = false; marks = replicate 4 near.sent; retx_count = Some 3 }
          ∷ record { acknowledged = true; marks = replicate 3 near.sent; retx_count = Some 0 }
          ∷ record { acknowledged = true; marks = replicate 4 near.sent; retx_count = None }
          ∷ record { acknowledged = true; marks = replicate 3 near.sent; retx_count = None }
          ∷ record { acknowledged = true; marks = replicate 3 near.sent; retx_count = None }
          ∷ record { acknowledged = true; marks = replicate 3 near.sent; retx_count = Some 0 }
          ∷ record { acknowledged = true; marks = replicate 4 near.sent; retx_count = Some 0 }
          ∷ record { acknowledged = true; marks = replicate 3 near.sent; retx_count = None }
          ∷ record { acknowledged = true; marks = replicate 3 near.sent; retx_count = Some 0 }
          ∷ record { acknowledged = true; marks = replicate 3 near.sent; retx_count = None }
          ∷ record { acknowledged = true; marks = replicate 3 near.sent; retx_count = Some 2 }
          ∷ record { acknowledged = true; marks = replicate 3 near.sent; retx_count = None }
          ∷ record { acknowledged = true; marks = replicate 3 near.sent; retx_count = Some 0 }
          ∷ record { acknowledged = false; marks = replicate 3 near.sent; retx_count = None }
          ∷ record { acknowledged = false; marks = replicate 4 near.sent; retx_count = None }
          ∷ record { acknowledged = false; marks = replicate 3 near.sent; retx_count = None }
          ∷ [];
      rx_next = 15;
      rx_next_highest = 15;
      rx_highest_status = 15;
      rx_next_status_trigger = 15;
      t_reassembly = stopped;
      reporting = far.barred_wanted;
      t_status_prohibit = (running 2);
      polls = [];
      gaps = [];
      rx_deliv = 15;
      pdcp_rx_next = 15;
      rx_reord = 15;
      t_reordering = stopped;
      due = 13 ∷ 14 ∷ [];
      stored = [];
    }

abbrev pub Plays : Type 0
Plays = ((play settings turns new_link).seen ≡ answers) × (shown (play settings turns new_link).link ≡ end)
