-- A worked series: packets over airs that lose and reorder, reports with entries, acknowledgements out of order, a link that fails.
use Rattle.std.specs.Prelude.{◌≡◌, true, false, List, [], ◌∷◌, ◌++◌, replicate, Some, None}
use Rattle.protocol.specs.Bytes.{Bytes}
use Rattle.protocol.specs.Links.{Answer, new_link, accepted, sent, arrived, none, stale_report, taken, discarded, kept, handed_up, ticked, collected, nothing_due, refused}
use Rattle.protocol.specs.Pdus.{every}
use Rattle.protocol.specs.Receiving as far
use Rattle.protocol.specs.Refusals.{at}
use Rattle.protocol.specs.Sending as near
use Rattle.protocol.specs.Series.{hex, Turn, gives, near_grant, far_grant, near_arrival, far_arrival, near_tick, far_tick, collects, Seen, Shown, play, shown}
use Rattle.protocol.specs.Settings.{Settings}
use Rattle.protocol.specs.Timers.{stopped, running, endless}
use Rattle.protocol.specs.declared.faults.Refusal.TheVariants.{LinkFailed}

abbrev pub settings : Settings
settings =
    record {
      poll_pdu = (Some 3);
      max_retx = 2;
      t_poll_retransmit = 3;
      t_reassembly = 3;
      t_status_prohibit = 2;
      t_reordering = None;
    }

abbrev pub turns : List Turn
turns =
    collects
    ∷ (gives (hex 10 0x099f773fab284949ece8))
    ∷ (far_arrival None)
    ∷ far_tick
    ∷ (far_grant 24)
    ∷ (near_arrival None)
    ∷ (far_arrival None)
    ∷ far_tick
    ∷ (far_grant 22)
    ∷ (far_arrival None)
    ∷ (near_arrival None)
    ∷ (far_grant 14)
    ∷ collects
    ∷ (far_grant 5)
    ∷ (far_arrival None)
    ∷ (near_arrival None)
    ∷ (near_grant 19)
    ∷ (near_arrival None)
    ∷ collects
    ∷ (near_arrival None)
    ∷ (far_grant 18)
    ∷ (gives (hex 5 0xa81be595ee))
    ∷ (gives (hex 7 0xe0ed54fb27d80a))
    ∷ (near_arrival None)
    ∷ (near_grant 21)
    ∷ (far_arrival (Some (hex 9 0x80018001a81be595ee)))
    ∷ (near_grant 19)
    ∷ (near_grant 11)
    ∷ collects
    ∷ (far_grant 11)
    ∷ (gives (hex 8 0x95ee4e906d7ffe94))
    ∷ far_tick
    ∷ (far_arrival (Some (hex 9 0x80018001a81be595ee)))
    ∷ (far_grant 8)
    ∷ (far_grant 12)
    ∷ (gives (hex 12 0x93f9b3f8658300bbf67606d8))
    ∷ (near_grant 9)
    ∷ (gives (hex 9 0x8e6624d2df1a166e77))
    ∷ (near_grant 17)
    ∷ (far_grant 6)
    ∷ near_tick
    ∷ (near_grant 6)
    ∷ (near_arrival None)
    ∷ (far_arrival (Some (hex 9 0x80018001a81be595ee)))
    ∷ far_tick
    ∷ (far_arrival (Some (hex 11 0xc0028002e0ed54fb27d80a)))
    ∷ (gives (hex 7 0xc923c70cf815ee))
    ∷ (near_grant 18)
    ∷ far_tick
    ∷ (gives (hex 5 0xe37c519bd0))
    ∷ (far_arrival (Some (hex 9 0x9003800395ee4e906d)))
    ∷ (far_arrival (Some (hex 6 0xd004800493f9)))
    ∷ (far_arrival (Some (hex 14 0xc0008000099f773fab284949ece8)))
    ∷ collects
    ∷ collects
    ∷ collects
    ∷ (far_arrival (Some (hex 14 0xc0008000099f773fab284949ece8)))
    ∷ (far_grant 15)
    ∷ (near_arrival (Some (hex 3 0x000300)))
    ∷ far_tick
    ∷ far_tick
    ∷ (near_grant 9)
    ∷ (gives (hex 5 0x7970f86f0a))
    ∷ (far_arrival (Some (hex 9 0x900580058e6624d2df)))
    ∷ (near_grant 9)
    ∷ collects
    ∷ (far_arrival (Some (hex 7 0xa00300077ffe94)))
    ∷ collects
    ∷ (near_grant 18)
    ∷ (far_grant 12)
    ∷ far_tick
    ∷ (near_arrival (Some (hex 3 0x000300)))
    ∷ collects
    ∷ far_tick
    ∷ (far_grant 17)
    ∷ (far_grant 12)
    ∷ (gives (hex 3 0xad9248))
    ∷ (near_grant 11)
    ∷ (far_grant 16)
    ∷ (far_grant 7)
    ∷ (near_grant 18)
    ∷ (far_arrival (Some (hex 11 0x80068006c923c70cf815ee)))
    ∷ (near_grant 5)
    ∷ (near_grant 15)
    ∷ near_tick
    ∷ far_tick
    ∷ (near_arrival (Some (hex 3 0x000300)))
    ∷ (near_arrival (Some (hex 3 0x000300)))
    ∷ (near_grant 23)
    ∷ (near_grant 18)
    ∷ (far_grant 11)
    ∷ (far_arrival (Some (hex 6 0xd004800493f9)))
    ∷ (gives (hex 1 0xb5))
    ∷ (near_grant 21)
    ∷ (near_arrival (Some (hex 9 0x00058000440004ffff)))
    ∷ (near_grant 6)
    ∷ (far_grant 18)
    ∷ (near_grant 16)
    ∷ (gives (hex 4 0x3a320214))
    ∷ (near_grant 14)
    ∷ near_tick
    ∷ (far_arrival (Some (hex 8 0xe00500071a166e77)))
    ∷ (near_arrival (Some (hex 9 0x00058000440004ffff)))
    ∷ (gives (hex 7 0x15e7420813e3ed))
    ∷ (gives (hex 7 0xdcbc2abefc218c))
    ∷ (far_grant 13)
    ∷ far_tick
    ∷ far_tick
    ∷ (far_arrival (Some (hex 5 0x90098009ad)))
    ∷ (far_arrival (Some (hex 8 0xe00500071a166e77)))
    ∷ far_tick
    ∷ (gives (hex 6 0x0e0d7c38cba0))
    ∷ (near_grant 23)
    ∷ (near_arrival (Some (hex 9 0x00058000440004ffff)))
    ∷ (far_grant 14)
    ∷ far_tick
    ∷ (near_grant 24)
    ∷ (far_grant 5)
    ∷ (near_arrival (Some (hex 9 0x00078000440004ffff)))
    ∷ (near_grant 18)
    ∷ (near_grant 9)
    ∷ far_tick
    ∷ collects
    ∷ (near_arrival (Some (hex 9 0x00078000440004ffff)))
    ∷ (near_arrival (Some (hex 9 0x00078000440004ffff)))
    ∷ (near_arrival (Some (hex 9 0x00078000440004ffff)))
    ∷ (near_arrival (Some (hex 9 0x00058000440004ffff)))
    ∷ (near_arrival (Some (hex 3 0x000300)))
    ∷ (near_grant 14)
    ∷ far_tick
    ∷ (near_grant 21)
    ∷ (near_arrival (Some (hex 9 0x00078000440004ffff)))
    ∷ near_tick
    ∷ (far_grant 8)
    ∷ (near_grant 10)
    ∷ far_tick
    ∷ (near_arrival (Some (hex 9 0x00078000440004ffff)))
    ∷ collects
    ∷ (near_grant 22)
    ∷ (near_arrival (Some (hex 9 0x00078000440004ffff)))
    ∷ (near_grant 13)
    ∷ (near_arrival (Some (hex 3 0x000400)))
    ∷ (near_grant 16)
    ∷ (near_grant 12)
    ∷ (near_grant 20)
    ∷ collects
    ∷ (near_grant 17)
    ∷ (near_grant 24)
    ∷ far_tick
    ∷ (near_arrival (Some (hex 9 0x00078000440004ffff)))
    ∷ (far_arrival (Some (hex 14 0xa0040004b3f8658300bbf67606d8)))
    ∷ collects
    ∷ collects
    ∷ collects
    ∷ (near_grant 6)
    ∷ (near_grant 6)
    ∷ (far_arrival (Some (hex 6 0xe00900039248)))
    ∷ (near_arrival (Some (hex 3 0x000300)))
    ∷ (far_arrival (Some (hex 6 0xe00900039248)))
    ∷ (far_arrival (Some (hex 14 0xa0040004b3f8658300bbf67606d8)))
    ∷ (near_grant 17)
    ∷ (near_arrival (Some (hex 3 0x000400)))
    ∷ collects
    ∷ far_tick
    ∷ far_tick
    ∷ near_tick
    ∷ (far_grant 7)
    ∷ (near_arrival (Some (hex 3 0x000400)))
    ∷ (far_arrival (Some (hex 14 0xa0040004b3f8658300bbf67606d8)))
    ∷ (near_grant 23)
    ∷ (far_grant 14)
    ∷ (near_grant 18)
    ∷ (near_grant 12)
    ∷ []

abbrev saw : Answer → Seen
saw answer = record { answer = answer; puts = None; packet = [] }

abbrev puts : Answer → Bytes → Seen
puts answer pdu = record { answer = answer; puts = Some pdu; packet = [] }

abbrev hands : Answer → Bytes → Seen
hands answer packet = record { answer = answer; puts = None; packet = packet }

abbrev pub answers : List Seen
answers =
    saw nothing_due
    ∷ saw (accepted 0)
    ∷ saw (arrived none 0)
    ∷ saw ticked
    ∷ saw (sent 0)
    ∷ saw (arrived none 0)
    ∷ saw (arrived none 0)
    ∷ saw ticked
    ∷ saw (sent 0)
    ∷ saw (arrived none 0)
    ∷ saw (arrived none 0)
    ∷ saw (sent 0)
    ∷ saw nothing_due
    ∷ saw (sent 0)
    ∷ saw (arrived none 0)
    ∷ saw (arrived none 0)
    ∷ puts (sent 14) (hex 14 0xc0008000099f773fab284949ece8)
    ∷ saw (arrived none 0)
    ∷ saw nothing_due
    ∷ saw (arrived none 0)
    ∷ saw (sent 0)
    ∷ saw (accepted 1)
    ∷ saw (accepted 2)
    ∷ saw (arrived none 0)
    ∷ puts (sent 9) (hex 9 0x80018001a81be595ee)
    ∷ saw (arrived handed_up 0)
    ∷ puts (sent 11) (hex 11 0xc0028002e0ed54fb27d80a)
    ∷ saw (sent 0)
    ∷ saw nothing_due
    ∷ saw (sent 0)
    ∷ saw (accepted 3)
    ∷ saw ticked
    ∷ saw (arrived discarded 0)
    ∷ saw (sent 0)
    ∷ saw (sent 0)
    ∷ saw (accepted 4)
    ∷ puts (sent 9) (hex 9 0x9003800395ee4e906d)
    ∷ saw (accepted 5)
    ∷ puts (sent 7) (hex 7 0xa00300077ffe94)
    ∷ saw (sent 0)
    ∷ saw ticked
    ∷ puts (sent 6) (hex 6 0xd004800493f9)
    ∷ saw (arrived none 0)
    ∷ saw (arrived discarded 0)
    ∷ saw ticked
    ∷ saw (arrived handed_up 0)
    ∷ saw (accepted 6)
    ∷ puts (sent 14) (hex 14 0xa0040004b3f8658300bbf67606d8)
    ∷ saw ticked
    ∷ saw (accepted 7)
    ∷ saw (arrived kept 0)
    ∷ saw (arrived kept 0)
    ∷ saw (arrived handed_up 3)
    ∷ hands (collected 10) (hex 10 0x099f773fab284949ece8)
    ∷ hands (collected 5) (hex 5 0xa81be595ee)
    ∷ hands (collected 7) (hex 7 0xe0ed54fb27d80a)
    ∷ saw (arrived discarded 0)
    ∷ puts (sent 3) (hex 3 0x000300)
    ∷ saw (arrived taken 0)
    ∷ saw ticked
    ∷ saw ticked
    ∷ puts (sent 9) (hex 9 0x900580058e6624d2df)
    ∷ saw (accepted 8)
    ∷ saw (arrived kept 0)
    ∷ puts (sent 8) (hex 8 0xe00500071a166e77)
    ∷ saw nothing_due
    ∷ saw (arrived handed_up 1)
    ∷ hands (collected 8) (hex 8 0x95ee4e906d7ffe94)
    ∷ puts (sent 11) (hex 11 0x80068006c923c70cf815ee)
    ∷ saw (sent 0)
    ∷ saw ticked
    ∷ saw (arrived taken 0)
    ∷ saw nothing_due
    ∷ saw ticked
    ∷ saw (sent 0)
    ∷ saw (sent 0)
    ∷ saw (accepted 9)
    ∷ puts (sent 9) (hex 9 0x80078007e37c519bd0)
    ∷ saw (sent 0)
    ∷ saw (sent 0)
    ∷ puts (sent 9) (hex 9 0xc00880087970f86f0a)
    ∷ saw (arrived handed_up 0)
    ∷ puts (sent 5) (hex 5 0x90098009ad)
    ∷ puts (sent 6) (hex 6 0xe00900039248)
    ∷ saw ticked
    ∷ saw ticked
    ∷ saw (arrived taken 0)
    ∷ saw (arrived taken 0)
    ∷ saw (sent 0)
    ∷ saw (sent 0)
    ∷ puts (sent 9) (hex 9 0x00058000440004ffff)
    ∷ saw (arrived discarded 0)
    ∷ saw (accepted 10)
    ∷ puts (sent 5) (hex 5 0xc00a800ab5)
    ∷ saw (arrived taken 0)
    ∷ puts (sent 6) (hex 6 0xb0040004b3f8)
    ∷ saw (sent 0)
    ∷ puts (sent 12) (hex 12 0xe0040006658300bbf67606d8)
    ∷ saw (accepted 11)
    ∷ puts (sent 8) (hex 8 0xc00b800b3a320214)
    ∷ saw ticked
    ∷ saw (arrived handed_up 0)
    ∷ saw (arrived taken 0)
    ∷ saw (accepted 12)
    ∷ saw (accepted 13)
    ∷ saw (sent 0)
    ∷ saw ticked
    ∷ saw ticked
    ∷ saw (arrived kept 0)
    ∷ saw (arrived discarded 0)
    ∷ saw ticked
    ∷ saw (accepted 14)
    ∷ puts (sent 14) (hex 14 0xa0040004b3f8658300bbf67606d8)
    ∷ saw (arrived taken 0)
    ∷ puts (sent 9) (hex 9 0x00078000440004ffff)
    ∷ saw ticked
    ∷ saw (refused (at LinkFailed 0))
    ∷ saw (sent 0)
    ∷ saw (arrived taken 0)
    ∷ saw (refused (at LinkFailed 0))
    ∷ saw (refused (at LinkFailed 0))
    ∷ saw ticked
    ∷ saw nothing_due
    ∷ saw (arrived taken 0)
    ∷ saw (arrived taken 0)
    ∷ saw (arrived taken 0)
    ∷ saw (arrived taken 0)
    ∷ saw (arrived stale_report 0)
    ∷ saw (refused (at LinkFailed 0))
    ∷ saw ticked
    ∷ saw (refused (at LinkFailed 0))
    ∷ saw (arrived taken 0)
    ∷ saw ticked
    ∷ puts (sent 3) (hex 3 0x000400)
    ∷ saw (refused (at LinkFailed 0))
    ∷ saw ticked
    ∷ saw (arrived taken 0)
    ∷ saw nothing_due
    ∷ saw (refused (at LinkFailed 0))
    ∷ saw (arrived taken 0)
    ∷ saw (refused (at LinkFailed 0))
    ∷ saw (arrived taken 0)
    ∷ saw (refused (at LinkFailed 0))
    ∷ saw (refused (at LinkFailed 0))
    ∷ saw (refused (at LinkFailed 0))
    ∷ saw nothing_due
    ∷ saw (refused (at LinkFailed 0))
    ∷ saw (refused (at LinkFailed 0))
    ∷ saw ticked
    ∷ saw (arrived taken 0)
    ∷ saw (arrived handed_up 3)
    ∷ hands (collected 12) (hex 12 0x93f9b3f8658300bbf67606d8)
    ∷ hands (collected 9) (hex 9 0x8e6624d2df1a166e77)
    ∷ hands (collected 7) (hex 7 0xc923c70cf815ee)
    ∷ saw (refused (at LinkFailed 0))
    ∷ saw (refused (at LinkFailed 0))
    ∷ saw (arrived handed_up 0)
    ∷ saw (arrived stale_report 0)
    ∷ saw (arrived discarded 0)
    ∷ saw (arrived discarded 0)
    ∷ saw (refused (at LinkFailed 0))
    ∷ saw (arrived taken 0)
    ∷ saw nothing_due
    ∷ saw ticked
    ∷ saw ticked
    ∷ saw ticked
    ∷ puts (sent 7) (hex 7 0x000a8000780080)
    ∷ saw (arrived taken 0)
    ∷ saw (arrived discarded 0)
    ∷ saw (refused (at LinkFailed 0))
    ∷ saw (sent 0)
    ∷ saw (refused (at LinkFailed 0))
    ∷ saw (refused (at LinkFailed 0))
    ∷ []

abbrev pub end : Shown
end =
    record {
      pdcp_tx_next = 15;
      tx_next = 15;
      tx_next_ack = 4;
      polling = record { poll_sn = 11; pdu_without_poll = 0; owed = true; t_poll_retransmit = stopped };
      failed = true;
      sdus =
          record { acknowledged = false; marks = replicate 4 near.sent ++ replicate 10 near.pending; retx_count = Some 2 }
          ∷ record { acknowledged = true; marks = replicate 11 near.sent; retx_count = None }
          ∷ record { acknowledged = true; marks = replicate 9 near.sent; retx_count = None }
          ∷ record { acknowledged = false; marks = replicate 7 near.sent; retx_count = None }
          ∷ record { acknowledged = false; marks = replicate 7 near.sent; retx_count = None }
          ∷ record { acknowledged = false; marks = replicate 5 near.sent; retx_count = None }
          ∷ record { acknowledged = false; marks = replicate 3 near.sent; retx_count = None }
          ∷ record { acknowledged = false; marks = replicate 6 near.sent; retx_count = None }
          ∷ record { acknowledged = false; marks = replicate 9 near.unsent; retx_count = None }
          ∷ record { acknowledged = false; marks = replicate 9 near.unsent; retx_count = None }
          ∷ record { acknowledged = false; marks = replicate 8 near.unsent; retx_count = None }
          ∷ [];
      rx_next = 7;
      rx_next_highest = 10;
      rx_highest_status = 10;
      rx_next_status_trigger = 10;
      t_reassembly = (running 1);
      reporting = far.barred;
      t_status_prohibit = (running 2);
      polls = [];
      gaps = Some (record { nack_sn = 7; missing = every } ∷ []) ∷ Some (record { nack_sn = 8; missing = every } ∷ []) ∷ None ∷ [];
      rx_deliv = 7;
      pdcp_rx_next = 10;
      rx_reord = 10;
      t_reordering = endless;
      due = [];
      stored = 9 ∷ [];
    }

abbrev pub Plays : Type 0
Plays = ((play settings turns new_link).seen ≡ answers) × (shown (play settings turns new_link).link ≡ end)
