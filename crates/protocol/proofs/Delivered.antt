-- The delivery theorem: every event of a lawful series keeps the invariant, and the invariant delivers.
use Rattle.std.proofs.Common.{◌≡◌, ℕ, ◌+◌, ◌<◌, Bool, true, false, cond, not, ◌||◌, ltb, leb, List, [], ◌∷◌, ◌++◌, length, take, drop, Some, None, Ok, Err, MatchBool, Option, Result, sym, refl, subst, append_assoc, arith}
use Rattle.protocol.proofs.Between.{Data, Told, LinkSound, all_at}
use Rattle.protocol.proofs.Calls.{state, unchanged, fewer, gave, sent, reported, ticked_near, ticked_far, read_near, read_far, collected_in as took_out}
use Rattle.protocol.proofs.Reports.{report_pdu}
use Rattle.protocol.proofs.Strikes.{within_all}
use Rattle.protocol.specs.Airs.{Waiting, Within, LetsOut, takes, Takes, laid, max_pdu}
use Rattle.protocol.specs.Bytes.{Bytes, put}
use Rattle.protocol.specs.Links as link
use Rattle.protocol.specs.Numbers.{stale}
use Rattle.protocol.specs.Pdus.{Pdu, amd, status, encode}
use Rattle.protocol.specs.Reading.{decode}
use Rattle.protocol.specs.Receiving as far
use Rattle.protocol.specs.Reordering as pdcp
use Rattle.protocol.specs.Runs.{State, Event, outcome, next, Puts, Still, AirsKeep, Lawful, end_of, accepted_by, collected_by, accepted_in, collected_in, gives_up, ran_out}
use Rattle.protocol.specs.Refusals.{at}
use Rattle.protocol.specs.Sending as near
use Rattle.protocol.specs.Settings.{Settings, between}
use Rattle.protocol.specs.Timers.{runs_out}
use Rattle.protocol.specs.declared.faults.End.{End}
use Rattle.protocol.specs.declared.faults.End.TheVariants.{Near, Far}
use Rattle.protocol.specs.declared.faults.Fault.{Fault}
use Rattle.protocol.specs.declared.faults.Refusal.TheVariants.{LinkFailed, PacketLength, WindowFull, PacketLimit, GrantSize, ShortBuffer, PacketDue, WrongKind, EndClash, ShortCollect}
use Rattle.std.proofs.lemmas.List.{append-nil, take_at}
use Rattle.std.proofs.lemmas.Bool.{ltb-true, leb-true, leb-false, and_parts}

-- a call that accepts and collects nothing ----------------------------------------------------------------------------

or_false : (b : Bool) → b ≡ (b || false)
or_false true = refl
or_false false = refl

-- nothing more accepted or collected, and t-Reordering not run out
nothing_more : (acc got : List Bytes) (ran : Bool) (r : State) → LinkSound acc got ran r → LinkSound (acc ++ []) (got ++ []) (ran || false) r
nothing_more acc got ran r sound =
    subst (λ a. LinkSound a (got ++ []) (ran || false) r) (sym (append-nil acc))
    (subst (λ g. LinkSound acc g (ran || false) r) (sym (append-nil got)) (subst (λ b. LinkSound acc got b r) (or_false ran) sound))

-- an outcome that collects nothing
record Mute (o : link.Outcome) : Type 0 where
  silent : (b : Bytes) → collected_by o.answer b ≡ []

mute_cond : {x y : link.Outcome} (t : Bool) → Mute x → Mute y → Mute (cond t x y)
mute_cond true mx my = mx
mute_cond false mx my = my

mute_refusing : (l : link.Link) (fault : Fault) (buffer : Bytes) → Mute (link.refusing l fault buffer)
mute_refusing l fault buffer = record { silent = λ b. refl }

mute_arrived : (l : link.Link) (arrival : link.Arrival) (number : ℕ) (buffer : Bytes) → Mute (link.answering l (link.arrived arrival number) buffer)
mute_arrived l arrival number buffer = record { silent = λ b. refl }

mute_near : (s : Settings) (a : Result Pdu Fault) (buffer : Bytes) (l : link.Link) → Mute (link.reads_near s a buffer l)
mute_near s (Err fault) buffer l = mute_refusing l fault buffer
mute_near s (Ok (amd a)) buffer l = mute_refusing l (at WrongKind 0) buffer
mute_near s (Ok (status ack es)) buffer l = go (stale l.near.tx_next (near.tx_count l.near ack))
  where
    go : (t : Bool)
        → Mute
        (cond t (link.answering l (link.arrived link.stale_report (link.number_due l)) buffer)
        (link.answering (link.with_near l (near.reported s (near.tx_count l.near ack) es l.near)) (link.arrived link.taken (link.number_due l)) buffer))
    go true = mute_arrived l link.stale_report (link.number_due l) buffer
    go false = mute_arrived (link.with_near l (near.reported s (near.tx_count l.near ack) es l.near)) link.taken (link.number_due l) buffer

mute_hands : (a : Result pdcp.Pdcp Fault) (buffer : Bytes) (l : link.Link) → Mute (link.hands_up a buffer l)
mute_hands (Err fault) buffer l = mute_refusing l fault buffer
mute_hands (Ok p) buffer l = mute_arrived (link.with_pdcp l p) link.handed_up (link.number_due (link.with_pdcp l p)) buffer

mute_far : (s : Settings) (a : Result Pdu Fault) (buffer : Bytes) (l : link.Link) → Mute (link.reads_far s a buffer l)
mute_far s (Err fault) buffer l = mute_refusing l fault buffer
mute_far s (Ok (status ack es)) buffer l = mute_refusing l (at WrongKind 0) buffer
mute_far s (Ok (amd a)) buffer l =
    go (far.discards l.far x a) (far.clashes (l.far.sdu x) a || leb near.packet_limit x) (far.complete (link.sdu_now x a l.far))
  where
    x : ℕ
    x = far.rx_count l.far a.sn

    go : (old clash done : Bool)
        → Mute
        (cond old (link.answering (link.with_far l (far.discarded a l.far)) (link.arrived link.discarded 0) buffer)
        (cond clash (link.refusing l (at EndClash (link.so_place a.segment)) buffer)
        (cond done
        (link.hands_up (pdcp.handed_up s (far.sdu_bytes (link.sdu_now (far.rx_count l.far a.sn) a l.far)) l.pdcp) buffer
        (link.with_far l (far.taken s (far.rx_count l.far a.sn) a l.far)))
        (link.answering (link.with_far l (far.taken s (far.rx_count l.far a.sn) a l.far)) (link.arrived link.kept 0) buffer))))
    go true clash done = mute_arrived (link.with_far l (far.discarded a l.far)) link.discarded 0 buffer
    go false true done = mute_refusing l (at EndClash (link.so_place a.segment)) buffer
    go false false true =
        mute_hands (pdcp.handed_up s (far.sdu_bytes (link.sdu_now (far.rx_count l.far a.sn) a l.far)) l.pdcp) buffer
        (link.with_far l (far.taken s (far.rx_count l.far a.sn) a l.far))
    go false false false = mute_arrived (link.with_far l (far.taken s (far.rx_count l.far a.sn) a l.far)) link.kept 0 buffer

mute_reads : (s : Settings) (end : End) (bytes buffer : Bytes) (l : link.Link) → Mute (link.reads s end bytes buffer l)
mute_reads s Near bytes buffer l = mute_near s (decode Near bytes) buffer l
mute_reads s Far bytes buffer l = mute_far s (decode Far bytes) buffer l

mute_lets_in : (s : Settings) (end : End) (out : Option Bytes) (buffer : Bytes) (l : link.Link) → Mute (link.lets_in s end out buffer l)
mute_lets_in s Near None buffer l = mute_arrived l link.none (link.number_due l) buffer
mute_lets_in s Far None buffer l = mute_arrived l link.none 0 buffer
mute_lets_in s Near (Some pdu) buffer l = mute_reads s Near pdu (laid (Some pdu) buffer) l
mute_lets_in s Far (Some pdu) buffer l = mute_reads s Far pdu (laid (Some pdu) buffer) l

mute_arrives : (s : Settings) (end : End) (out : Option Bytes) (buffer : Bytes) (l : link.Link) → Mute (link.arrives s end out buffer l)
mute_arrives s Near out buffer l = mute_cond (ltb (length buffer) max_pdu) (mute_refusing l (at ShortBuffer 0) buffer) (mute_lets_in s Near out buffer l)
mute_arrives s Far out buffer l =
    mute_cond (ltb (length buffer) max_pdu) (mute_refusing l (at ShortBuffer 0) buffer)
    (mute_cond (link.something_due l) (mute_refusing l (at PacketDue 0) buffer) (mute_lets_in s Far out buffer l))

-- each event --------------------------------------------------------------------------------------------------------

-- an event kept the invariant, with what its call accepted and collected
abbrev Keeps : List Bytes → List Bytes → Bool → State → link.Call → link.Outcome → List Waiting → List Waiting → Type 0
Keeps acc got ran r call o forward back =
    LinkSound (acc ++ accepted_by call o.answer) (got ++ collected_by o.answer o.buffer) (ran || gives_up r.link call)
    (state o.link forward back)

module _ (acc got : List Bytes) (ran : Bool) (r : State) (sound : LinkSound acc got ran r) where
  kept_as_it_was : (forward back : List Waiting) → forward ≡ r.forward → back ≡ r.back → LinkSound (acc ++ []) (got ++ []) (ran || false) (state r.link forward back)
  kept_as_it_was forward back f b = nothing_more acc got ran (state r.link forward back) (unchanged acc got ran r sound forward back f b)

  give_keeps : (p : Bytes) → Keeps acc got ran r (link.give p) (link.gives p r.link) r.forward r.back
  give_keeps p =
      go r.link.near.failed (between 1 500 (length p)) refl
      (leb (r.link.near.tx_next_ack + near.window_size) r.link.near.tx_next) refl (leb near.packet_limit r.link.near.pdcp_tx_next) refl
    where
      none : LinkSound (acc ++ []) (got ++ []) (ran || false) (state r.link r.forward r.back)
      none = kept_as_it_was r.forward r.back refl refl

      go : (failed fits : Bool) → between 1 500 (length p) ≡ fits → (full : Bool) → leb (r.link.near.tx_next_ack + near.window_size) r.link.near.tx_next ≡ full
          → (over : Bool) → leb near.packet_limit r.link.near.pdcp_tx_next ≡ over
          → Keeps acc got ran r (link.give p)
          (cond failed (link.refusing r.link (at LinkFailed 0) [])
          (cond (not fits) (link.refusing r.link (at PacketLength 0) [])
          (cond full (link.refusing r.link (at WindowFull 0) [])
          (cond over (link.refusing r.link (at PacketLimit 0) [])
          (link.answering (link.with_near r.link (near.given p r.link.near)) (link.accepted r.link.near.pdcp_tx_next) [])))))
          r.forward r.back
      go true fits f full u over v = none
      go false false f full u over v = none
      go false true f true u over v = none
      go false true f false u true v = none
      go false true f false u false v =
          let range = and_parts (leb 1 (length p)) (leb (length p) 500) f in
          subst (λ g. LinkSound (acc ++ p ∷ []) g (ran || false) (state (link.with_near r.link (near.given p r.link.near)) r.forward r.back)) (sym (append-nil got))
          (subst (λ b. LinkSound (acc ++ p ∷ []) got b (state (link.with_near r.link (near.given p r.link.near)) r.forward r.back)) (or_false ran)
          (gave acc got ran r sound p (leb-true 1 (length p) range.0) (leb-true (length p) 500 range.1) (leb-false _ _ u)
          (omega (arith, leb-false _ _ v, sound.near_sound.counts))))

  -- a grant at the near end
  spend_near_keeps : (s : Settings) (size : ℕ) (buffer : Bytes) (forward : List Waiting) → Puts (link.spends s Near size buffer r.link).puts r.forward forward
      → Keeps acc got ran r (link.spend Near size buffer) (link.spends s Near size buffer r.link) forward r.back
  spend_near_keeps s size buffer forward = go (between 5 512 size) refl r.link.near.failed (ltb (length buffer) size) (near.served r.link.near size) refl
    where
      go : (fits : Bool) → between 5 512 size ≡ fits → (failed short : Bool) (run : Option near.Run) → near.served r.link.near size ≡ run
          → let o = cond (not fits) (link.refusing r.link (at GrantSize 0) buffer)
          (cond failed (link.refusing r.link (at LinkFailed 0) buffer)
          (cond short (link.refusing r.link (at ShortBuffer 0) buffer) (link.sends s run buffer r.link))) in
          Puts o.puts r.forward forward → Keeps acc got ran r (link.spend Near size buffer) o forward r.back
      go false f failed short run e puts = kept_as_it_was forward r.back puts refl
      go true f true short run e puts = kept_as_it_was forward r.back puts refl
      go true f false true run e puts = kept_as_it_was forward r.back puts refl
      go true f false false None e puts = kept_as_it_was forward r.back puts refl
      go true f false false (Some run) e puts =
          nothing_more acc got ran (state (link.with_near r.link (near.spent s run r.link.near)) forward r.back)
          (sent acc got ran r sound s size run (leb-true 5 size (and_parts (leb 5 size) (leb size 512) f).0) e forward puts)

  -- a grant at the far end
  spend_far_keeps : (s : Settings) (size : ℕ) (buffer : Bytes) (back : List Waiting) → Puts (link.spends s Far size buffer r.link).puts r.back back
      → Keeps acc got ran r (link.spend Far size buffer) (link.spends s Far size buffer r.link) r.forward back
  spend_far_keeps s size buffer back = go (between 5 512 size) (ltb (length buffer) size) (far.reports r.link.far.reporting)
    where
      go : (fits short wanted : Bool)
          → let o = cond (not fits) (link.refusing r.link (at GrantSize 0) buffer)
          (cond short (link.refusing r.link (at ShortBuffer 0) buffer)
          (cond wanted
          (link.putting (link.with_far r.link (far.reported s r.link.far)) (encode (report_pdu (far.report r.link.far size))) buffer)
          (link.answering r.link (link.sent 0) buffer))) in
          Puts o.puts r.back back → Keeps acc got ran r (link.spend Far size buffer) o r.forward back
      go false short wanted puts = kept_as_it_was r.forward back refl puts
      go true true wanted puts = kept_as_it_was r.forward back refl puts
      go true false false puts = kept_as_it_was r.forward back refl puts
      go true false true puts =
          nothing_more acc got ran (state (link.with_far r.link (far.reported s r.link.far)) r.forward back) (reported acc got ran r sound s size back puts)

  -- a Collect: what is due is the front of the store
  collect_keeps : (buffer : Bytes) → Keeps acc got ran r (link.collect buffer) (link.collects buffer r.link) r.forward r.back
  collect_keeps buffer = by_store r.link.pdcp.store refl
    where
      none : LinkSound (acc ++ []) (got ++ []) (ran || false) (state r.link r.forward r.back)
      none = kept_as_it_was r.forward r.back refl refl

      by_room : (first : pdcp.Stored) (rest : List pdcp.Stored) → r.link.pdcp.store ≡ first ∷ rest → first.count < r.link.pdcp.rx_deliv → (others : List pdcp.Stored)
          → (short : Bool) → ltb (length buffer) (length first.packet) ≡ short
          → Keeps acc got ran r (link.collect buffer)
          (cond short (link.refusing r.link (at ShortCollect 0) buffer)
          (link.answering (link.with_pdcp r.link (pdcp.collected r.link.pdcp rest)) (link.collected (length first.packet)) (put first.packet buffer)))
          r.forward r.back
      by_room first rest is due_now others true e = none
      by_room first rest is due_now others false e =
          subst (λ a. LinkSound a (got ++ take (length first.packet) (put first.packet buffer) ∷ []) (ran || false) (state (link.with_pdcp r.link (pdcp.collected r.link.pdcp rest)) r.forward r.back)) (sym (append-nil acc))
          (subst (λ b. LinkSound acc (got ++ take (length first.packet) (put first.packet buffer) ∷ []) b (state (link.with_pdcp r.link (pdcp.collected r.link.pdcp rest)) r.forward r.back)) (or_false ran)
          (subst (λ p. LinkSound acc (got ++ p ∷ []) ran (state (link.with_pdcp r.link (pdcp.collected r.link.pdcp rest)) r.forward r.back))
          (sym (take_at first.packet (drop (length first.packet) buffer) (length first.packet) refl)) (took_out acc got ran r sound first rest is due_now)))

      by_due : (first : pdcp.Stored) (rest : List pdcp.Stored) → r.link.pdcp.store ≡ first ∷ rest → (due_now : Bool) → ltb first.count r.link.pdcp.rx_deliv ≡ due_now
          → Keeps acc got ran r (link.collect buffer)
          (link.collects_from (cond due_now (first ∷ pdcp.due_of r.link.pdcp.rx_deliv rest) []) (first ∷ rest) buffer r.link) r.forward r.back
      by_due first rest is false e = none
      by_due first rest is true e =
          by_room first rest is (ltb-true first.count r.link.pdcp.rx_deliv e) [] (ltb (length buffer) (length first.packet)) refl

      by_store : (store : List pdcp.Stored) → r.link.pdcp.store ≡ store
          → Keeps acc got ran r (link.collect buffer) (link.collects_from (pdcp.due_of r.link.pdcp.rx_deliv r.link.pdcp.store) r.link.pdcp.store buffer r.link) r.forward r.back
      by_store [] is = subst (λ ss. Keeps acc got ran r (link.collect buffer) (link.collects_from (pdcp.due_of r.link.pdcp.rx_deliv ss) ss buffer r.link) r.forward r.back) (sym is) none
      by_store (first ∷ rest) is =
          subst (λ ss. Keeps acc got ran r (link.collect buffer) (link.collects_from (pdcp.due_of r.link.pdcp.rx_deliv ss) ss buffer r.link) r.forward r.back) (sym is)
          (by_due first rest is (ltb first.count r.link.pdcp.rx_deliv) refl)

  -- an arrival, once its link is known to be sound
  arrival_keeps : (end : End) (draw : ℕ) (buffer : Bytes) (o : link.Outcome) (forward back : List Waiting) → Mute o
      → LinkSound acc got ran (state o.link forward back) → Keeps acc got ran r (link.arrive end draw buffer) o forward back
  arrival_keeps end draw buffer o forward back mute kept =
      subst (λ xs. LinkSound (acc ++ []) (got ++ xs) (ran || false) (state o.link forward back)) (sym (mute.silent o.buffer))
      (nothing_more acc got ran (state o.link forward back) kept)

  arrive_near_keeps : (s : Settings) (draw : ℕ) (buffer : Bytes) (out : Option Bytes) (back : List Waiting) → Takes draw buffer out r.back back
      → Keeps acc got ran r (link.arrive Near draw buffer) (link.arrives s Near out buffer r.link) r.forward back
  arrive_near_keeps s draw buffer out back took =
      arrival_keeps Near draw buffer (link.arrives s Near out buffer r.link) r.forward back (mute_arrives s Near out buffer r.link)
      (by_take (takes draw buffer) out took)
    where
      left : (b : List Waiting) → Within b r.back → LinkSound acc got ran (state r.link r.forward b)
      left b within = fewer acc got ran r sound r.forward b (within_all r.forward) within

      by_out : (o : Option Bytes) → LetsOut o r.back back → (short : Bool)
          → LinkSound acc got ran (state (cond short (link.refusing r.link (at ShortBuffer 0) buffer) (link.lets_in s Near o buffer r.link)).link r.forward back)
      by_out None within short = go short
        where
          go : (b : Bool) → LinkSound acc got ran (state (cond b (link.refusing r.link (at ShortBuffer 0) buffer) (link.lets_in s Near None buffer r.link)).link r.forward back)
          go true = left back within
          go false = left back within
      by_out (Some pdu) lets short = go short
        where
          told : Told r.link.far sound.most (record { pdu = pdu; age = lets.0.0 })
          told = all_at (Told r.link.far sound.most) (record { pdu = pdu; age = lets.0.0 }) r.back lets.0.1 sound.back

          go : (b : Bool) → LinkSound acc got ran (state (cond b (link.refusing r.link (at ShortBuffer 0) buffer) (link.lets_in s Near (Some pdu) buffer r.link)).link r.forward back)
          go true = left back lets.1
          go false =
              fewer acc got ran (state (link.reads s Near pdu (laid (Some pdu) buffer) r.link).link r.forward r.back)
              (read_near acc got ran r sound s (laid (Some pdu) buffer) (record { pdu = pdu; age = lets.0.0 }) told) r.forward back (within_all r.forward) lets.1

      by_take : (t : Bool) (o : Option Bytes) → MatchBool t (LetsOut o r.back back) ((o ≡ None) × (back ≡ r.back))
          → LinkSound acc got ran (state (link.arrives s Near o buffer r.link).link r.forward back)
      by_take true o lets = by_out o lets (ltb (length buffer) max_pdu)
      by_take false o still =
          subst (λ x. LinkSound acc got ran (state (link.arrives s Near x buffer r.link).link r.forward back)) (sym still.0)
          (by_out None (subst (λ b. Within b r.back) (sym still.1) (within_all r.back)) (ltb (length buffer) max_pdu))

  -- the far end takes nothing while a packet is due
  arrive_far_keeps : (s : Settings) (draw : ℕ) (buffer : Bytes) (out : Option Bytes) (forward : List Waiting)
      → MatchBool (link.something_due r.link) ((out ≡ None) × (forward ≡ r.forward)) (Takes draw buffer out r.forward forward)
      → Keeps acc got ran r (link.arrive Far draw buffer) (link.arrives s Far out buffer r.link) forward r.back
  arrive_far_keeps s draw buffer out forward kept =
      arrival_keeps Far draw buffer (link.arrives s Far out buffer r.link) forward r.back (mute_arrives s Far out buffer r.link)
      (by_due (link.something_due r.link) out kept)
    where
      left : (f : List Waiting) → Within f r.forward → LinkSound acc got ran (state r.link f r.back)
      left f within = fewer acc got ran r sound f r.back within (within_all r.back)

      by_out : (o : Option Bytes) → LetsOut o r.forward forward → (short : Bool)
          → LinkSound acc got ran (state (cond short (link.refusing r.link (at ShortBuffer 0) buffer) (link.lets_in s Far o buffer r.link)).link forward r.back)
      by_out None within short = go short
        where
          go : (b : Bool) → LinkSound acc got ran (state (cond b (link.refusing r.link (at ShortBuffer 0) buffer) (link.lets_in s Far None buffer r.link)).link forward r.back)
          go true = left forward within
          go false = left forward within
      by_out (Some pdu) lets short = go short
        where
          data_in : Data acc (near.top r.link.near) (record { pdu = pdu; age = lets.0.0 })
          data_in = all_at (Data acc (near.top r.link.near)) (record { pdu = pdu; age = lets.0.0 }) r.forward lets.0.1 sound.forward

          go : (b : Bool) → LinkSound acc got ran (state (cond b (link.refusing r.link (at ShortBuffer 0) buffer) (link.lets_in s Far (Some pdu) buffer r.link)).link forward r.back)
          go true = left forward lets.1
          go false =
              fewer acc got ran (state (link.reads s Far pdu (laid (Some pdu) buffer) r.link).link r.forward r.back)
              (read_far acc got ran r sound s (laid (Some pdu) buffer) (record { pdu = pdu; age = lets.0.0 }) data_in) forward r.back lets.1 (within_all r.back)

      by_take : (t : Bool) (o : Option Bytes) → MatchBool t (LetsOut o r.forward forward) ((o ≡ None) × (forward ≡ r.forward))
          → LinkSound acc got ran (state (cond (ltb (length buffer) max_pdu) (link.refusing r.link (at ShortBuffer 0) buffer) (link.lets_in s Far o buffer r.link)).link forward r.back)
      by_take true o lets = by_out o lets (ltb (length buffer) max_pdu)
      by_take false o still =
          subst (λ x. LinkSound acc got ran (state (cond (ltb (length buffer) max_pdu) (link.refusing r.link (at ShortBuffer 0) buffer) (link.lets_in s Far x buffer r.link)).link forward r.back)) (sym still.0)
          (by_out None (subst (λ f. Within f r.forward) (sym still.1) (within_all r.forward)) (ltb (length buffer) max_pdu))

      by_due : (due : Bool) (o : Option Bytes) → MatchBool due ((o ≡ None) × (forward ≡ r.forward)) (Takes draw buffer o r.forward forward)
          → LinkSound acc got ran
          (state
          (cond (ltb (length buffer) max_pdu) (link.refusing r.link (at ShortBuffer 0) buffer)
          (cond due (link.refusing r.link (at PacketDue 0) buffer) (link.lets_in s Far o buffer r.link))
          ).link
          forward r.back)
      by_due true o still = go (ltb (length buffer) max_pdu)
        where
          same : LinkSound acc got ran (state r.link forward r.back)
          same = unchanged acc got ran r sound forward r.back still.1 refl

          go : (b : Bool)
              → LinkSound acc got ran (state (cond b (link.refusing r.link (at ShortBuffer 0) buffer) (link.refusing r.link (at PacketDue 0) buffer)).link forward r.back)
          go true = same
          go false = same
      by_due false o took = by_take (takes draw buffer) o took

-- every lawful event ----------------------------------------------------------------------------------------------------

-- the airs as the event left them
moved : (acc got : List Bytes) (ran : Bool) (l : link.Link) (forward back forward' back' : List Waiting) → forward' ≡ forward → back' ≡ back
    → LinkSound acc got ran (state l forward back) → LinkSound acc got ran (state l forward' back')
moved acc got ran l forward back forward' back' f b sound =
    subst (λ xs. LinkSound acc got ran (state l xs back')) (sym f) (subst (λ ys. LinkSound acc got ran (state l forward ys)) (sym b) sound)

pub event_keeps : (acc got : List Bytes) (ran : Bool) (s : Settings) (r : State) (e : Event) (call : link.Call) → e.call ≡ call → LinkSound acc got ran r
    → AirsKeep s r e call → Keeps acc got ran r call (link.does s call e.out r.link) e.forward e.back
event_keeps acc got ran s r e (link.give p) is sound keep =
    moved _ _ _ (link.gives p r.link).link r.forward r.back e.forward e.back keep.1 keep.2 (give_keeps acc got ran r sound p)
event_keeps acc got ran s r e (link.spend Near size buffer) is sound keep =
    let puts = subst (λ c. Puts (link.does s c e.out r.link).puts r.forward e.forward) is keep.1 in
    moved _ _ _ (link.spends s Near size buffer r.link).link e.forward r.back e.forward e.back refl keep.2
    (spend_near_keeps acc got ran r sound s size buffer e.forward puts)
event_keeps acc got ran s r e (link.spend Far size buffer) is sound keep =
    let puts = subst (λ c. Puts (link.does s c e.out r.link).puts r.back e.back) is keep.2 in
    moved _ _ _ (link.spends s Far size buffer r.link).link r.forward e.back e.forward e.back keep.1 refl
    (spend_far_keeps acc got ran r sound s size buffer e.back puts)
event_keeps acc got ran s r e (link.arrive Near draw buffer) is sound keep =
    moved _ _ _ (link.arrives s Near e.out buffer r.link).link r.forward e.back e.forward e.back keep.0 refl
    (arrive_near_keeps acc got ran r sound s draw buffer e.out e.back keep.1)
event_keeps acc got ran s r e (link.arrive Far draw buffer) is sound keep =
    let parts = halves (link.something_due r.link) keep in
    moved _ _ _ (link.arrives s Far e.out buffer r.link).link e.forward r.back e.forward e.back refl parts.1
    (arrive_far_keeps acc got ran r sound s draw buffer e.out e.forward parts.0)
  where
    halves : (due : Bool) → MatchBool due (Still r e) (Takes draw buffer e.out r.forward e.forward × (e.back ≡ r.back))
        → MatchBool due ((e.out ≡ None) × (e.forward ≡ r.forward)) (Takes draw buffer e.out r.forward e.forward) × (e.back ≡ r.back)
    halves true still = ((still.0, still.1), still.2)
    halves false took = (took.0, took.1)
event_keeps acc got ran s r e (link.tick Near) is sound keep =
    moved _ _ _ (link.ticks s Near r.link) r.forward r.back e.forward e.back keep.1 keep.2
    (nothing_more acc got ran (state (link.ticks s Near r.link) r.forward r.back) (ticked_near acc got ran r sound s))
event_keeps acc got ran s r e (link.tick Far) is sound keep =
    moved _ _ _ (link.ticks s Far r.link) r.forward r.back e.forward e.back keep.1 keep.2
    (subst (λ a. LinkSound a (got ++ []) (ran || runs_out r.link.pdcp.t_reordering) (state (link.ticks s Far r.link) r.forward r.back)) (sym (append-nil acc))
    (subst (λ g. LinkSound acc g (ran || runs_out r.link.pdcp.t_reordering) (state (link.ticks s Far r.link) r.forward r.back)) (sym (append-nil got))
    (ticked_far acc got ran r sound s)))
event_keeps acc got ran s r e (link.collect buffer) is sound keep =
    moved _ _ _ (link.collects buffer r.link).link r.forward r.back e.forward e.back keep.1 keep.2 (collect_keeps acc got ran r sound buffer)
event_keeps acc got ran s r e (link.read end bytes) is sound keep = absurd keep

-- every lawful series ---------------------------------------------------------------------------------------------------

or_assoc : (a b c : Bool) → ((a || b) || c) ≡ (a || (b || c))
or_assoc true b c = refl
or_assoc false b c = refl

pub series_keeps : (s : Settings) (es : List Event) (acc got : List Bytes) (ran : Bool) (r : State) → LinkSound acc got ran r → Lawful s r es
    → LinkSound (acc ++ accepted_in s r es) (got ++ collected_in s r es) (ran || ran_out s r es) (end_of s r es)
series_keeps s [] acc got ran r sound lawful = nothing_more acc got ran r sound
series_keeps s (e ∷ es) acc got ran r sound lawful =
    let a = accepted_by e.call (outcome s r e).answer in
    let g = collected_by (outcome s r e).answer (outcome s r e).buffer in
    let b = gives_up r.link e.call in
    let rest = series_keeps s es (acc ++ a) (got ++ g) (ran || b) (next s r e) (event_keeps acc got ran s r e e.call refl sound lawful.0) lawful.1 in
    subst (λ x. LinkSound x (got ++ (g ++ collected_in s (next s r e) es)) (ran || (b || ran_out s (next s r e) es)) (end_of s (next s r e) es)) (append_assoc acc a (accepted_in s (next s r e) es))
    (subst (λ y. LinkSound ((acc ++ a) ++ accepted_in s (next s r e) es) y (ran || (b || ran_out s (next s r e) es)) (end_of s (next s r e) es)) (append_assoc got g (collected_in s (next s r e) es))
    (subst (λ z. LinkSound ((acc ++ a) ++ accepted_in s (next s r e) es) ((got ++ g) ++ collected_in s (next s r e) es) z (end_of s (next s r e) es)) (or_assoc ran b (ran_out s (next s r e) es)) rest))
