use Rattle.std.proofs.Common.{◌≡◌, false, ◌||◌, leb, Ok, Result, sym, ap, ◌∙◌, arith}
use Rattle.protocol.specs.Receiving as far
use Rattle.protocol.specs.Sending.{packet_limit}
use Rattle.protocol.specs.declared.faults.Fault.{Fault}
use Rattle.rlc_rx.proofs.Arrives.{receives_takes}
use Rattle.rlc_rx.proofs.ends.FarEnd.receive.Goals as goal
use Rattle.rlc_rx.specs.DataPdus.{data_pdu_of}
use Rattle.rlc_rx.specs.Receptions.{reception_in, outcome}
use Rattle.rlc_rx.specs.Views.{far_of, State, state_of}
use Rattle.std.proofs.lemmas.Bool.{lt-leb, or_from}
use Rattle.timers.specs.Views.{settings_of}
use Rattle.wire.specs.Counts.{count_of}

pub returns : goal.returns
returns c =
    let f = far_of c.args.self.now in
    let s = settings_of c.args.self.now.settings in
    let x = count_of c.count-x.result in
    let a = data_pdu_of c.args.pdu.now in
    let new : far.discards f x a ≡ false = sym c.is_discarded.ensures ∙ c.if-is_discarded.false in
    let fits : (far.clashes (f.sdu x) a || leb packet_limit x) ≡ false =
    or_from _ _ (sym c.clashes.ensures ∙ c.if-clashes.false) (lt-leb packet_limit x (omega (arith, c.value.ensures, c.if-value-ge-PACKET_LIMIT.false))) in
    let handed : reception_in c.take.new.self.window c.reception.result ≡ far.reception (far.received a (f.sdu x)) =
    c.reception.ensures ∙ ap far.reception c.take.ensures.held in
    let both : ◌≡◌ {A = Result far.Reception Fault × State} (Ok (reception_in c.take.new.self.window c.reception.result), state_of c.take.new.self)
    (Ok (far.reception (far.received a (f.sdu x))), (s, far.taken s x a f)) = λ k. (Ok (handed k), c.take.ensures.state k) in
    both ∙ ap (outcome (s, f)) (sym (receives_takes s x a f new fits)) ∙ ap (λ z. outcome (s, f) (far.receives s z a f)) c.count-x.ensures
