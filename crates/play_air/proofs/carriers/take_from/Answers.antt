use Rattle.air.proofs.Lets.{answer_fits}
use Rattle.play_air.proofs.carriers.take_from.Goals as goal
use Rattle.std.proofs.lemmas.Option.{IfSome_then}

pub returns : goal.returns
returns g c =
    let fits = answer_fits c.args.draw c.args.buffer.now c.take.result c.take.new.buffer (g.A.Air.waiting c.args.air.now) (g.A.Air.waiting c.take.new.self)
    (g.met.A.Air.sound c.args.air.now) c.take.ensures.meaning in
    IfSome_then c.take.result fits (λ n h. h.1)
