use Rattle.std.proofs.Common.{rules}
use Rattle.air.proofs.fades.FadeAir.put.Goals as goal
use Rattle.protocol.proofs.Strikes.{within_trans, skip_within_put}
use Rattle.protocol.specs.Airs.{Within, aged, after_put}

pub returns-then-lost-clause-meaning : goal.returns-then-lost-clause-meaning
returns-then-lost-clause-meaning g c =
    let below = g.A.Air.waiting c.args.self.now.below in
    let fewer : Within (aged below) (after_put c.args.pdu.now below) = skip_within_put c.args.pdu.now below in
    search (rules, within_trans)
