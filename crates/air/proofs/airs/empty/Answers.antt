use Rattle.air.proofs.Emptied.{skip_older, none_left}
use Rattle.air.proofs.airs.empty.Goals as goal

pub loop-preserved : goal.loop-preserved
loop-preserved g c = skip_older _ _ _ c.skip.ensures.meaning c.loop.invariant

pub returns : goal.returns
returns g c = none_left _ _ c.loop-test.false (g.met.A.Air.sound c.loop.air) c.loop.invariant
