use Rattle.std.proofs.Common.{sym}
use Rattle.air.proofs.Fronts.{length_waits}
use Rattle.air.proofs.queues.Queue.len.Goals as goal

pub returns : goal.returns
returns c = sym (length_waits c.args.self.now)
