use Rattle.protocol.proofs.Counts.{one_count}
use Rattle.protocol.proofs.laws.sn_stands_for_one_count.Goals as goal

pub returns : goal.returns
returns c = one_count
