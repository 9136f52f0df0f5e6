use Rattle.protocol.proofs.Counts.{one_pdcp_count}
use Rattle.protocol.proofs.laws.sn_stands_for_one_pdcp_count.Goals as goal

pub returns : goal.returns
returns c = one_pdcp_count
