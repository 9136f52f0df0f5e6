use Rattle.protocol.proofs.Theorem.{delivery}
use Rattle.protocol.proofs.laws.lawful_series_deliver.Goals as goal

pub returns : goal.returns
returns c = delivery
