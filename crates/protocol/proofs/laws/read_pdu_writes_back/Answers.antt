use Rattle.protocol.proofs.Formats.{read_writes_back}
use Rattle.protocol.proofs.laws.read_pdu_writes_back.Goals as goal

pub returns : goal.returns
returns c = read_writes_back
