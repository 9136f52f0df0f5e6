use Rattle.protocol.proofs.Formats.{written_reads_back}
use Rattle.protocol.proofs.laws.written_pdu_reads_back.Goals as goal

pub returns : goal.returns
returns c = written_reads_back
