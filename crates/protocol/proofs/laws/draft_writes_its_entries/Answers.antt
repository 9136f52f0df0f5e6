use Rattle.protocol.proofs.Drafting.{draft_writes}
use Rattle.protocol.proofs.laws.draft_writes_its_entries.Goals as goal

pub returns : goal.returns
returns c = draft_writes
