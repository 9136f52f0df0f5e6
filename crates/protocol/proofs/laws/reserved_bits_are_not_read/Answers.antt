use Rattle.protocol.proofs.Formats.{reserved_not_read}
use Rattle.protocol.proofs.laws.reserved_bits_are_not_read.Goals as goal

pub returns : goal.returns
returns c = reserved_not_read
