use Rattle.writer.proofs.RoundTrip.{reads_as}
use Rattle.writer.proofs.laws.written_reads_back.Goals as goal

pub returns : goal.returns
returns c = reads_as
