use Rattle.writer.proofs.ParsedPrograms.{is_source}
use Rattle.writer.proofs.laws.read_is_source.Goals as goal

pub returns : goal.returns
returns c = is_source
