use Rattle.sql_reading.proofs.TextsReadBack.{reads_back}
use Rattle.sql_reading.proofs.laws.law_reads_back.Goals as goal

pub returns : goal.returns
returns c = reads_back
