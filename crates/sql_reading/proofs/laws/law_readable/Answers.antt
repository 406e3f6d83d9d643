use Rattle.sql_reading.proofs.ScriptsAreReadable.{are_readable}
use Rattle.sql_reading.proofs.laws.law_readable.Goals as goal

pub returns : goal.returns
returns c = are_readable
