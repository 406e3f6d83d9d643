use Rattle.csv_cells.proofs.OneNumber.{one-number}
use Rattle.csv_cells.proofs.laws.law_one_number.Goals as goal

pub returns : goal.returns
returns c = one-number
