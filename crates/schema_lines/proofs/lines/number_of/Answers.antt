use Rattle.schema_lines.proofs.SaidLines.{found-plain, only-plain}
use Rattle.schema_lines.proofs.lines.number_of.Goals as goal

pub returns : goal.returns
returns c = record {
  found = λ plain. found-plain c.args.kind _ c.args.value.now c.read_cell.result plain c.read_cell.ensures.found;
  only = λ plain. only-plain c.args.kind _ c.args.value.now c.read_cell.result plain c.read_cell.ensures.only;
}
