use Rattle.std.proofs.Common.{None}
use Rattle.std.proofs.lemmas.Bool.Decides.{Decides-eqb}
use Rattle.std.proofs.lemmas.Slice.Eq.{strip_prefix_is}
use Rattle.table_epochs.proofs.following.rows_under.Goals as goal

pub returns-in-None : goal.returns-in-None
returns-in-None c = λ rows is. absurd (strip_prefix_is Decides-eqb c.args.file.now c.args.header.now None c.in-None.ensures.cases rows is)
