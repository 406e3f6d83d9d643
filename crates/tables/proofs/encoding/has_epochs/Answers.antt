use Rattle.std.proofs.Common.{rules, tests}
use Rattle.std.proofs.lemmas.Iterator.{YieldsList-from_slice}
use Rattle.std.proofs.lemmas.Iterator.Search.{any_from_yields_List}
use Rattle.tables.specs.Inputs.{has_own}
use Rattle.tables.proofs.encoding.has_epochs.Goals as goal

pub returns : goal.returns
returns c = any_from_yields_List (λ table. has_own table.epochs) _ _ _ c.any.ensures.ran (YieldsList-from_slice c.args.tables.now cc) (λ x b q k. search (rules, tests))
