-- A row that is new differs from all that were there.
use Rattle.std.proofs.Common.{rules}
use Rattle.rows.proofs.Walks.{different_more}
use Rattle.rows.proofs.set.RowSet.put.Goals as goal

pub invariant_of-self-2 : goal.invariant_of-self-2
invariant_of-self-2 c = different_more c.self.inside.index.rows c.place_or_add.new.self.rows c.args.row.now c.in_ok-placed.placed.new c.self.invariant (search rules) (search rules)

pub returns-clause-different : goal.returns-clause-different
returns-clause-different c = different_more c.self.inside.index.rows c.place_or_add.new.self.rows c.args.row.now c.in_ok-placed.placed.new c.self.invariant (search rules) (search rules)
