use Rattle.std.proofs.Common.{rules, arith, ◌∙◌}
use Rattle.rows.proofs.Cuts.{cut_set, length_cut, written_back}
use Rattle.rows.proofs.lists.Lists.set.Goals as goal

pub returns-clause-lists : goal.returns-clause-lists
returns-clause-lists c =
    cut_set c.self.inside.arity c.self.inside.len c.args.place c.self.inside.values.items c.args.list.now _ (grind (arith, length_cut)) c.self.invariant (search rules) (written_back c.replace.new.values c.self.inside.values.items c.self.inside.values.len (search rules) ∙ search rules)
    ∙ search rules
