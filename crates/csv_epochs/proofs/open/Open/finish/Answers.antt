use Rattle.std.proofs.Common.{◌∙◌, sym}
use Rattle.csv_epochs.proofs.Endings.{has-header, held-strict, not-strict}
use Rattle.csv_epochs.proofs.open.Open.finish.Goals as goal

pub fault_of-requires : goal.fault_of-requires
fault_of-requires c = not-strict c.args.self c.requires (sym c.may_end.ensures ∙ c.if-not-may_end.true)

pub returns-clause-whole : goal.returns-clause-whole
returns-clause-whole c = has-header c.args.self c.requires

pub returns-clause-strict : goal.returns-clause-strict
returns-clause-strict c = held-strict c.args.self c.requires (sym c.may_end.ensures ∙ c.if-not-may_end.false)
