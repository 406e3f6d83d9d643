use Rattle.std.proofs.Common.{sym, ◌∙◌, ap}
use Rattle.std.specs.Option.{option_copied}
use Rattle.typing.proofs.Named.{lookup_seen, small_at}
use Rattle.typing.proofs.names.Names.arity.Goals as goal

pub returns-in-Some-clause-value : goal.returns-in-Some-clause-value
returns-in-Some-clause-value c = rw (← c.self.view_is) (sym (lookup_seen c.self.inside.table.entries c.args.name.now c.self.invariant.0 ∙ sym c.get.ensures.value ∙ ap option_copied c.in-Some.is))

pub returns-in-Some-clause-small : goal.returns-in-Some-clause-small
returns-in-Some-clause-small c = small_at c.self.inside.table.entries c.args.name.now c.in-Some.arity.now c.self.invariant.1 (sym c.get.ensures.value ∙ ap option_copied c.in-Some.is)

pub returns-in-None-clause-value : goal.returns-in-None-clause-value
returns-in-None-clause-value c = rw (← c.self.view_is) (sym (lookup_seen c.self.inside.table.entries c.args.name.now c.self.invariant.0 ∙ sym c.get.ensures.value ∙ ap option_copied c.in-None.is))
