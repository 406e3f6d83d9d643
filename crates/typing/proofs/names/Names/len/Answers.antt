use Rattle.std.proofs.Common.{sym, ◌∙◌}
use Rattle.typing.proofs.Named.{length-scope_of}
use Rattle.typing.proofs.names.Names.len.Goals as goal

pub returns : goal.returns
returns c = rw (← c.self.view_is) (c.len.ensures.len ∙ sym (length-scope_of c.self.inside.table.entries))
