use Rattle.typing.proofs.Named.{scope_forgotten}
use Rattle.typing.proofs.names.Names.forget.Goals as goal

pub returns : goal.returns
returns c = rw (← c.self.view_is) (scope_forgotten c.self.inside.table.entries c.pop-last.new.self.entries c.pop-last.result c.pop-last.ensures.entries c.pop-last.ensures.found)
