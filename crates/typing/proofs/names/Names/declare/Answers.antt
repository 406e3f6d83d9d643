use Rattle.std.proofs.Common.{◌≡◌, None, sym, ◌∙◌, ap}
use Rattle.indexmap.specs.IndexMap.{get}
use Rattle.indexmap.proofs.CallerLemmas.{insert_entry-new}
use Rattle.semantics.specs.Meaning.{same_name}
use Rattle.typing.specs.Scope.{scope_of}
use Rattle.typing.proofs.Named.{lookup_seen, scope_declared, small_declared}
use Rattle.typing.proofs.names.Names.declare.Goals as goal

pub invariant_of-self-2 : goal.invariant_of-self-2
invariant_of-self-2 c =
    let free = rw (← c.self.view_is) at c.requires.free in
    let none : get same_name c.self.inside.table c.copied.result ≡ None = rw c.copied.ensures (sym (lookup_seen c.self.inside.table.entries c.args.name.now c.self.invariant.0) ∙ free) in
    let e = c.in_ok-insert.ensures.entries ∙ insert_entry-new same_name c.self.inside.table c.copied.result c.args.arity none in
    (c.insert.ensures.unique, small_declared c.self.inside.table.entries c.insert.new.self.entries c.copied.result c.args.arity e c.self.invariant.1 c.requires.small)

pub returns-clause-ok : goal.returns-clause-ok
returns-clause-ok c =
    let free = rw (← c.self.view_is) at c.requires.free in
    let none : get same_name c.self.inside.table c.copied.result ≡ None = rw c.copied.ensures (sym (lookup_seen c.self.inside.table.entries c.args.name.now c.self.invariant.0) ∙ free) in
    let e = c.in_ok-insert.ensures.entries ∙ insert_entry-new same_name c.self.inside.table c.copied.result c.args.arity none in
    ap scope_of e ∙ scope_declared c.self.inside.table.entries c.copied.result c.args.arity ∙ rw (c.self.view_is, c.copied.ensures)
