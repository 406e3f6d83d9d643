use Rattle.std.proofs.Common.{◌≡◌, ◌++◌, ◌∷◌, []}
use Rattle.lowering.specs.Scopes.{entries_of, ports_of}
use Rattle.graph.specs.Views.{port_of}
use Rattle.lowering.proofs.Tables.{Changed, one_bound}
use Rattle.lowering.proofs.scope.Scope.bind.Goals as goal

pub invariant_of-self-in-Ok : goal.invariant_of-self-in-Ok
invariant_of-self-in-Ok c =
    let bs = c.self.inside.bound.items in
    let before : port_of c.find-hidden.result ≡ ports_of (entries_of bs) c.args.name.now = rw c.self.view_is c.find-hidden.ensures in
    let up : Changed c.self.inside.table.entries c.insert.new.self.entries c.args.name.now c.args.port = rw c.copied-2.ensures at c.in-Ok.ensures.updates.0 in
    let e : c.push.new.self.items ≡ bs ++ (record { entry = record { name = c.args.name.now; port = c.args.port }; hidden = c.find-hidden.result } ∷ []) = rw c.copied.ensures at c.in_ok-push.ensures.items in
    one_bound c.self.inside.table.entries c.insert.new.self.entries bs c.push.new.self.items c.args.name.now c.args.port c.find-hidden.result c.self.invariant before up e
