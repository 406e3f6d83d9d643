use Rattle.std.proofs.Common.{◌∙◌}
use Rattle.sql.specs.Shown.{made_of, names_of}
use Rattle.sql.proofs.Lets.{no_let, one_let}
use Rattle.sql.proofs.whole.write_lets.Goals as goal

pub loop-i-preserved : goal.loop-i-preserved
loop-i-preserved g c =
    let w = rw c.deref.ensures at c.in_ok-table.ensures.made in
    c.loop-i.invariant ∙ one_let c.args.recursive c.args.lets.now c.loop-i.i c.index-lets-i.result c.loop-i.scope c.write_rel.new.scope c.bind.new.self (made_of c.loop-i.made.items) c.write_rel.new.made.items c.in_ok-table.table c.loop-i-test.true c.index-lets-i.is w c.in_ok-table.ensures.scope c.in_ok-bind.ensures

pub returns : goal.returns
returns g c = c.loop-i.invariant ∙ no_let c.args.recursive c.args.lets.now c.loop-i.i (record { names = names_of c.loop-i.scope; tables = made_of c.loop-i.made.items }) c.loop-i-test.false
