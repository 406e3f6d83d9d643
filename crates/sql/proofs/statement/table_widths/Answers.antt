use Rattle.std.proofs.Common.{map}
use Rattle.expr_tree.specs.Plain.{plain_input}
use Rattle.sql.proofs.WidthsOfTables.{all_counted, none_counted, one_counted}
use Rattle.sql.proofs.statement.table_widths.Goals as goal

pub loop-i-init : goal.loop-i-init
loop-i-init g c = none_counted (map plain_input c.args.inputs.now) c.args.made.now c.new-widths.result.items c.new-widths.ensures.items

pub loop-i-preserved : goal.loop-i-preserved
loop-i-preserved g c =
    one_counted (map plain_input c.args.inputs.now) c.args.made.now c.loop-i.i c.loop-i.widths.items c.push.new.self.items
    c.index-made-i.result c.in_ok-width.width c.loop-i-test.true c.index-made-i.is c.loop-i.invariant (rw c.deref.ensures.value at c.in_ok-width.ensures) c.in_ok-push.ensures.items

pub returns : goal.returns
returns g c = all_counted (map plain_input c.args.inputs.now) c.args.made.now c.loop-i.i c.loop-i.widths.items c.loop-i-test.false c.loop-i.auto.i-end c.loop-i.invariant
