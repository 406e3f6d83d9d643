use Rattle.sql.proofs.PartsOfScripts.{whole_script}
use Rattle.sql.proofs.whole.make_script.Goals as goal

pub returns : goal.returns
returns g c = whole_script c.args.recursive c.args.program.now c.bind_inputs.new.scope c.write_lets.new.scope c.write_lets.new.made.items c.write_outputs.new.made.items c.write_outputs.new.results.items
    (rw c.deref.ensures.value at c.in_ok-bind_inputs.ensures) (rw (c.deref-2.ensures.value, c.new-made.ensures.items) at c.in_ok-write_lets.ensures)
    (rw c.deref-3.ensures.value at c.in_ok-write_outputs.ensures.made) (rw (c.deref-3.ensures.value, c.new-results.ensures.items) at c.in_ok-write_outputs.ensures.results)
