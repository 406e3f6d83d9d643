use Rattle.std.proofs.Common.{◌∙◌, rules}
use Rattle.vertices.proofs.FirstTurns.{found_all, found_take, within_all}
use Rattle.vertices.proofs.loop_rows.LoopRows.rows_at.Goals as goal

pub loop-i-preserved : goal.loop-i-preserved
loop-i-preserved c =
    let i = c.loop-i.invariant in
    record {
      rows = found_take c.args.self.now.rows.rows c.args.self.now.turns.items c.args.turn c.args.places.now c.loop-i.i c.loop-i.rows.rows c.offer.new.rows.rows (search rules) i.rows (search rules);
      arity = c.offer.ensures.arity ∙ i.arity;
    }

pub returns : goal.returns
returns c = found_all c.args.self.now.rows.rows c.args.self.now.turns.items c.args.turn c.args.places.now c.loop-i.i c.loop-i.rows.rows (search rules) c.loop-i.invariant.rows

pub offer-requires-clause-place : goal.offer-requires-clause-place
offer-requires-clause-place c = (within_all _ 0 c.args.places.now c.loop-i.i (search rules) c.requires.within).0
