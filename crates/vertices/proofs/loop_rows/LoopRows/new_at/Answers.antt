use Rattle.std.proofs.Common.{◌≡◌, ◌∙◌, [], rules, ap, sym}
use Rattle.std.proofs.lemmas.Result.{IfOk-weaker}
use Rattle.rows.specs.FlatRows.{RowList}
use Rattle.vertices.specs.FirstTurns.{rows_first_at}
use Rattle.vertices.specs.LoopRows.{places_of}
use Rattle.vertices.proofs.Loops.{all_different, new_there}
use Rattle.vertices.proofs.PortSets.{none_different}
use Rattle.vertices.proofs.loop_rows.LoopRows.new_at.Goals as goal

pub returns-in-Some-clause-rows : goal.returns-in-Some-clause-rows
returns-in-Some-clause-rows c =
    IfOk-weaker c.rows_at.result _ _ (λ rows is n records h. new_there n c.args.self.now records c.args.turn rows.rows h (is ∙ ap (rows_first_at c.args.self.now.rows.rows c.args.self.now.turns.items c.args.turn) (search rules))) c.rows_at.ensures

pub returns-in-Some-clause-different : goal.returns-in-Some-clause-different
returns-in-Some-clause-different c =
    let w = c.requires in
    IfOk-weaker c.rows_at.result _ _ (λ rows is. all_different w.0 c.args.self.now w.1 c.args.turn rows.rows w.2 (is ∙ ap (rows_first_at c.args.self.now.rows.rows c.args.self.now.turns.items c.args.turn) (search rules))) c.rows_at.ensures

pub returns-in-None-clause-rows : goal.returns-in-None-clause-rows
returns-in-None-clause-rows c =
    let none : places_of c.args.self.now c.args.turn ≡ [] = search rules in
    λ n records h. new_there n c.args.self.now records c.args.turn c.new.result.rows h (ap (λ (r : RowList). r.rows) c.new.ensures ∙ sym (ap (rows_first_at c.args.self.now.rows.rows c.args.self.now.turns.items c.args.turn) none))

pub returns-in-None-clause-different : goal.returns-in-None-clause-different
returns-in-None-clause-different c = none_different c.new.result.rows (ap (λ (r : RowList). r.rows) c.new.ensures)
