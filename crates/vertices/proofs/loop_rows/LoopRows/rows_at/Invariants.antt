use Rattle.std.proofs.Common.{◌≡◌, take}
use Rattle.vertices.specs.FirstTurns.{rows_first_at}
use Rattle.vertices.proofs.loop_rows.LoopRows.rows_at.Given as goal

abbrev pub invariant-loop-i : goal.invariant-loop-i
invariant-loop-i l = record {
  rows : l.rows.rows ≡ rows_first_at l.self.rows.rows l.self.turns.items l.turn (take l.i l.places);
  arity : l.rows.arity ≡ l.self.rows.arity;
}
