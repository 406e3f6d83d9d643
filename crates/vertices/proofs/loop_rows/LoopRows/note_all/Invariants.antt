use Rattle.std.proofs.Common.{◌≡◌, ℕ, ◌&&◌, ◌||◌, List, length, nat_lt, take}
use Rattle.rows.specs.Counts.{rows_of, runs}
use Rattle.rows.specs.FlatRows.{arity_of}
use Rattle.semantics.specs.Multiset.{Record, is_present}
use Rattle.vertices.specs.FirstTurns.{AreFirstTurns, is_first_below, with_places}
use Rattle.vertices.proofs.loop_rows.LoopRows.note_all.Given as goal

abbrev pub invariant-loop-place : goal.invariant-loop-place
invariant-loop-place l = record {
  arity : l.self.rows.arity ≡ arity_of l.batch;
  as_many : length l.self.turns.items ≡ length l.self.rows.rows;
  first : (r : Record) (n : ℕ) → is_first_below l.self.rows.rows l.self.turns.items r n ≡ is_first_below l.initial.self.rows.rows l.initial.self.turns.items r n || (is_present r (take l.place (rows_of (runs l.batch))) && nat_lt l.turn n);
  places : (lists : ℕ → List ℕ) → AreFirstTurns l.initial.self.rows.rows l.initial.self.turns.items (with_places lists l.turn l.initial.places.items) → AreFirstTurns l.self.rows.rows l.self.turns.items (with_places lists l.turn l.places.items);
  lists : l.self.lists ≡ l.initial.self.lists;
}
