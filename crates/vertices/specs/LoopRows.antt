-- What an unseen keeps of one loop.
use Rattle.std.specs.Prelude.{◌≡◌, ℕ, nat_eq, List, [], flat_map, Option, Some, None}
use Rattle.indexmap.specs.IndexMap.{get}
use Rattle.semantics.specs.Multiset.{Record, is_present}
use Rattle.semantics.specs.Shard.{Absorbed}
use Rattle.semantics.specs.Time.{Time, below, deeper}
use Rattle.vertices.specs.FirstTurns.{AreFirstTurns, is_first_below}
use Rattle.vertices.specs.declared.loop_rows.LoopRows.{LoopRows}
use Rattle.vertices.specs.declared.loop_rows.Places.{Places}

-- the places of a list, if there is one
abbrev pub listed : Option Places → List ℕ
listed None = []
listed (Some list) = list.places.items

-- the places in the list of a turn
abbrev pub places_of : LoopRows → (turn : ℕ) → List ℕ
places_of kept turn = listed (get nat_eq kept.lists turn)

-- what is kept of a loop is of these records, by the turn at which they came
pub record IsLoopOf (arity : ℕ) (kept : LoopRows) (records : (turn : ℕ) → List Record) : Type 0 where
  pub arity_is : kept.rows.arity ≡ arity
  pub first : (r : Record) (n : ℕ) → is_present r (flat_map records (below n)) ≡ is_first_below kept.rows.rows kept.turns.items r n
  pub places : AreFirstTurns kept.rows.rows kept.turns.items (places_of kept)

-- what came to port 0, by the turn of the innermost loop and the time outside it
abbrev pub by_turn : Absorbed → (turn : ℕ) → (outside : Time) → List Record
by_turn a turn outside = a 0 (deeper outside turn)
