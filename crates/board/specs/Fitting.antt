-- Shards, and the records that were fed, fit the graph.
use Rattle.std.specs.Prelude.{◌≡◌, ◌<◌, ℕ, length, slice_index_or}
use Rattle.semantics.specs.Graph.{vertex, source}
use Rattle.graph.specs.Shown.{GraphValue, shown_graph}
use Rattle.vertices.specs.Shards.{TakesArity, shard_kind}
use Rattle.vertices.specs.declared.shard.Shard.{Shard}

-- the arity of a vertex
abbrev pub arity_in : GraphValue → ℕ → ℕ
arity_in g v = slice_index_or g.arities v 0

-- the shard is of the vertex's kind, and its in ports take the arities of the ports that feed them
pub record FitsVertex (g : GraphValue) (v : ℕ) (x : Shard) : Type 0 where
  pub kind : shard_kind x ≡ (vertex (shown_graph g) v).kind
  pub takes : (port : ℕ) → port < length (vertex (shown_graph g) v).ins → TakesArity x port (arity_in g (source (shown_graph g) v port).vertex)

-- the same for any worker
abbrev pub FitsPlace : GraphValue → (worker vertex : ℕ) → Shard → Type 0
FitsPlace g k v x = FitsVertex g v x
