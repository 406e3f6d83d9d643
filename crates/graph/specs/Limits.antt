-- The limits of graphs.
use Rattle.std.specs.Prelude.{ℕ}

-- the most vertices of a graph
abbrev pub max_vertices : ℕ
max_vertices = 4096

-- the most edges of a graph: two into each vertex
abbrev pub max_edges : ℕ
max_edges = 8192
