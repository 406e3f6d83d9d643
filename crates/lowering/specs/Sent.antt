-- The arity of what a vertex sends, from those of what feeds it.
use Rattle.std.specs.Prelude.{ℕ, ◌+◌, List, length, slice_index_or}
use Rattle.semantics.specs.Kinds.{Kind}
use Rattle.semantics.specs.Graph.{Port, no_port}

-- how many fields the records have that a vertex sends: of an input as many as are declared, of the others by those of the first and
-- the second in port
abbrev pub sent : Kind → (declared first second : ℕ) → ℕ
sent Kind.input n a b = n
sent Kind.output n a b = a
sent (Kind.select ss) n a b = length ss
sent (Kind.filter c) n a b = a
sent Kind.concat n a b = a
sent (Kind.join ps) n a b = a + b
sent (Kind.lookup ps) n a b = a + b
sent (Kind.group ks gs) n a b = length ks + length gs
sent Kind.distinct n a b = a
sent Kind.except n a b = a
sent Kind.intersect n a b = a
sent Kind.ingress n a b = a
sent Kind.egress n a b = a
sent Kind.feedback n a b = a
sent (Kind.gate t) n a b = a
sent (Kind.unseen t) n a b = a
sent (Kind.hold t) n a b = a

-- the arity of the vertex that feeds an in port
abbrev pub arity_in : List ℕ → List Port → (port : ℕ) → ℕ
arity_in arities ins i = slice_index_or arities (slice_index_or ins i no_port).vertex 0
