-- The text of a graph.
use Rattle.std.specs.Prelude.{ℕ, suc, nat_eq, cond, List, [], ◌∷◌, ◌++◌, codes, decimal}
use Rattle.semantics.specs.Query.{Name}
use Rattle.semantics.specs.Kinds.{Kind}
use Rattle.semantics.specs.Graph.{Port, Vertex, Graph, output_numbers}
use Rattle.semantics.specs.Meaning.{same_name}

-- an output and its name, which is left out where it is `out`
abbrev pub output_text : Name → List ℕ
output_text x = cond (same_name x (codes "out")) (codes "output") (codes "output(" ++ (x ++ codes ")"))

-- the name of a kind; x is that of the output, where it is one
abbrev pub kind_text : Kind → (x : Name) → List ℕ
kind_text Kind.input x = codes "input"
kind_text Kind.output x = output_text x
kind_text (Kind.select ss) x = codes "select"
kind_text (Kind.filter c) x = codes "where"
kind_text Kind.concat x = codes "concat"
kind_text (Kind.join ps) x = codes "join"
kind_text (Kind.lookup ps) x = codes "lookup"
kind_text (Kind.group ks as') x = codes "group"
kind_text Kind.distinct x = codes "distinct"
kind_text Kind.except x = codes "except"
kind_text Kind.intersect x = codes "intersect"
kind_text Kind.ingress x = codes "ingress"
kind_text Kind.egress x = codes "egress"
kind_text Kind.feedback x = codes "feedback"
kind_text (Kind.gate n) x = codes "gate(" ++ (decimal n ++ codes ")")
kind_text (Kind.unseen n) x = codes "unseen(" ++ (decimal n ++ codes ")")
kind_text (Kind.hold n) x = codes "hold(" ++ (decimal n ++ codes ")")

-- a port, as VERTEX.PORT after a space
abbrev pub port_text : Port → List ℕ
port_text p = codes " " ++ (decimal p.vertex ++ (codes "." ++ decimal p.out))

-- ports in order
abbrev pub ports_text : List Port → List ℕ
ports_text [] = []
ports_text (p ∷ ps) = port_text p ++ ports_text ps

-- the number and the kind of a vertex
abbrev pub vertex_text : ℕ → Kind → (x : Name) → List ℕ
vertex_text n kind x = decimal n ++ (codes " " ++ kind_text kind x)

-- the beginning of a line: the number and the kind
abbrev pub line_head : ℕ → Kind → (x : Name) → List ℕ
line_head n kind x = decimal n ++ (codes " " ++ (kind_text kind x ++ codes " "))

-- the rest: the depth, and the ports that feed the vertex
abbrev pub line_rest : ℕ → List Port → List ℕ
line_rest depth ins = decimal depth ++ (codes " <-" ++ (ports_text ins ++ codes "\n"))

-- the line of the vertex number n
abbrev pub line : ℕ → Vertex → (x : Name) → List ℕ
line n v x = line_head n v.kind x ++ line_rest v.depth v.ins

-- the lines of the vertices from number n on; of the outputs among them each has the name of its number
abbrev pub lines : ℕ → Graph → (names : ℕ → Name) → List ℕ
lines n [] names = []
lines n (v ∷ vs) names = line n v (names n) ++ lines (suc n) vs names

-- the name beside a number in two lists; none where it isn't in the first
abbrev pub name_beside : List ℕ → List Name → (number : ℕ) → Name
name_beside [] xs v = []
name_beside (n ∷ ns) [] v = []
name_beside (n ∷ ns) (x ∷ xs) v = cond (nat_eq n v) x (name_beside ns xs v)

-- the lines of all vertices, the outputs in order by these names
abbrev pub graph_text : Graph → (outputs : List Name) → List ℕ
graph_text g outputs = lines 0 g (name_beside (output_numbers g) outputs)
