-- The graph of a relation and of a program: vertices in the order in which they are made, and the port that a relation gives. A loop is an ingress, a
-- concat, a gate or, for a closure, an unseen, and an egress, with a feedback from its body. Each name that its body takes from outside is carried from turn
-- to turn beside it, by a hold; but what a closure's body only looks up on the right of joins comes at its first turn, and is held for that one.
use Rattle.std.specs.Prelude.{ℕ, suc, ◌+◌, Bool, true, false, cond, List, [], ◌∷◌, ◌++◌, map, length}
use Rattle.semantics.specs.Kinds.{Kind}
use Rattle.semantics.specs.Graph.{Port, no_port, Vertex, Graph}
use Rattle.semantics.specs.FreeNames.{carried, has, once_names}
use Rattle.semantics.specs.Meaning.{same_name}
use Rattle.semantics.specs.Query.{Name, Pair, Loop, Rel, Input, Let, Output, Program}

-- ---- the vertices that a relation makes, and the port that it gives

-- the port that each name stands for
abbrev pub Ports : Type 0
Ports = Name → Port

-- x stands for p, and the other names for what they stood for
abbrev pub stands_for : Name → Port → Ports → Ports
stands_for x p ports y = cond (same_name x y) p (ports y)

-- a port by its numbers
abbrev pub port : (vertex out : ℕ) → Port
port v out = record { vertex = v; out = out }

-- a vertex by its parts
abbrev pub new_vertex : Kind → (depth : ℕ) → List Port → Vertex
new_vertex kind depth ins = record { kind = kind; depth = depth; ins = ins }

-- for each carried name: ingress, concat, hold and feedback, from number k on; d is the depth outside the loop, and `turns` for how many turns each is held
abbrev pub carry : (turns : Name → ℕ) → Ports → (d k : ℕ) → List Name → List Vertex
carry turns ports d k [] = []
carry turns ports d k (y ∷ ys) =
    new_vertex Kind.ingress d (ports y ∷ [])
    ∷ new_vertex Kind.concat (suc d) (port k 0 ∷ port (suc (suc (suc k))) 0 ∷ [])
    ∷ new_vertex (Kind.hold (turns y)) (suc d) (port (suc k) 0 ∷ [])
    ∷ new_vertex Kind.feedback (suc d) (port (suc (suc k)) 1 ∷ [])
    ∷ carry turns ports d (suc (suc (suc (suc k)))) ys

-- each carried name stands for its hold
abbrev pub carried_ports : Ports → (k : ℕ) → List Name → Ports
carried_ports ports k [] = ports
carried_ports ports k (y ∷ ys) = stands_for y (port (suc (suc k)) 0) (carried_ports ports (suc (suc (suc (suc k)))) ys)

-- for how many turns a name is held in a loop of n turns; `once` are the names that come once
abbrev pub held_turns : (n : ℕ) → (once : List Name) → Name → ℕ
held_turns n once y = cond (has y once) 1 n

-- a join whose right side comes once looks it up
abbrev pub is_lookup : Rel → (once : List Name) → Bool
is_lookup (Rel.named x) once = has x once
is_lookup (Rel.select r ss) once = false
is_lookup (Rel.filter r c) once = false
is_lookup (Rel.concat p q) once = false
is_lookup (Rel.join p q ps) once = false
is_lookup (Rel.group r ks as') once = false
is_lookup (Rel.distinct r) once = false
is_lookup (Rel.except p q) once = false
is_lookup (Rel.intersect p q) once = false
is_lookup (Rel.loop l n x r b) once = false

-- the kind of a join
abbrev pub join_kind : (is_lookup : Bool) → List Pair → Kind
join_kind true ps = Kind.lookup ps
join_kind false ps = Kind.join ps

-- the vertices made, and the port that the relation gives
pub record Lowered : Type 0 where
  pub made : List Vertex
  pub gives : Port

-- one more vertex after those of its relation, which begin at number k
abbrev pub then_one : (k : ℕ) → Lowered → Kind → (d : ℕ) → Lowered
then_one k r kind d = record { made = r.made ++ (new_vertex kind d (r.gives ∷ []) ∷ []); gives = port (k + length r.made) 0 }

-- one more vertex after those of its two relations
abbrev pub then_two : (k : ℕ) → Lowered → Lowered → Kind → (d : ℕ) → Lowered
then_two k p q kind d =
    record {
      made = p.made ++ (q.made ++ (new_vertex kind d (p.gives ∷ q.gives ∷ []) ∷ []));
      gives = port (k + length p.made + length q.made) 0;
    }

-- the vertex that lets records into a turn by one port, and out of the loop by the other
abbrev pub gate_of : Loop → (turns : ℕ) → Kind
gate_of Loop.iterate n = Kind.gate n
gate_of Loop.closure n = Kind.unseen n

-- a loop after its start r; k is the number of its first vertex, ys are the names that it carries, and b is its body
abbrev pub looped : Loop → (turns k : ℕ) → (once : List Name) → Lowered → Ports → (d : ℕ) → List Name → Lowered → Lowered
looped l n k once r ports d ys b =
    let first = suc (suc (suc k)) + length (carry (held_turns n once) ports d (suc (suc (suc k))) ys) in
    let last = first + length b.made in
    record {
      made = new_vertex Kind.ingress d (r.gives ∷ [])
          ∷ new_vertex Kind.concat (suc d) (port k 0 ∷ port last 0 ∷ [])
          ∷ new_vertex (gate_of l n) (suc d) (port (suc k) 0 ∷ [])
          ∷ (carry (held_turns n once) ports d (suc (suc (suc k))) ys
          ++ (b.made
          ++ (new_vertex Kind.feedback (suc d) (b.gives ∷ [])
          ∷ new_vertex Kind.egress (suc d) (port (suc (suc k)) 1 ∷ [])
          ∷ [])));
      gives = port (suc last) 0;
    }

-- the vertices of a loop's start, then the loop's
abbrev pub after_start : Lowered → Lowered → Lowered
after_start r l = record { made = r.made ++ l.made; gives = l.gives }

-- the vertices and port of a relation at depth d, from number k on; `once` are the names that come at the first turn only
unfoldable pub lower : Rel → Ports → (once : List Name) → (d k : ℕ) → Lowered
lower (Rel.named x) ports once d k = record { made = []; gives = ports x }
lower (Rel.select r ss) ports once d k = then_one k (lower r ports once d k) (Kind.select ss) d
lower (Rel.filter r c) ports once d k = then_one k (lower r ports once d k) (Kind.filter c) d
lower (Rel.concat p q) ports once d k =
    let l = lower p ports once d k in
    then_two k l (lower q ports once d (k + length l.made)) Kind.concat d
lower (Rel.join p q ps) ports once d k =
    let l = lower p ports once d k in
    then_two k l (lower q ports once d (k + length l.made)) (join_kind (is_lookup q once) ps) d
lower (Rel.group r ks as') ports once d k = then_one k (lower r ports once d k) (Kind.group ks as') d
lower (Rel.distinct r) ports once d k = then_one k (lower r ports once d k) Kind.distinct d
lower (Rel.except p q) ports once d k =
    let l = lower p ports once d k in
    then_two k l (lower q ports once d (k + length l.made)) Kind.except d
lower (Rel.intersect p q) ports once d k =
    let l = lower p ports once d k in
    then_two k l (lower q ports once d (k + length l.made)) Kind.intersect d
lower (Rel.loop l n x r b) ports once d k =
    let start = lower r ports once d k in
    let loop = k + length start.made in
    let outside = suc (suc (suc loop)) in
    let ys = carried x b in
    let inner = once_names l x b in
    let inside = stands_for x (port (suc (suc loop)) 0) (carried_ports ports outside ys) in
    after_start start (looped l n loop inner start ports d ys (lower b inside inner (suc d) (outside + length (carry (held_turns n inner) ports d outside ys))))

-- ---- programs

-- one vertex for each input
abbrev pub input_vertices : List Input → List Vertex
input_vertices as' = map (λ a. new_vertex Kind.input 0 []) as'

-- each input's name stands for its vertex; the first has the number i
abbrev pub input_ports : List Input → (i : ℕ) → Ports
input_ports [] i x = no_port
input_ports (a ∷ as') i x = stands_for a.name (port i 0) (input_ports as' (suc i)) x

-- the vertices made, and what the names stand for after them
pub record LoweredLets : Type 0 where
  pub made : List Vertex
  pub ports : Ports

-- each let in order
unfoldable pub lower_lets : List Let → Ports → (k : ℕ) → LoweredLets
lower_lets [] ports k = record { made = []; ports = ports }
lower_lets (a ∷ as') ports k =
    let r = lower a.value ports [] 0 k in
    let rest = lower_lets as' (stands_for a.name r.gives ports) (k + length r.made) in
    record { made = r.made ++ rest.made; ports = rest.ports }

-- the lets of a program
abbrev pub lets_of : Program → LoweredLets
lets_of p = lower_lets p.lets (input_ports p.inputs 0) (length p.inputs)

-- each output in order: the vertices of its relation, then its own
unfoldable pub lower_outputs : List Output → Ports → (k : ℕ) → List Vertex
lower_outputs [] ports k = []
lower_outputs (o ∷ os) ports k =
    let r = lower o.value ports [] 0 k in
    r.made ++ (new_vertex Kind.output 0 (r.gives ∷ []) ∷ lower_outputs os ports (suc (k + length r.made)))

-- the outputs of a program
abbrev pub outputs_of : Program → List Vertex
outputs_of p = lower_outputs p.outputs (lets_of p).ports (length p.inputs + length (lets_of p).made)

-- the graph of a program
unfoldable pub lowered : Program → Graph
lowered p = input_vertices p.inputs ++ ((lets_of p).made ++ outputs_of p)
