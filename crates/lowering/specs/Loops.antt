-- The vertices of a loop around those of its body, and what names stand for in it.
use Rattle.std.specs.Prelude.{ℕ, suc, ◌-◌, List, [], ◌∷◌, ◌++◌, length, slice_set}
use Rattle.expr_tree.specs.declared.relation.Rel as declared
use Rattle.expr_tree.specs.declared.relation.LoopForm.{LoopForm}
use Rattle.expr_tree.specs.Plain.{plain_form, plain_rel}
use Rattle.expr_tree.specs.Views.{rel_tree}
use Rattle.semantics.specs.FreeNames.{carried, once_names}
use Rattle.semantics.specs.Graph.{Graph, Port, Vertex}
use Rattle.semantics.specs.Kinds.{Kind}
use Rattle.semantics.specs.Lower.{Ports, held_turns, carried_ports, carry, gate_of, new_vertex, port, stands_for}
use Rattle.semantics.specs.Query.{Loop, Name, Rel}
use Rattle.graph.specs.Views.{graph_of}
use Rattle.graph.specs.declared.vertex.Vertex as vertex

-- a loop in memory
abbrev pub plain_loop : {A B : Type 0} → LoopForm → (turns : ℕ) → (variable : Name) → (start : declared.Rel A) → (body : declared.Rel B) → Rel
plain_loop form n x start body = Rel.loop (plain_form form) n x (plain_rel (rel_tree start)) (plain_rel (rel_tree body))

-- the names that a loop's body in memory takes from outside
abbrev pub names_carried : {A : Type 0} → (variable : Name) → declared.Rel A → List Name
names_carried x body = carried x (plain_rel (rel_tree body))

-- and those of them that come once
abbrev pub names_once : {A : Type 0} → LoopForm → (variable : Name) → declared.Rel A → List Name
names_once form x body = once_names (plain_form form) x (plain_rel (rel_tree body))

-- ---- before the body; k is the number of the loop's first vertex, d the depth outside

-- ingress, concat, gate, and the vertices of the carried names ys; the concat has its first source twice, since the second isn't known yet
abbrev pub loop_entry : Loop → (turns : ℕ) → (once : List Name) → (start : Port) → Ports → (d k : ℕ) → List Name → List Vertex
loop_entry l n once start ports d k ys =
    new_vertex Kind.ingress d (start ∷ [])
    ∷ new_vertex Kind.concat (suc d) (port k 0 ∷ port k 0 ∷ [])
    ∷ new_vertex (gate_of l n) (suc d) (port (suc k) 0 ∷ [])
    ∷ carry (held_turns n once) ports d (suc (suc (suc k))) ys

-- the same of a loop in memory, whose names are those of its body
abbrev pub entry_of : {A : Type 0} → LoopForm → (turns : ℕ) → (variable : Name) → (body : declared.Rel A) → (start : Port) → Ports → (d k : ℕ) → List Vertex
entry_of form n x body start ports d k = loop_entry (plain_form form) n (names_once form x body) start ports d k (names_carried x body)

-- ingress, concat, hold and feedback of one carried name, which stands for a port outside
abbrev pub carry_one : (turns : ℕ) → (from : Port) → (d k : ℕ) → List Vertex
carry_one n from d k =
    new_vertex Kind.ingress d (from ∷ [])
    ∷ new_vertex Kind.concat (suc d) (port k 0 ∷ port (suc (suc (suc k))) 0 ∷ [])
    ∷ new_vertex (Kind.hold n) (suc d) (port (suc k) 0 ∷ [])
    ∷ new_vertex Kind.feedback (suc d) (port (suc (suc k)) 1 ∷ [])
    ∷ []

-- what the gate, and the hold of a carried name, send into the body
abbrev pub body_port : (k : ℕ) → Port
body_port k = port (suc (suc k)) 0

-- what names stand for in the body
abbrev pub inside_of : Ports → (variable : Name) → (k : ℕ) → List Name → Ports
inside_of ports x k ys = stands_for x (body_port k) (carried_ports ports (suc (suc (suc k))) ys)

-- ---- after the body

-- the vertices in memory, then a feedback of what the body gives, and an egress; the concat before the gate has the feedback as its second source
abbrev pub with_loop_exit : List vertex.Vertex → (gate : ℕ) → (body : Port) → (d : ℕ) → Graph
with_loop_exit made gate body d =
    slice_set (graph_of made) (gate - 1) (new_vertex Kind.concat (suc d) (port (gate - 2) 0 ∷ port (length made) 0 ∷ []))
    ++ (new_vertex Kind.feedback (suc d) (body ∷ []) ∷ new_vertex Kind.egress (suc d) (port gate 1 ∷ []) ∷ [])
