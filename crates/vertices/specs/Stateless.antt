-- A vertex without a state.
use Rattle.std.specs.Prelude.{◌≡◌, ℕ, map}
use Rattle.expr_tree.specs.Plain.{plain_scalar, plain_cond}
use Rattle.expr_tree.specs.Views.{scalar_tree, cond_tree}
use Rattle.semantics.specs.Kinds.{Kind}
use Rattle.vertices.specs.declared.stateless.Stateless.{Stateless}
use Rattle.vertices.specs.declared.stateless.Stateless.TheVariants.{Select, Where, Concat, Ingress, Egress, Feedback, Gate, Hold}

-- its kind
abbrev pub stateless_kind : Stateless → Kind
stateless_kind (Select s) = Kind.select (map plain_scalar (map scalar_tree s.scalars.items))
stateless_kind (Where s) = Kind.filter (plain_cond (cond_tree s.condition))
stateless_kind Concat = Kind.concat
stateless_kind Ingress = Kind.ingress
stateless_kind Egress = Kind.egress
stateless_kind Feedback = Kind.feedback
stateless_kind (Gate turns) = Kind.gate turns
stateless_kind (Hold turns) = Kind.hold turns

-- records of that arity may come to it
abbrev pub StatelessTakes : Stateless → (arity : ℕ) → Type 0
StatelessTakes (Select s) n = n ≡ s.arity
StatelessTakes (Where s) n = n ≡ s.arity
StatelessTakes Concat n = Unit {0}
StatelessTakes Ingress n = Unit {0}
StatelessTakes Egress n = Unit {0}
StatelessTakes Feedback n = Unit {0}
StatelessTakes (Gate turns) n = Unit {0}
StatelessTakes (Hold turns) n = Unit {0}
