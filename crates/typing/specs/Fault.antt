-- What a refusal says.
use Rattle.std.specs.Prelude.{ℕ}
use Rattle.record_core.specs.declared.span.Span.{Span}
use Rattle.expr_tree.specs.Trees.{RelTree}

-- a code and a place
pub record Fault : Type 0 where
  pub code : ℕ
  pub span : Span

-- a fault of that code at that place
abbrev pub fault : ℕ → Span → Fault
fault c s = record { code = c; span = s }

-- the place of a relation
abbrev pub span_of : RelTree → Span
span_of (RelTree.named s x) = s
span_of (RelTree.select s r ts) = s
span_of (RelTree.filter s r c) = s
span_of (RelTree.set_operation s o p q) = s
span_of (RelTree.join s p q ps) = s
span_of (RelTree.group s r ks gs) = s
span_of (RelTree.distinct s r) = s
span_of (RelTree.loop s w t n u x r b) = s
