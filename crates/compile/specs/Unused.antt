-- What a query declares and nothing uses.
use Rattle.std.specs.Prelude.{◌≡◌, ℕ, Bool, cond, List, [], ◌∷◌, ◌++◌}
use Rattle.std.specs.List.{list_any, flat_map}
use Rattle.record_core.specs.declared.span.Span.{Span}
use Rattle.semantics.specs.Query.{Name, Rel}
use Rattle.semantics.specs.FreeNames.{free}
use Rattle.semantics.specs.Meaning.{same_name}
use Rattle.expr_tree.specs.declared.program.Input.{Input}
use Rattle.expr_tree.specs.Plain.{plain_program, plain_rel}
use Rattle.expr_tree.specs.Trees.{RelTree, LetTree, OutputTree, ProgramTree}
use Rattle.grammar.specs.Texts.{Reads}
use Rattle.normalise.specs.Reached.{Finds}
use Rattle.diagnostics.specs.declared.warnings.Unused.{Unused}

-- the place of a loop's variable, if the body doesn't use it
abbrev pub idle_variable : Name → Rel → Span → List Span
idle_variable x body place = cond (list_any (same_name x) (free body)) [] (place ∷ [])

-- the variables of the loops whose bodies don't use them, in the order of the text
abbrev pub idle_variables : RelTree → List Span
idle_variables (RelTree.named s x) = []
idle_variables (RelTree.select s r ts) = idle_variables r
idle_variables (RelTree.filter s r c) = idle_variables r
idle_variables (RelTree.set_operation s o p q) = idle_variables p ++ idle_variables q
idle_variables (RelTree.join s p q ps) = idle_variables p ++ idle_variables q
idle_variables (RelTree.group s r ks gs) = idle_variables r
idle_variables (RelTree.distinct s r) = idle_variables r
idle_variables (RelTree.loop s f t n u x r b) = idle_variables r ++ (idle_variable x (plain_rel b) u ++ idle_variables b)

abbrev pub idle_in_let : LetTree → List Span
idle_in_let l = idle_variables l.relation

abbrev pub idle_in_output : OutputTree → List Span
idle_in_output o = idle_variables o.relation

-- the name's place, if it isn't used
abbrev pub unused_input : (is_used : Name → Bool) → Input → List Span
unused_input is_used i = cond (is_used i.name) [] (i.name_span ∷ [])

abbrev pub unused_let : (is_used : Name → Bool) → LetTree → List Span
unused_let is_used l = cond (is_used l.name) [] (l.name_span ∷ [])

-- The places of what nothing uses: of each input and each let that no output reaches, directly or through lets that one reaches, and of each
-- variable that its loop's body doesn't have.
pub record AreUnused (p : ProgramTree) (found : Unused) : Type 0 where
  pub is_used : Name → Bool
  pub used : Finds is_used (plain_program p).lets (plain_program p).outputs
  pub inputs : found.inputs.items ≡ flat_map (unused_input is_used) p.inputs
  pub lets : found.lets.items ≡ flat_map (unused_let is_used) p.lets
  pub variables : found.variables.items ≡ flat_map idle_in_let p.lets ++ flat_map idle_in_output p.outputs

-- what nothing uses in the program that the text reads as
pub record IsUnusedIn (text : List ℕ) (found : Unused) : Type 0 where
  pub tree : ProgramTree
  pub read : Reads text tree
  pub unused : AreUnused tree found
