-- The trees that have a text.
use Rattle.std.specs.Prelude.{ℕ, ◌<◌, ◌≤◌, ◌^◌, ◌≡◌, ℤ, pos, negsuc, List, [], ◌∷◌}
use Rattle.record_core.specs.Names.{IsName}
use Rattle.expr_tree.specs.declared.relation.Column.{Column}
use Rattle.expr_tree.specs.declared.relation.Pair.{Pair}
use Rattle.expr_tree.specs.declared.relation.Agg.{Agg}
use Rattle.expr_tree.specs.declared.relation.Agg.TheVariants.{Count, Sum, Min, Max}
use Rattle.expr_tree.specs.declared.program.Input.{Input}
use Rattle.expr_tree.specs.Trees.{ScalarTree, CondTree, RelTree, LetTree, OutputTree, ProgramTree}
use Rattle.expr_tree.specs.Plain.{plain_program}
use Rattle.grammar.specs.Texts.{Reads, max_height}
use Rattle.writer.specs.Programs.{program_height}

-- at most 9223372036854775807
abbrev pub IsNumber : ℕ → Type 0
IsNumber n = n < 2 ^ 63

abbrev pub IsLiteral : ℤ → Type 0
IsLiteral (pos n) = IsNumber n
IsLiteral (negsuc n) = ⊥

-- no literal is negative, and no number is too large
abbrev pub IsScalarSource : ScalarTree → Type 0
IsScalarSource (ScalarTree.literal s z) = IsLiteral z
IsScalarSource (ScalarTree.column s n) = IsNumber n
IsScalarSource (ScalarTree.binary s o a b) = IsScalarSource a × IsScalarSource b
IsScalarSource (ScalarTree.negate s a) = IsScalarSource a

abbrev pub IsCondSource : CondTree → Type 0
IsCondSource (CondTree.compare s o a b) = IsScalarSource a × IsScalarSource b
IsCondSource (CondTree.logical s o a b) = IsCondSource a × IsCondSource b
IsCondSource (CondTree.negate s a) = IsCondSource a

-- it holds of each
abbrev pub Each : {X : Type 0} → (X → Type 0) → List X → Type 0
Each P [] = Unit {0}
Each P (x ∷ xs) = P x × Each P xs

-- there is one, and it holds of each
abbrev pub Filled : {X : Type 0} → (X → Type 0) → List X → Type 0
Filled P [] = ⊥
Filled P (x ∷ xs) = P x × Each P xs

abbrev pub IsColumnSource : Column → Type 0
IsColumnSource c = IsNumber c.index

abbrev pub IsPairSource : Pair → Type 0
IsPairSource p = IsColumnSource p.left × IsColumnSource p.right

abbrev pub IsAggSource : Agg → Type 0
IsAggSource (Count s) = Unit {0}
IsAggSource (Sum s c) = IsColumnSource c
IsAggSource (Min s c) = IsColumnSource c
IsAggSource (Max s c) = IsColumnSource c

-- nor is a list empty that has to be filled; names are names
abbrev pub IsRelSource : RelTree → Type 0
IsRelSource (RelTree.named s x) = IsName x
IsRelSource (RelTree.select s r xs) = IsRelSource r × Filled IsScalarSource xs
IsRelSource (RelTree.filter s r c) = IsRelSource r × IsCondSource c
IsRelSource (RelTree.set_operation s o a b) = IsRelSource a × IsRelSource b
IsRelSource (RelTree.join s a b ps) = IsRelSource a × IsRelSource b × Filled IsPairSource ps
IsRelSource (RelTree.group s r ks gs) = IsRelSource r × Filled IsColumnSource ks × Filled IsAggSource gs
IsRelSource (RelTree.distinct s r) = IsRelSource r
IsRelSource (RelTree.loop s f t n u x r b) = IsNumber n × IsName x × IsRelSource r × IsRelSource b

abbrev pub IsInputSource : Input → Type 0
IsInputSource i = IsName i.name × IsNumber i.arity

abbrev pub IsLetSource : LetTree → Type 0
IsLetSource l = IsName l.name × IsRelSource l.relation

abbrev pub IsOutputSource : OutputTree → Type 0
IsOutputSource o = IsName o.name × IsRelSource o.relation

-- the program has a text, and no phrase of it is too high
pub record IsSource (p : ProgramTree) : Type 0 where
  pub inputs : Each IsInputSource p.inputs
  pub lets : Each IsLetSource p.lets
  pub outputs : Filled IsOutputSource p.outputs
  pub low : program_height p ≤ max_height

-- the text is that program, spans aside
pub record ReadsAs (text : List ℕ) (p : ProgramTree) : Type 0 where
  pub tree : ProgramTree
  pub same : plain_program tree ≡ plain_program p
  pub reads : Reads text tree
