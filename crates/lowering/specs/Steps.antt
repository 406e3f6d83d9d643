-- What a piece of lowering has done.
use Rattle.std.specs.Prelude.{◌≡◌, ℕ, List, ◌++◌}
use Rattle.std.specs.List.{AllByRecursion}
use Rattle.expr_tree.specs.declared.program.Let as declared_let
use Rattle.expr_tree.specs.declared.program.Output as declared_output
use Rattle.expr_tree.specs.PlainLists.{plain_lets, plain_outputs}
use Rattle.semantics.specs.Query.{Let, Output, Program}
use Rattle.semantics.specs.Graph.{Graph, Port}
use Rattle.semantics.specs.Lower.{Lowered, LoweredLets, Ports, lower_lets, lower_outputs}
use Rattle.semantics.proofs.FittingPrograms.{Nested}
use Rattle.lowering.specs.Scopes.{ports_of}
use Rattle.lowering.specs.declared.scope.Entry.{Entry}

-- ---- what parts of a query in memory make, where es are the names in scope, and k is the number of the first vertex

-- named relations
abbrev pub lowered_lets : {A : Type 0} → List (declared_let.Let A) → (es : List Entry) → (k : ℕ) → LoweredLets
lowered_lets lets es k = lower_lets (plain_lets lets) (ports_of es) k

-- outputs
abbrev pub lowered_outputs : {A : Type 0} → List (declared_output.Output A) → (es : List Entry) → (k : ℕ) → Graph
lowered_outputs outputs es k = lower_outputs (plain_outputs outputs) (ports_of es) k

-- ---- what a piece has done

-- g has become h by what the relation makes, and it gives p
pub record IsLowered (g h : Graph) (p : Port) (l : Lowered) : Type 0 where
  pub made : h ≡ g ++ l.made
  pub gives : p ≡ l.gives

-- g has become h by what the lets make, and names stand for those ports
pub record AreLowered (g h : Graph) (ports : Ports) (l : LoweredLets) : Type 0 where
  pub made : h ≡ g ++ l.made
  pub names : ports ≡ l.ports

-- no more loops inside one another than may be, in each of these
abbrev pub AreNested : List Let → Type 0
AreNested ls = AllByRecursion (λ (l : Let). Nested 0 l.value) ls

-- and in each of these outputs
abbrev pub OutputsNested : List Output → Type 0
OutputsNested os = AllByRecursion (λ (o : Output). Nested 0 o.value) os

-- and in the whole program
abbrev pub IsNested : Program → Type 0
IsNested p = AreNested p.lets × OutputsNested p.outputs
