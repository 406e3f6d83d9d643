-- What the names in scope stand for.
use Rattle.std.specs.Prelude.{◌≡◌, ℕ, true, is_some, List, [], ◌∷◌, ◌++◌, map, take, slice_get, Option, Some, None}
use Rattle.std.specs.Map.{lookup}
use Rattle.semantics.specs.Query.{Name}
use Rattle.semantics.specs.Graph.{no_port}
use Rattle.semantics.specs.Graph as graph
use Rattle.semantics.specs.Lower.{Ports, stands_for}
use Rattle.semantics.specs.Meaning.{same_name}
use Rattle.graph.specs.Views.{port_of}
use Rattle.lowering.specs.declared.scope.Bound.{Bound}
use Rattle.lowering.specs.declared.scope.Entry.{Entry}
use Rattle.graph.specs.declared.vertex.Port.{Port}

-- after these entries; a later one hides an earlier one
abbrev pub ports_from : Ports → List Entry → Ports
ports_from ports [] = ports
ports_from ports (e ∷ es) = ports_from (stands_for e.name (port_of e.port) ports) es

-- of these entries alone
abbrev pub ports_of : List Entry → Ports
ports_of es = ports_from (λ x. no_port) es

-- new has all of old, in front
pub record Extends (old new : List Entry) : Type 0 where
  pub more : List Entry
  pub is : new ≡ old ++ more

-- ---- the table that finds them

-- the entries, in the order in which they were bound
abbrev pub entries_of : List Bound → List Entry
entries_of bs = map (λ b. b.entry) bs

-- a port that was looked for
abbrev pub found_port : Option Port → graph.Port
found_port None = no_port
found_port (Some p) = port_of p

-- the table has for each name the port that it stands for; each bound name is in it, and the port that it hides is kept
pub record IsTable (table : List (Name × Port)) (bs : List Bound) : Type 0 where
  pub found : (x : Name) → found_port (lookup (same_name x) table) ≡ ports_of (entries_of bs) x
  pub known : (i : ℕ) (b : Bound) → slice_get bs i ≡ Some b → is_some (lookup (same_name b.entry.name) table) ≡ true
  pub hidden : (i : ℕ) (b : Bound) → slice_get bs i ≡ Some b → port_of b.hidden ≡ ports_of (take i (entries_of bs)) b.entry.name
