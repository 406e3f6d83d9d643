-- What the check of a program guarantees for its graph.
use Rattle.std.specs.Prelude.{ℕ, suc, ◌≤◌, ◌<◌, List, [], ◌∷◌, map}
use Rattle.semantics.specs.Multiset.{IsAmong}
use Rattle.semantics.specs.FreeNames.{free}
use Rattle.semantics.specs.Limits.{max_loops}
use Rattle.semantics.specs.Query.{Name, Rel, Input, Let, Output, Program}
use Rattle.semantics.specs.Time.{turn_count}

-- each name that occurs free is known
abbrev pub Known : List Name → Rel → Type 0
Known xs r = (y : Name) → IsAmong y (free r) → IsAmong y xs

-- no loop has more turns than an egress adds up
abbrev pub Limited : Rel → Type 0
Limited (Rel.named x) = Unit {0}
Limited (Rel.select r ss) = Limited r
Limited (Rel.filter r c) = Limited r
Limited (Rel.concat p q) = Limited p × Limited q
Limited (Rel.join p q ps) = Limited p × Limited q
Limited (Rel.group r ks as') = Limited r
Limited (Rel.distinct r) = Limited r
Limited (Rel.except p q) = Limited p × Limited q
Limited (Rel.intersect p q) = Limited p × Limited q
Limited (Rel.loop l n x r b) = (n < turn_count) × Limited r × Limited b

-- at most the allowed number of loops are inside one another, if d are already open
abbrev pub Nested : ℕ → Rel → Type 0
Nested d (Rel.named x) = Unit {0}
Nested d (Rel.select r ss) = Nested d r
Nested d (Rel.filter r c) = Nested d r
Nested d (Rel.concat p q) = Nested d p × Nested d q
Nested d (Rel.join p q ps) = Nested d p × Nested d q
Nested d (Rel.group r ks as') = Nested d r
Nested d (Rel.distinct r) = Nested d r
Nested d (Rel.except p q) = Nested d p × Nested d q
Nested d (Rel.intersect p q) = Nested d p × Nested d q
Nested d (Rel.loop l n x r b) = Nested d r × (suc d ≤ max_loops) × Nested (suc d) b

pub record FitsIn (xs : List Name) (r : Rel) : Type 0 where
  pub known : Known xs r
  pub limited : Limited r
  pub nested : Nested 0 r

abbrev pub LetsFit : List Name → List Let → Type 0
LetsFit xs [] = Unit {0}
LetsFit xs (a ∷ as') = FitsIn xs a.value × LetsFit (a.name ∷ xs) as'

abbrev pub names_after : List Name → List Let → List Name
names_after xs [] = xs
names_after xs (a ∷ as') = names_after (a.name ∷ xs) as'

abbrev pub input_list : List Input → List Name
input_list as' = map (λ a. a.name) as'

abbrev pub AllFit : List Name → List Output → Type 0
AllFit xs [] = Unit {0}
AllFit xs (o ∷ os) = FitsIn xs o.value × AllFit xs os

pub record IsFitting (p : Program) : Type 0 where
  pub lets : LetsFit (input_list p.inputs) p.lets
  pub outputs : AllFit (names_after (input_list p.inputs) p.lets) p.outputs
