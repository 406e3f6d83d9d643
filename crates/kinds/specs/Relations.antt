-- What the fields of relations and outputs stand for, if what is computed of them makes sense.
use Rattle.std.specs.Prelude.{Bool, true, false, cond, ◌&&◌, List, [], ◌∷◌, ◌++◌, map, Option, Some, None}
use Rattle.std.specs.Prelude.{ℤ, slice_get, is_some, option_map, option_and_then}
use Rattle.semantics.specs.Meaning.{same_name}
use Rattle.semantics.specs.Query.{Name, Pair, Rel, Input, Let, Output, Program}
use Rattle.kinds.specs.declared.kind.Kind.{Kind}
use Rattle.kinds.specs.declared.kind.Kind.TheVariants as kind
use Rattle.kinds.specs.Kinds.{same_quantity, common, scalar_kind, may_ask, agg_kind}

-- a name in scope, with the kinds of its fields
pub record Entry : Type 0 where
  pub name : Name
  pub kinds : List Kind

-- the names in scope, the latest first
abbrev pub Scope : Type 0
Scope = List Entry

-- the kinds of a name
abbrev pub lookup : Scope → Name → Option (List Kind)
lookup [] x = None
lookup (e ∷ es) x = cond (same_name e.name x) (Some e.kinds) (lookup es x)

-- a name with its kinds
abbrev pub entry : Name → List Kind → Entry
entry x ks = record { name = x; kinds = ks }

-- all of them, if there is each
abbrev pub all_of : {X : Type 0} → List (Option X) → Option (List X)
all_of [] = Some []
all_of (None ∷ xs) = None
all_of (Some x ∷ xs) = option_map (λ ys. x ∷ ys) (all_of xs)

-- what two kinds have in common
abbrev pub merged_kind : Kind → Kind → Option Kind
merged_kind kind.Text kind.Text = Some kind.Text
merged_kind (kind.Number a) (kind.Number b) = option_map kind.Number (common a b)
merged_kind k l = None

-- field by field
abbrev pub merged : List Kind → List Kind → Option (List Kind)
merged [] [] = Some []
merged (k ∷ ks) (l ∷ ls) = option_and_then (λ m. option_map (λ ms. m ∷ ms) (merged ks ls)) (merged_kind k l)
merged ks ls = None

-- columns that a join compares
abbrev pub may_meet : Option Kind → Option Kind → Bool
may_meet (Some k) (Some l) = is_some (merged_kind k l)
may_meet k l = false

-- each pair's columns may be compared
abbrev pub may_join : (ks ls : List Kind) → List Pair → Bool
may_join ks ls [] = true
may_join ks ls (p ∷ ps) = may_meet (slice_get ks p.left) (slice_get ls p.right) && may_join ks ls ps

-- the kinds are the same
abbrev pub same_kind : Kind → Kind → Bool
same_kind kind.Text kind.Text = true
same_kind (kind.Number a) (kind.Number b) = same_quantity a b
same_kind k l = false

-- field by field
abbrev pub same_kinds : List Kind → List Kind → Bool
same_kinds [] [] = true
same_kinds (k ∷ ks) (l ∷ ls) = same_kind k l && same_kinds ks ls
same_kinds ks ls = false

-- Of a loop's variable, by those of the start and what a turn makes of kinds: what the start and a first turn have in common, if a turn keeps it. So a
-- bare number at the start takes the kind that the first turn gives it.
abbrev pub settled : List Kind → (List Kind → Option (List Kind)) → Option (List Kind)
settled ks f = option_and_then (λ ls. option_and_then (λ ms. option_and_then (λ ns. option_and_then (λ os. cond (same_kinds os ms) (Some ms) None) (merged ms ns)) (f ms)) (merged ks ls)) (f ks)

-- of a relation in a scope, where `named` are the numbers of texts with a name
abbrev pub rel_kinds : (named : List ℤ) → Rel → Scope → Option (List Kind)
rel_kinds named (Rel.named x) scope = lookup scope x
rel_kinds named (Rel.select r ss) scope = option_and_then (λ ks. all_of (map (scalar_kind ks) ss)) (rel_kinds named r scope)
rel_kinds named (Rel.filter r c) scope = option_and_then (λ ks. cond (may_ask named ks c) (Some ks) None) (rel_kinds named r scope)
rel_kinds named (Rel.concat p q) scope = option_and_then (λ ks. option_and_then (merged ks) (rel_kinds named q scope)) (rel_kinds named p scope)
rel_kinds named (Rel.join p q ps) scope = option_and_then (λ ks. option_and_then (λ ls. cond (may_join ks ls ps) (Some (ks ++ ls)) None) (rel_kinds named q scope)) (rel_kinds named p scope)
rel_kinds named (Rel.group r cs as') scope = option_and_then (λ ks. all_of (map (slice_get ks) cs ++ map (agg_kind ks) as')) (rel_kinds named r scope)
rel_kinds named (Rel.distinct r) scope = rel_kinds named r scope
rel_kinds named (Rel.except p q) scope = option_and_then (λ ks. option_and_then (merged ks) (rel_kinds named q scope)) (rel_kinds named p scope)
rel_kinds named (Rel.intersect p q) scope = option_and_then (λ ks. option_and_then (merged ks) (rel_kinds named q scope)) (rel_kinds named p scope)
rel_kinds named (Rel.loop l n x r b) scope = option_and_then (λ ks. settled ks (λ ls. rel_kinds named b (entry x ls ∷ scope))) (rel_kinds named r scope)

-- the scope of the inputs, by the kinds of each
abbrev pub inputs_scope : List Input → List (List Kind) → Scope
inputs_scope [] kinds = []
inputs_scope (i ∷ is) [] = []
inputs_scope (i ∷ is) (ks ∷ kinds) = entry i.name ks ∷ inputs_scope is kinds

-- of the outputs, after the lets
abbrev pub rest_kinds : (named : List ℤ) → Scope → List Let → List Output → Option (List (List Kind))
rest_kinds named scope [] outputs = all_of (map (λ (o : Output). rel_kinds named o.value scope) outputs)
rest_kinds named scope (l ∷ ls) outputs = option_and_then (λ ks. rest_kinds named (entry l.name ks ∷ scope) ls outputs) (rel_kinds named l.value scope)

-- of the outputs of a program, by the kinds of its inputs
abbrev pub program_kinds : (named : List ℤ) → Program → List (List Kind) → Option (List (List Kind))
program_kinds named p kinds = rest_kinds named (inputs_scope p.inputs kinds) p.lets p.outputs
