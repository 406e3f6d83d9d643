-- What a query's fields stand for by a schema.
use Rattle.std.specs.Prelude.{◌+◌, ℕ, Bool, true, false, cond, nat_eq, ◌&&◌, List, [], ◌∷◌, map, length, Option, None, Some, ℤ, pos}
use Rattle.std.specs.Prelude.{option_and_then}
use Rattle.semantics.specs.Meaning.{same_name}
use Rattle.semantics.specs.Query.{Name, Input, Output, Program}
use Rattle.kinds.specs.declared.kind.Kind.{Kind}
use Rattle.kinds.specs.declared.kind.Kind.TheVariants as kind
use Rattle.kinds.specs.declared.kind.Quantity.TheVariants as quantity
use Rattle.kinds.specs.Relations.{all_of, merged, same_kinds, program_kinds}
use Rattle.csv_cells.specs.declared.column.Column.{Column}
use Rattle.csv_cells.specs.declared.column.Kind as cells
use Rattle.csv_cells.specs.declared.column.Kind.TheVariants as cell
use Rattle.schema.specs.declared.tables.Table.{Table}
use Rattle.schema.specs.declared.tables.Schema.{Schema}

-- what the cells of a column stand for
abbrev pub kind_of : cells.Kind → Kind
kind_of cell.Int = kind.Number quantity.Whole
kind_of (cell.Decimal n) = kind.Number (quantity.Decimal n)
kind_of cell.Date = kind.Number quantity.Date
kind_of cell.Time = kind.Number quantity.Time
kind_of cell.Text = kind.Text

-- of all columns of a table
abbrev pub column_kinds : List Column → List Kind
column_kinds cs = map (λ (c : Column). kind_of c.kind) cs

-- the kinds of the table with that name
abbrev pub table_kinds : List Table → Name → Option (List Kind)
table_kinds [] x = None
table_kinds (t ∷ ts) x = cond (same_name t.name.items x) (Some (column_kinds t.columns.items)) (table_kinds ts x)

-- where there are as many as the arity
abbrev pub of_arity : ℕ → List Kind → Option (List Kind)
of_arity n ks = cond (nat_eq (length ks) n) (Some ks) None

-- of each input
abbrev pub input_kinds : List Table → List Input → Option (List (List Kind))
input_kinds ts is = all_of (map (λ (i : Input). option_and_then (of_arity i.arity) (table_kinds ts i.name)) is)

-- two lists in common are the second
abbrev pub is_second : Option (List Kind) → List Kind → Bool
is_second None said = false
is_second (Some ks) said = same_kinds ks said

-- the kinds that were found may stand for those of the table: a bare number for any quantity
abbrev pub may_stand : Option (List Kind) → (found : List Kind) → Bool
may_stand None found = false
may_stand (Some said) found = is_second (merged found said) said

-- each output's kinds may stand for those of its table
abbrev pub outputs_fit : List Table → List Output → List (List Kind) → Bool
outputs_fit ts [] kinds = true
outputs_fit ts (o ∷ os) [] = true
outputs_fit ts (o ∷ os) (ks ∷ kinds) = may_stand (table_kinds ts o.name) ks && outputs_fit ts os kinds

-- the numbers from n on, one for each
abbrev pub numbers_from : {X : Type 0} → ℕ → List X → List ℤ
numbers_from n [] = []
numbers_from n (x ∷ xs) = pos n ∷ numbers_from (n + 1) xs

-- the kinds of the inputs and of the outputs, by the schema's inputs and constants
abbrev pub found : Schema → Program → Option (List (List Kind) × List (List Kind))
found s p = option_and_then (λ ins. option_and_then (λ outs. Some (ins, outs)) (program_kinds (numbers_from 0 s.constants.items) p ins)) (input_kinds s.inputs.items p.inputs)

-- the same where the query goes with the schema
abbrev pub checked : Schema → Program → Option (List (List Kind) × List (List Kind))
checked s p = option_and_then (λ (kinds : List (List Kind) × List (List Kind)). cond (outputs_fit s.outputs.items p.outputs kinds.1) (Some kinds) None) (found s p)
