-- The lines of a right schema are right.
use Rattle.std.proofs.Common.{◌≡◌, ℕ, List, [], ◌∷◌, ◌++◌, length, arith}
use Rattle.std.specs.List.{AllByRecursion}
use Rattle.csv_cells.specs.declared.column.Column.{Column}
use Rattle.schema_lines.specs.Lines.{IsEpoched, IsProper}
use Rattle.schema_lines.specs.Words.{IsColumn, IsHeader, IsName, Lacks}
use Rattle.schema.specs.Schemas.{IsEpochsOf, IsSchema, IsTable, Said, parts_of}
use Rattle.schema.specs.Steps.{column_events, constant_events, epoched_of, events_of, input_event, output_event, table_events}
use Rattle.schema.specs.declared.tables.Epochs.{Epochs}
use Rattle.schema.specs.declared.tables.Epochs.TheVariants.{One, By, Every}
use Rattle.schema.specs.declared.tables.Schema.{Schema}
use Rattle.schema_lines.proofs.Each.{each-append, each-at}

-- the columns of a right table
proper-columns : (names : List (List ℕ)) (columns : List Column) → AllByRecursion IsHeader names → AllByRecursion IsColumn columns
    → AllByRecursion IsProper (column_events names columns)
unfolding column_events
proper-columns [] columns h r = tt
proper-columns (n ∷ ns) [] h r = tt
proper-columns (n ∷ ns) (c ∷ cs) h r = ((h.0, r.0), proper-columns ns cs h.1 r.1)

proper-epochs : (epochs : Epochs) (names : List (List ℕ)) (columns : List Column) → length names ≡ length columns
    → AllByRecursion IsHeader names → IsEpochsOf columns epochs → IsEpoched (epoched_of epochs names)
proper-epochs One names columns counted h fit = tt
proper-epochs (By place) names columns counted h fit = (each-at IsHeader names place [] (omega (arith, fit.0, counted)) h).1
proper-epochs Every names columns counted h fit = tt

proper-inputs : (tables : List Said) → AllByRecursion IsTable tables → AllByRecursion IsProper (table_events input_event tables)
unfolding table_events
proper-inputs [] so = tt
proper-inputs (t ∷ ts) (right, so) = (
  (right.named, proper-epochs t.epochs t.names t.columns right.counted right.headers right.epochs),
  each-append IsProper (column_events t.names t.columns) (table_events input_event ts)
      (proper-columns t.names t.columns right.headers right.columns) (proper-inputs ts so),
)

proper-outputs : (tables : List Said) → AllByRecursion IsTable tables → AllByRecursion IsProper (table_events output_event tables)
unfolding table_events
proper-outputs [] so = tt
proper-outputs (t ∷ ts) (right, so) = (
  right.named,
  each-append IsProper (column_events t.names t.columns) (table_events output_event ts)
      (proper-columns t.names t.columns right.headers right.columns) (proper-outputs ts so),
)

proper-constants : (constants : List (List ℕ × List ℕ)) → AllByRecursion (λ c. IsName c.0 × Lacks 10 c.1) constants
    → AllByRecursion IsProper (constant_events constants)
unfolding constant_events
proper-constants [] so = tt
proper-constants (c ∷ cs) (right, so) = ((right.0, right.1), proper-constants cs so)

pub schema-proper : (s : Schema) → IsSchema s → AllByRecursion IsProper (events_of (parts_of s))
schema-proper s right =
    let p = parts_of s in
    let rest = each-append IsProper (table_events output_event p.outputs) (constant_events p.constants)
    (proper-outputs p.outputs right.outputs.0) (proper-constants p.constants right.constants.0) in
    each-append IsProper (table_events input_event p.inputs) (table_events output_event p.outputs ++ constant_events p.constants)
    (proper-inputs p.inputs right.inputs.0) rest
