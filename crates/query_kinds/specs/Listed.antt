-- What is listed of a query by a schema.
use Rattle.std.specs.Prelude.{◌≡◌, ◌⊎◌, ◌+◌, ℕ, zero, suc, cond, List, [], ◌∷◌, ◌++◌, codes, decimal, map, slice_get, slice_index_or, Option, Some, None}
use Rattle.semantics.specs.Meaning.{same_name}
use Rattle.semantics.specs.Query.{Name, Input, Output, Program}
use Rattle.semantics.specs.Typing.{WellTyped}
use Rattle.expr_tree.specs.Trees.{ProgramTree}
use Rattle.expr_tree.specs.Plain.{plain_program}
use Rattle.grammar.specs.Texts as grammar
use Rattle.record_core.specs.declared.span.Refusal.{Refusal}
use Rattle.record_core.specs.declared.span.Refusal.TheVariants as refusal
use Rattle.compile.specs.Checked.{input_line, output_line}
use Rattle.compile.specs.Queries.{IsRefusal}
use Rattle.csv_cells.specs.declared.column.Column.{Column}
use Rattle.csv_cells.specs.declared.column.Kind as cells
use Rattle.csv_cells.specs.declared.column.Kind.TheVariants as cell
use Rattle.kinds.specs.declared.kind.Kind.{Kind}
use Rattle.field_origins.specs.declared.source.Source.{Source}
use Rattle.origins.specs.Relations.{program_origins}
use Rattle.origins.specs.Sources.{Origin}
use Rattle.schema.specs.declared.tables.Table.{Table}
use Rattle.schema.specs.declared.tables.Constant.{Constant}
use Rattle.schema.specs.declared.tables.Schema.{Schema}
use Rattle.schema_check.specs.Checked.{checked}
use Rattle.std.specs.Prelude.{Vec}
use Rattle.std.specs.Global.{Global}

-- the word for what cells stand for
abbrev pub kind_word : cells.Kind → List ℕ
kind_word cell.Int = codes "int"
kind_word (cell.Decimal n) = codes "decimal(" ++ (decimal n ++ codes ")")
kind_word cell.Date = codes "date"
kind_word cell.Time = codes "time"
kind_word cell.Text = codes "text"

-- `  #N NAME KIND`
abbrev pub column_words : ℕ → List ℕ → Column → List ℕ
column_words n name c = codes "  #" ++ (decimal n ++ (codes " " ++ (name ++ (codes " " ++ kind_word c.kind))))

-- a line for each column, from the number n on
abbrev pub column_lines : ℕ → List (Vec ℕ Global) → List Column → List ℕ
column_lines n [] cs = []
column_lines n (h ∷ hs) [] = []
column_lines n (h ∷ hs) (c ∷ cs) = column_words n h.items c ++ (codes "\n" ++ column_lines (n + 1) hs cs)

-- the table with that name
abbrev pub table_of : List Table → Name → Option Table
table_of [] x = None
table_of (t ∷ ts) x = cond (same_name t.name.items x) (Some t) (table_of ts x)

-- a table's columns
abbrev pub table_lines : Option Table → List ℕ
table_lines None = []
table_lines (Some t) = column_lines 0 t.headers.items t.columns.items

-- an input's line, and its columns
abbrev pub input_lines : List Table → List Input → List ℕ
input_lines ts [] = []
input_lines ts (i ∷ is) = input_line i ++ (table_lines (table_of ts i.name) ++ input_lines ts is)

-- ---- outputs

-- the name of a table's column
abbrev pub header_of : Option Table → ℕ → List ℕ
header_of None c = []
header_of (Some t) c = slice_index_or (map (λ (h : Vec ℕ Global). h.items) t.headers.items) c []

-- `INPUT.COLUMN` of an input
abbrev pub named_column : List Table → Option Input → ℕ → List ℕ
named_column ts None c = []
named_column ts (Some i) c = i.name ++ (codes "." ++ header_of (table_of ts i.name) c)

-- `INPUT.COLUMN` of a source
abbrev pub source_words : List Table → List Input → Source → List ℕ
source_words ts is s = named_column ts (slice_get is s.input) s.column

-- `, INPUT.COLUMN` of each further source
abbrev pub further_words : (named : Source → List ℕ) → List Source → List ℕ
further_words named [] = []
further_words named (s ∷ ss) = codes ", " ++ (named s ++ further_words named ss)

-- ` computed` or ` from INPUT.COLUMN, INPUT.COLUMN`
abbrev pub origin_words : (named : Source → List ℕ) → Origin → List ℕ
origin_words named Origin.computed = codes " computed"
origin_words named (Origin.taken []) = []
origin_words named (Origin.taken (s ∷ ss)) = codes " from " ++ (named s ++ further_words named ss)

-- a line for each field, from the number n on: its column, and where it comes from
abbrev pub field_lines : (named : Source → List ℕ) → ℕ → List (Vec ℕ Global) → List Column → List Origin → List ℕ
field_lines named n (h ∷ hs) (c ∷ cs) (o ∷ os) = column_words n h.items c ++ (origin_words named o ++ (codes "\n" ++ field_lines named (n + 1) hs cs os))
field_lines named n hs cs os = []

-- the fields of an output with that table
abbrev pub output_fields : (named : Source → List ℕ) → Option Table → List Origin → List ℕ
output_fields named None os = []
output_fields named (Some t) os = field_lines named 0 t.headers.items t.columns.items os

-- an output's line, and its fields
abbrev pub output_lines : (named : Source → List ℕ) → List Table → List Output → (arities : List ℕ) → List (List Origin) → List ℕ
output_lines named ts (o ∷ os) (n ∷ ns) (fs ∷ all) = output_line o n ++ (output_fields named (table_of ts o.name) fs ++ output_lines named ts os ns all)
output_lines named ts os ns all = []

-- `constant NAME N`, from the number n on
abbrev pub constant_lines : ℕ → List Constant → List ℕ
constant_lines n [] = []
constant_lines n (c ∷ cs) = codes "constant " ++ (c.name.items ++ (codes " " ++ (decimal n ++ (codes "\n" ++ constant_lines (n + 1) cs))))

-- all of it
abbrev pub listing : Schema → Program → (arities : List ℕ) → List ℕ
listing s p ns = input_lines s.inputs.items p.inputs ++ (output_lines (source_words s.inputs.items p.inputs) s.outputs.items p.outputs ns (program_origins p) ++ constant_lines 0 s.constants.items)

-- the query reads as a well-typed program that goes with the schema, and the text lists it
pub record IsListed (query : List ℕ) (s : Schema) (text : List ℕ) : Type 0 where
  pub tree : ProgramTree
  pub arities : List ℕ
  pub kinds : List (List Kind) × List (List Kind)
  pub read : grammar.Reads query tree
  pub typed : WellTyped (plain_program tree) arities
  pub goes : checked s (plain_program tree) ≡ Some kinds
  pub is_text : text ≡ listing s (plain_program tree) arities

-- why it isn't listed: the query is refused, or what it reads as doesn't go with the schema
abbrev pub IsUnlisted : List ℕ → Schema → Refusal → Type 0
IsUnlisted query s (refusal.At code span) = IsRefusal query (refusal.At code span) ⊎ ((tree : ProgramTree) × grammar.Reads query tree × (checked s (plain_program tree) ≡ None))
IsUnlisted query s refusal.NoMemory = Unit {0}
