-- Where the texts of a line are: in files, and a query may stand on the line itself.
use Rattle.std.specs.Prelude.{ℕ, Bool, true, false, cond, List, Option, Some, None}
use Rattle.command_line.specs.declared.line_options.Options.{Options}
use Rattle.command_line.specs.declared.line_options.Options.TheVariants.{Run, Follow, Check, Graph, Format, Sql, Replay, Explain}
use Rattle.command_line.specs.declared.query.Query.{Query}
use Rattle.command_line.specs.declared.query.Query.TheVariants.{File, Inline}
use Rattle.command_line.specs.declared.script_form.ScriptForm.{ScriptForm}
use Rattle.command_line.specs.declared.script_form.ScriptForm.TheVariants as script
use Rattle.commands.specs.Readings.{Known}
use Rattle.sql.specs.Asked.{Asked}
use Rattle.sql.specs.declared.form.Arithmetic.{Arithmetic}
use Rattle.sql.specs.declared.form.Arithmetic.TheVariants.{Plain, Wrapped}
use Rattle.sql.specs.declared.form.Epochs.{Epochs}
use Rattle.sql.specs.declared.form.Epochs.TheVariants as epochs
use Rattle.sql.specs.declared.form.Form.{Form}
use Rattle.sql.specs.declared.form.Form.TheVariants as form
use Rattle.sql.specs.declared.form.Layout.{Layout}
use Rattle.sql.specs.declared.form.Layout.TheVariants as layout

-- what is known of inputs: nothing where they have to end with the mark
abbrev pub known_inputs : (end_mark : Bool) → Known → Known
known_inputs end_mark texts = λ name. cond end_mark None (texts name)

-- the word that stands for a query: the path of its file, or the query itself
abbrev pub query_word : Query → List ℕ
query_word (File path) = path.now
query_word (Inline text) = text.now

-- a query on the line is its own name; any other is one of the texts
abbrev pub where_queries : (inline : Bool) → Known → Known
where_queries true texts = λ name. Some name
where_queries false texts = texts

abbrev pub on_line : Query → Bool
on_line (File path) = false
on_line (Inline text) = true

abbrev pub asks_inline : Options → Bool
asks_inline (Run query input workers watch stats end_mark explain) = on_line query
asks_inline (Follow query input workers first end_mark explain) = on_line query
asks_inline (Check query input heap explain) = on_line query
asks_inline (Graph query form heap explain) = on_line query
asks_inline (Format query explain) = on_line query
asks_inline (Sql query form epochs output explain) = on_line query
asks_inline (Replay query schedule workers views explain) = on_line query
asks_inline (Explain code) = false

-- the arithmetic that a flag asks for
abbrev pub arithmetic_asked : Bool → Arithmetic
arithmetic_asked false = Plain
arithmetic_asked true = Wrapped

-- the form that is asked for
abbrev pub form_asked : ScriptForm → Form
form_asked (script.Postgres wrapped statement) = form.Postgres (arithmetic_asked wrapped)
form_asked script.Sqlite = form.Sqlite
form_asked (script.Spark wrapped) = form.Spark (arithmetic_asked wrapped)

-- the layout that a flag asks for
abbrev pub layout_by : Bool → Layout
layout_by false = layout.Script
layout_by true = layout.Statement

-- the layout that is asked for
abbrev pub layout_asked : ScriptForm → Layout
layout_asked (script.Postgres wrapped statement) = layout_by statement
layout_asked script.Sqlite = layout.Script
layout_asked (script.Spark wrapped) = layout.Script

-- the epochs that a flag asks for
abbrev pub epochs_asked : Bool → Epochs
epochs_asked false = epochs.One
epochs_asked true = epochs.Every

-- the script that is asked for
abbrev pub script_asked : ScriptForm → (epochs : Bool) → Option (List ℕ) → Asked
script_asked f e output = record { form = form_asked f; layout = layout_asked f; epochs = epochs_asked e; output = output }

-- where the query of the options is found
abbrev pub queries_of : Options → Known → Known
queries_of options texts = where_queries (asks_inline options) texts
