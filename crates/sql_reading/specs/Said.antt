-- What the text of a script, or of a statement, says.
use Rattle.std.specs.Prelude.{ℕ, cond, List, [], ◌∷◌, ◌++◌, map, length, Option}
use Rattle.semantics.specs.Query.{Name, Input, Output, Program}
use Rattle.sql_meaning.specs.PlainScript.{unwrapped, unwrapped_search}
use Rattle.sql_meaning.specs.Script.{Table, Expression, Search, Term, Query}
use Rattle.sql_meaning.specs.Wanted.{is_in, reads}
use Rattle.sql_meaning.specs.WellFormed.{Widths}
use Rattle.sql.specs.Asked.{Asked, layout_of, is_asked, asked_tables}
use Rattle.sql.specs.Dialects.{arithmetic_of}
use Rattle.sql.specs.Text.{widths_of, asked_script}
use Rattle.sql.specs.declared.form.Arithmetic.{Arithmetic}
use Rattle.sql.specs.declared.form.Arithmetic.TheVariants.{Plain, Wrapped}
use Rattle.sql.specs.declared.form.Epochs.{Epochs}
use Rattle.sql.specs.declared.form.Form.{Form}
use Rattle.sql.specs.declared.form.Layout.{Layout}

-- an expression; plain arithmetic has no word for wrapping
abbrev pub said_expression : Arithmetic → Expression → Expression
said_expression Plain e = unwrapped e
said_expression Wrapped e = e

-- a condition
abbrev pub said_search : Arithmetic → Search → Search
said_search Plain c = unwrapped_search c
said_search Wrapped c = c

-- a recursive term
abbrev pub said_term : Arithmetic → Term → Term
said_term a Term.latest = Term.latest
said_term a (Term.select es m) = Term.select (map (said_expression a) es) (said_term a m)
said_term a (Term.select_where m c) = Term.select_where (said_term a m) (said_search a c)
said_term a (Term.join_left m t ps) = Term.join_left (said_term a m) t ps
said_term a (Term.join_right t m ps) = Term.join_right t (said_term a m) ps

-- a query
abbrev pub said_query : Arithmetic → Query → Query
said_query a (Query.select es t) = Query.select (map (said_expression a) es) t
said_query a (Query.select_where t c) = Query.select_where t (said_search a c)
said_query a (Query.select_join t u ps) = Query.select_join t u ps
said_query a (Query.select_group ks as' t) = Query.select_group ks as' t
said_query a (Query.select_distinct t) = Query.select_distinct t
said_query a (Query.union_all t u) = Query.union_all t u
said_query a (Query.except t u) = Query.except t u
said_query a (Query.intersect t u) = Query.intersect t u
said_query a (Query.recursive n t m) = Query.recursive n t (said_term a m)

-- a table that is made: its number, how many columns it has, and its query
pub record Made : Type 0 where
  pub number : ℕ
  pub width : ℕ
  pub query : Query

-- a result: the output's name, how many columns it has, and the table of its rows
pub record Result : Type 0 where
  pub name : Name
  pub width : ℕ
  pub table : Table

-- the form, the layout, of which epochs it is, the given tables, the tables that are made, in order, and the results, in order
pub record Said : Type 0 where
  pub form : Form
  pub layout : Layout
  pub epochs : Epochs
  pub inputs : List Input
  pub made : List Made
  pub results : List Result

-- the tables that are made, of those of a script, the latest of which is first
abbrev pub made_tables : Arithmetic → Widths → (wanted : List ℕ) → List Query → List Made
made_tables a width wanted [] = []
made_tables a width wanted (q ∷ earlier) =
    cond (is_in (length earlier) wanted)
    (made_tables a width (wanted ++ reads q) earlier
    ++ record { number = length earlier; width = width (Table.made (length earlier)); query = said_query a q } ∷ [])
    (made_tables a width wanted earlier)

-- the results that are asked for
abbrev pub asked_results : Widths → Option Name → List Table → List Output → List Result
asked_results width y [] os = []
asked_results width y (t ∷ ts) [] = []
asked_results width y (t ∷ ts) (o ∷ os) =
    cond (is_asked y o.name) (record { name = o.name; width = width t; table = t } ∷ []) [] ++ asked_results width y ts os

-- what the text of a program's script says, as it is asked for
abbrev pub said : Asked → Program → Said
said a p = record {
  form = a.form;
  layout = layout_of a;
  epochs = a.epochs;
  inputs = p.inputs;
  made =
      made_tables (arithmetic_of a.form) (widths_of p.inputs (asked_script a p).tables) (asked_tables a.output (asked_script a p).results p.outputs)
      (asked_script a p).tables;
  results = asked_results (widths_of p.inputs (asked_script a p).tables) a.output (asked_script a p).results p.outputs;
}
