-- What is asked for: a script or a statement in a form, of one epoch or of all, of all outputs or of the one with a name.
use Rattle.std.specs.Prelude.{ℕ, Bool, true, false, cond, not, ◌&&◌, ◌||◌, List, [], ◌∷◌, ◌++◌, Option, Some, None, option_map}
use Rattle.semantics.specs.Meaning.{same_name}
use Rattle.semantics.specs.Query.{Name, Output}
use Rattle.sql_meaning.specs.Script.{Table}
use Rattle.sql_meaning.specs.Wanted.{number_of}
use Rattle.sql.specs.Dialects.{dialect_of}
use Rattle.sql.specs.declared.form.Dialect.{Dialect}
use Rattle.sql.specs.declared.form.Dialect.TheVariants.{Postgres, Sqlite, Spark}
use Rattle.sql.specs.declared.form.Epochs.{Epochs}
use Rattle.sql.specs.declared.form.Form.{Form}
use Rattle.sql.specs.declared.form.Layout.{Layout}
use Rattle.sql.specs.declared.form.Layout.TheVariants.{Script, Statement}
use Rattle.sql.specs.declared.form.Request.{Request}

-- the form, the layout, of which epochs it is, and the name of the output, if one is asked for
pub record Asked : Type 0 where
  pub form : Form
  pub layout : Layout
  pub epochs : Epochs
  pub output : Option Name

-- what a request asks for
abbrev pub asked_of : Request → Asked
asked_of r = record { form = r.form; layout = r.layout; epochs = r.epochs; output = option_map (λ s. s.now) r.output }

-- for SQLite, which can't hold the tables of a WITH to integers, and for Spark, which is told to end with errors first, there are scripts alone
abbrev pub layout_for : Dialect → Layout → Layout
layout_for Postgres l = l
layout_for Sqlite l = Script
layout_for Spark l = Script

-- the layout of what is asked for
abbrev pub layout_of : Asked → Layout
layout_of a = layout_for (dialect_of a.form) a.layout

-- the output of that name is asked for
abbrev pub is_asked : Option Name → Name → Bool
is_asked None x = true
is_asked (Some y) x = same_name y x

-- an output is asked for, or all are
abbrev pub has_output : Option Name → List Output → Bool
has_output None os = true
has_output (Some y) [] = false
has_output (Some y) (o ∷ os) = same_name y o.name || has_output (Some y) os

-- some of the outputs are asked for
abbrev pub has_asked : Option Name → List Output → Bool
has_asked y [] = false
has_asked y (o ∷ os) = is_asked y o.name || has_asked y os

-- more than one of the outputs is asked for
abbrev pub has_several : Option Name → List Output → Bool
has_several y [] = false
has_several y (o ∷ os) = is_asked y o.name && has_asked y os || has_several y os

-- a statement is of one output, and a script of any number
abbrev pub fits_layout : Layout → (several : Bool) → Bool
fits_layout Script b = true
fits_layout Statement b = not b

-- so many outputs as are asked for have the layout
abbrev pub has_layout : Asked → List Output → Bool
has_layout a os = fits_layout (layout_of a) (has_several a.output os)

-- the numbers of the tables that hold the rows of the outputs that are asked for, of those that the script makes
abbrev pub asked_tables : Option Name → List Table → List Output → List ℕ
asked_tables y [] os = []
asked_tables y (t ∷ ts) [] = []
asked_tables y (t ∷ ts) (o ∷ os) = cond (is_asked y o.name) (number_of t) [] ++ asked_tables y ts os
