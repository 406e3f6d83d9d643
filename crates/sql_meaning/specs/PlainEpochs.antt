-- Scripts of all epochs without wrapping: what they mean, and when no part of them is an error.
use Rattle.std.specs.Prelude.{ℕ, ℤ, List, [], ◌∷◌, ◌++◌, map, filter, length}
use Rattle.semantics.specs.Multiset.{Record, same, each_once}
use Rattle.sql_meaning.specs.Script.{Aggregate, Query, Script}
use Rattle.sql_meaning.specs.ScriptMeaning.{evaluated, is_true, Contents, with_table, only_given}
use Rattle.sql_meaning.specs.PlainScript.{unwrapped, unwrapped_search, unwrapped_term, exactly_aggregated, ScriptHasNoError}
use Rattle.sql_meaning.specs.Epochs.{epoch_of, fields_of, rows_at, epoch_and, rows_by_epoch}

-- the row of a group, whose count and sum are exact
abbrev pub exact_row_by_epoch : List ℕ → List Aggregate → List Record → Record → Record
exact_row_by_epoch ks as' rows key = key ++ map (λ a. exactly_aggregated a (map fields_of (filter (λ r. same (epoch_and ks r) key) rows))) as'

-- the rows of a query
abbrev pub plain_rows_by_epoch : Query → Contents → List Record
plain_rows_by_epoch (Query.select es t) holds = map (λ r. epoch_of r ∷ map (λ e. evaluated (unwrapped e) (fields_of r)) es) (holds t)
plain_rows_by_epoch (Query.select_where t c) holds = filter (λ r. is_true (unwrapped_search c) (fields_of r)) (holds t)
plain_rows_by_epoch (Query.select_join t u ps) holds = rows_by_epoch (Query.select_join t u ps) holds
plain_rows_by_epoch (Query.select_group ks as' t) holds = map (exact_row_by_epoch ks as' (holds t)) (each_once (map (epoch_and ks) (holds t)))
plain_rows_by_epoch (Query.select_distinct t) holds = rows_by_epoch (Query.select_distinct t) holds
plain_rows_by_epoch (Query.union_all t u) holds = rows_by_epoch (Query.union_all t u) holds
plain_rows_by_epoch (Query.except t u) holds = rows_by_epoch (Query.except t u) holds
plain_rows_by_epoch (Query.intersect t u) holds = rows_by_epoch (Query.intersect t u) holds
plain_rows_by_epoch (Query.recursive n t m) holds = rows_by_epoch (Query.recursive n t (unwrapped_term m)) holds

-- what each table holds after the tables of a script, the latest first
abbrev pub plain_contents_by_epoch : List Query → List (List Record) → Contents
plain_contents_by_epoch [] tables = only_given tables
plain_contents_by_epoch (q ∷ earlier) tables =
    with_table (length earlier) (plain_rows_by_epoch q (plain_contents_by_epoch earlier tables)) (plain_contents_by_epoch earlier tables)

-- the rows that the script gives for each output
abbrev pub plain_answers_by_epoch : Script → List (List Record) → List (List Record)
plain_answers_by_epoch s tables = map (plain_contents_by_epoch s.tables tables) s.results

-- no query of a script has an error on the rows of any epoch; an operator, a count and a sum are of rows of one epoch
abbrev pub NoEpochHasError : List Query → List (List Record) → Type 0
NoEpochHasError qs tables = (epoch : ℤ) → ScriptHasNoError qs (map (rows_at epoch) tables)
