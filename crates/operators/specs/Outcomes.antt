-- What a vertex makes of one run: equal records, with their count.
use Rattle.std.specs.Prelude.{List, [], ◌∷◌, map, if◌then◌else◌}
use Rattle.semantics.specs.Query.{Scalar, Cond}
use Rattle.semantics.specs.Meaning.{holds, value}
use Rattle.rows.specs.Counts.{Run}

-- the run itself, if the condition holds of its row; else nothing
abbrev pub kept_run : Cond → Run → List Run
kept_run c run = if holds c run.row then run ∷ [] else []

-- the scalars' values for its row, as often
abbrev pub selected_run : List Scalar → Run → Run
selected_run ss run = record { row = map (λ s. value s run.row) ss; count = run.count }
