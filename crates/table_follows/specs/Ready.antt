-- Where following begins.
use Rattle.std.specs.Prelude.{◌≡◌, ℕ, List, map}
use Rattle.csv_cells.specs.Texts.{texts_of}
use Rattle.query_answers.specs.Runs.{Known}
use Rattle.schema.specs.declared.tables.Schema.{Schema}
use Rattle.schema.specs.declared.tables.Table.{Table}
use Rattle.table_epochs.specs.Followed.{IsStart}
use Rattle.table_epochs.specs.Going.{HasHeader, followed_by, reached_by}
use Rattle.table_epochs.specs.declared.epoch_answer.Following.{Following}
use Rattle.table_follows.specs.Followed.{IsFollowed}

-- nothing was answered yet, and the dictionary has these texts
pub record IsReady (known : Known) (schema : Schema) (table : Table) (paths : List (List ℕ)) (query : List ℕ) (begin : List (List ℕ))
    (f : Following) : Type 0 where
  pub followed : IsFollowed known schema table paths query (followed_by f)
  pub same_paths : map (λ s. s.now) f.job.paths.now ≡ paths
  pub start : IsStart (reached_by f)
  pub same_texts : texts_of f.dictionary ≡ begin
  pub header : HasHeader f
