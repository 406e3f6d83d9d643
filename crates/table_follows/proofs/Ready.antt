-- From what was followed to what the line's files are.
use Rattle.std.proofs.Common.{[], ◌≡◌, ℕ, List, None, Option, Some, get_or, map, option_map, inr, refl, subst}
use Rattle.csv_cells.specs.Texts.{texts_of}
use Rattle.table_commands.specs.Done.{BeginsWith}
use Rattle.query_answers.specs.Runs.{Known}
use Rattle.schema.specs.declared.tables.Schema.{Schema}
use Rattle.schema.specs.declared.tables.Table.{Table}
use Rattle.table_queries.specs.declared.fault.RunFault.{RunFault}
use Rattle.table_epochs.specs.Followed.{FailsText, Followed}
use Rattle.table_follows.specs.Followed.{FailsFile, FollowsFile, FollowsFrom}
use Rattle.table_epochs.specs.Going.{followed_by}
use Rattle.table_follows.specs.Ready.{IsReady}
use Rattle.table_epochs.specs.declared.epoch_answer.Following.{Following}
use Rattle.table_epochs.proofs.Going.{all-part, known-begins}

pub file-followed : (known : Known) (schema : Schema) (table : Table) (paths : List (List ℕ)) (query : List ℕ) (dictionary : Option (List ℕ))
    (begin : List (List ℕ)) (fl : Following) (old new : Option (List ℕ))
    → BeginsWith known schema dictionary begin → IsReady known schema table paths query begin fl
    → FollowsFrom (known (get_or (map (λ s. s.now) fl.job.paths.now) fl.stream.place [])) (followed_by fl) (texts_of fl.dictionary) old new
    → FollowsFile known schema table paths query dictionary old new
file-followed known schema table paths query dictionary begin fl old new begins ready w = (
  begin,
  begins,
  followed_by fl,
  ready.followed,
  subst (λ (ps : List (List ℕ)). FollowsFrom (known (get_or ps fl.stream.place [])) (followed_by fl) begin old new) ready.same_paths
      (subst (λ (ts : List (List ℕ)). FollowsFrom (known (get_or (map (λ s. s.now) fl.job.paths.now) fl.stream.place [])) (followed_by fl) ts old new)
      ready.same_texts w),
)

pub file-failed : (known : Known) (schema : Schema) (table : Table) (paths : List (List ℕ)) (query : List ℕ) (begin : List (List ℕ)) (fl : Following)
    (old new : Option (List ℕ)) (fault : RunFault)
    → IsReady known schema table paths query begin fl
    → FailsText (known (get_or (map (λ s. s.now) fl.job.paths.now) fl.stream.place [])) (followed_by fl) old new fault
    → FailsFile known schema table paths query old new fault
file-failed known schema table paths query begin fl old new fault ready w =
    inr (
      followed_by fl,
      ready.followed,
      subst (λ (ps : List (List ℕ)). FailsText (known (get_or ps fl.stream.place []))
          (followed_by fl) old new fault) ready.same_paths w,
    )

-- a fault once a text was followed to its end
pub text-failed : (known : Option (List ℕ)) (f : Followed) (begin : List (List ℕ)) (old new : Option (List ℕ)) (fault : RunFault)
    → FollowsFrom known f begin old new → FailsText known f old new fault
text-failed known f begin old new fault (start, numbered, (text, read, all)) =
    (text, known-begins known text read, all-part f start text old new fault all)

-- a fault once the file was followed to its end
pub failed-after : (known : Known) (schema : Schema) (table : Table) (paths : List (List ℕ)) (query : List ℕ) (dictionary : Option (List ℕ))
    (old new : Option (List ℕ)) (fault : RunFault)
    → FollowsFile known schema table paths query dictionary old new → FailsFile known schema table paths query old new fault
failed-after known schema table paths query dictionary old new fault (begin, begins, f, is, w) =
    inr (f, is, text-failed (known (get_or paths f.place [])) f begin old new fault w)

-- what isn't there has no image
pub none_is : {A B : Type 0} → (f : A → B) → (d : Option A) → ((x : A) → d ≡ Some x → ⊥) → option_map f d ≡ None
none_is f None differs = refl
none_is f (Some x) differs = absurd (differs x refl)
