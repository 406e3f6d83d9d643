-- The code of each of the different summaries after an action, where it is noted.
use Rattle.std.specs.Prelude.{◌≡◌, ◌⊎◌, ℕ, suc, ◌≤◌, true, List, length, Some, slice_index_or}
use Rattle.semantics.specs.Time.{Action}
use Rattle.semantics.specs.Summary.{Summary}
use Rattle.path_summary.specs.Codes.{decoded}
use Rattle.path_summary.specs.Rows.{Follows, is_below}

-- the next code is that of the summary after the action
pub record LeadsTo (summaries : List Summary) (a : Action) (code next : ℕ) : Type 0 where
  pub before : Summary
  pub known : decoded summaries code ≡ Some before
  pub after : Summary
  pub there : decoded summaries next ≡ Some after
  pub follows : Follows a before after
  pub within : next ≤ length summaries

-- each note is 0, for nothing, or the code of the summary after the action; the first note is on the code 1
pub record IsNoted (summaries : List Summary) (a : Action) (notes : List ℕ) : Type 0 where
  pub each : (x : ℕ) → (slice_index_or notes x 0 ≡ 0) ⊎ LeadsTo summaries a (suc x) (slice_index_or notes x 0)

-- the notes on the three actions that change something
pub record AreNoted (summaries : List Summary) (entered left turned : List ℕ) : Type 0 where
  pub enter : IsNoted summaries Action.enter entered
  pub leave : IsNoted summaries Action.leave left
  pub next : IsNoted summaries Action.next turned

-- the code is that of a summary at or below f
pub record IsCodeBelow (summaries : List Summary) (code : ℕ) (f : Summary) : Type 0 where
  pub least : Summary
  pub known : decoded summaries code ≡ Some least
  pub below : is_below least f ≡ true
