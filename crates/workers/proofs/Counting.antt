-- The counters of a board under the lock.
use Rattle.std.proofs.Common.{◌≡◌, ◌∙◌, subst, sym}
use Rattle.machine.specs.Step.{Step}
use Rattle.events.specs.Jobs.{Pass}
use Rattle.board.specs.Answers.{Claims, Gathers}
use Rattle.board.specs.Counting.{TellsCommit}
use Rattle.board.specs.Kept.{Goes}
use Rattle.board.specs.Shown.{Shown}
use Rattle.board.specs.declared.claimed.Claimed.{Claimed}
use Rattle.board.specs.declared.sent.Sent.{Sent}
use Rattle.driver.specs.Tallies.{IsTally, Raises, Rows}
use Rattle.driver.proofs.Tallying.{IsUncounted, stays_claimed, stays_committed, stays_gathered, stays_same, stays_step}

module _ (first s : Shown) (rows : Rows) (is : IsTally first s rows) where
  pub tally_same : (t : Shown) → t ≡ s → IsTally first t rows
  tally_same t same = stays_same s t same rows first is

  -- after a step, and then an answer that changed nothing
  pub tally_step : (step : Step) → IsUncounted step → (u t : Shown) → Goes s step u → t ≡ u → IsTally first t rows
  tally_step step un u t goes same = stays_same u t same rows first (stays_step s u step un goes rows first is)

  pub tally_gathered : (k : _) (u t : Shown) → Gathers s k u → t ≡ u → IsTally first t rows
  tally_gathered k u t gathers same = stays_same u t same rows first (stays_gathered s u k gathers rows first is)

  pub tally_claimed : (k : _) (c : Claimed) (t : Shown) → Claims s t k c → IsTally first t rows
  tally_claimed k c t claims = stays_claimed s t k c claims rows first is

  pub tally_committed : (p : Pass) (sent : Sent) (new : Rows) (u t : Shown) → TellsCommit s u p sent → Raises rows sent new → t ≡ u → IsTally first t new
  tally_committed p sent new u t tells raises same = stays_same u t same new first (stays_committed s u rows p sent tells new raises first is)
