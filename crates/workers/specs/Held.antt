-- What the lock protects.
use Rattle.std.specs.Prelude.{◌≡◌, ◌≤◌, ℕ, List, max}
use Rattle.atomic_table.specs.Seated.{TableId}
use Rattle.graph.specs.Shown.{GraphValue}
use Rattle.board.specs.Lateness.{BoardShown, KeepsCalled, IsUpToDate}
use Rattle.board.specs.Promises.{CountsPassed}
use Rattle.board.specs.Shown.{tables}

-- the board, and the numbers that were published last, of passed epochs and of received records
pub record HeldShown : Type 0 where
  pub board : BoardShown
  pub published : ℕ
  pub received : ℕ

-- The board has these tables and this graph, what was published is the number of passed epochs, which the board knows, and nothing waits for the first
-- worker.
pub record IsHeld (ts : List TableId) (g : GraphValue) (b : BoardShown) (n : ℕ) : Type 0 where
  pub named : tables b.shown ≡ ts
  pub graph : b.shown.graph ≡ g
  pub published : CountsPassed b.shown n
  pub known : b.passed ≡ n
  pub prompt : IsUpToDate b 0

-- nothing waits for the first worker, and the number of passed epochs was published after an older number
pub record Publishes (old : ℕ) (b : BoardShown) (new : ℕ) : Type 0 where
  pub prompt : IsUpToDate b 0
  pub counts : CountsPassed b.shown b.passed
  pub number : new ≡ max old b.passed

-- nothing was posted or applied, and no fewer epochs are known to have passed
pub record IsNoLater (old new : BoardShown) : Type 0 where
  pub waits : new.waits ≡ old.waits
  pub behind : new.behind ≡ old.behind
  pub passed : old.passed ≤ new.passed
  pub called : KeepsCalled old new
