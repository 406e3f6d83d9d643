-- Threads that wait for progress.
use Rattle.std.specs.Prelude.{◌≡◌, ◌≤◌, ◌<◌, Option, Some, None, min}
use Rattle.workers.specs.Held.{HeldShown}
use Rattle.workers.specs.Wakeups.{IsAtEnd}
use Rattle.workers.specs.declared.waiting.News.{News}

-- fewer epochs have passed, and no more records were published as received
abbrev pub HasNotCome : HeldShown → News → Type 0
HasNotCome h w = (h.published < w.passed) × (h.received ≤ w.received)

-- Whoever waits, waits for what hasn't come, and the board isn't at its end.
abbrev pub AreMissing : HeldShown → Option News → Type 0
AreMissing h first = (w : News) → first ≡ Some w → HasNotCome h w × (IsAtEnd h.board.shown → ⊥)

-- what comes as soon as one of both does
abbrev pub first_of : News → Option News → News
first_of w None = w
first_of w (Some v) = record { passed = min w.passed v.passed; received = min w.received v.received }
