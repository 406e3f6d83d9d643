-- What waits in a mailbox.
use Rattle.std.specs.Prelude.{ℕ, List}

-- the messages in order of arrival, and for how many more there is room
pub record Mail (T : Type 0) : Type 0 where
  pub messages : List T
  pub room : ℕ
