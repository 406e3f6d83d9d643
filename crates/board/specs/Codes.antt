-- The codes of refusals.
use Rattle.std.specs.Prelude.{ℕ, Option, Some, None}
use Rattle.board.specs.declared.codes.TheConstants.{INPUT_CLOSED, UNKNOWN_INPUT, WRONG_FIELD_COUNT, NO_SUCH_EVENT, HOLDS_EVENT, STOPPED, LAST_EPOCH}
use Rattle.board.specs.declared.refusal.StepRefusal.{StepRefusal}
use Rattle.board.specs.declared.refusal.StepRefusal.TheVariants as refusal

-- the code that the command line and the texts use; lack of memory has none
abbrev pub refusal_code : StepRefusal → Option ℕ
refusal_code refusal.InputClosed = Some INPUT_CLOSED
refusal_code refusal.UnknownInput = Some UNKNOWN_INPUT
refusal_code refusal.WrongFieldCount = Some WRONG_FIELD_COUNT
refusal_code refusal.NoSuchEvent = Some NO_SUCH_EVENT
refusal_code refusal.HoldsEvent = Some HOLDS_EVENT
refusal_code refusal.Stopped = Some STOPPED
refusal_code refusal.LastEpoch = Some LAST_EPOCH
refusal_code refusal.NoMemory = None
