-- The number of each refusal, as users know it.
use Rattle.std.specs.Prelude.{◌≡◌, refl}
use Rattle.board.specs.declared.codes.TheConstants.{INPUT_CLOSED, UNKNOWN_INPUT, WRONG_FIELD_COUNT, NO_SUCH_EVENT, HOLDS_EVENT, STOPPED, LAST_EPOCH}

input_closed : INPUT_CLOSED ≡ 31
input_closed = refl

unknown_input : UNKNOWN_INPUT ≡ 32
unknown_input = refl

wrong_field_count : WRONG_FIELD_COUNT ≡ 33
wrong_field_count = refl

no_such_event : NO_SUCH_EVENT ≡ 34
no_such_event = refl

holds_event : HOLDS_EVENT ≡ 35
holds_event = refl

stopped : STOPPED ≡ 37
stopped = refl

last_epoch : LAST_EPOCH ≡ 38
last_epoch = refl
