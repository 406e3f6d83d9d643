-- The number of each refusal, as users know it.
use Rattle.std.specs.Prelude.{◌≡◌, refl}
use Rattle.collector.specs.declared.codes.TheConstants.{NO_EPOCH, UNKNOWN_INPUT, NO_LINE_FEED, BAD_NUMBER, WRONG_FIELDS, MALFORMED, TOO_MANY_EPOCHS}

no_epoch : NO_EPOCH ≡ 41
no_epoch = refl

unknown_input : UNKNOWN_INPUT ≡ 42
unknown_input = refl

no_line_feed : NO_LINE_FEED ≡ 43
no_line_feed = refl

bad_number : BAD_NUMBER ≡ 44
bad_number = refl

wrong_fields : WRONG_FIELDS ≡ 45
wrong_fields = refl

malformed : MALFORMED ≡ 46
malformed = refl

too_many_epochs : TOO_MANY_EPOCHS ≡ 47
too_many_epochs = refl
