-- The number of each refusal, as users know it.
use Rattle.std.specs.Prelude.{◌≡◌, refl}
use Rattle.lexer.specs.declared.refusals.TheConstants.{NO_TOKEN, BAD_NUMBER, NAME_TOO_LONG, TEXT_TOO_LONG}

no_token : NO_TOKEN ≡ 1
no_token = refl

bad_number : BAD_NUMBER ≡ 2
bad_number = refl

name_too_long : NAME_TOO_LONG ≡ 3
name_too_long = refl

text_too_long : TEXT_TOO_LONG ≡ 6
text_too_long = refl
