-- The number of each refusal, as users know it.
use Rattle.std.specs.Prelude.{◌≡◌, refl}
use Rattle.typing.specs.declared.refusals.TheConstants.{UNKNOWN_NAME, NAME_TAKEN, NO_SUCH_COLUMN, ARITIES_DIFFER, BODY_DIFFERS, BAD_ARITY, TOO_MANY_TURNS}
use Rattle.typing.specs.declared.refusals.TheConstants.{TOO_DEEP, TOO_MANY_INPUTS, OUTPUT_TAKEN, TOO_MANY_OUTPUTS}

unknown_name : UNKNOWN_NAME ≡ 11
unknown_name = refl

name_taken : NAME_TAKEN ≡ 12
name_taken = refl

no_such_column : NO_SUCH_COLUMN ≡ 13
no_such_column = refl

arities_differ : ARITIES_DIFFER ≡ 14
arities_differ = refl

body_differs : BODY_DIFFERS ≡ 15
body_differs = refl

bad_arity : BAD_ARITY ≡ 16
bad_arity = refl

too_many_turns : TOO_MANY_TURNS ≡ 17
too_many_turns = refl

too_deep : TOO_DEEP ≡ 18
too_deep = refl

too_many_inputs : TOO_MANY_INPUTS ≡ 19
too_many_inputs = refl

output_taken : OUTPUT_TAKEN ≡ 20
output_taken = refl

too_many_outputs : TOO_MANY_OUTPUTS ≡ 23
too_many_outputs = refl
