-- The front of a list of tokens.
use Rattle.std.proofs.Common.{◌≡◌, List, ◌∷◌, Some}
use Rattle.lexer.specs.declared.token.Token.{Token}

pub first_one : {x y : Token} {us vs : List Token} → x ∷ us ≡ y ∷ vs → x ≡ y
first_one e = cc

pub rest_one : {x y : Token} {us vs : List Token} → x ∷ us ≡ y ∷ vs → us ≡ vs
rest_one e = cc

pub some_one : {X : Type 0} {x y : X} → Some x ≡ Some y → x ≡ y
some_one e = cc
