-- Lists of one element.
use Rattle.std.proofs.Common.{All, [], ◌∷◌, zero, suc, arith}
use Rattle.workers.specs.Tokens.{Token}

pub one : (P : Token → Type 0) (x : Token) → P x → All P (x ∷ [])
one P x p zero d lt = p
one P x p (suc k) d lt = absurd (omega arith)
