-- Implications inside options, and facts about truth values.
use Rattle.std.proofs.Common.{◌≡◌, Option, Some, None, Bool, false, arith}
use Rattle.std.specs.Prelude.{IsTrue, IfSome, IfNone}

pub none_map : {X : Type 0} (r : Option X) (P Q : Type 0) → (P → Q) → IfNone r P → IfNone r Q
none_map None P Q f h = f h
none_map (Some x) P Q f h = h

pub some_map : {X : Type 0} (r : Option X) (P Q : X → Type 0) → ((x : X) → P x → Q x) → IfSome r P → IfSome r Q
some_map None P Q f h = h
some_map (Some x) P Q f h = f x h

pub not_true : (b : Bool) → b ≡ false → IsTrue b → ⊥
not_true b e t = grind arith
