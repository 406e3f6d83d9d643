-- What a check found: an answer of the definitions, or that they have none; without memory nothing is said.
use Rattle.std.specs.Prelude.{◌≡◌, Bool, true, false, List, ◌++◌, Option, Some, None, Result, Ok, Err}
use Rattle.record_core.specs.declared.span.Refusal.{Refusal}
use Rattle.record_core.specs.declared.span.Refusal.TheVariants.{At, NoMemory}

-- the answer, or none
abbrev pub Finds : {X Y : Type 0} → (X → Y) → Result X Refusal → Option Y → Type 0
Finds shown (Ok x) o = o ≡ Some (shown x)
Finds shown (Err (At code span)) o = o ≡ None
Finds shown (Err NoMemory) o = Unit {0}

-- the test holds, or it doesn't
abbrev pub Tests : {X : Type 0} → Result X Refusal → Bool → Type 0
Tests (Ok x) b = b ≡ true
Tests (Err (At code span)) b = b ≡ false
Tests (Err NoMemory) b = Unit {0}

-- the items of the answer came behind the list, or there is none
abbrev pub Adds : {X Y : Type 0} → Result X Refusal → (old new : List Y) → Option (List Y) → Type 0
Adds (Ok x) old new o = (ys : List _) × (o ≡ Some ys) × (new ≡ old ++ ys)
Adds (Err (At code span)) old new o = o ≡ None
Adds (Err NoMemory) old new o = Unit {0}

-- it isn't for lack of memory
abbrev pub IsRefused : Refusal → Type 0
IsRefused (At code span) = Unit {0}
IsRefused NoMemory = ⊥

-- there is an answer, and it is so
abbrev pub IfSomeKinds : {Y : Type 0} → Option Y → (Y → Type 0) → Type 0
IfSomeKinds None P = ⊥
IfSomeKinds (Some y) P = P y
