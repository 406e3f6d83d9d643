-- The first column beyond, of lists end to end.
use Rattle.std.proofs.Common.{◌≡◌, ℕ, suc, ◌+◌, ◌<◌, Bool, true, false, cond, nat_lt, List, [], ◌∷◌, ◌++◌, length, map, flat_map, drop, get_or, None, Some, refl, drop-cons, add-one}
use Rattle.record_core.specs.declared.span.Span.{Span}
use Rattle.typing.specs.Columns.{ColumnUse, first_beyond}

pub first_some : (xs ys : List ColumnUse) (s : Span) → first_beyond xs ≡ Some s → first_beyond (xs ++ ys) ≡ Some s
first_some [] ys s h = cc
first_some (c ∷ xs) ys s h = go (nat_lt c.index c.arity) (first_some xs ys s) h
  where
    go : (b : Bool) → (first_beyond xs ≡ Some s → first_beyond (xs ++ ys) ≡ Some s) → cond b (first_beyond xs) (Some c.span) ≡ Some s → cond b (first_beyond (xs ++ ys)) (Some c.span) ≡ Some s
    go true ih k = ih k
    go false ih k = k

pub first_none : (xs ys : List ColumnUse) → first_beyond xs ≡ None → first_beyond (xs ++ ys) ≡ first_beyond ys
first_none [] ys h = refl
first_none (c ∷ xs) ys h = go (nat_lt c.index c.arity) (first_none xs ys) h
  where
    go : (b : Bool) → (first_beyond xs ≡ None → first_beyond (xs ++ ys) ≡ first_beyond ys) → cond b (first_beyond xs) (Some c.span) ≡ None → cond b (first_beyond (xs ++ ys)) (Some c.span) ≡ first_beyond ys
    go true ih k = ih k
    go false ih k = cc

-- a column beyond at the next element
pub next_some : {X Y : Type 0} (f : Y → List ColumnUse) (g : X → Y) (xs : List X) (i : ℕ) (x : X) (s : Span) → i < length xs → x ≡ get_or xs i x → first_beyond (f (g x)) ≡ Some s → first_beyond (flat_map f (map g (drop i xs))) ≡ Some s
next_some f g xs i x s h e k = rw (drop-cons xs i x h, ← e) (first_some (f (g x)) (flat_map f (map g (drop (suc i) xs))) s k)

-- none there: the rest decides
pub next_none : {X Y : Type 0} (f : Y → List ColumnUse) (g : X → Y) (xs : List X) (i : ℕ) (x : X) → i < length xs → x ≡ get_or xs i x → first_beyond (f (g x)) ≡ None → first_beyond (flat_map f (map g (drop i xs))) ≡ first_beyond (flat_map f (map g (drop (i + 1) xs)))
next_none f g xs i x h e k = rw (drop-cons xs i x h, ← e, add-one) (first_none (f (g x)) (flat_map f (map g (drop (suc i) xs))) k)

pub ruleset columns = (first_some, first_none)
