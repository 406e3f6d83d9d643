-- Lists that grow at their end.
use Rattle.std.proofs.Common.{◌≡◌, ℕ, zero, suc, ◌+◌, ◌<◌, List, [], ◌∷◌, ◌++◌, length, refl, ap, arith, length-append, slice_index_or, Option, None}
use Rattle.board.specs.WorkerShown.{WorkerShown, sides_of}
use Rattle.board.specs.Fresh.{HasFreshSides, HasShards, IsFreshSide, IsFreshSlot}
use Rattle.board.specs.Shown.{Side, no_side}
use Rattle.events.specs.Wired.{Wired}
use Rattle.graph.specs.Shown.{GraphValue}
use Rattle.vertices.specs.declared.shard.Shard.{Shard}

-- an empty list has the default everywhere
pub nothing_there : {X : Type 0} (d : X) (i : ℕ) → slice_index_or [] i d ≡ d
nothing_there d zero = refl
nothing_there d (suc i) = refl

-- if all elements are d, they still are with one more d
pub all_same_more : {X : Type 0} (xs : List X) (d : X) → ((i : ℕ) → slice_index_or xs i d ≡ d) → (i : ℕ) → slice_index_or (xs ++ (d ∷ [])) i d ≡ d
all_same_more [] d h zero = refl
all_same_more [] d h (suc i) = nothing_there d i
all_same_more (x ∷ xs) d h zero = h zero
all_same_more (x ∷ xs) d h (suc i) = all_same_more xs d (λ k. h (suc k)) i

-- what holds of each element by its place, and of one more
pub each_more : {X : Type 0} (d : X) (P : ℕ → X → Type 0) (xs : List X) (x : X) → ((k : ℕ) → k < length xs → P k (slice_index_or xs k d)) → P (length xs) x
    → (k : ℕ) → k < length xs + 1 → P k (slice_index_or (xs ++ (x ∷ [])) k d)
each_more d P [] x all here zero l = here
each_more d P [] x all here (suc k) l = absurd (omega (arith, l))
each_more d P (y ∷ ys) x all here zero l = all zero (omega arith)
each_more d P (y ∷ ys) x all here (suc k) l = each_more d (λ j z. P (suc j) z) ys x (λ j h. all (suc j) (omega (arith, h))) here k (omega (arith, l))

pub sides_more : (ds : List WorkerShown) (d : WorkerShown) → sides_of (ds ++ (d ∷ [])) ≡ sides_of ds ++ (d.side ∷ [])
sides_more [] d = refl
sides_more (x ∷ ds) d = ap (λ l. x.side ∷ l) (sides_more ds d)

pub no_sides : (w : Wired) → HasFreshSides w 0 []
no_sides w = record { long = refl; each = λ k l. absurd (omega (arith, l)) }

pub fresh_sides_more : (w : Wired) (xs : List Side) (x : Side) (n : ℕ) → HasFreshSides w n xs → IsFreshSide w x → HasFreshSides w (n + 1) (xs ++ (x ∷ []))
fresh_sides_more w xs x n is here =
    record {
      long = omega (arith, length-append xs (x ∷ []), is.long);
      each = λ k l. each_more no_side (λ j z. IsFreshSide w z) xs x (λ j h. is.each j (omega (arith, h, is.long))) here k (omega (arith, l, is.long));
    }

pub no_shards : (g : GraphValue) → HasShards g 0 []
no_shards g = record { long = refl; each = λ v l. absurd (omega (arith, l)) }

pub shards_more : (g : GraphValue) (xs : List (Option Shard)) (x : Option Shard) (n : ℕ) → HasShards g n xs → IsFreshSlot g n x → HasShards g (n + 1) (xs ++ (x ∷ []))
shards_more g xs x n is here =
    record {
      long = omega (arith, length-append xs (x ∷ []), is.long);
      each = λ v l. each_more None (λ j z. IsFreshSlot g j z) xs x (λ j h. is.each j (omega (arith, h, is.long))) (let e = is.long in rw e here) v (omega (arith, l, is.long));
    }
