-- The different rows that came at the turns of a loop, each with the first turn at which it came.
use Rattle.std.specs.Prelude.{◌≡◌, ℕ, suc, ◌<◌, ◌≤◌, nat_lt, ◌==◌, Bool, false, not, cond, ◌&&◌, ◌||◌, List, [], ◌∷◌, ◌++◌, length, slice_index_or}
use Rattle.std.specs.List.{AllByRecursion}
use Rattle.semantics.specs.Multiset.{Record, count, one_if, same}

-- whether a row is among these, and its turn is below n
abbrev pub is_first_below : (rows : List Record) → (turns : List ℕ) → Record → (n : ℕ) → Bool
is_first_below [] ts r n = false
is_first_below (x ∷ xs) [] r n = false
is_first_below (x ∷ xs) (t ∷ ts) r n = (same x r && nat_lt t n) || is_first_below xs ts r n

-- of the rows at these places those whose turn is k
abbrev pub rows_first_at : (rows : List Record) → (turns : List ℕ) → (k : ℕ) → (places : List ℕ) → List Record
rows_first_at rows turns k [] = []
rows_first_at rows turns k (p ∷ ps) = cond (slice_index_or turns p 0 == k) (slice_index_or rows p [] ∷ []) [] ++ rows_first_at rows turns k ps

-- rows with their turns, and a list of places for each turn
pub record AreFirstTurns (rows : List Record) (turns : List ℕ) (places : (turn : ℕ) → List ℕ) : Type 0 where
  -- each row has a turn
  pub as_many : length turns ≡ length rows
  -- the list of a turn has places of rows whose turn it is, or has been: a row's turn becomes less as batches of earlier turns come
  pub bounded : (k : ℕ) → AllByRecursion (λ p. (p < length rows) × (slice_index_or turns p 0 ≤ k)) (places k)
  -- each row whose turn it is, and no other, is found by the list once
  pub listed : (k : ℕ) (r : Record) → count r (rows_first_at rows turns k (places k)) ≡ one_if (is_first_below rows turns r (suc k) && not (is_first_below rows turns r k))

-- the lists, with these places more in that of a turn
abbrev pub with_places : (ℕ → List ℕ) → (turn : ℕ) → List ℕ → (ℕ → List ℕ)
with_places places turn more k = places k ++ cond (turn == k) more []
