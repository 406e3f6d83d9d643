-- Batches one behind another.
use Rattle.std.proofs.Common.{◌≡◌, ℕ, ◌+◌, ◌<◌, ◌≤◌, List, [], ◌∷◌, ◌++◌, length, take, get_or, sym, ap, ◌∙◌, subst, arith, length-append}
use Rattle.std.specs.Prelude.{min}
use Rattle.std.specs.List.{AllByRecursion}
use Rattle.rows.specs.Counts.{Run, expanded, most, runs}
use Rattle.rows.specs.FlatRows.{arity_of, joined}
use Rattle.rows.proofs.Joined.{item_next}
use Rattle.semantics.specs.Multiset.{Record}

pub all_more : (P : List Record → Type 0) (bs : List (List Record)) (b : List Record) → AllByRecursion P bs → P b → AllByRecursion P (bs ++ b ∷ [])
all_more P [] b h p = (p, tt)
all_more P (x ∷ bs) b h p = (h.0, all_more P bs b h.1 p)

pub same_arity : (n m : ℕ) (bs : List (List Record)) → n ≡ m → AllByRecursion (λ b. arity_of b ≡ n) bs → AllByRecursion (λ b. arity_of b ≡ m) bs
same_arity n m bs e h = subst (λ k. AllByRecursion (λ b. arity_of b ≡ k) bs) e h

-- the weight of one batch more, while few records are there
pub few_more : (xs b : List Record) (weight more sum : ℕ) → (weight ≤ most → length xs ≤ weight) → more ≡ min (length b) 18446744073709551615 → sum ≡ min (weight + more) 18446744073709551615 → sum ≤ most → length (xs ++ b) ≤ sum
few_more xs b weight more sum few m s l =
    let whole : weight + more ≡ sum = omega (arith, s, l) in
    let all : length b ≡ more = omega (arith, m, whole, l) in
    let before : length xs ≤ weight = few (omega (arith, whole, l)) in
    omega (arith, length-append xs b, whole, all, before)

-- one batch more
pub batch_more : (P : List Record → Type 0) (bs : List (List Record)) (k : ℕ) (b : List Record) (cs : List Run) → k < length bs → b ≡ get_or bs k b → cs ≡ runs b → expanded (runs b) ≡ b → P (joined (take k bs) ++ expanded cs) → P (joined (take (k + 1) bs))
batch_more P bs k b cs h e c all p =
    subst P (ap (λ l. joined (take k bs) ++ l) (ap expanded c ∙ all) ∙ sym (item_next bs k b h e)) p
