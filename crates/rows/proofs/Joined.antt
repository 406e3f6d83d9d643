-- Lists of rows, end to end.
use Rattle.std.proofs.Common.{◌≡◌, ℕ, zero, suc, ◌+◌, ◌<◌, List, [], ◌∷◌, ◌++◌, length, take, get_or, refl, sym, ap, ◌∙◌, arith, append_assoc, append-nil}
use Rattle.std.proofs.Math.Numerals.{add-one}
use Rattle.semantics.specs.Multiset.{Record}
use Rattle.rows.specs.FlatRows.{joined}
use Rattle.rows.specs.Counts.{Run, expanded}
use Rattle.rows.proofs.Runs.{expanded_append}

pub joined_append : (a b : List (List Record)) → joined (a ++ b) ≡ joined a ++ joined b
joined_append [] b = refl
joined_append (x ∷ a) b = ap (λ l. x ++ l) (joined_append a b) ∙ sym (append_assoc x (joined a) (joined b))

pub joined_behind : (bs : List (List Record)) (b : List Record) → joined (bs ++ b ∷ []) ≡ joined bs ++ b
joined_behind bs b = joined_append bs (b ∷ []) ∙ ap (λ l. joined bs ++ l) (append-nil b)

item_more : (more : List (List Record)) (k : ℕ) (x : List Record) → k < length more → x ≡ get_or more k x → joined (take (suc k) more) ≡ joined (take k more) ++ x
item_more [] k x h e = absurd (omega (arith, h))
item_more (y ∷ more) zero x h e = append-nil y ∙ sym e
item_more (y ∷ more) (suc k) x h e = ap (λ l. y ++ l) (item_more more k x (omega (arith, h)) e) ∙ sym (append_assoc y (joined (take k more)) x)

-- the next list
pub item_next : (more : List (List Record)) (k : ℕ) (x : List Record) → k < length more → x ≡ get_or more k x → joined (take (k + 1) more) ≡ joined (take k more) ++ x
item_next more k x h e = ap (λ m. joined (take m more)) (add-one k) ∙ item_more more k x h e

-- one list more
pub joined_more : (first : List Record) (more : List (List Record)) (k : ℕ) (x : List Record) (old now cs ds : List Run) → k < length more → x ≡ get_or more k x → cs ≡ ds → expanded ds ≡ x →
    expanded old ≡ first ++ joined (take k more) → now ≡ old ++ cs → expanded now ≡ first ++ joined (take (k + 1) more)
joined_more first more k x old now cs ds h e c d f g =
    ap expanded g ∙ expanded_append old cs ∙ (λ i. f i ++ (ap expanded c ∙ d) i) ∙ append_assoc first (joined (take k more)) x
    ∙ ap (λ l. first ++ l) (sym (item_next more k x h e))
