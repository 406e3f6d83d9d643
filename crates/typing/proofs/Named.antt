-- A table of names shows the scope of its entries.
use Rattle.std.proofs.Common.{◌≡◌, ℕ, ◌≤◌, ◌<◌, ◌↔◌, length, length-append, IsSome, option_to_list, Bool, true, false, cond, List, [], ◌∷◌, ◌++◌, Option, None, Some, IfSome, refl, sym, ◌∙◌, ap, subst, arith, drop, true≢false}
use Rattle.std.specs.List.{AllByRecursion, IsDistinct}
use Rattle.std.specs.Map.{keys_of}
use Rattle.std.specs.Map as table
use Rattle.semantics.specs.Limits.{max_fields}
use Rattle.semantics.specs.Meaning.{same_name}
use Rattle.semantics.specs.Typing.{Entry, Scope, lookup, entry}
use Rattle.semantics.proofs.NamesAmong.{Decides-same_name}
use Rattle.typing.specs.Scope.{scope_of}

-- the entry declared last comes first
pub scope_declared : (es : List (List ℕ × ℕ)) (x : List ℕ) (n : ℕ) → scope_of (es ++ (x, n) ∷ []) ≡ entry x n ∷ scope_of es
scope_declared [] x n = refl
scope_declared (e ∷ es) x n = ap (λ s. s ++ entry e.0 e.1 ∷ []) (scope_declared es x n)

-- a look-up in a scope with one more entry at its end
lookup_last : (s : Scope) (e : Entry) (x : List ℕ) → lookup s x ≡ None → lookup (s ++ e ∷ []) x ≡ cond (same_name e.name x) (Some e.arity) None
lookup_last [] e x h = refl
lookup_last (a ∷ s) e x h = go (same_name a.name x) (lookup_last s e x) h
  where
    go : (b : Bool) → (lookup s x ≡ None → lookup (s ++ e ∷ []) x ≡ cond (same_name e.name x) (Some e.arity) None) → cond b (Some a.arity) (lookup s x) ≡ None → cond b (Some a.arity) (lookup (s ++ e ∷ []) x) ≡ cond (same_name e.name x) (Some e.arity) None
    go true ih k = cc
    go false ih k = ih k

lookup_first : (s : Scope) (e : Entry) (x : List ℕ) (n : ℕ) → lookup s x ≡ Some n → lookup (s ++ e ∷ []) x ≡ Some n
lookup_first [] e x n h = cc
lookup_first (a ∷ s) e x n h = go (same_name a.name x) (lookup_first s e x n) h
  where
    go : (b : Bool) → (lookup s x ≡ Some n → lookup (s ++ e ∷ []) x ≡ Some n) → cond b (Some a.arity) (lookup s x) ≡ Some n → cond b (Some a.arity) (lookup (s ++ e ∷ []) x) ≡ Some n
    go true ih k = k
    go false ih k = ih k

-- a name that differs from all keys isn't found
absent : (es : List (List ℕ × ℕ)) (x : List ℕ) → AllByRecursion (λ y. same_name x y ≡ false) (keys_of es) → table.lookup (same_name x) es ≡ None
absent [] x h = refl
absent (e ∷ es) x h = rw h.0 (absent es x h.1)

-- the test of names is symmetric
pub same_name-sym : (x y : List ℕ) → same_name x y ≡ same_name y x
same_name-sym x y = go (same_name x y) (same_name y x) refl refl
  where
    go : (a b : Bool) → same_name x y ≡ a → same_name y x ≡ b → a ≡ b
    go true true p q = refl
    go false false p q = refl
    go true false p q = absurd (true≢false (sym ((Decides-same_name y x).1 (sym ((Decides-same_name x y).0 p))) ∙ q))
    go false true p q = absurd (true≢false (sym ((Decides-same_name x y).1 (sym ((Decides-same_name y x).0 q))) ∙ p))

-- where no key comes twice, the table finds what the scope does
pub lookup_seen : (es : List (List ℕ × ℕ)) (x : List ℕ) → IsDistinct same_name (keys_of es) → lookup (scope_of es) x ≡ table.lookup (same_name x) es
unfolding IsDistinct
lookup_seen [] x h = refl
lookup_seen (e ∷ es) x h = go (same_name x e.0) refl (table.lookup (same_name x) es) refl (lookup_seen es x h.1)
  where
    go : (b : Bool) → same_name x e.0 ≡ b → (r : Option ℕ) → table.lookup (same_name x) es ≡ r → lookup (scope_of es) x ≡ table.lookup (same_name x) es → lookup (scope_of es ++ entry e.0 e.1 ∷ []) x ≡ cond b (Some e.1) (table.lookup (same_name x) es)
    go true p r q ih =
        lookup_last (scope_of es) (entry e.0 e.1) x (ih ∙ absent es x (subst (λ z. AllByRecursion (λ y. same_name z y ≡ false) (keys_of es)) (sym ((Decides-same_name x e.0).0 p)) h.0))
        ∙ ap (λ b. cond b (Some e.1) None) (same_name-sym e.0 x ∙ p)
    go false p None q ih =
        lookup_last (scope_of es) (entry e.0 e.1) x (ih ∙ q) ∙ ap (λ b. cond b (Some e.1) None) (same_name-sym e.0 x ∙ p) ∙ sym q
    go false p (Some n) q ih = lookup_first (scope_of es) (entry e.0 e.1) x n (ih ∙ q) ∙ sym q

-- entries within the limit
small_append : (es fs : List (List ℕ × ℕ)) → AllByRecursion (λ e. e.1 ≤ max_fields) es → AllByRecursion (λ e. e.1 ≤ max_fields) fs → AllByRecursion (λ e. e.1 ≤ max_fields) (es ++ fs)
small_append [] fs h k = k
small_append (e ∷ es) fs h k = (h.0, small_append es fs h.1 k)

pub small_declared : (es fs : List (List ℕ × ℕ)) (x : List ℕ) (n : ℕ) → fs ≡ es ++ (x, n) ∷ [] → AllByRecursion (λ e. e.1 ≤ max_fields) es → n ≤ max_fields → AllByRecursion (λ e. e.1 ≤ max_fields) fs
small_declared es fs x n e h k = rw e (small_append es ((x, n) ∷ []) h (k, tt))

pub small_front : (es fs : List (List ℕ × ℕ)) → AllByRecursion (λ e. e.1 ≤ max_fields) (es ++ fs) → AllByRecursion (λ e. e.1 ≤ max_fields) es
small_front [] fs h = tt
small_front (e ∷ es) fs h = (h.0, small_front es fs h.1)

pub small_found : (es : List (List ℕ × ℕ)) (x : List ℕ) → AllByRecursion (λ e. e.1 ≤ max_fields) es → IfSome (table.lookup (same_name x) es) (λ n. n ≤ max_fields)
small_found [] x h = tt
small_found (e ∷ es) x h = go (same_name x e.0) (small_found es x h.1)
  where
    go : (b : Bool) → IfSome (table.lookup (same_name x) es) (λ n. n ≤ max_fields) → IfSome (cond b (Some e.1) (table.lookup (same_name x) es)) (λ n. n ≤ max_fields)
    go true ih = h.0
    go false ih = ih

not_some : IsSome {T = List ℕ × ℕ} None → ⊥
not_some h = cc

-- an arity that is found is within the limit
pub small_at : (es : List (List ℕ × ℕ)) (x : List ℕ) (n : ℕ) → AllByRecursion (λ e. e.1 ≤ max_fields) es → table.lookup (same_name x) es ≡ Some n → n ≤ max_fields
small_at es x n h e = subst (λ r. IfSome r (λ n. n ≤ max_fields)) e (small_found es x h)

-- once the last entry is taken out, the scope has lost its first
pub scope_forgotten : (es fs : List (List ℕ × ℕ)) (r : Option (List ℕ × ℕ)) → es ≡ fs ++ option_to_list r → (IsSome r ↔ (0 < length es)) → scope_of fs ≡ drop 1 (scope_of es)
scope_forgotten es fs (Some e) h k = rw (h, scope_declared fs e.0 e.1)
scope_forgotten [] [] None h k = refl
scope_forgotten (e ∷ es) fs None h k = absurd (not_some (k.1 (omega arith)))
scope_forgotten [] (f ∷ fs) None h k = absurd (cc)

-- as many names as entries
pub length-scope_of : (es : List (List ℕ × ℕ)) → length (scope_of es) ≡ length es
length-scope_of [] = refl
length-scope_of (e ∷ es) = length-append (scope_of es) (entry e.0 e.1 ∷ []) ∙ rw (length-scope_of es) (omega arith)
