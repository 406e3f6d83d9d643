-- Columns replaced by scalars that are moved to them.
use Rattle.std.proofs.Common.{◌≡◌, ℕ, zero, suc, ◌≤◌, ◌<◌, List, [], ◌∷◌, ◌++◌, pos, map, length, take, get_or, refl, sym, ap, ap₂, subst, ◌∙◌, arith, append_assoc}
use Rattle.std.proofs.Math.ListN.{set}
use Rattle.std.proofs.lemmas.Bool.Decides.{nat_tests}
use Rattle.std.specs.List.{AllByRecursion}
use Rattle.expr_tree.specs.declared.scalar.Operator.{Operator}
use Rattle.expr_tree.specs.declared.scalar.Operator.TheVariants as operator
use Rattle.expr_tree.specs.Plain.{plain_operator}
use Rattle.semantics.specs.Query.{Scalar}
use Rattle.semantics.specs.Normal.{NormalScalar, uses, uses_all, use_count, replaced}
use Rattle.normalise.specs.Rewritten.{IsFolded}
use Rattle.normalise.specs.Replaced.{named_by, Once, MovesOut}
use Rattle.normalise.proofs.Folding.{operator-folded}
use Rattle.normalise.proofs.ColumnMarks.{use_count-append}

-- ---- one scalar moved out of its place

pub named-at : {A B : Type 0} (t : A → B) (p : B → Scalar) (xs : List A) (i : ℕ) (x : A) → i < length xs → x ≡ get_or xs i x → named_by (map p (map t xs)) i ≡ p (t x)
named-at t p [] i x l e = absurd (omega arith)
named-at t p (y ∷ ys) zero x l e = ap (λ v. p (t v)) (sym e)
named-at t p (y ∷ ys) (suc i) x l e = named-at t p ys i x (omega arith) e

pub named-none : {A B : Type 0} (t : A → B) (p : B → Scalar) (xs : List A) (i : ℕ) → length xs ≤ i → named_by (map p (map t xs)) i ≡ Scalar.literal (pos 0)
named-none t p [] i l = refl
named-none t p (y ∷ ys) zero l = absurd (omega arith)
named-none t p (y ∷ ys) (suc i) l = named-none t p ys i (omega arith)

named-set : {A B : Type 0} (t : A → B) (p : B → Scalar) (xs : List A) (i : ℕ) (x : A) (c : ℕ) → (c ≡ i → ⊥) → named_by (map p (map t (set xs i x))) c ≡ named_by (map p (map t xs)) c
named-set t p [] i x c n = refl
named-set t p (y ∷ ys) zero x zero n = absurd (n refl)
named-set t p (y ∷ ys) zero x (suc c) n = refl
named-set t p (y ∷ ys) (suc i) x zero n = refl
named-set t p (y ∷ ys) (suc i) x (suc c) n = named-set t p ys i x c (λ e. n (ap suc e))

normal-set : {A B : Type 0} (t : A → B) (p : B → Scalar) (xs : List A) (i : ℕ) (x : A) → NormalScalar (p (t x)) → AllByRecursion NormalScalar (map p (map t xs)) → AllByRecursion NormalScalar (map p (map t (set xs i x)))
normal-set t p [] i x n h = h
normal-set t p (y ∷ ys) zero x n h = (n, h.1)
normal-set t p (y ∷ ys) (suc i) x n h = (h.0, normal-set t p ys i x n h.1)

pub normal-named : (ss : List Scalar) (i : ℕ) → AllByRecursion NormalScalar ss → NormalScalar (named_by ss i)
normal-named [] i h = tt
normal-named (s ∷ ss) zero h = h.0
normal-named (s ∷ ss) (suc i) h = normal-named ss i h.1

unused_is_other : (c i : ℕ) → use_count c (i ∷ []) ≡ 0 → c ≡ i → ⊥
unused_is_other c i e h = grind (arith, nat_tests)

used_here : (c : ℕ) → use_count c (c ∷ []) ≡ 0 → ⊥
used_here c e = grind (arith, nat_tests)

-- another scalar is put at the number i
pub moved_at : {A B : Type 0} (t : A → B) (p : B → Scalar) (xs : List A) (i : ℕ) (x : A) → NormalScalar (p (t x)) → MovesOut (i ∷ []) (map p (map t (set xs i x))) (map p (map t xs))
moved_at t p xs i x n = record { others = λ c e. named-set t p xs i x c (unused_is_other c i e); normal = normal-set t p xs i x n }

-- ---- one part after another

pub once_first : (xs ys : List ℕ) → Once (xs ++ ys) → Once xs
once_first xs ys h = record { counts = λ c. omega (arith, h.counts c, use_count-append c xs ys) }

pub once_second : (xs ys : List ℕ) → Once (xs ++ ys) → Once ys
once_second xs ys h = record { counts = λ c. omega (arith, h.counts c, use_count-append c xs ys) }

pub moves_both : (xs ys : List ℕ) (by between left : List Scalar) → MovesOut xs between by → MovesOut ys left between → MovesOut (xs ++ ys) left by
moves_both xs ys by between left f g = record {
  others = λ c e. g.others c (omega (arith, use_count-append c xs ys)) ∙ f.others c (omega (arith, use_count-append c xs ys));
  normal = λ h. g.normal (f.normal h);
}

replaced-agree : (ss ts : List Scalar) (b : Scalar) → ((c : ℕ) → (use_count c (uses b) ≡ 0 → ⊥) → named_by ss c ≡ named_by ts c) → replaced ss b ≡ replaced ts b
replaced-agree ss ts (Scalar.column c) h = h c (used_here c)
replaced-agree ss ts (Scalar.literal z) h = refl
replaced-agree ss ts (Scalar.plus s t) h = ap₂ Scalar.plus (replaced-agree ss ts s (λ c n. h c (λ e. n (omega (arith, e, use_count-append c (uses s) (uses t)))))) (replaced-agree ss ts t (λ c n. h c (λ e. n (omega (arith, e, use_count-append c (uses s) (uses t))))))
replaced-agree ss ts (Scalar.minus s t) h = ap₂ Scalar.minus (replaced-agree ss ts s (λ c n. h c (λ e. n (omega (arith, e, use_count-append c (uses s) (uses t)))))) (replaced-agree ss ts t (λ c n. h c (λ e. n (omega (arith, e, use_count-append c (uses s) (uses t))))))
replaced-agree ss ts (Scalar.times s t) h = ap₂ Scalar.times (replaced-agree ss ts s (λ c n. h c (λ e. n (omega (arith, e, use_count-append c (uses s) (uses t)))))) (replaced-agree ss ts t (λ c n. h c (λ e. n (omega (arith, e, use_count-append c (uses s) (uses t))))))
replaced-agree ss ts (Scalar.negation s) h = ap Scalar.negation (replaced-agree ss ts s h)

-- what a later part names was not moved by an earlier one
pub replaced-later : (xs : List ℕ) (b : Scalar) (by between : List Scalar) → MovesOut xs between by → Once (xs ++ uses b) → replaced between b ≡ replaced by b
replaced-later xs b by between f h = replaced-agree between by b (λ c n. f.others c (unused c n))
  where
    unused : (c : ℕ) → (use_count c (uses b) ≡ 0 → ⊥) → use_count c xs ≡ 0
    unused c n = omega (arith, n, h.counts c, use_count-append c xs (uses b))

replaced-operator : (by : List Scalar) (o : Operator) (a b : Scalar) → replaced by (plain_operator o a b) ≡ plain_operator o (replaced by a) (replaced by b)
replaced-operator by operator.Add a b = refl
replaced-operator by operator.Subtract a b = refl
replaced-operator by operator.Multiply a b = refl

pub replaced_both : (o : Operator) (after s t a b : Scalar) (by between : List Scalar) → IsFolded after (plain_operator o s t) → IsFolded s (replaced by a) → IsFolded t (replaced between b) → MovesOut (uses a) between by → Once (uses a ++ uses b)
    → IsFolded after (replaced by (plain_operator o a b))
replaced_both o after s t a b by between h f g m k =
    rw replaced-operator (operator-folded o after s t (replaced by a) (replaced by b) h f (subst (λ u. IsFolded t u) (replaced-later (uses a) b by between m k) g))

-- ---- scalars in order

pub uses_all-append : (ss ts : List Scalar) → uses_all (ss ++ ts) ≡ uses_all ss ++ uses_all ts
uses_all-append [] ts = refl
uses_all-append (s ∷ ss) ts = ap (λ xs. uses s ++ xs) (uses_all-append ss ts) ∙ sym (append_assoc (uses s) (uses_all ss) (uses_all ts))

uses_taken : {A B : Type 0} (t : A → B) (p : B → Scalar) (c : ℕ) (xs : List A) (i : ℕ) → use_count c (uses_all (map p (map t (take i xs)))) ≤ use_count c (uses_all (map p (map t xs)))
uses_taken t p c xs zero = omega arith
uses_taken t p c [] (suc i) = omega arith
uses_taken t p c (x ∷ xs) (suc i) = omega (arith, uses_taken t p c xs i, use_count-append c (uses (p (t x))) (uses_all (map p (map t (take i xs)))), use_count-append c (uses (p (t x))) (uses_all (map p (map t xs))))

pub once_taken : {A B : Type 0} (t : A → B) (p : B → Scalar) (xs : List A) (i : ℕ) → Once (uses_all (map p (map t xs))) → Once (uses_all (map p (map t (take i xs))))
once_taken t p xs i h = record { counts = λ c. omega (arith, h.counts c, uses_taken t p c xs i) }

-- those before and the next
pub once_next : (ss : List Scalar) (s : Scalar) → Once (uses_all (ss ++ s ∷ [])) → Once (uses_all ss ++ uses s)
once_next ss s h = record {
  counts = λ c. omega (arith, h.counts c, ap (use_count c) (uses_all-append ss (s ∷ [])), use_count-append c (uses_all ss) (uses s), use_count-append c (uses_all ss) (uses s ++ []), use_count-append c (uses s) []);
}

pub moves_next : (ss : List Scalar) (s : Scalar) (by between left : List Scalar) → MovesOut (uses_all ss) between by → MovesOut (uses s) left between → MovesOut (uses_all (ss ++ s ∷ [])) left by
moves_next ss s by between left f g = record {
  others = λ c e. h.others c (omega (arith, e, ap (use_count c) (uses_all-append ss (s ∷ [])), use_count-append c (uses_all ss) (uses s), use_count-append c (uses_all ss) (uses s ++ []), use_count-append c (uses s) []));
  normal = h.normal;
}
  where
    h : MovesOut (uses_all ss ++ uses s) left by
    h = moves_both (uses_all ss) (uses s) by between left f g
