-- A program rewrites to at most one normal form: a function of programs is kept by each step, and gives a normal form itself.
use Rattle.std.proofs.Common.{◌≡◌, ℕ, zero, suc, ◌≤◌, ◌+◌, Bool, true, false, cond, not, nat_eq, nat_lt, List, [], ◌∷◌, ◌++◌, filter, map, inl, inr, ◌⊎◌, subst, refl, sym, ap, ap₂, ◌∙◌, arith, ℤ, ◌+ℤ◌, ◌-ℤ◌, ◌*ℤ◌, neg_ℤ}
use Rattle.std.proofs.lemmas.Bool.Decides.{nat_tests}
use Rattle.std.specs.List.{AllByRecursion}
use Rattle.std.specs.Int.{int_wrap}
use mir.Syntax.{w64}
use Rattle.semantics.specs.Multiset.{one_if, IsAmong}
use Rattle.semantics.specs.Meaning.{same_name}
use Rattle.semantics.specs.FreeNames.{free, free_in_outputs, other_than}
use Rattle.semantics.proofs.NamesAmong.{Decides-same_name, among_left, among_right, among_others, from_others}
use Rattle.semantics.specs.Query.{Scalar, Cond, Name, Loop, Rel, Input, Let, Output, Program}
use Rattle.semantics.specs.Normal.{IsLiteral, NormalScalar, NormalCond, NormalRel, IsFilter, IsSelect, IsSet, UsesOnce, uses_all, use_count, replaced, Reaches, AllReached, NormalProgram}
use Rattle.semantics.specs.Rewriting.{Steps, OneOf, ScalarStep, CondStep, RelStep, LetsStep, OutputStep, ProgramStep, RewritesTo, IsNormalForm}

-- ---- scalars

abbrev both : (ℤ → ℤ → ℤ) → (Scalar → Scalar → Scalar) → Scalar → Scalar → Scalar
both f k (Scalar.literal a) (Scalar.literal b) = Scalar.literal (int_wrap w64 (f a b))
both f k s t = k s t

abbrev one : Scalar → Scalar
one (Scalar.literal a) = Scalar.literal (int_wrap w64 (neg_ℤ a))
one s = Scalar.negation s

abbrev fold : Scalar → Scalar
fold (Scalar.column c) = Scalar.column c
fold (Scalar.literal z) = Scalar.literal z
fold (Scalar.plus s t) = both (λ a b. a +ℤ b) Scalar.plus (fold s) (fold t)
fold (Scalar.minus s t) = both (λ a b. a -ℤ b) Scalar.minus (fold s) (fold t)
fold (Scalar.times s t) = both (λ a b. a *ℤ b) Scalar.times (fold s) (fold t)
fold (Scalar.negation s) = one (fold s)

fold-step : {s t : Scalar} → ScalarStep s t → fold s ≡ fold t
fold-step ScalarStep.sum = refl
fold-step ScalarStep.difference = refl
fold-step ScalarStep.product = refl
fold-step ScalarStep.negated = refl
fold-step (ScalarStep.plus_left {t = t} d) = ap (λ u. both (λ a b. a +ℤ b) Scalar.plus u (fold t)) (fold-step d)
fold-step (ScalarStep.plus_right {s = s} d) = ap (both (λ a b. a +ℤ b) Scalar.plus (fold s)) (fold-step d)
fold-step (ScalarStep.minus_left {t = t} d) = ap (λ u. both (λ a b. a -ℤ b) Scalar.minus u (fold t)) (fold-step d)
fold-step (ScalarStep.minus_right {s = s} d) = ap (both (λ a b. a -ℤ b) Scalar.minus (fold s)) (fold-step d)
fold-step (ScalarStep.times_left {t = t} d) = ap (λ u. both (λ a b. a *ℤ b) Scalar.times u (fold t)) (fold-step d)
fold-step (ScalarStep.times_right {s = s} d) = ap (both (λ a b. a *ℤ b) Scalar.times (fold s)) (fold-step d)
fold-step (ScalarStep.negation_of d) = ap one (fold-step d)

both-kept : (f : ℤ → ℤ → ℤ) (k : Scalar → Scalar → Scalar) (s t : Scalar) → (IsLiteral s → IsLiteral t → ⊥) → both f k s t ≡ k s t
both-kept f k (Scalar.literal a) (Scalar.literal b) n = absurd (n tt tt)
both-kept f k (Scalar.literal a) (Scalar.column c) n = refl
both-kept f k (Scalar.literal a) (Scalar.plus u v) n = refl
both-kept f k (Scalar.literal a) (Scalar.minus u v) n = refl
both-kept f k (Scalar.literal a) (Scalar.times u v) n = refl
both-kept f k (Scalar.literal a) (Scalar.negation u) n = refl
both-kept f k (Scalar.column c) t n = refl
both-kept f k (Scalar.plus u v) t n = refl
both-kept f k (Scalar.minus u v) t n = refl
both-kept f k (Scalar.times u v) t n = refl
both-kept f k (Scalar.negation u) t n = refl

one-kept : (s : Scalar) → (IsLiteral s → ⊥) → one s ≡ Scalar.negation s
one-kept (Scalar.literal a) n = absurd (n tt)
one-kept (Scalar.column c) n = refl
one-kept (Scalar.plus u v) n = refl
one-kept (Scalar.minus u v) n = refl
one-kept (Scalar.times u v) n = refl
one-kept (Scalar.negation u) n = refl

fold-normal : (s : Scalar) → NormalScalar s → fold s ≡ s
fold-normal (Scalar.column c) n = refl
fold-normal (Scalar.literal z) n = refl
fold-normal (Scalar.plus s t) n = ap₂ (both (λ a b. a +ℤ b) Scalar.plus) (fold-normal s n.0) (fold-normal t n.1) ∙ both-kept (λ a b. a +ℤ b) Scalar.plus s t n.2
fold-normal (Scalar.minus s t) n = ap₂ (both (λ a b. a -ℤ b) Scalar.minus) (fold-normal s n.0) (fold-normal t n.1) ∙ both-kept (λ a b. a -ℤ b) Scalar.minus s t n.2
fold-normal (Scalar.times s t) n = ap₂ (both (λ a b. a *ℤ b) Scalar.times) (fold-normal s n.0) (fold-normal t n.1) ∙ both-kept (λ a b. a *ℤ b) Scalar.times s t n.2
fold-normal (Scalar.negation s) n = ap one (fold-normal s n.0) ∙ one-kept s n.1

folds-step : {ss ts : List Scalar} → OneOf ScalarStep ss ts → map fold ss ≡ map fold ts
folds-step (OneOf.here {xs = xs} d) = ap (λ u. u ∷ map fold xs) (fold-step d)
folds-step (OneOf.later {x = x} d) = ap (λ l. fold x ∷ l) (folds-step d)

folds-normal : (ss : List Scalar) → AllByRecursion NormalScalar ss → map fold ss ≡ ss
folds-normal [] n = refl
folds-normal (s ∷ ss) n = ap₂ (λ u l. u ∷ l) (fold-normal s n.0) (folds-normal ss n.1)

-- ---- conditions

abbrev fold_cond : Cond → Cond
fold_cond (Cond.compare o s t) = Cond.compare o (fold s) (fold t)
fold_cond (Cond.conjunction c d) = Cond.conjunction (fold_cond c) (fold_cond d)
fold_cond (Cond.disjunction c d) = Cond.disjunction (fold_cond c) (fold_cond d)
fold_cond (Cond.negation c) = Cond.negation (fold_cond c)

cond-step : {c d : Cond} → CondStep c d → fold_cond c ≡ fold_cond d
cond-step (CondStep.compare_left {o = o} {t = t} d) = ap (λ u. Cond.compare o u (fold t)) (fold-step d)
cond-step (CondStep.compare_right {o = o} {s = s} d) = ap (Cond.compare o (fold s)) (fold-step d)
cond-step (CondStep.and_left {d = e} d) = ap (λ u. Cond.conjunction u (fold_cond e)) (cond-step d)
cond-step (CondStep.and_right {c = c} d) = ap (Cond.conjunction (fold_cond c)) (cond-step d)
cond-step (CondStep.or_left {d = e} d) = ap (λ u. Cond.disjunction u (fold_cond e)) (cond-step d)
cond-step (CondStep.or_right {c = c} d) = ap (Cond.disjunction (fold_cond c)) (cond-step d)
cond-step (CondStep.not_of d) = ap Cond.negation (cond-step d)

cond-normal : (c : Cond) → NormalCond c → fold_cond c ≡ c
cond-normal (Cond.compare o s t) n = ap₂ (Cond.compare o) (fold-normal s n.0) (fold-normal t n.1)
cond-normal (Cond.conjunction c d) n = ap₂ Cond.conjunction (cond-normal c n.0) (cond-normal d n.1)
cond-normal (Cond.disjunction c d) n = ap₂ Cond.disjunction (cond-normal c n.0) (cond-normal d n.1)
cond-normal (Cond.negation c) n = ap Cond.negation (cond-normal c n)

-- ---- each column at most once, as a test

abbrev once : List ℕ → Bool
once [] = true
once (c ∷ cs) = cond (nat_lt 0 (use_count c cs)) false (once cs)

clash : true ≡ false → ⊥
clash e = cc

same_use : (c d : ℕ) (cs : List ℕ) (b : Bool) → nat_eq c d ≡ b → nat_lt 0 (use_count d cs) ≡ false → use_count c cs ≤ 1 → one_if b + use_count c cs ≤ 1
same_use c d cs true j i h =
    let e : c ≡ d = grind (arith, nat_tests) in
    let z : use_count d cs ≡ 0 = grind (arith, nat_tests) in
    omega (arith, ap (λ k. use_count k cs) e, z)
same_use c d cs false j i h = omega (arith, h)

once-true : (cs : List ℕ) → once cs ≡ true → (c : ℕ) → use_count c cs ≤ 1
once-true [] e c = omega arith
once-true (d ∷ cs) e c = go (λ k. once-true cs k c) (nat_lt 0 (use_count d cs)) refl e
  where
    go : (once cs ≡ true → use_count c cs ≤ 1) → (b : Bool) → nat_lt 0 (use_count d cs) ≡ b → cond b false (once cs) ≡ true → one_if (nat_eq c d) + use_count c cs ≤ 1
    go ih true i e = absurd (clash (sym e))
    go ih false i e = same_use c d cs (nat_eq c d) refl i (ih e)

twice : (d n : ℕ) → nat_lt 0 n ≡ true → one_if (nat_eq d d) + n ≤ 1 → ⊥
twice d n i h = absurd (omega (arith, h, positive, ap one_if self))
  where
    self : nat_eq d d ≡ true
    self = grind (arith, nat_tests)

    positive : 1 ≤ n
    positive = grind (arith, nat_tests)

once-is : (cs : List ℕ) → ((c : ℕ) → use_count c cs ≤ 1) → once cs ≡ true
once-is [] h = refl
once-is (d ∷ cs) h = go (once-is cs (λ c. omega (arith, h c))) (nat_lt 0 (use_count d cs)) refl
  where
    go : once cs ≡ true → (b : Bool) → nat_lt 0 (use_count d cs) ≡ b → cond b false (once cs) ≡ true
    go ih true i = absurd (twice d (use_count d cs) i (h d))
    go ih false i = ih

-- ---- relations

abbrev fused : Rel → List Scalar → Rel
fused (Rel.select r ss) ts = cond (once (uses_all ts)) (fused r (map fold (map (replaced ss) ts))) (Rel.select (Rel.select r ss) ts)
fused r ts = Rel.select r ts

abbrev joined : Rel → Cond → Rel
joined (Rel.filter r c) d = Rel.filter r (Cond.conjunction c d)
joined r d = Rel.filter r d

abbrev alone : Rel → Rel
alone (Rel.distinct r) = Rel.distinct r
alone (Rel.except p q) = Rel.except p q
alone (Rel.intersect p q) = Rel.intersect p q
alone r = Rel.distinct r

abbrev turned : Loop → ℕ → Name → Rel → Rel → Rel
turned Loop.iterate zero x r b = r
turned Loop.iterate (suc n) x r b = Rel.loop Loop.iterate (suc n) x r b
turned Loop.closure n x r b = Rel.loop Loop.closure n x r b

abbrev norm : Rel → Rel
norm (Rel.named x) = Rel.named x
norm (Rel.select r ss) = fused (norm r) (map fold ss)
norm (Rel.filter r c) = joined (norm r) (fold_cond c)
norm (Rel.concat p q) = Rel.concat (norm p) (norm q)
norm (Rel.join p q ps) = Rel.join (norm p) (norm q) ps
norm (Rel.group r ks as') = Rel.group (norm r) ks as'
norm (Rel.distinct r) = alone (norm r)
norm (Rel.except p q) = Rel.except (norm p) (norm q)
norm (Rel.intersect p q) = Rel.intersect (norm p) (norm q)
norm (Rel.loop l n x r b) = turned l n x (norm r) (norm b)

fused-kept : (r : Rel) (ss : List Scalar) → (IsSelect r → UsesOnce ss → ⊥) → fused r ss ≡ Rel.select r ss
fused-kept (Rel.select r us) ss n = go (once (uses_all ss)) refl
  where
    go : (b : Bool) → once (uses_all ss) ≡ b → cond b (fused r (map fold (map (replaced us) ss))) (Rel.select (Rel.select r us) ss) ≡ Rel.select (Rel.select r us) ss
    go true e = absurd (n tt (once-true (uses_all ss) e))
    go false e = refl
fused-kept (Rel.named x) ss n = refl
fused-kept (Rel.filter r c) ss n = refl
fused-kept (Rel.concat p q) ss n = refl
fused-kept (Rel.join p q ps) ss n = refl
fused-kept (Rel.group r ks as') ss n = refl
fused-kept (Rel.distinct r) ss n = refl
fused-kept (Rel.except p q) ss n = refl
fused-kept (Rel.intersect p q) ss n = refl
fused-kept (Rel.loop l k x r b) ss n = refl

joined-kept : (r : Rel) (c : Cond) → (IsFilter r → ⊥) → joined r c ≡ Rel.filter r c
joined-kept (Rel.filter r d) c n = absurd (n tt)
joined-kept (Rel.named x) c n = refl
joined-kept (Rel.select r ss) c n = refl
joined-kept (Rel.concat p q) c n = refl
joined-kept (Rel.join p q ps) c n = refl
joined-kept (Rel.group r ks as') c n = refl
joined-kept (Rel.distinct r) c n = refl
joined-kept (Rel.except p q) c n = refl
joined-kept (Rel.intersect p q) c n = refl
joined-kept (Rel.loop l k x r b) c n = refl

alone-kept : (r : Rel) → (IsSet r → ⊥) → alone r ≡ Rel.distinct r
alone-kept (Rel.distinct r) n = absurd (n tt)
alone-kept (Rel.except p q) n = absurd (n tt)
alone-kept (Rel.intersect p q) n = absurd (n tt)
alone-kept (Rel.named x) n = refl
alone-kept (Rel.select r ss) n = refl
alone-kept (Rel.filter r c) n = refl
alone-kept (Rel.concat p q) n = refl
alone-kept (Rel.join p q ps) n = refl
alone-kept (Rel.group r ks as') n = refl
alone-kept (Rel.loop l k x r b) n = refl

alone-set : (r : Rel) → IsSet r → alone r ≡ r
alone-set (Rel.distinct r) s = refl
alone-set (Rel.except p q) s = refl
alone-set (Rel.intersect p q) s = refl
alone-set (Rel.named x) s = absurd s
alone-set (Rel.select r ss) s = absurd s
alone-set (Rel.filter r c) s = absurd s
alone-set (Rel.concat p q) s = absurd s
alone-set (Rel.join p q ps) s = absurd s
alone-set (Rel.group r ks as') s = absurd s
alone-set (Rel.loop l k x r b) s = absurd s

turned-kept : (l : Loop) (n : ℕ) (x : Name) (r b : Rel) → (l ≡ Loop.iterate → n ≡ 0 → ⊥) → turned l n x r b ≡ Rel.loop l n x r b
turned-kept Loop.iterate zero x r b h = absurd (h refl refl)
turned-kept Loop.iterate (suc n) x r b h = refl
turned-kept Loop.closure n x r b h = refl

pub norm-normal : (r : Rel) → NormalRel r → norm r ≡ r
norm-normal (Rel.named x) n = refl
norm-normal (Rel.select r ss) n = ap₂ fused (norm-normal r n.0) (folds-normal ss n.1) ∙ fused-kept r ss n.2
norm-normal (Rel.filter r c) n = ap₂ joined (norm-normal r n.0) (cond-normal c n.1) ∙ joined-kept r c n.2
norm-normal (Rel.concat p q) n = ap₂ Rel.concat (norm-normal p n.0) (norm-normal q n.1)
norm-normal (Rel.join p q ps) n = ap₂ (λ u v. Rel.join u v ps) (norm-normal p n.0) (norm-normal q n.1)
norm-normal (Rel.group r ks as') n = ap (λ u. Rel.group u ks as') (norm-normal r n)
norm-normal (Rel.distinct r) n = ap alone (norm-normal r n.0) ∙ alone-kept r n.1
norm-normal (Rel.except p q) n = ap₂ Rel.except (norm-normal p n.0) (norm-normal q n.1)
norm-normal (Rel.intersect p q) n = ap₂ Rel.intersect (norm-normal p n.0) (norm-normal q n.1)
norm-normal (Rel.loop l k x r b) n = ap₂ (turned l k x) (norm-normal r n.0) (norm-normal b n.1) ∙ turned-kept l k x r b n.2

pub norm-step : {p q : Rel} → RelStep p q → norm p ≡ norm q
norm-step (RelStep.wheres {r = r} {c = c} {d = d} h k) =
    ap₂ joined (norm-normal (Rel.filter r c) h) (cond-normal d k) ∙ sym (norm-normal (Rel.filter r (Cond.conjunction c d)) (h.0, (h.1, k), h.2))
norm-step (RelStep.selects {r = r} {ss = ss} {ts = ts} h k o) =
    ap₂ fused (norm-normal (Rel.select r ss) h) (folds-normal ts k)
    ∙ ap (λ b. cond b (fused r (map fold (map (replaced ss) ts))) (Rel.select (Rel.select r ss) ts)) (once-is (uses_all ts) o)
    ∙ ap (λ u. fused u (map fold (map (replaced ss) ts))) (sym (norm-normal r h.0))
norm-step (RelStep.distincts {r = r} h s) = ap alone (norm-normal r h) ∙ alone-set r s ∙ sym (norm-normal r h)
norm-step (RelStep.no_turns h) = refl
norm-step (RelStep.select_of {ss = ss} d) = ap (λ u. fused u (map fold ss)) (norm-step d)
norm-step (RelStep.select_scalar {r = r} d) = ap (fused (norm r)) (folds-step d)
norm-step (RelStep.where_of {c = c} d) = ap (λ u. joined u (fold_cond c)) (norm-step d)
norm-step (RelStep.where_cond {r = r} d) = ap (joined (norm r)) (cond-step d)
norm-step (RelStep.concat_left {q = q} d) = ap (λ u. Rel.concat u (norm q)) (norm-step d)
norm-step (RelStep.concat_right {p = p} d) = ap (Rel.concat (norm p)) (norm-step d)
norm-step (RelStep.join_left {q = q} {ps = ps} d) = ap (λ u. Rel.join u (norm q) ps) (norm-step d)
norm-step (RelStep.join_right {p = p} {ps = ps} d) = ap (λ u. Rel.join (norm p) u ps) (norm-step d)
norm-step (RelStep.group_of {ks = ks} {as' = as'} d) = ap (λ u. Rel.group u ks as') (norm-step d)
norm-step (RelStep.distinct_of d) = ap alone (norm-step d)
norm-step (RelStep.except_left {q = q} d) = ap (λ u. Rel.except u (norm q)) (norm-step d)
norm-step (RelStep.except_right {p = p} d) = ap (Rel.except (norm p)) (norm-step d)
norm-step (RelStep.intersect_left {q = q} d) = ap (λ u. Rel.intersect u (norm q)) (norm-step d)
norm-step (RelStep.intersect_right {p = p} d) = ap (Rel.intersect (norm p)) (norm-step d)
norm-step (RelStep.loop_start {l = l} {n = n} {x = x} {b = b} d) = ap (λ u. turned l n x u (norm b)) (norm-step d)
norm-step (RelStep.loop_body {l = l} {n = n} {x = x} {r = r} d) = ap (turned l n x (norm r)) (norm-step d)

-- ---- no name is added

fused-free : (r : Rel) (ss : List Scalar) → free (fused r ss) ≡ free r
fused-free (Rel.select r us) ss = go (once (uses_all ss)) (fused-free r (map fold (map (replaced us) ss)))
  where
    go : (b : Bool) → free (fused r (map fold (map (replaced us) ss))) ≡ free r → free (cond b (fused r (map fold (map (replaced us) ss))) (Rel.select (Rel.select r us) ss)) ≡ free r
    go true e = e
    go false e = refl
fused-free (Rel.named x) ss = refl
fused-free (Rel.filter r c) ss = refl
fused-free (Rel.concat p q) ss = refl
fused-free (Rel.join p q ps) ss = refl
fused-free (Rel.group r ks as') ss = refl
fused-free (Rel.distinct r) ss = refl
fused-free (Rel.except p q) ss = refl
fused-free (Rel.intersect p q) ss = refl
fused-free (Rel.loop l k x r b) ss = refl

joined-free : (r : Rel) (c : Cond) → free (joined r c) ≡ free r
joined-free (Rel.filter r d) c = refl
joined-free (Rel.named x) c = refl
joined-free (Rel.select r ss) c = refl
joined-free (Rel.concat p q) c = refl
joined-free (Rel.join p q ps) c = refl
joined-free (Rel.group r ks as') c = refl
joined-free (Rel.distinct r) c = refl
joined-free (Rel.except p q) c = refl
joined-free (Rel.intersect p q) c = refl
joined-free (Rel.loop l k x r b) c = refl

alone-free : (r : Rel) → free (alone r) ≡ free r
alone-free (Rel.distinct r) = refl
alone-free (Rel.except p q) = refl
alone-free (Rel.intersect p q) = refl
alone-free (Rel.named x) = refl
alone-free (Rel.select r ss) = refl
alone-free (Rel.filter r c) = refl
alone-free (Rel.concat p q) = refl
alone-free (Rel.join p q ps) = refl
alone-free (Rel.group r ks as') = refl
alone-free (Rel.loop l k x r b) = refl

is_other : (x y : Name) (ys : List Name) → IsAmong y (filter (other_than x) ys) → same_name x y ≡ false
is_other x y [] s = absurd s
is_other x y (z ∷ zs) s = go (is_other x y zs) (same_name x z) refl s
  where
    go : (IsAmong y (filter (other_than x) zs) → same_name x y ≡ false) → (b : Bool) → same_name x z ≡ b → IsAmong y (cond (not b) (z ∷ filter (other_than x) zs) (filter (other_than x) zs)) → same_name x y ≡ false
    go ih true e t = ih t
    go ih false e (inl p) = subst (λ w. same_name x w ≡ false) p e
    go ih false e (inr t) = ih t

among_both : (y : Name) (xs ys vs ws : List Name) → (IsAmong y xs → IsAmong y vs) → (IsAmong y ys → IsAmong y ws) → IsAmong y (xs ++ ys) → IsAmong y (vs ++ ws)
among_both y [] ys vs ws f g h = among_right y vs ws (g h)
among_both y (x ∷ xs) ys vs ws f g (inl e) = among_left y vs ws (f (inl e))
among_both y (x ∷ xs) ys vs ws f g (inr h) = among_both y xs ys vs ws (λ k. f (inr k)) g h

free-norm : (y : Name) (r : Rel) → IsAmong y (free (norm r)) → IsAmong y (free r)
free-norm y (Rel.named x) h = h
free-norm y (Rel.select r ss) h = free-norm y r (subst (λ l. IsAmong y l) (fused-free (norm r) (map fold ss)) h)
free-norm y (Rel.filter r c) h = free-norm y r (subst (λ l. IsAmong y l) (joined-free (norm r) (fold_cond c)) h)
free-norm y (Rel.concat p q) h = among_both y (free (norm p)) (free (norm q)) (free p) (free q) (free-norm y p) (free-norm y q) h
free-norm y (Rel.join p q ps) h = among_both y (free (norm p)) (free (norm q)) (free p) (free q) (free-norm y p) (free-norm y q) h
free-norm y (Rel.group r ks as') h = free-norm y r h
free-norm y (Rel.distinct r) h = free-norm y r (subst (λ l. IsAmong y l) (alone-free (norm r)) h)
free-norm y (Rel.except p q) h = among_both y (free (norm p)) (free (norm q)) (free p) (free q) (free-norm y p) (free-norm y q) h
free-norm y (Rel.intersect p q) h = among_both y (free (norm p)) (free (norm q)) (free p) (free q) (free-norm y p) (free-norm y q) h
free-norm y (Rel.loop Loop.iterate zero x r b) h = among_left y (free r) (filter (other_than x) (free b)) (free-norm y r h)
free-norm y (Rel.loop Loop.iterate (suc n) x r b) h =
    among_both y (free (norm r)) (filter (other_than x) (free (norm b))) (free r) (filter (other_than x) (free b)) (free-norm y r)
    (λ k. among_others x y (free b) (is_other x y (free (norm b)) k) (free-norm y b (from_others x y (free (norm b)) k))) h
free-norm y (Rel.loop Loop.closure n x r b) h =
    among_both y (free (norm r)) (filter (other_than x) (free (norm b))) (free r) (filter (other_than x) (free b)) (free-norm y r)
    (λ k. among_others x y (free b) (is_other x y (free (norm b)) k) (free-norm y b (from_others x y (free (norm b)) k))) h

-- ---- lets that are reached, as a test

abbrev among : Name → List Name → Bool
among y [] = false
among y (z ∷ zs) = cond (same_name z y) true (among y zs)

among-true : (y : Name) (zs : List Name) → among y zs ≡ true → IsAmong y zs
among-true y [] e = absurd (clash (sym e))
among-true y (z ∷ zs) e = go (among-true y zs) (same_name z y) refl e
  where
    go : (among y zs ≡ true → IsAmong y zs) → (b : Bool) → same_name z y ≡ b → cond b true (among y zs) ≡ true → (z ≡ y) ⊎ IsAmong y zs
    go ih true i k = inl ((Decides-same_name z y).0 i)
    go ih false i k = inr (ih k)

among-is : (y : Name) (zs : List Name) → IsAmong y zs → among y zs ≡ true
among-is y [] h = absurd h
among-is y (z ∷ zs) (inl e) = ap (λ b. cond b true (among y zs)) ((Decides-same_name z y).1 e)
among-is y (z ∷ zs) (inr h) = go (same_name z y) (among-is y zs h)
  where
    go : (b : Bool) → among y zs ≡ true → cond b true (among y zs) ≡ true
    go true k = refl
    go false k = k

abbrev reaches : Name → List Let → List Output → Bool
reaches x [] outs = among x (free_in_outputs outs)
reaches x (a ∷ as') outs = cond (reaches x as' outs) true (cond (among x (free a.value)) (reaches a.name as' outs) false)

reaches-true : (x : Name) (as' : List Let) (outs : List Output) → reaches x as' outs ≡ true → Reaches x as' outs
reaches-true x [] outs e = among-true x (free_in_outputs outs) e
reaches-true x (a ∷ as') outs e = go (λ y k. reaches-true y as' outs k) (reaches x as' outs) refl (among x (free a.value)) refl e
  where
    go : ((y : Name) → reaches y as' outs ≡ true → Reaches y as' outs) → (b : Bool) → reaches x as' outs ≡ b → (m : Bool) → among x (free a.value) ≡ m → cond b true (cond m (reaches a.name as' outs) false) ≡ true → Reaches x as' outs ⊎ (IsAmong x (free a.value) × Reaches a.name as' outs)
    go ih true i m j k = inl (ih x i)
    go ih false i true j k = inr (among-true x (free a.value) j, ih a.name k)
    go ih false i false j k = absurd (clash (sym k))

reaches-is : (x : Name) (as' : List Let) (outs : List Output) → Reaches x as' outs → reaches x as' outs ≡ true
reaches-is x [] outs h = among-is x (free_in_outputs outs) h
reaches-is x (a ∷ as') outs (inl h) = ap (λ b. cond b true (cond (among x (free a.value)) (reaches a.name as' outs) false)) (reaches-is x as' outs h)
reaches-is x (a ∷ as') outs (inr h) = go (reaches x as' outs) (among-is x (free a.value) h.0) (reaches-is a.name as' outs h.1)
  where
    go : (b : Bool) → among x (free a.value) ≡ true → reaches a.name as' outs ≡ true → cond b true (cond (among x (free a.value)) (reaches a.name as' outs) false) ≡ true
    go true m r = refl
    go false m r = ap (λ c. cond c (reaches a.name as' outs) false) m ∙ r

-- ---- programs

abbrev output_norm : Output → Output
output_norm o = record { name = o.name; value = norm o.value }

abbrev norms : List Output → List Output
norms os = map output_norm os

free-norms : (y : Name) (os : List Output) → IsAmong y (free_in_outputs (norms os)) → IsAmong y (free_in_outputs os)
free-norms y [] h = h
free-norms y (o ∷ os) h = among_both y (free (norm o.value)) (free_in_outputs (norms os)) (free o.value) (free_in_outputs os) (free-norm y o.value) (free-norms y os) h

abbrev let_norm : Let → Let
let_norm a = record { name = a.name; value = norm a.value }

abbrev pruned : List Let → List Output → List Let
pruned [] outs = []
pruned (a ∷ as') outs = cond (reaches a.name (pruned as' outs) outs) (let_norm a ∷ pruned as' outs) (pruned as' outs)

pruned-normal : (as' : List Let) (outs : List Output) → AllByRecursion (λ (a : Let). NormalRel a.value) as' → AllReached as' outs → pruned as' outs ≡ as'
pruned-normal [] outs n r = refl
pruned-normal (a ∷ as') outs n r =
    ap (λ l. cond (reaches a.name l outs) (let_norm a ∷ l) l) (pruned-normal as' outs n.1 r.1)
    ∙ ap (λ b. cond b (let_norm a ∷ as') as') (reaches-is a.name as' outs r.0)
    ∙ ap (λ v. record { name = a.name; value = v } ∷ as') (norm-normal a.value n.0)

reaches-shrinks : (x : Name) (as' : List Let) (outs : List Output) → Reaches x (pruned as' (norms outs)) (norms outs) → Reaches x as' outs
reaches-shrinks x [] outs h = free-norms x outs h
reaches-shrinks x (a ∷ as') outs h = go (λ y k. reaches-shrinks y as' outs k) (reaches a.name (pruned as' (norms outs)) (norms outs)) h
  where
    go : ((y : Name) → Reaches y (pruned as' (norms outs)) (norms outs) → Reaches y as' outs) → (b : Bool) → Reaches x (cond b (let_norm a ∷ pruned as' (norms outs)) (pruned as' (norms outs))) (norms outs) → Reaches x as' outs ⊎ (IsAmong x (free a.value) × Reaches a.name as' outs)
    go ih true (inl k) = inl (ih x k)
    go ih true (inr k) = inr (free-norm x a.value k.0, ih a.name k.1)
    go ih false k = inl (ih x k)

not_kept : (a : Let) (as' : List Let) (outs : List Output) → (Reaches a.name as' outs → ⊥) → reaches a.name (pruned as' (norms outs)) (norms outs) ≡ false
not_kept a as' outs u = go (reaches a.name (pruned as' (norms outs)) (norms outs)) refl
  where
    go : (b : Bool) → reaches a.name (pruned as' (norms outs)) (norms outs) ≡ b → b ≡ false
    go true e = absurd (u (reaches-shrinks a.name as' outs (reaches-true a.name (pruned as' (norms outs)) (norms outs) e)))
    go false e = refl

lets-step : {outs : List Output} {as' bs : List Let} → LetsStep outs as' bs → pruned as' (norms outs) ≡ pruned bs (norms outs)
lets-step {outs} (LetsStep.unreached {a = a} {as' = as'} all u) = ap (λ b. cond b (let_norm a ∷ pruned as' (norms outs)) (pruned as' (norms outs))) (not_kept a as' outs u)
lets-step {outs} (LetsStep.value {x = x} {as' = as'} d) =
    ap (λ v. cond (reaches x (pruned as' (norms outs)) (norms outs)) (record { name = x; value = v } ∷ pruned as' (norms outs)) (pruned as' (norms outs))) (norm-step d)
lets-step {outs} (LetsStep.later {a = a} d) = ap (λ l. cond (reaches a.name l (norms outs)) (let_norm a ∷ l) l) (lets-step d)

abbrev program : List Input → List Let → List Output → Program
program inputs lets outs = record { inputs = inputs; lets = lets; outputs = outs }

abbrev normed : Program → Program
normed p = program p.inputs (pruned p.lets (norms p.outputs)) (norms p.outputs)

norms-step : {os os' : List Output} → OneOf OutputStep os os' → norms os ≡ norms os'
norms-step (OneOf.here {xs = os} (OutputStep.value {x = x} d)) = ap (λ v. record { name = x; value = v } ∷ norms os) (norm-step d)
norms-step (OneOf.later {x = o} d) = ap (λ l. output_norm o ∷ l) (norms-step d)

norms-normal : (os : List Output) → AllByRecursion (λ (o : Output). NormalRel o.value) os → norms os ≡ os
norms-normal [] n = refl
norms-normal (o ∷ os) n = ap₂ (λ v l. record { name = o.name; value = v } ∷ l) (norm-normal o.value n.0) (norms-normal os n.1)

program-step : {p q : Program} → ProgramStep p q → normed p ≡ normed q
program-step (ProgramStep.lets {inputs = inputs} {outs = outs} d) = ap (λ l. program inputs l (norms outs)) (lets-step d)
program-step (ProgramStep.outputs {inputs = inputs} {as' = as'} d) = ap (λ o. program inputs (pruned as' o) o) (norms-step d)

program-steps : {p q : Program} → RewritesTo p q → normed p ≡ normed q
program-steps Steps.stay = refl
program-steps (Steps.next s d) = program-step s ∙ program-steps d

program-normal : (p : Program) → NormalProgram p → normed p ≡ p
program-normal p n =
    ap (λ o. program p.inputs (pruned p.lets o) o) (norms-normal p.outputs n.outputs)
    ∙ ap (λ l. program p.inputs l p.outputs) (pruned-normal p.lets p.outputs n.lets n.reached)

pub one_normal_form : (p q q' : Program) → IsNormalForm q p → IsNormalForm q' p → q ≡ q'
one_normal_form p q q' f g = sym (program-normal q f.normal) ∙ sym (program-steps f.reached) ∙ program-steps g.reached ∙ program-normal q' g.normal
