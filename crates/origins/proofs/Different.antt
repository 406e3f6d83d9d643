-- No source of a field is there twice.
use Rattle.std.proofs.Common.{◌≡◌, ◌⊎◌, inl, inr, ℕ, zero, suc, Bool, true, false, cond, ◌||◌, List, [], ◌∷◌, ◌++◌, map, length, Some, slice_get, slice_index_or, refl, sym, ap, subst, ◌∙◌}
use Rattle.std.proofs.lemmas.Option.{same_Some}
use Rattle.std.specs.List.{AllByRecursion}
use Rattle.semantics.specs.Multiset.{IsAmong}
use Rattle.semantics.specs.Meaning.{same_name, repeated}
use Rattle.semantics.specs.Query.{Name, Scalar, Agg, Rel, Input, Let, Output, Program}
use Rattle.field_origins.specs.declared.source.Source.{Source}
use Rattle.field_origins.specs.Sources.{Origin, same_source, has, with_source, with_sources, either, merged, origin_at, scalar_origin, agg_origin, columns_from, traced, same_origins}
use Rattle.origins.specs.Relations.{Scope, entry, lookup, rel_origins, inputs_scope, rest_origins, program_origins}
use Rattle.field_origins.specs.Loops.{turned, closed}
use Rattle.origins.specs.Standing.{AreDifferent}
use Rattle.origins.proofs.Among.{among_append}
use Rattle.origins.proofs.Merging.{source_same}

-- the sources of an origin are different
abbrev IsDifferent : Origin → Type 0
IsDifferent Origin.computed = Unit {0}
IsDifferent (Origin.taken ss) = AreDifferent ss

-- field by field
abbrev All : List Origin → Type 0
All os = AllByRecursion IsDifferent os

-- ---- sources

one_more : (ss : List Source) (t : Source) → AreDifferent ss → (IsAmong t ss → ⊥) → AreDifferent (ss ++ t ∷ [])
one_more [] t d not = ((λ m. m), tt)
one_more (s ∷ ss) t d not = ((λ m. go (among_append ss (t ∷ []) s m)), one_more ss t d.1 (λ m. not (inr m)))
  where
    go : IsAmong s ss ⊎ IsAmong s (t ∷ []) → ⊥
    go (inl k) = d.0 k
    go (inr (inl e)) = not (inl (sym e))
    go (inr (inr k)) = k

or_true : (b : Bool) → b || true ≡ true
or_true true = refl
or_true false = refl

has_among : (ss : List Source) (t : Source) → IsAmong t ss → has ss t ≡ true
has_among [] t m = absurd m
has_among (s ∷ ss) t (inl e) = ap (λ b. b || has ss t) (subst (λ u. same_source u t ≡ true) (sym e) (source_same t))
has_among (s ∷ ss) t (inr m) = ap (λ b. same_source s t || b) (has_among ss t m) ∙ or_true (same_source s t)

with_source-different : (ss : List Source) (t : Source) → AreDifferent ss → AreDifferent (with_source ss t)
with_source-different ss t d = go (has ss t) refl
  where
    go : (b : Bool) → has ss t ≡ b → AreDifferent (cond b ss (ss ++ t ∷ []))
    go true e = d
    go false e = one_more ss t d (λ m. let k = has_among ss t m in absurd (cc))

with_sources-different : (ss ts : List Source) → AreDifferent ss → AreDifferent (with_sources ss ts)
with_sources-different ss [] d = d
with_sources-different ss (t ∷ ts) d = with_sources-different (with_source ss t) ts (with_source-different ss t d)

-- ---- origins

either-different : (o p : Origin) → IsDifferent o → IsDifferent (either o p)
either-different Origin.computed p d = tt
either-different (Origin.taken ss) Origin.computed d = tt
either-different (Origin.taken ss) (Origin.taken ts) d = with_sources-different ss ts d

merged-different : (os ps : List Origin) → All os → All (merged os ps)
merged-different [] ps d = tt
merged-different (o ∷ os) [] d = tt
merged-different (o ∷ os) (p ∷ ps) d = (either-different o p d.0, merged-different os ps d.1)

at-different : (os : List Origin) (c : ℕ) → All os → IsDifferent (origin_at os c)
at-different [] c d = tt
at-different (o ∷ os) zero d = d.0
at-different (o ∷ os) (suc c) d = at-different os c d.1

append-different : (os ps : List Origin) → All os → All ps → All (os ++ ps)
append-different [] ps d e = e
append-different (o ∷ os) ps d e = (d.0, append-different os ps d.1 e)

map-different : {X : Type 0} (f : X → Origin) → ((x : X) → IsDifferent (f x)) → (xs : List X) → All (map f xs)
map-different f h [] = tt
map-different f h (x ∷ xs) = (h x, map-different f h xs)

scalar-different : (os : List Origin) → All os → (s : Scalar) → IsDifferent (scalar_origin os s)
scalar-different os d (Scalar.column c) = at-different os c d
scalar-different os d (Scalar.literal z) = tt
scalar-different os d (Scalar.plus s t) = tt
scalar-different os d (Scalar.minus s t) = tt
scalar-different os d (Scalar.times s t) = tt
scalar-different os d (Scalar.negation s) = tt

agg-different : (os : List Origin) → All os → (a : Agg) → IsDifferent (agg_origin os a)
agg-different os d Agg.count = tt
agg-different os d (Agg.sum c) = tt
agg-different os d (Agg.min c) = at-different os c d
agg-different os d (Agg.max c) = at-different os c d

columns-different : (i c n : ℕ) → All (columns_from i c n)
columns-different i c zero = tt
columns-different i c (suc n) = (((λ m. m), tt), columns-different i (suc c) n)

-- ---- loops

repeated-different : (v : ℕ) (turn : List Origin) (n : ℕ) (os : List Origin) → All os → All (repeated (turned v turn) n os)
repeated-different v turn zero os d = d
repeated-different v turn (suc n) os d = let so_far = repeated (turned v turn) n os in merged-different so_far (map (traced v so_far) turn) (repeated-different v turn n os d)

closed-different : (v : ℕ) (turn os : List Origin) → All os → All (closed v turn os)
closed-different v turn os d = go (same_origins (turned v turn os) os)
  where
    go : (b : Bool) → All (cond b os (map (λ (o : Origin). Origin.computed) os))
    go true = d
    go false = map-different (λ (o : Origin). Origin.computed) (λ o. tt) os

-- ---- relations and programs

-- those of each name in scope
abbrev InScope : Scope → Type 0
InScope scope = (x : Name) → All (lookup scope x)

declared-different : (scope : Scope) → InScope scope → (x : Name) (os : List Origin) → All os → InScope (entry x os ∷ scope)
declared-different scope h x os d y = go (same_name x y)
  where
    go : (b : Bool) → All (cond b os (lookup scope y))
    go true = d
    go false = h y

rel-different : (r : Rel) (scope : Scope) (v : ℕ) → InScope scope → All (rel_origins r scope v)
rel-different (Rel.named x) scope v h = h x
rel-different (Rel.select r ss) scope v h = map-different (scalar_origin (rel_origins r scope v)) (scalar-different (rel_origins r scope v) (rel-different r scope v h)) ss
rel-different (Rel.filter r c) scope v h = rel-different r scope v h
rel-different (Rel.concat p q) scope v h = merged-different (rel_origins p scope v) (rel_origins q scope v) (rel-different p scope v h)
rel-different (Rel.join p q ps) scope v h = append-different (rel_origins p scope v) (rel_origins q scope v) (rel-different p scope v h) (rel-different q scope v h)
rel-different (Rel.group r cs as') scope v h =
    let os = rel_origins r scope v in
    let d = rel-different r scope v h in
    append-different (map (origin_at os) cs) (map (agg_origin os) as') (map-different (origin_at os) (λ c. at-different os c d) cs) (map-different (agg_origin os) (agg-different os d) as')
rel-different (Rel.distinct r) scope v h = rel-different r scope v h
rel-different (Rel.except p q) scope v h = rel-different p scope v h
rel-different (Rel.intersect p q) scope v h = rel-different p scope v h
rel-different (Rel.loop l n x r b) scope v h =
    let start = rel_origins r scope v in
    let turn = rel_origins b (entry x (columns_from v 0 (length start)) ∷ scope) (suc v) in
    closed-different v turn (repeated (turned v turn) (length start) start) (repeated-different v turn (length start) start (rel-different r scope v h))

inputs-different : (is : List Input) (i : ℕ) → InScope (inputs_scope is i)
inputs-different [] i x = tt
inputs-different (a ∷ is) i x = declared-different (inputs_scope is (suc i)) (inputs-different is (suc i)) a.name (columns_from i 0 a.arity) (columns-different i 0 a.arity) x

outputs-different : (os : List Output) (scope : Scope) (v : ℕ) → InScope scope → (k : ℕ) → All (slice_index_or (map (λ (o : Output). rel_origins o.value scope v) os) k [])
outputs-different [] scope v h zero = tt
outputs-different [] scope v h (suc k) = tt
outputs-different (o ∷ os) scope v h zero = rel-different o.value scope v h
outputs-different (o ∷ os) scope v h (suc k) = outputs-different os scope v h k

rest-different : (ls : List Let) (os : List Output) (scope : Scope) (v : ℕ) → InScope scope → (k : ℕ) → All (slice_index_or (rest_origins scope v ls os) k [])
rest-different [] os scope v h k = outputs-different os scope v h k
rest-different (l ∷ ls) os scope v h k = rest-different ls os (entry l.name (rel_origins l.value scope v) ∷ scope) v (declared-different scope h l.name (rel_origins l.value scope v) (rel-different l.value scope v h)) k

among-different : (os : List Origin) (c : ℕ) (o : Origin) → All os → slice_get os c ≡ Some o → IsDifferent o
among-different (p ∷ os) zero o d e = subst IsDifferent (same_Some p o e) d.0
among-different (p ∷ os) (suc c) o d e = among-different os c o d.1 e
among-different [] c o d e = absurd (cc)

pub program-different : (p : Program) (output column : ℕ) (sources : List Source) → slice_get (slice_index_or (program_origins p) output []) column ≡ Some (Origin.taken sources) → AreDifferent sources
program-different p output column sources e =
    among-different (slice_index_or (program_origins p) output []) column (Origin.taken sources) (rest-different p.lets p.outputs (inputs_scope p.inputs 0) (length p.inputs) (inputs-different p.inputs 0) output) e
