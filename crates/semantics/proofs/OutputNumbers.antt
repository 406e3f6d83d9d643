-- The numbers of a graph's outputs: each is the number of an output vertex, each output vertex has one, and they rise.
use Rattle.std.proofs.Common.{◌≡◌, ℕ, zero, suc, ◌+◌, ◌<◌, Bool, true, false, cond, List, [], ◌∷◌, length, slice_index_or, refl, sym, ap, subst, ◌∙◌, arith}
use Rattle.std.proofs.lemmas.Bool.{true≢false}
use Rattle.semantics.specs.Kinds.{Kind, is_output}
use Rattle.semantics.specs.Graph.{Vertex, Graph, no_vertex, vertex, outputs_from, output_numbers, output_number}

pub is_output_kind : (kind : Kind) → is_output kind ≡ true → kind ≡ Kind.output
is_output_kind Kind.input e = absurd (true≢false (sym e))
is_output_kind Kind.output e = refl
is_output_kind (Kind.select ss) e = absurd (true≢false (sym e))
is_output_kind (Kind.filter c) e = absurd (true≢false (sym e))
is_output_kind Kind.concat e = absurd (true≢false (sym e))
is_output_kind (Kind.join ps) e = absurd (true≢false (sym e))
is_output_kind (Kind.lookup ps) e = absurd (true≢false (sym e))
is_output_kind (Kind.group ks as') e = absurd (true≢false (sym e))
is_output_kind Kind.distinct e = absurd (true≢false (sym e))
is_output_kind Kind.except e = absurd (true≢false (sym e))
is_output_kind Kind.intersect e = absurd (true≢false (sym e))
is_output_kind Kind.ingress e = absurd (true≢false (sym e))
is_output_kind Kind.egress e = absurd (true≢false (sym e))
is_output_kind Kind.feedback e = absurd (true≢false (sym e))
is_output_kind (Kind.gate n) e = absurd (true≢false (sym e))
is_output_kind (Kind.unseen n) e = absurd (true≢false (sym e))
is_output_kind (Kind.hold n) e = absurd (true≢false (sym e))

-- n is the number of an output among vertices from number k on
record OutputAmong (xs : List Vertex) (k n : ℕ) : Type 0 where
  place : ℕ
  within : place < length xs
  is : n ≡ k + place
  kind : (slice_index_or xs place no_vertex).kind ≡ Kind.output

one_on : (x : Vertex) (xs : List Vertex) (k n : ℕ) → OutputAmong xs (suc k) n → OutputAmong (x ∷ xs) k n
one_on x xs k n o = record { place = suc o.place; within = let w = o.within in omega arith; is = let e = o.is in omega arith; kind = o.kind }

found : (xs : List Vertex) (k i none : ℕ) → i < length (outputs_from k xs) → OutputAmong xs k (slice_index_or (outputs_from k xs) i none)
found [] k i none l = absurd (omega arith)
found (x ∷ xs) k i none l = go (is_output x.kind) refl (λ i l. found xs (suc k) i none l) i l
  where
    go : (b : Bool) → is_output x.kind ≡ b → ((i : ℕ) → i < length (outputs_from (suc k) xs) → OutputAmong xs (suc k) (slice_index_or (outputs_from (suc k) xs) i none)) → (i : ℕ) → i < length (cond b (k ∷ outputs_from (suc k) xs) (outputs_from (suc k) xs)) → OutputAmong (x ∷ xs) k (slice_index_or (cond b (k ∷ outputs_from (suc k) xs) (outputs_from (suc k) xs)) i none)
    go true e ih zero l = record { place = 0; within = omega arith; is = omega arith; kind = is_output_kind x.kind e }
    go true e ih (suc i) l = one_on x xs k _ (ih i (omega arith))
    go false e ih i l = one_on x xs k _ (ih i l)

-- an output vertex has a place
record PlaceOf (xs : List Vertex) (k none v : ℕ) : Type 0 where
  place : ℕ
  within : place < length (outputs_from k xs)
  is : slice_index_or (outputs_from k xs) place none ≡ k + v

placed : (xs : List Vertex) (k none v : ℕ) → v < length xs → (slice_index_or xs v no_vertex).kind ≡ Kind.output → PlaceOf xs k none v
placed [] k none v l e = absurd (omega arith)
placed (x ∷ xs) k none zero l e =
    let t : is_output x.kind ≡ true = ap is_output e in
    let all = λ (b : Bool). cond b (k ∷ outputs_from (suc k) xs) (outputs_from (suc k) xs) in
    record {
      place = 0;
      within = subst (λ b. 0 < length (all b)) (sym t) (omega arith);
      is = ap (λ b. slice_index_or (all b) 0 none) t ∙ (let z : k ≡ k + 0 = omega arith in z);
    }
placed (x ∷ xs) k none (suc v) l e = go (is_output x.kind) refl (placed xs (suc k) none v (omega arith) e)
  where
    go : (b : Bool) → is_output x.kind ≡ b → PlaceOf xs (suc k) none v → PlaceOf (x ∷ xs) k none (suc v)
    go true t p = record {
      place = suc p.place;
      within = subst (λ b. suc p.place < length (cond b (k ∷ outputs_from (suc k) xs) (outputs_from (suc k) xs))) (sym t) (let w = p.within in omega arith);
      is = ap (λ b. slice_index_or (cond b (k ∷ outputs_from (suc k) xs) (outputs_from (suc k) xs)) (suc p.place) none) t ∙ p.is ∙ (let z : suc k + v ≡ k + suc v = omega arith in z);
    }
    go false t p = record {
      place = p.place;
      within = subst (λ b. p.place < length (cond b (k ∷ outputs_from (suc k) xs) (outputs_from (suc k) xs))) (sym t) p.within;
      is = ap (λ b. slice_index_or (cond b (k ∷ outputs_from (suc k) xs) (outputs_from (suc k) xs)) p.place none) t ∙ p.is ∙ (let z : suc k + v ≡ k + suc v = omega arith in z);
    }

rising : (xs : List Vertex) (k i j none : ℕ) → i < j → j < length (outputs_from k xs) → slice_index_or (outputs_from k xs) i none < slice_index_or (outputs_from k xs) j none
rising [] k i j none l b = absurd (omega arith)
rising (x ∷ xs) k i j none l b = go (is_output x.kind) (λ i j l b. rising xs (suc k) i j none l b) i j l b
  where
    go : (t : Bool) → ((i j : ℕ) → i < j → j < length (outputs_from (suc k) xs) → slice_index_or (outputs_from (suc k) xs) i none < slice_index_or (outputs_from (suc k) xs) j none) → (i j : ℕ) → i < j → j < length (cond t (k ∷ outputs_from (suc k) xs) (outputs_from (suc k) xs)) → slice_index_or (cond t (k ∷ outputs_from (suc k) xs) (outputs_from (suc k) xs)) i none < slice_index_or (cond t (k ∷ outputs_from (suc k) xs) (outputs_from (suc k) xs)) j none
    go true ih i zero l b = absurd (omega arith)
    go true ih zero (suc j) l b = let o = found xs (suc k) j none (omega arith) in let e = o.is in omega arith
    go true ih (suc i) (suc j) l b = ih i j (omega arith) (omega arith)
    go false ih i j l b = ih i j l b

-- ---- of a graph

pub output_is_there : (g : Graph) (output : ℕ) → output < length (output_numbers g) → (output_number g output < length g) × ((vertex g (output_number g output)).kind ≡ Kind.output)
unfolding vertex
output_is_there g output l =
    let o = found g 0 output (length g) l in
    let e : o.place ≡ output_number g output = let z = o.is in omega arith in
    let w = o.within in
    (omega arith, subst (λ n. (slice_index_or g n no_vertex).kind ≡ Kind.output) e o.kind)

pub output_has_place : (g : Graph) (v : ℕ) → v < length g → (vertex g v).kind ≡ Kind.output → (output : ℕ) × (output < length (output_numbers g)) × (output_number g output ≡ v)
unfolding vertex
output_has_place g v l e =
    let p = placed g 0 (length g) v l e in
    (p.place, p.within, p.is ∙ (let z : 0 + v ≡ v = omega arith in z))

pub outputs_rise : (g : Graph) (j k : ℕ) → j < k → k < length (output_numbers g) → output_number g j < output_number g k
outputs_rise g j k l b = rising g 0 j k (length g) l b
