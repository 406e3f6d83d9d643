-- The numbers of a graph's inputs: each is the number of an input vertex.
use Rattle.std.proofs.Common.{◌≡◌, ◌≤◌, ◌<◌, ℕ, zero, suc, Bool, true, false, cond, [], ◌∷◌, length, refl, arith, slice_index_or}
use Rattle.semantics.specs.Kinds.{Kind, is_input}
use Rattle.semantics.specs.Graph.{Graph, no_vertex, vertex, input_count}

is_input_kind : (k : Kind) → is_input k ≡ true → k ≡ Kind.input
is_input_kind Kind.input e = refl
is_input_kind Kind.output e = absurd cc
is_input_kind Kind.concat e = absurd cc
is_input_kind Kind.distinct e = absurd cc
is_input_kind Kind.except e = absurd cc
is_input_kind Kind.intersect e = absurd cc
is_input_kind Kind.ingress e = absurd cc
is_input_kind Kind.egress e = absurd cc
is_input_kind Kind.feedback e = absurd cc
is_input_kind (Kind.select ss) e = absurd cc
is_input_kind (Kind.filter c) e = absurd cc
is_input_kind (Kind.join ps) e = absurd cc
is_input_kind (Kind.lookup ps) e = absurd cc
is_input_kind (Kind.group ks as') e = absurd cc
is_input_kind (Kind.gate n) e = absurd cc
is_input_kind (Kind.unseen n) e = absurd cc
is_input_kind (Kind.hold n) e = absurd cc

pub input_kind : (g : Graph) (i : ℕ) → i < input_count g → (vertex g i).kind ≡ Kind.input
unfolding vertex
input_kind [] i l = absurd (omega arith)
input_kind (x ∷ g) i l = go (is_input x.kind) refl (λ j m. input_kind g j m) i l
  where
    go : (b : Bool) → is_input x.kind ≡ b → ((j : ℕ) → j < input_count g → (slice_index_or g j no_vertex).kind ≡ Kind.input) → (i : ℕ) → i < cond b (suc (input_count g)) 0 → (slice_index_or (x ∷ g) i no_vertex).kind ≡ Kind.input
    go true e ih zero l = is_input_kind x.kind e
    go true e ih (suc i) l = ih i (omega arith)
    go false e ih i l = absurd (omega arith)

pub few_inputs : (g : Graph) → input_count g ≤ length g
few_inputs [] = omega arith
few_inputs (x ∷ g) = go (is_input x.kind) (few_inputs g)
  where
    go : (b : Bool) → input_count g ≤ length g → cond b (suc (input_count g)) 0 ≤ suc (length g)
    go true h = omega (arith, h)
    go false h = omega arith

pub input_is_there : (g : Graph) (input : ℕ) → input < input_count g → (input < length g) × ((vertex g input).kind ≡ Kind.input)
input_is_there g input l = (omega (arith, l, few_inputs g), input_kind g input l)
