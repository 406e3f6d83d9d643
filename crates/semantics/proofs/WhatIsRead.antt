-- What the equation of a vertex makes of what it reads.
use Rattle.std.proofs.Common.{◌≡◌, ℕ, zero, suc, ◌+◌, ◌-◌, ◌<◌, nat_lt, ltb-true, ltb-false, Bool, true, false, cond, List, [], ◌∷◌, ◌++◌, flat_map, ◌⊎◌, inl, inr, refl, sym, ap, ◌∙◌, arith}
use Rattle.std.proofs.lemmas.Bool.{true≢false}
use Rattle.semantics.specs.Multiset.{Record, same, one_if, count, ◌≈◌, IsAmong, end_to_end}
use Rattle.semantics.specs.Kinds.{Kind, in_ports, route_key, looks_back}
use Rattle.semantics.specs.Meaning.{only_left, paired}
use Rattle.semantics.specs.Op.{IsCut, places, reads_if, reads, op}
use Rattle.semantics.specs.Time.{Time, last, earlier_turns}
use Rattle.semantics.proofs.MultisetSums.{≈-refl, ≈-trans, ≈-from, append_same, total-append, empty_from_same}
use Rattle.semantics.proofs.OneFlow.{op_same, some_port}
use Rattle.semantics.proofs.VertexLaws.{op_nothing, op_cut, crossed}

-- ---- where it comes from

-- a record that is read is one that came to a port of the same route key
pub record ReadFrom (kind : Kind) (at : ℕ → Time → List Record) (p : ℕ) (r : Record) : Type 0 where
  pub port : ℕ
  pub time : Time
  pub within : port < in_ports kind
  pub there : 0 < count r (at port time)
  pub key : route_key kind port ≡ route_key kind p

from_some : (f : Time → List Record) (r : Record) (ts : List Time) → 0 < count r (flat_map f ts) → (t : Time) × (0 < count r (f t))
from_some f r [] h = absurd (omega arith)
from_some f r (t ∷ ts) h = go (count r (f t)) refl (from_some f r ts)
  where
    go : (n : ℕ) → count r (f t) ≡ n → (0 < count r (flat_map f ts) → (t : Time) × (0 < count r (f t))) → (t : Time) × (0 < count r (f t))
    go zero e ih = let a = total-append (λ x. one_if (same x r)) (f t) (flat_map f ts) in ih (omega arith)
    go (suc n) e ih = (t, omega arith)

-- what is behind the last port has its key
back_key : (kind : Kind) → looks_back kind ≡ true → route_key kind (in_ports kind - 1) ≡ route_key kind (in_ports kind)
back_key Kind.input e = absurd (true≢false (sym e))
back_key Kind.output e = absurd (true≢false (sym e))
back_key Kind.concat e = absurd (true≢false (sym e))
back_key Kind.distinct e = absurd (true≢false (sym e))
back_key Kind.except e = absurd (true≢false (sym e))
back_key Kind.intersect e = absurd (true≢false (sym e))
back_key Kind.ingress e = absurd (true≢false (sym e))
back_key Kind.egress e = absurd (true≢false (sym e))
back_key Kind.feedback e = absurd (true≢false (sym e))
back_key (Kind.select ss) e = absurd (true≢false (sym e))
back_key (Kind.filter c) e = absurd (true≢false (sym e))
back_key (Kind.join ps) e = absurd (true≢false (sym e))
back_key (Kind.group ks as') e = absurd (true≢false (sym e))
back_key (Kind.gate n) e = absurd (true≢false (sym e))
back_key (Kind.hold n) e = absurd (true≢false (sym e))
back_key (Kind.unseen n) e = refl
back_key (Kind.lookup ps) e = refl

pub read_from : (kind : Kind) (at : ℕ → Time → List Record) (t : Time) (p : ℕ) (r : Record) → p < places kind → 0 < count r (reads kind at t p) → ReadFrom kind at p r
read_from kind at t p r l h = go (looks_back kind) refl l h
  where
    behind : looks_back kind ≡ true → p < suc (in_ports kind) → (c : Bool) → nat_lt p (in_ports kind) ≡ c → 0 < count r (cond c (at p t) (flat_map (at (in_ports kind - 1)) (earlier_turns t))) → ReadFrom kind at p r
    behind e l true q h = record { port = p; time = t; within = ltb-true p (in_ports kind) q; there = h; key = refl }
    behind e l false q h =
        let s = from_some (at (in_ports kind - 1)) r (earlier_turns t) h in
        let z = some_port kind e in
        let last : in_ports kind ≡ p = let y = ltb-false p (in_ports kind) q in omega arith in
        record { port = in_ports kind - 1; time = s.0; within = omega arith; there = s.1; key = back_key kind e ∙ ap (route_key kind) last }

    go : (b : Bool) → looks_back kind ≡ b → p < cond b (suc (in_ports kind)) (in_ports kind) → 0 < count r (reads_if b (in_ports kind) at t p) → ReadFrom kind at p r
    go false e l h = record { port = p; time = t; within = l; there = h; key = refl }
    go true e l h = behind e l (nat_lt p (in_ports kind)) refl h

-- ---- where nothing comes at the time, nothing is made

none_of : (kind : Kind) (t : Time) (ins : ℕ → List Record) (out : ℕ) → ((p : ℕ) → p < places kind → ins p ≡ []) → op kind t ins out ≡ []
none_of kind t ins out h = empty_from_same _ (≈-trans (op_same kind t ins (λ p. []) out (λ p l. ≈-from (h p l))) (≈-from (op_nothing kind t out)))

left_of_nothing : (xs ys : List Record) → xs ≡ [] → only_left xs ys ≡ []
left_of_nothing xs ys e = ap (λ zs. only_left zs ys) e

shut : (b : Bool) (xs : List Record) → xs ≡ [] → cond b xs [] ≡ []
shut true xs e = e
shut false xs e = refl

pub op_of_nothing : (kind : Kind) (t : Time) (at : ℕ → Time → List Record) (out : ℕ) → ((p : ℕ) → p < in_ports kind → at p t ≡ []) → op kind t (reads kind at t) out ≡ []
op_of_nothing Kind.input t at out h = none_of Kind.input t (λ p. at p t) out h
op_of_nothing Kind.output t at out h = none_of Kind.output t (λ p. at p t) out h
op_of_nothing Kind.concat t at out h = none_of Kind.concat t (λ p. at p t) out h
op_of_nothing Kind.distinct t at out h = none_of Kind.distinct t (λ p. at p t) out h
op_of_nothing Kind.except t at out h = none_of Kind.except t (λ p. at p t) out h
op_of_nothing Kind.intersect t at out h = none_of Kind.intersect t (λ p. at p t) out h
op_of_nothing Kind.ingress t at out h = none_of Kind.ingress t (λ p. at p t) out h
op_of_nothing Kind.egress t at out h = none_of Kind.egress t (λ p. at p t) out h
op_of_nothing Kind.feedback t at out h = none_of Kind.feedback t (λ p. at p t) out h
op_of_nothing (Kind.select ss) t at out h = none_of (Kind.select ss) t (λ p. at p t) out h
op_of_nothing (Kind.filter c) t at out h = none_of (Kind.filter c) t (λ p. at p t) out h
op_of_nothing (Kind.join ps) t at out h = none_of (Kind.join ps) t (λ p. at p t) out h
op_of_nothing (Kind.lookup ps) t at out h = ap (λ xs. paired ps xs (at 1 t ++ flat_map (at 1) (earlier_turns t))) (h 0 (omega arith))
op_of_nothing (Kind.group ks as') t at out h = none_of (Kind.group ks as') t (λ p. at p t) out h
op_of_nothing (Kind.gate n) t at out h = none_of (Kind.gate n) t (λ p. at p t) out h
op_of_nothing (Kind.hold n) t at out h = none_of (Kind.hold n) t (λ p. at p t) out h
op_of_nothing (Kind.unseen n) t at zero h = shut (nat_lt (last t.counters) n) _ (left_of_nothing (at 0 t) (flat_map (at 0) (earlier_turns t)) (h 0 (omega arith)))
op_of_nothing (Kind.unseen n) t at (suc out) h = left_of_nothing (at 0 t) (flat_map (at 0) (earlier_turns t)) (h 0 (omega arith))

-- ---- the results of parts add up

flat_sum : (f h : Time → List Record) (ts : List Time) → flat_map (λ t. f t ++ h t) ts ≈ (flat_map f ts ++ flat_map h ts)
flat_sum f h [] = ≈-refl []
flat_sum f h (t ∷ ts) = ≈-trans (append_same (f t ++ h t) (f t ++ h t) _ _ (≈-refl (f t ++ h t)) (flat_sum f h ts)) (crossed (f t) (flat_map f ts) (h t) (flat_map h ts))

none : Time → List Record
none t = []

flat_none : (ts : List Time) → flat_map none ts ≡ []
unfolding none
flat_none [] = refl
flat_none (t ∷ ts) = flat_none ts

flat_parts : (f : ℕ → Time → List Record) (n : ℕ) (ts : List Time) → flat_map (λ t. end_to_end (λ k. f k t) n) ts ≈ end_to_end (λ k. flat_map (f k) ts) n
unfolding none
flat_parts f zero ts = ≈-from (flat_none ts)
flat_parts f (suc n) ts = ≈-trans (flat_sum (λ t. end_to_end (λ k. f k t) n) (f n) ts) (append_same _ _ (flat_map (f n) ts) (flat_map (f n) ts) (flat_parts f n ts) (≈-refl (flat_map (f n) ts)))

reads_sum : (kind : Kind) (part : ℕ → ℕ → Time → List Record) (m : ℕ) (t : Time) (p : ℕ) → reads kind (λ p s. end_to_end (λ k. part k p s) m) t p ≈ end_to_end (λ k. reads kind (part k) t p) m
reads_sum kind part m t p = go (looks_back kind)
  where
    behind : (c : Bool) → cond c (end_to_end (λ k. part k p t) m) (flat_map (λ s. end_to_end (λ k. part k (in_ports kind - 1) s) m) (earlier_turns t))
        ≈ end_to_end (λ k. cond c (part k p t) (flat_map (part k (in_ports kind - 1)) (earlier_turns t))) m
    behind true = ≈-refl _
    behind false = flat_parts (λ k s. part k (in_ports kind - 1) s) m (earlier_turns t)

    go : (b : Bool) → reads_if b (in_ports kind) (λ p s. end_to_end (λ k. part k p s) m) t p ≈ end_to_end (λ k. reads_if b (in_ports kind) (part k) t p) m
    go false = ≈-refl _
    go true = behind (nat_lt p (in_ports kind))

pub op_of_parts : (kind : Kind) (t : Time) (part : ℕ → ℕ → Time → List Record) (n : ℕ) (out : ℕ) → IsCut kind (λ k. reads kind (part k) t) n → op kind t (reads kind (λ p s. end_to_end (λ k. part k p s) n) t) out ≈ end_to_end (λ k. op kind t (reads kind (part k) t) out) n
op_of_parts kind t part n out cut =
    ≈-trans (op_same kind t _ (λ p. end_to_end (λ k. reads kind (part k) t p) n) out (λ p l. reads_sum kind part n t p)) (op_cut kind t (λ k. reads kind (part k) t) n out cut)
