-- The ports of a well-typed program's graph have their arities.
use Rattle.std.proofs.Common.{◌≡◌, ℕ, zero, suc, ◌+◌, ◌<◌, Bool, true, false, cond, List, [], ◌∷◌, ◌++◌, map, filter, length, slice_index_or, Some, None, refl, sym, ap, ap₂, subst, ◌∙◌, arith, length-append, append_assoc, inl, inr, ◌⊎◌}
use Rattle.std.proofs.lemmas.Bool.{true≢false}
use Rattle.std.specs.List.{AllByRecursion}
use Rattle.semantics.proofs.NamesAmong.{Decides-same_name, among_left, among_right, among_others, among_firsts, from_firsts}
use Rattle.semantics.specs.Multiset.{IsAmong}
use Rattle.semantics.specs.FreeNames.{other_than, free, carried, once_names}
use Rattle.semantics.specs.Graph.{Port, Vertex, no_vertex, no_port, vertex, source, output_number}
use Rattle.semantics.specs.Kinds.{Kind}
use Rattle.semantics.specs.Lower.{is_lookup, join_kind, held_turns, Ports, stands_for, port, new_vertex, carry, carried_ports, Lowered, lower, gate_of, looped, input_vertices, input_ports, lower_lets, lets_of, lower_outputs, outputs_of, lowered}
use Rattle.semantics.specs.Meaning.{same_name}
use Rattle.semantics.specs.PortArity.{PortsFit, IsTyped, Arities, with_arity, rel_arity, carry_arities, made_arities, input_arities, let_arities, lets_made_arities, outputs_made_arities, program_arities}
use Rattle.semantics.specs.Query.{Name, Pair, Loop, Rel, Input, Let, Output, Program}
use Rattle.semantics.specs.Typing.{IsArity, ScalarFits, CondFits, AggFits, Scope, lookup, entry, HasArity, InputsFit, after_inputs, OutputsFit, RestFits, WellTyped}
use Rattle.semantics.proofs.FittingPrograms.{LetsFit, AllFit, names_after, input_list, IsFitting}
use Rattle.semantics.proofs.LoweredLoops.{one_longer, two_longer, loop_longer}
use Rattle.semantics.proofs.LoweredPrograms.{length-input_vertices, outputs_at}
use Rattle.semantics.proofs.LoweredDataflow.{output_numbers_are}
use Rattle.semantics.proofs.TypedPrograms.{typed_fits}

-- ---- as many arities as vertices

length-carry_arities : (of : Arities) (n : Name → ℕ) (ports : Ports) (d k : ℕ) (ys : List Name) → length (carry_arities of ys) ≡ length (carry n ports d k ys)
length-carry_arities of n ports d k [] = refl
length-carry_arities of n ports d k (y ∷ ys) = ap (λ m. suc (suc (suc (suc m)))) (length-carry_arities of n ports d (suc (suc (suc (suc k)))) ys)

pub length-made_arities : (r : Rel) (of : Arities) (ports : Ports) (once : List Name) (d k : ℕ) → length (made_arities r of) ≡ length (lower r ports once d k).made
unfolding made_arities lower
length-made_arities (Rel.named x) of ports once d k = refl
length-made_arities (Rel.select r ss) of ports once d k = one_longer (made_arities r of) _ (lower r ports once d k).made _ (length-made_arities r of ports once d k)
length-made_arities (Rel.filter r c) of ports once d k = one_longer (made_arities r of) _ (lower r ports once d k).made _ (length-made_arities r of ports once d k)
length-made_arities (Rel.concat p q) of ports once d k = two_longer (made_arities p of) (made_arities q of) _ (lower p ports once d k).made (lower q ports once d (k + length (lower p ports once d k).made)).made _ (length-made_arities p of ports once d k) (length-made_arities q of ports once d (k + length (lower p ports once d k).made))
length-made_arities (Rel.join p q ps) of ports once d k = two_longer (made_arities p of) (made_arities q of) _ (lower p ports once d k).made (lower q ports once d (k + length (lower p ports once d k).made)).made _ (length-made_arities p of ports once d k) (length-made_arities q of ports once d (k + length (lower p ports once d k).made))
length-made_arities (Rel.group r ks as') of ports once d k = one_longer (made_arities r of) _ (lower r ports once d k).made _ (length-made_arities r of ports once d k)
length-made_arities (Rel.distinct r) of ports once d k = one_longer (made_arities r of) _ (lower r ports once d k).made _ (length-made_arities r of ports once d k)
length-made_arities (Rel.except p q) of ports once d k = two_longer (made_arities p of) (made_arities q of) _ (lower p ports once d k).made (lower q ports once d (k + length (lower p ports once d k).made)).made _ (length-made_arities p of ports once d k) (length-made_arities q of ports once d (k + length (lower p ports once d k).made))
length-made_arities (Rel.intersect p q) of ports once d k = two_longer (made_arities p of) (made_arities q of) _ (lower p ports once d k).made (lower q ports once d (k + length (lower p ports once d k).made)).made _ (length-made_arities p of ports once d k) (length-made_arities q of ports once d (k + length (lower p ports once d k).made))
length-made_arities (Rel.loop l n x r b) of ports once d k =
    let start = lower r ports once d k in
    let outside = suc (suc (suc (k + length start.made))) in
    let ys = carried x b in
    let inner = once_names l x b in
    let inside = stands_for x (port (suc (suc (k + length start.made))) 0) (carried_ports ports outside ys) in
    let cs = carry (held_turns n inner) ports d outside ys in
    let body = lower b inside inner (suc d) (outside + length cs) in
    loop_longer (made_arities r of) start.made (carry_arities of ys) cs (made_arities b (with_arity x (rel_arity r of) of)) body.made _ _ _ _ _ _ _ _ _ _
    (length-made_arities r of ports once d k) (length-carry_arities of (held_turns n inner) ports d outside ys) (length-made_arities b (with_arity x (rel_arity r of) of) inside inner (suc d) (outside + length cs))

-- ---- names in scope

-- the scope gives names the arities that they have
abbrev Agrees : Scope → Arities → Type 0
Agrees scope of = (y : Name) (n : ℕ) → lookup scope y ≡ Some n → of y ≡ n

agrees_more : (scope : Scope) (of : Arities) (x : Name) (n a : ℕ) → a ≡ n → Agrees scope of → Agrees (entry x n ∷ scope) (with_arity x a of)
agrees_more scope of x n a e h y m k = go (same_name x y) k
  where
    go : (b : Bool) → cond b (Some n) (lookup scope y) ≡ Some m → cond b a (of y) ≡ m
    go true k = e ∙ (let z : n ≡ m = cc in z)
    go false k = h y m k

pub rel_arity_typed : (r : Rel) (scope : Scope) (of : Arities) (d n : ℕ) → HasArity r scope d n → Agrees scope of → rel_arity r of ≡ n
unfolding HasArity
rel_arity_typed (Rel.named x) scope of d n t h = h x n t
rel_arity_typed (Rel.select r ss) scope of d n t h = sym t.3
rel_arity_typed (Rel.filter r c) scope of d n t h = rel_arity_typed r scope of d n t.0 h
rel_arity_typed (Rel.concat p q) scope of d n t h = rel_arity_typed p scope of d n t.0 h
rel_arity_typed (Rel.join p q ps) scope of d n t h = ap₂ (λ a b. a + b) (rel_arity_typed p scope of d t.0 t.2 h) (rel_arity_typed q scope of d t.1 t.3 h) ∙ sym t.5
rel_arity_typed (Rel.group r ks as') scope of d n t h = sym t.4
rel_arity_typed (Rel.distinct r) scope of d n t h = rel_arity_typed r scope of d n t h
rel_arity_typed (Rel.except p q) scope of d n t h = rel_arity_typed p scope of d n t.0 h
rel_arity_typed (Rel.intersect p q) scope of d n t h = rel_arity_typed p scope of d n t.0 h
rel_arity_typed (Rel.loop l k x r b) scope of d n t h = rel_arity_typed r scope of d n t.2 h

module _ (arity : ℕ → ℕ) where
  -- the vertices from k on have these arities
  abbrev pub Listed : ℕ → List ℕ → Type 0
  Listed k [] = Unit {0}
  Listed k (a ∷ as') = (arity k ≡ a) × Listed (suc k) as'

  listed_left : (k : ℕ) (xs ys : List ℕ) → Listed k (xs ++ ys) → Listed k xs
  listed_left k [] ys h = tt
  listed_left k (x ∷ xs) ys h = (h.0, listed_left (suc k) xs ys h.1)

  listed_right : (k n : ℕ) (xs ys : List ℕ) → length xs ≡ n → Listed k (xs ++ ys) → Listed (k + n) ys
  listed_right k n [] ys e h = subst (λ m. Listed m ys) (omega arith) h
  listed_right k zero (x ∷ xs) ys e h = absurd (omega arith)
  listed_right k (suc n) (x ∷ xs) ys e h = subst (λ m. Listed m ys) (omega arith) (listed_right (suc k) n xs ys (omega arith) h.1)

  -- the vertex of number k has typed ports
  pub record TypedAs (k : ℕ) (v : Vertex) : Type 0 where
    pub ports : PortsFit v.kind (λ i. arity (slice_index_or v.ins i no_port).vertex) (arity k)
    pub fields : IsArity (arity k)

  abbrev pub AllTyped : ℕ → List Vertex → Type 0
  AllTyped k [] = Unit {0}
  AllTyped k (v ∷ vs) = TypedAs k v × AllTyped (suc k) vs

  all_typed-append : (k : ℕ) (vs ws : List Vertex) → AllTyped k vs → AllTyped (k + length vs) ws → AllTyped k (vs ++ ws)
  all_typed-append k [] ws s t = subst (λ n. AllTyped n ws) (omega arith) t
  all_typed-append k (v ∷ vs) ws s t = (s.0, all_typed-append (suc k) vs ws s.1 (subst (λ n. AllTyped n ws) (omega arith) t))

  all_typed_at : (k : ℕ) (vs : List Vertex) → AllTyped k vs → (i : ℕ) → i < length vs → TypedAs (k + i) (slice_index_or vs i no_vertex)
  all_typed_at k [] s i l = absurd (omega arith)
  all_typed_at k (v ∷ vs) s zero l = subst (λ n. TypedAs n v) (omega arith) s.0
  all_typed_at k (v ∷ vs) s (suc i) l = subst (λ n. TypedAs n (slice_index_or vs i no_vertex)) (omega arith) (all_typed_at (suc k) vs s.1 i (omega arith))

  -- the vertices and the port of a relation are typed
  pub record Typed (k : ℕ) (r : Lowered) (n : ℕ) : Type 0 where
    pub all : AllTyped k r.made
    pub gives : arity r.gives.vertex ≡ n
    pub fields : IsArity n

  -- the name stands for a port of n fields
  pub record NameOf (p : Port) (n : ℕ) : Type 0 where
    pub has : arity p.vertex ≡ n
    pub fields : IsArity n

  -- a vertex with one in port of arity m, and with the arity n, is typed
  one_typed : (k m n : ℕ) (r : Lowered) (kind : Kind) (d : ℕ) (as' : List ℕ) → Typed k r m → length as' ≡ length r.made → Listed k (as' ++ (n ∷ []))
      → ((ins : ℕ → ℕ) → ins 0 ≡ m → PortsFit kind ins n) → IsArity n → Typed k (record { made = r.made ++ (new_vertex kind d (r.gives ∷ []) ∷ []); gives = port (k + length r.made) 0 }) n
  one_typed k m n r kind d as' t l h fit fields =
      let v = new_vertex kind d (r.gives ∷ []) in
      let is : arity (k + length r.made) ≡ n = (listed_right k (length r.made) as' (n ∷ []) l h).0 in
      let typed : TypedAs (k + length r.made) v = record { ports = subst (PortsFit kind (λ i. arity (slice_index_or v.ins i no_port).vertex)) (sym is) (fit (λ i. arity (slice_index_or v.ins i no_port).vertex) t.gives); fields = subst IsArity (sym is) fields } in
      record { all = all_typed-append k r.made (v ∷ []) t.all (typed, tt); gives = is; fields = fields }

  two_typed : (k l m n : ℕ) (r q : Lowered) (kind : Kind) (d : ℕ) (as' bs : List ℕ) → Typed k r l → Typed (k + length r.made) q m → length as' ≡ length r.made → length bs ≡ length q.made → Listed k (as' ++ (bs ++ (n ∷ [])))
      → ((ins : ℕ → ℕ) → ins 0 ≡ l → ins 1 ≡ m → PortsFit kind ins n) → IsArity n
      → Typed k (record { made = r.made ++ (q.made ++ (new_vertex kind d (r.gives ∷ q.gives ∷ []) ∷ [])); gives = port (k + length r.made + length q.made) 0 }) n
  two_typed k l m n r q kind d as' bs t u e e' h fit fields =
      let v = new_vertex kind d (r.gives ∷ q.gives ∷ []) in
      let w = k + length r.made + length q.made in
      let is : arity w ≡ n = (listed_right (k + length r.made) (length q.made) bs (n ∷ []) e' (listed_right k (length r.made) as' (bs ++ (n ∷ [])) e h)).0 in
      let typed : TypedAs w v = record { ports = subst (PortsFit kind (λ i. arity (slice_index_or v.ins i no_port).vertex)) (sym is) (fit (λ i. arity (slice_index_or v.ins i no_port).vertex) t.gives u.gives); fields = subst IsArity (sym is) fields } in
      record { all = all_typed-append k r.made (q.made ++ (v ∷ [])) t.all (all_typed-append (k + length r.made) q.made (v ∷ []) u.all (typed, tt)); gives = is; fields = fields }

  join_fits : (b : Bool) (ps : List Pair) (ins : ℕ → ℕ) (n : ℕ) → AllByRecursion (λ (x : Pair). (x.left < ins 0) × (x.right < ins 1)) ps → n ≡ ins 0 + ins 1 → PortsFit (join_kind b ps) ins n
  join_fits true ps ins n h e = (h, e)
  join_fits false ps ins n h e = (h, e)

  -- ---- what a loop carries

  carry_typed : (n : Name → ℕ) (ports : Ports) (of : Arities) (d k : ℕ) (ys : List Name) → Listed k (carry_arities of ys) → ((y : Name) → IsAmong y ys → NameOf (ports y) (of y)) → AllTyped k (carry n ports d k ys)
  carry_typed n ports of d k [] h names = tt
  carry_typed n ports of d k (y ∷ ys) h names =
      let a = names y (inl refl) in
      let h0 : arity k ≡ of y = h.0 in
      let h1 : arity (suc k) ≡ of y = h.1.0 in
      let h2 : arity (suc (suc k)) ≡ of y = h.1.1.0 in
      let h3 : arity (suc (suc (suc k))) ≡ of y = h.1.1.1.0 in (
        record { ports = h0 ∙ sym a.has; fields = subst IsArity (sym h0) a.fields },
        (
          record { ports = (h1 ∙ sym h0, h1 ∙ sym h3); fields = subst IsArity (sym h1) a.fields },
          (
            record { ports = h2 ∙ sym h1; fields = subst IsArity (sym h2) a.fields },
            (record { ports = h3 ∙ sym h2; fields = subst IsArity (sym h3) a.fields }, carry_typed n ports of d (suc (suc (suc (suc k)))) ys h.1.1.1.1 (λ z j. names z (inr j))),
          ),
        ),
      )

  carried_name : (ports : Ports) (of : Arities) (k : ℕ) (ys : List Name) → Listed k (carry_arities of ys) → ((y : Name) → IsAmong y ys → NameOf (ports y) (of y)) → (y : Name) → IsAmong y ys → NameOf (carried_ports ports k ys y) (of y)
  carried_name ports of k [] h names y j = absurd j
  carried_name ports of k (x ∷ xs) h names y j = go (same_name x y) refl j (carried_name ports of (suc (suc (suc (suc k)))) xs h.1.1.1.1 (λ z i. names z (inr i)) y)
    where
      go : (t : Bool) → same_name x y ≡ t → (x ≡ y) ⊎ IsAmong y xs → (IsAmong y xs → NameOf (carried_ports ports (suc (suc (suc (suc k)))) xs y) (of y)) → NameOf (cond t (port (suc (suc k)) 0) (carried_ports ports (suc (suc (suc (suc k)))) xs y)) (of y)
      go true q i f = record { has = h.1.1.0 ∙ ap of ((Decides-same_name x y).0 q); fields = (names y j).fields }
      go false q (inl e) f = absurd (true≢false (sym ((Decides-same_name x y).1 e) ∙ q))
      go false q (inr i) f = f i

  -- ---- relations

  abbrev Claim : Rel → Type 0
  Claim r = (scope : Scope) (of : Arities) (d n : ℕ) → HasArity r scope d n → Agrees scope of → (ports : Ports) (once : List Name) (k : ℕ) → Listed k (made_arities r of) → ((y : Name) → IsAmong y (free r) → NameOf (ports y) (of y)) → Typed k (lower r ports once d k) n

  loop_typed : (l : Loop) (m : ℕ) (x : Name) (r b : Rel) → Claim r → Claim b → Claim (Rel.loop l m x r b)
  unfolding HasArity made_arities lower
  loop_typed l m x r b start_claim body_claim scope of d n t agrees ports once k h names = record { all = all_typed-append k start.made made start_typed.all all; gives = at_end; fields = start_typed.fields }
    where
      a : ℕ
      a = rel_arity r of

      is : a ≡ n
      is = rel_arity_typed r scope of d n t.2 agrees

      start : Lowered
      start = lower r ports once d k

      loop : ℕ
      loop = k + length start.made

      gate : ℕ
      gate = suc (suc loop)

      ys : List Name
      ys = carried x b

      inner : List Name
      inner = once_names l x b

      inside : Ports
      inside = stands_for x (port gate 0) (carried_ports ports (suc gate) ys)

      cs : List Vertex
      cs = carry (held_turns m inner) ports d (suc gate) ys

      first : ℕ
      first = suc gate + length cs

      body : Lowered
      body = lower b inside inner (suc d) first

      back : ℕ
      back = first + length body.made

      ends : List Vertex
      ends = new_vertex Kind.feedback (suc d) (body.gives ∷ []) ∷ new_vertex Kind.egress (suc d) (port gate 1 ∷ []) ∷ []

      made : List Vertex
      made = (looped l m loop inner start ports d ys body).made

      after_body : List ℕ
      after_body = a ∷ a ∷ []

      in_body : List ℕ
      in_body = made_arities b (with_arity x a of)

      -- the arities of each part
      from_loop : Listed loop (a ∷ a ∷ a ∷ (carry_arities of ys ++ (in_body ++ after_body)))
      from_loop = listed_right k (length start.made) (made_arities r of) _ (length-made_arities r of ports once d k) h

      from_first : Listed first (in_body ++ after_body)
      from_first = listed_right (suc gate) (length cs) (carry_arities of ys) _ (length-carry_arities of (held_turns m inner) ports d (suc gate) ys) from_loop.1.1.1

      from_back : Listed back after_body
      from_back = listed_right first (length body.made) in_body _ (length-made_arities b (with_arity x a of) inside inner (suc d) first) from_first

      start_typed : Typed k start n
      start_typed = start_claim scope of d n t.2 agrees ports once k (listed_left k (made_arities r of) _ h) (λ y j. names y (among_left y (free r) _ j))

      outer_names : (y : Name) → IsAmong y ys → NameOf (ports y) (of y)
      outer_names y j = names y (among_right y (free r) (filter (other_than x) (free b)) (from_firsts y (filter (other_than x) (free b)) j))

      at_gate : arity gate ≡ a
      at_gate = from_loop.1.1.0

      inner_names : (y : Name) → IsAmong y (free b) → NameOf (inside y) (with_arity x a of y)
      inner_names y j = go (same_name x y) refl
        where
          go : (q : Bool) → same_name x y ≡ q → NameOf (cond q (port gate 0) (carried_ports ports (suc gate) ys y)) (cond q a (of y))
          go true e = record { has = at_gate; fields = subst IsArity (sym is) start_typed.fields }
          go false e = carried_name ports of (suc gate) ys (listed_left (suc gate) (carry_arities of ys) _ from_loop.1.1.1) outer_names y (among_firsts y (filter (other_than x) (free b)) (among_others x y (free b) e j))

      body_typed : Typed first body n
      body_typed = body_claim (entry x n ∷ scope) (with_arity x a of) (suc d) n t.4 (agrees_more scope of x n a is agrees) inside inner first (listed_left first in_body _ from_first) inner_names

      at_end : arity (suc back) ≡ n
      at_end = from_back.1.0 ∙ is

      valid : (w : ℕ) → arity w ≡ a → IsArity (arity w)
      valid w e = subst IsArity (sym (e ∙ is)) start_typed.fields

      gate_typed : (l : Loop) → TypedAs gate (new_vertex (gate_of l m) (suc d) (port (suc loop) 0 ∷ []))
      gate_typed Loop.iterate = record { ports = at_gate ∙ sym from_loop.1.0; fields = valid gate at_gate }
      gate_typed Loop.closure = record { ports = at_gate ∙ sym from_loop.1.0; fields = valid gate at_gate }

      all : AllTyped loop made
      all = (
        record { ports = from_loop.0 ∙ is ∙ sym start_typed.gives; fields = valid loop from_loop.0 },
        (
          record { ports = (from_loop.1.0 ∙ sym from_loop.0, from_loop.1.0 ∙ sym from_back.0); fields = valid (suc loop) from_loop.1.0 },
          (
            gate_typed l,
            all_typed-append (suc gate) cs (body.made ++ ends) (carry_typed (held_turns m inner) ports of d (suc gate) ys (listed_left (suc gate) (carry_arities of ys) _ from_loop.1.1.1) outer_names)
                (all_typed-append first body.made ends body_typed.all (
                  record { ports = from_back.0 ∙ is ∙ sym body_typed.gives; fields = valid back from_back.0 },
                  (record { ports = from_back.1.0 ∙ sym at_gate; fields = valid (suc back) from_back.1.0 }, tt),
                )),
          ),
        ),
      )

  pub relation_typed : (r : Rel) → Claim r
  unfolding HasArity made_arities lower
  relation_typed (Rel.named x) scope of d n t agrees ports once k h names =
      let a = names x (inl refl) in
      let e : of x ≡ n = agrees x n t in
      record { all = tt; gives = a.has ∙ e; fields = subst IsArity e a.fields }
  relation_typed (Rel.select r ss) scope of d n t agrees ports once k h names =
      let e : n ≡ length ss = t.3 in
      one_typed k t.0 n (lower r ports once d k) (Kind.select ss) d (made_arities r of) (relation_typed r scope of d t.0 t.1 agrees ports once k (listed_left k (made_arities r of) _ h) names) (length-made_arities r of ports once d k) (subst (λ a. Listed k (made_arities r of ++ (a ∷ []))) (sym e) h)
      (λ ins q. (subst (λ m. AllByRecursion (ScalarFits m) ss) (sym q) t.2, e)) t.4
  relation_typed (Rel.filter r c) scope of d n t agrees ports once k h names =
      let e : rel_arity r of ≡ n = rel_arity_typed r scope of d n t.0 agrees in
      let ih = relation_typed r scope of d n t.0 agrees ports once k (listed_left k (made_arities r of) _ h) names in
      one_typed k n n (lower r ports once d k) (Kind.filter c) d (made_arities r of) ih (length-made_arities r of ports once d k) (subst (λ a. Listed k (made_arities r of ++ (a ∷ []))) e h)
      (λ ins q. (subst (λ m. CondFits m c) (sym q) t.1, sym q)) ih.fields
  relation_typed (Rel.concat p q) scope of d n t agrees ports once k h names =
      let a = lower p ports once d k in
      let e : rel_arity p of ≡ n = rel_arity_typed p scope of d n t.0 agrees in
      let left = relation_typed p scope of d n t.0 agrees ports once k (listed_left k (made_arities p of) _ h) (λ y j. names y (among_left y (free p) (free q) j)) in
      let right = relation_typed q scope of d n t.1 agrees ports once (k + length a.made) (listed_left (k + length a.made) (made_arities q of) _ (listed_right k (length a.made) (made_arities p of) _ (length-made_arities p of ports once d k) h)) (λ y j. names y (among_right y (free p) (free q) j)) in
      two_typed k n n n a (lower q ports once d (k + length a.made)) Kind.concat d (made_arities p of) (made_arities q of) left right (length-made_arities p of ports once d k) (length-made_arities q of ports once d (k + length a.made)) (subst (λ z. Listed k (made_arities p of ++ (made_arities q of ++ (z ∷ [])))) e h)
      (λ ins x y. (sym x, sym y)) left.fields
  relation_typed (Rel.join p q ps) scope of d n t agrees ports once k h names =
      let a = lower p ports once d k in
      let e : rel_arity p of + rel_arity q of ≡ n = rel_arity_typed (Rel.join p q ps) scope of d n t agrees in
      let left = relation_typed p scope of d t.0 t.2 agrees ports once k (listed_left k (made_arities p of) _ h) (λ y j. names y (among_left y (free p) (free q) j)) in
      let right = relation_typed q scope of d t.1 t.3 agrees ports once (k + length a.made) (listed_left (k + length a.made) (made_arities q of) _ (listed_right k (length a.made) (made_arities p of) _ (length-made_arities p of ports once d k) h)) (λ y j. names y (among_right y (free p) (free q) j)) in
      two_typed k t.0 t.1 n a (lower q ports once d (k + length a.made)) (join_kind (is_lookup q once) ps) d (made_arities p of) (made_arities q of) left right (length-made_arities p of ports once d k) (length-made_arities q of ports once d (k + length a.made)) (subst (λ z. Listed k (made_arities p of ++ (made_arities q of ++ (z ∷ [])))) e h)
      (λ ins x y. join_fits (is_lookup q once) ps ins n (subst (λ l. AllByRecursion (λ (z : Pair). (z.left < l) × (z.right < ins 1)) ps) (sym x) (subst (λ m. AllByRecursion (λ (z : Pair). (z.left < t.0) × (z.right < m)) ps) (sym y) t.4)) (t.5 ∙ ap₂ (λ l m. l + m) (sym x) (sym y))) t.6
  relation_typed (Rel.group r ks as') scope of d n t agrees ports once k h names =
      let e : n ≡ length ks + length as' = t.4 in
      one_typed k t.0 n (lower r ports once d k) (Kind.group ks as') d (made_arities r of) (relation_typed r scope of d t.0 t.1 agrees ports once k (listed_left k (made_arities r of) _ h) names) (length-made_arities r of ports once d k) (subst (λ a. Listed k (made_arities r of ++ (a ∷ []))) (sym e) h)
      (λ ins q. (subst (λ m. AllByRecursion (λ (c : ℕ). c < m) ks) (sym q) t.2, subst (λ m. AllByRecursion (AggFits m) as') (sym q) t.3, e)) t.5
  relation_typed (Rel.distinct r) scope of d n t agrees ports once k h names =
      let e : rel_arity r of ≡ n = rel_arity_typed r scope of d n t agrees in
      let ih = relation_typed r scope of d n t agrees ports once k (listed_left k (made_arities r of) _ h) names in
      one_typed k n n (lower r ports once d k) Kind.distinct d (made_arities r of) ih (length-made_arities r of ports once d k) (subst (λ a. Listed k (made_arities r of ++ (a ∷ []))) e h) (λ ins q. sym q) ih.fields
  relation_typed (Rel.except p q) scope of d n t agrees ports once k h names =
      let a = lower p ports once d k in
      let e : rel_arity p of ≡ n = rel_arity_typed p scope of d n t.0 agrees in
      let left = relation_typed p scope of d n t.0 agrees ports once k (listed_left k (made_arities p of) _ h) (λ y j. names y (among_left y (free p) (free q) j)) in
      let right = relation_typed q scope of d n t.1 agrees ports once (k + length a.made) (listed_left (k + length a.made) (made_arities q of) _ (listed_right k (length a.made) (made_arities p of) _ (length-made_arities p of ports once d k) h)) (λ y j. names y (among_right y (free p) (free q) j)) in
      two_typed k n n n a (lower q ports once d (k + length a.made)) Kind.except d (made_arities p of) (made_arities q of) left right (length-made_arities p of ports once d k) (length-made_arities q of ports once d (k + length a.made)) (subst (λ z. Listed k (made_arities p of ++ (made_arities q of ++ (z ∷ [])))) e h)
      (λ ins x y. (sym x, sym y)) left.fields
  relation_typed (Rel.intersect p q) scope of d n t agrees ports once k h names =
      let a = lower p ports once d k in
      let e : rel_arity p of ≡ n = rel_arity_typed p scope of d n t.0 agrees in
      let left = relation_typed p scope of d n t.0 agrees ports once k (listed_left k (made_arities p of) _ h) (λ y j. names y (among_left y (free p) (free q) j)) in
      let right = relation_typed q scope of d n t.1 agrees ports once (k + length a.made) (listed_left (k + length a.made) (made_arities q of) _ (listed_right k (length a.made) (made_arities p of) _ (length-made_arities p of ports once d k) h)) (λ y j. names y (among_right y (free p) (free q) j)) in
      two_typed k n n n a (lower q ports once d (k + length a.made)) Kind.intersect d (made_arities p of) (made_arities q of) left right (length-made_arities p of ports once d k) (length-made_arities q of ports once d (k + length a.made)) (subst (λ z. Listed k (made_arities p of ++ (made_arities q of ++ (z ∷ [])))) e h)
      (λ ins x y. (sym x, sym y)) left.fields
  relation_typed (Rel.loop l m x r b) scope of d n t agrees ports once k h names = loop_typed l m x r b (relation_typed r) (relation_typed b) scope of d n t agrees ports once k h names

  -- ---- programs

  inputs_typed : (as' : List Input) (i : ℕ) (scope : Scope) → InputsFit scope as' → Listed i (map (λ a. a.arity) as') → AllTyped i (input_vertices as')
  inputs_typed [] i scope t h = tt
  inputs_typed (a ∷ as') i scope t h = (record { ports = tt; fields = subst IsArity (sym h.0) t.1 }, inputs_typed as' (suc i) (entry a.name a.arity ∷ scope) t.2 h.1)

  input_name : (as' : List Input) (i : ℕ) (scope : Scope) → InputsFit scope as' → Listed i (map (λ a. a.arity) as') → (y : Name) → IsAmong y (input_list as') → NameOf (input_ports as' i y) (input_arities as' y)
  input_name [] i scope t h y j = absurd j
  input_name (a ∷ as') i scope t h y j = go (same_name a.name y) refl j (input_name as' (suc i) (entry a.name a.arity ∷ scope) t.2 h.1 y)
    where
      go : (b : Bool) → same_name a.name y ≡ b → (a.name ≡ y) ⊎ IsAmong y (input_list as') → (IsAmong y (input_list as') → NameOf (input_ports as' (suc i) y) (input_arities as' y)) → NameOf (cond b (port i 0) (input_ports as' (suc i) y)) (cond b a.arity (input_arities as' y))
      go true e k f = record { has = h.0; fields = t.1 }
      go false e (inl q) f = absurd (true≢false (sym ((Decides-same_name a.name y).1 q) ∙ e))
      go false e (inr k) f = f k

  length-lets_made : (as' : List Let) (of : Arities) (ports : Ports) (k : ℕ) → length (lets_made_arities as' of) ≡ length (lower_lets as' ports k).made
  unfolding lower_lets
  length-lets_made [] of ports k = refl
  length-lets_made (a ∷ as') of ports k =
      let r = lower a.value ports [] 0 k in
      let of' = with_arity a.name (rel_arity a.value of) of in
      let ports' = stands_for a.name r.gives ports in
      omega (arith, length-made_arities a.value of ports [] 0 k, length-lets_made as' of' ports' (k + length r.made), length-append (made_arities a.value of) (lets_made_arities as' of'), length-append r.made (lower_lets as' ports' (k + length r.made)).made)

  -- what the lets guarantee to the outputs
  pub record AfterLets (as' : List Let) (of : Arities) (ports : Ports) (k : ℕ) (xs : List Name) (outs : List Output) (ns : List ℕ) : Type 0 where
    pub all : AllTyped k (lower_lets as' ports k).made
    pub names : (y : Name) → IsAmong y (names_after xs as') → NameOf ((lower_lets as' ports k).ports y) (let_arities as' of y)
    pub scope : Scope
    pub agrees : Agrees scope (let_arities as' of)
    pub outputs : OutputsFit scope [] outs ns

  lets_typed : (as' : List Let) (outs : List Output) (ns : List ℕ) (xs : List Name) (scope : Scope) (of : Arities) (ports : Ports) (k : ℕ) → LetsFit xs as' → RestFits scope as' outs ns → Agrees scope of → Listed k (lets_made_arities as' of) → ((y : Name) → IsAmong y xs → NameOf (ports y) (of y)) → AfterLets as' of ports k xs outs ns
  unfolding lower_lets
  lets_typed [] outs ns xs scope of ports k m t agrees h names = record { all = tt; names = names; scope = scope; agrees = agrees; outputs = t }
  lets_typed (a ∷ as') outs ns xs scope of ports k m t agrees h names =
      let r = lower a.value ports [] 0 k in
      let e : rel_arity a.value of ≡ t.0 = rel_arity_typed a.value scope of 0 t.0 t.1 agrees in
      let of' = with_arity a.name (rel_arity a.value of) of in
      let here : Typed k r t.0 = relation_typed a.value scope of 0 t.0 t.1 agrees ports [] k (listed_left k (made_arities a.value of) _ h) (λ y j. names y (m.0.known y j)) in
      let later : AfterLets as' of' (stands_for a.name r.gives ports) (k + length r.made) (a.name ∷ xs) outs ns = lets_typed as' outs ns (a.name ∷ xs) (entry a.name t.0 ∷ scope) of' (stands_for a.name r.gives ports) (k + length r.made) m.1 t.3 (agrees_more scope of a.name t.0 (rel_arity a.value of) e agrees)
      (listed_right k (length r.made) (made_arities a.value of) _ (length-made_arities a.value of ports [] 0 k) h) (λ y j. go y r t.0 here e (same_name a.name y) refl j) in
      record { all = all_typed-append k r.made _ here.all later.all; names = later.names; scope = later.scope; agrees = later.agrees; outputs = later.outputs }
    where
      go : (y : Name) (r : Lowered) (m : ℕ) → Typed k r m → rel_arity a.value of ≡ m → (b : Bool) → same_name a.name y ≡ b → (a.name ≡ y) ⊎ IsAmong y xs → NameOf (cond b r.gives (ports y)) (cond b (rel_arity a.value of) (of y))
      go y r m t e true q j = record { has = t.gives ∙ sym e; fields = subst IsArity (sym e) t.fields }
      go y r m t e false q (inl k) = absurd (true≢false (sym ((Decides-same_name a.name y).1 k) ∙ q))
      go y r m t e false q (inr j) = names y j

  -- the outputs' vertices, and the arities of the outputs
  pub record OutputsTyped (os : List Output) (ports : Ports) (k : ℕ) (ns : List ℕ) : Type 0 where
    pub all : AllTyped k (lower_outputs os ports k)
    pub as_many : length ns ≡ length os
    pub each : (i none : ℕ) → i < length os → arity (slice_index_or (outputs_at os ports k) i none) ≡ slice_index_or ns i 0

  outputs_typed : (os : List Output) (ns : List ℕ) (xs : List Name) (scope before : Scope) (of : Arities) (ports : Ports) (k : ℕ) → AllFit xs os → OutputsFit scope before os ns → Agrees scope of → Listed k (outputs_made_arities os of) → ((y : Name) → IsAmong y xs → NameOf (ports y) (of y)) → OutputsTyped os ports k ns
  unfolding lower_outputs
  outputs_typed [] [] xs scope before of ports k m t agrees h names = record { all = tt; as_many = refl; each = λ i none l. absurd (omega arith) }
  outputs_typed [] (n ∷ ns) xs scope before of ports k m t agrees h names = absurd t
  outputs_typed (o ∷ os) [] xs scope before of ports k m t agrees h names = absurd t
  outputs_typed (o ∷ os) (n ∷ ns) xs scope before of ports k m t agrees h names =
      let r = lower o.value ports [] 0 k in
      let w = k + length r.made in
      let end = new_vertex Kind.output 0 (r.gives ∷ []) in
      let here : Typed k r n = relation_typed o.value scope of 0 n t.0 agrees ports [] k (listed_left k (made_arities o.value of) _ h) (λ y j. names y (m.0.known y j)) in
      let after = listed_right k (length r.made) (made_arities o.value of) (rel_arity o.value of ∷ outputs_made_arities os of) (length-made_arities o.value of ports [] 0 k) h in
      let is : arity w ≡ n = after.0 ∙ rel_arity_typed o.value scope of 0 n t.0 agrees in
      let typed : TypedAs w end = record { ports = is ∙ sym here.gives; fields = subst IsArity (sym is) here.fields } in
      let later = outputs_typed os ns xs scope (entry o.name n ∷ before) of ports (suc w) m.1 t.2 agrees after.1 names in
      record {
        all = all_typed-append k r.made (end ∷ lower_outputs os ports (suc w)) here.all (typed, later.all);
        as_many = ap suc later.as_many;
        each = λ i none l. go w n is i none l later;
      }
    where
      go : (w n : ℕ) → arity w ≡ n → (i none : ℕ) → i < suc (length os) → OutputsTyped os ports (suc w) ns → arity (slice_index_or (w ∷ outputs_at os ports (suc w)) i none) ≡ slice_index_or (n ∷ ns) i 0
      go w n is zero none l later = is
      go w n is (suc i) none l later = later.each i none (omega arith)

-- an input's name is different from those before it
fresh : (as' : List Input) (scope : Scope) (y : Name) (m : ℕ) → InputsFit scope as' → lookup scope y ≡ Some m → IsAmong y (input_list as') → ⊥
fresh [] scope y m t e j = j
fresh (a ∷ as') scope y m t e (inl q) = let z : lookup scope y ≡ None = subst (λ w. lookup scope w ≡ None) q t.0 in clash (sym e ∙ z)
  where
    clash : Some m ≡ None → ⊥
    clash k = cc
fresh (a ∷ as') scope y m t e (inr j) = go (same_name a.name y) refl (λ n k. fresh as' (entry a.name a.arity ∷ scope) y n t.2 k j)
  where
    go : (b : Bool) → same_name a.name y ≡ b → ((n : ℕ) → cond (same_name a.name y) (Some a.arity) (lookup scope y) ≡ Some n → ⊥) → ⊥
    go true q f = f a.arity (ap (λ b. cond b (Some a.arity) (lookup scope y)) q)
    go false q f = f m (ap (λ b. cond b (Some a.arity) (lookup scope y)) q ∙ e)

-- the scope after the inputs has each input's arity
input_scope : (as' : List Input) (scope : Scope) (y : Name) (n : ℕ) → InputsFit scope as' → lookup (after_inputs scope as') y ≡ Some n → (lookup scope y ≡ Some n) ⊎ (IsAmong y (input_list as') × (input_arities as' y ≡ n))
input_scope [] scope y n t e = inl e
input_scope (a ∷ as') scope y n t e = go (same_name a.name y) refl (input_scope as' (entry a.name a.arity ∷ scope) y n t.2 e)
  where
    go : (b : Bool) → same_name a.name y ≡ b → (cond (same_name a.name y) (Some a.arity) (lookup scope y) ≡ Some n) ⊎ (IsAmong y (input_list as') × (input_arities as' y ≡ n)) → (lookup scope y ≡ Some n) ⊎ (((a.name ≡ y) ⊎ IsAmong y (input_list as')) × (cond (same_name a.name y) a.arity (input_arities as' y) ≡ n))
    go true q (inl k) =
        let z : Some a.arity ≡ Some n = sym (ap (λ b. cond b (Some a.arity) (lookup scope y)) q) ∙ k in
        inr (inl ((Decides-same_name a.name y).0 q), ap (λ b. cond b a.arity (input_arities as' y)) q ∙ (let w : a.arity ≡ n = cc in w))
    go false q (inl k) = inl (sym (ap (λ b. cond b (Some a.arity) (lookup scope y)) q) ∙ k)
    go true q (inr k) = absurd (fresh as' (entry a.name a.arity ∷ scope) y a.arity t.2 (ap (λ b. cond b (Some a.arity) (lookup scope y)) q) k.0)
    go false q (inr k) = inr (inr k.0, ap (λ b. cond b a.arity (input_arities as' y)) q ∙ k.1)

inputs_agree : (as' : List Input) → InputsFit [] as' → Agrees (after_inputs [] as') (input_arities as')
inputs_agree as' t y n e = go (input_scope as' [] y n t e)
  where
    nothing : (let none : Scope = [] in lookup none y) ≡ Some n → ⊥
    nothing k = cc

    go : ((let none : Scope = [] in lookup none y) ≡ Some n) ⊎ (IsAmong y (input_list as') × (input_arities as' y ≡ n)) → input_arities as' y ≡ n
    go (inl k) = absurd (nothing k)
    go (inr k) = k.1

-- the arity of a vertex of a program's graph
abbrev pub program_arity : Program → ℕ → ℕ
program_arity p v = slice_index_or (program_arities p) v 0

index_at : (xs ys : List ℕ) (y : ℕ) → slice_index_or (xs ++ (y ∷ ys)) (length xs) 0 ≡ y
index_at [] ys y = refl
index_at (x ∷ xs) ys y = index_at xs ys y

listed_from : (xs ys : List ℕ) → Listed (λ v. slice_index_or (xs ++ ys) v 0) (length xs) ys
listed_from xs [] = tt
listed_from xs (y ∷ ys) = (
  index_at xs ys y,
  subst (λ l. Listed (λ v. slice_index_or l v 0) (suc (length xs)) ys) (append_assoc xs (y ∷ []) ys)
      (subst (λ n. Listed (λ v. slice_index_or ((xs ++ (y ∷ [])) ++ ys) v 0) n ys) (let e : length (xs ++ (y ∷ [])) ≡ suc (length xs) = omega (arith, length-append xs (y ∷ [])) in e) (listed_from (xs ++ (y ∷ [])) ys)),
)

length-map_arities : (as' : List Input) → length (map (λ a. a.arity) as') ≡ length as'
length-map_arities [] = refl
length-map_arities (a ∷ as') = ap suc (length-map_arities as')

-- the vertices' ports, and the outputs' arities
pub record ProgramTyped (p : Program) (ns : List ℕ) : Type 0 where
  pub all : AllTyped (program_arity p) 0 (lowered p)
  pub outputs : OutputsTyped (program_arity p) p.outputs (lets_of p).ports (length p.inputs + length (lets_of p).made) ns

pub program_typed : (p : Program) (ns : List ℕ) → WellTyped p ns → ProgramTyped p ns
unfolding lowered
program_typed p ns t = record { all = all; outputs = outs_typed }
  where
    arity : ℕ → ℕ
    arity = program_arity p

    of : Arities
    of = input_arities p.inputs

    m : ℕ
    m = length p.inputs

    lets : List Vertex
    lets = (lets_of p).made

    outs : List Vertex
    outs = outputs_of p

    fits : IsFitting p
    fits = typed_fits p ns t

    in_inputs : List ℕ
    in_inputs = map (λ a. a.arity) p.inputs

    in_lets : List ℕ
    in_lets = lets_made_arities p.lets of

    in_outputs : List ℕ
    in_outputs = outputs_made_arities p.outputs (let_arities p.lets of)

    from_inputs : Listed arity 0 (in_inputs ++ (in_lets ++ in_outputs))
    from_inputs = listed_from [] (program_arities p)

    from_lets : Listed arity m (in_lets ++ in_outputs)
    from_lets = subst (λ k. Listed arity k (in_lets ++ in_outputs)) (let z : 0 + m ≡ m = omega arith in z) (listed_right arity 0 m in_inputs _ (length-map_arities p.inputs) from_inputs)

    from_outputs : Listed arity (m + length lets) in_outputs
    from_outputs = listed_right arity m (length lets) in_lets in_outputs (length-lets_made arity p.lets of (input_ports p.inputs 0) m) from_lets

    after_lets : AfterLets arity p.lets of (input_ports p.inputs 0) m (input_list p.inputs) p.outputs ns
    after_lets = lets_typed arity p.lets p.outputs ns (input_list p.inputs) (after_inputs [] p.inputs) of (input_ports p.inputs 0) m fits.lets t.rest (inputs_agree p.inputs t.inputs) (listed_left arity m in_lets _ from_lets)
        (input_name arity p.inputs 0 [] t.inputs (listed_left arity 0 in_inputs _ from_inputs))

    outs_typed : OutputsTyped arity p.outputs (lets_of p).ports (m + length lets) ns
    outs_typed = outputs_typed arity p.outputs ns (names_after (input_list p.inputs) p.lets) after_lets.scope [] (let_arities p.lets of) (lets_of p).ports (m + length lets) fits.outputs after_lets.outputs after_lets.agrees from_outputs after_lets.names

    all : AllTyped arity 0 (input_vertices p.inputs ++ (lets ++ outs))
    all = all_typed-append arity 0 (input_vertices p.inputs) _ (inputs_typed arity p.inputs 0 [] t.inputs (listed_left arity 0 in_inputs _ from_inputs))
        (subst (λ k. AllTyped arity k (lets ++ outs)) (let z : m ≡ 0 + length (input_vertices p.inputs) = omega (arith, length-input_vertices p.inputs) in z)
        (all_typed-append arity m lets _ after_lets.all outs_typed.all))

pub typed_ports : (p : Program) (ns : List ℕ) → WellTyped p ns → IsTyped (lowered p) (program_arity p)
unfolding vertex source
typed_ports p ns t =
    let all = (program_typed p ns t).all in
    record {
      ports = λ v l. (at v l all).ports;
      fields = λ v l. (at v l all).fields;
    }
  where
    at : (v : ℕ) → v < length (lowered p) → AllTyped (program_arity p) 0 (lowered p) → TypedAs (program_arity p) v (slice_index_or (lowered p) v no_vertex)
    at v l all = subst (λ k. TypedAs (program_arity p) k (slice_index_or (lowered p) v no_vertex)) (let z : 0 + v ≡ v = omega arith in z) (all_typed_at (program_arity p) 0 (lowered p) all v l)

-- an arity for each output
pub typed_outputs : (p : Program) (ns : List ℕ) → WellTyped p ns → length ns ≡ length p.outputs
typed_outputs p ns t = (program_typed p ns t).outputs.as_many

pub typed_output : (p : Program) (ns : List ℕ) (output : ℕ) → WellTyped p ns → output < length p.outputs → program_arity p (output_number (lowered p) output) ≡ slice_index_or ns output 0
typed_output p ns output t l =
    ap (λ vs. program_arity p (slice_index_or vs output (length (lowered p)))) (output_numbers_are p)
    ∙ (program_typed p ns t).outputs.each output (length (lowered p)) l

-- an input's vertex has the input's arity
pub typed_input : (p : Program) (i : ℕ) → i < length p.inputs → program_arity p i ≡ slice_index_or (map (λ a. a.arity) p.inputs) i 0
typed_input p i l = go (map (λ a. a.arity) p.inputs) _ i (let e = length-map_arities p.inputs in omega arith)
  where
    go : (xs ys : List ℕ) (i : ℕ) → i < length xs → slice_index_or (xs ++ ys) i 0 ≡ slice_index_or xs i 0
    go [] ys i l = absurd (omega arith)
    go (x ∷ xs) ys zero l = refl
    go (x ∷ xs) ys (suc i) l = go xs ys i (omega arith)
