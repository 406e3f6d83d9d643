-- The vertices of carried names, one name after the other, and the scope, bound from the last name to the first.
use Rattle.std.proofs.Common.{◌≡◌, ℕ, suc, ◌+◌, ◌*◌, ◌<◌, List, [], ◌∷◌, ◌++◌, length, get_or, take, drop, sym, ap, ap₂, ◌∙◌, arith, append_assoc}
use Rattle.std.proofs.lemmas.List.{take_more, drop_more}
use Rattle.semantics.specs.Graph as graph
use Rattle.semantics.specs.Lower.{Ports, carry}
use Rattle.semantics.specs.Query.{Name}
use Rattle.graph.specs.Views.{graph_of}
use Rattle.graph.specs.declared.vertex.Vertex.{Vertex}
use Rattle.lowering.specs.Faults.{IsOver}
use Rattle.lowering.specs.Loops.{carry_one}
use Rattle.lowering.specs.Scopes.{Extends}
use Rattle.lowering.specs.declared.scope.Entry.{Entry}
use Rattle.lowering.specs.declared.fault.LowerFault.{LowerFault}
use Rattle.lowering.proofs.MoreVertices.{number_of}

-- four for each name
pub length-carry : (n : Name → ℕ) (ports : Ports) (d k : ℕ) (ys : List Name) → length (carry n ports d k ys) ≡ 4 * length ys
length-carry n ports d k [] = omega arith
length-carry n ports d k (y ∷ ys) = omega (arith, length-carry n ports d (suc (suc (suc (suc k)))) ys)

carry-push : (n : Name → ℕ) (ports : Ports) (d k : ℕ) (ys : List Name) (y : Name) → carry n ports d k (ys ++ y ∷ []) ≡ carry n ports d k ys ++ carry_one (n y) (ports y) d (k + 4 * length ys)
carry-push n ports d k [] y =
    let same : k ≡ k + 4 * 0 = omega arith in
    ap (carry_one (n y) (ports y) d) same
carry-push n ports d k (x ∷ ys) y =
    let same : suc (suc (suc (suc k))) + 4 * length ys ≡ k + 4 * length (x ∷ ys) = omega arith in
    ap (λ l. carry_one (n x) (ports x) d k ++ l) (carry-push n ports d (suc (suc (suc (suc k)))) ys y ∙ ap (λ j. carry n ports d (suc (suc (suc (suc k)))) ys ++ carry_one (n y) (ports y) d j) same)

-- the vertices of one name more
pub one-carried : (n : Name → ℕ) (ports : Ports) (d : ℕ) (names : List Name) (i : ℕ) (y : Name) (t : ℕ) (p : graph.Port) (m0 m1 m2 : List Vertex) → i < length names → y ≡ get_or names i y → t ≡ n y → p ≡ ports y → graph_of m1 ≡ graph_of m0 ++ carry n ports d (length m0) (take i names) → length (take i names) ≡ i → graph_of m2 ≡ graph_of m1 ++ carry_one t p d (length m1) → graph_of m2 ≡ graph_of m0 ++ carry n ports d (length m0) (take (i + 1) names)
one-carried n ports d names i y t p m0 m1 m2 within is held found before taken after =
    let k = number_of m0 m1 _ before in
    let long = length-carry n ports d (length m0) (take i names) in
    let at : length m1 ≡ length m0 + 4 * length (take i names) = omega (arith, k, long) in
    let more : take (i + 1) names ≡ take i names ++ y ∷ [] = take_more names i y within ∙ ap (λ z. take i names ++ z ∷ []) (sym is) in
    after ∙ ap (λ u. graph_of m1 ++ carry_one u p d (length m1)) held ∙ ap₂ (λ g l. g ++ l) before (ap₂ (λ q j. carry_one (n y) q d j) found at)
    ∙ append_assoc (graph_of m0) (carry n ports d (length m0) (take i names)) (carry_one (n y) (ports y) d (length m0 + 4 * length (take i names)))
    ∙ ap (λ l. graph_of m0 ++ l) (sym (carry-push n ports d (length m0) (take i names) y) ∙ sym (ap (carry n ports d (length m0)) more))

-- too many already for one name more
pub one-carried-over : (n : Name → ℕ) (ports : Ports) (d : ℕ) (names : List Name) (i : ℕ) (f : LowerFault) (m0 m1 : List Vertex) → i < length names → length (take i names) ≡ i → graph_of m1 ≡ graph_of m0 ++ carry n ports d (length m0) (take i names) → IsOver f (length m1 + 4) → IsOver f (length m0 + length (carry n ports d (length m0) names))
one-carried-over n ports d names i f m0 m1 within taken before o =
    let k = number_of m0 m1 _ before in
    let part = length-carry n ports d (length m0) (take i names) in
    let whole = length-carry n ports d (length m0) names in
    record { over = λ t. omega (arith, k, part, whole, o.over t, taken) }

-- one entry more
pub extended : (old s0 s1 es : List Entry) → Extends old s0 → s1 ≡ s0 ++ es → Extends old s1
extended old s0 s1 es x b = record { more = x.more ++ es; is = b ∙ ap (λ l. l ++ es) x.is ∙ append_assoc old x.more es }

-- the names from the one at index i on
pub names-from : (names : List Name) (i j : ℕ) (y : Name) → i < length names → j ≡ i + 1 → y ≡ get_or names i y → drop i names ≡ y ∷ drop j names
names-from names i j y within next is = drop_more names i y within ∙ ap₂ (λ z k. z ∷ drop k names) (sym is) (sym next)
