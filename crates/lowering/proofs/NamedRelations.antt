-- Named relations, lowered one after another.
use Rattle.std.proofs.Common.{◌≡◌, ℕ, zero, suc, ◌+◌, ◌<◌, List, [], ◌∷◌, ◌++◌, length, get_or, take, drop, refl, sym, ap, subst, ◌∙◌, arith, append_assoc, append-nil, length-append}
use Rattle.std.specs.Prelude.{Result, Ok, Err, IfErr}
use Rattle.std.specs.Result.{IsErrAnd}
use Rattle.expr_tree.specs.declared.program.Let as declared
use Rattle.expr_tree.specs.Plain.{plain_let, plain_rel}
use Rattle.expr_tree.specs.PlainLists.{plain_lets}
use Rattle.expr_tree.specs.Views.{let_tree, rel_tree}
use Rattle.semantics.specs.Query.{Let}
use Rattle.semantics.specs.Lower.{lower, lower_lets, LoweredLets, Ports, stands_for}
use Rattle.semantics.proofs.FittingPrograms.{Nested}
use Rattle.semantics.specs.Graph as graph
use Rattle.graph.specs.Views.{graph_of}
use Rattle.lowering.specs.Faults.{IsOver}
use Rattle.lowering.specs.Steps.{IsLowered, AreLowered, AreNested}
use Rattle.graph.specs.declared.vertex.Vertex.{Vertex}
use Rattle.lowering.specs.declared.fault.LowerFault.{LowerFault}
use Rattle.lowering.proofs.MoreVertices.{number_of}
use Rattle.lowering.proofs.Forms.{is_over}

-- one of them
pub let_lowered : {A : Type 0} → (x : declared.Let A) (m0 m1 : List Vertex) (s0 s1 : Ports) (p : graph.Port) → IsLowered (graph_of m0) (graph_of m1) p (lower (plain_rel (rel_tree x.relation.value)) s0 [] 0 (length m0)) → s1 ≡ stands_for x.name p s0 → AreLowered (graph_of m0) (graph_of m1) s1 (lower_lets (plain_let (let_tree x) ∷ []) s0 (length m0))
unfolding lower_lets
let_lowered x m0 m1 s0 s1 p i s =
    let r = lower (plain_rel (rel_tree x.relation.value)) s0 [] 0 (length m0) in
    record { made = i.made ∙ ap (λ l. graph_of m0 ++ l) (sym (append-nil r.made)); names = s ∙ ap (λ q. stands_for x.name q s0) i.gives }

pub let_over : {A : Type 0} → (e : LowerFault) (x : declared.Let A) (s : Ports) (k : ℕ) → IsOver e (k + length (lower (plain_rel (rel_tree x.relation.value)) s [] 0 k).made) → IsOver e (k + length (lower_lets (plain_let (let_tree x) ∷ []) s k).made)
unfolding lower_lets
let_over e x s k o = let r = lower (plain_rel (rel_tree x.relation.value)) s [] 0 k in rw (append-nil r.made) o

-- these, and then those
abbrev joined : List Let → List Let → Ports → ℕ → LoweredLets
joined xs ys s k =
    let l = lower_lets xs s k in
    let m = lower_lets ys l.ports (k + length l.made) in
    record { made = l.made ++ m.made; ports = m.ports }

lets_append : (xs ys : List Let) (s : Ports) (k : ℕ) → lower_lets (xs ++ ys) s k ≡ joined xs ys s k
unfolding lower_lets
lets_append [] ys s k = let n : k ≡ k + 0 = omega arith in ap (λ j. lower_lets ys s j) n
lets_append (a ∷ xs) ys s k =
    let r = lower a.value s [] 0 k in
    let t = stands_for a.name r.gives s in
    let l = lower_lets xs t (k + length r.made) in
    let n : (k + length r.made) + length l.made ≡ k + length (r.made ++ l.made) = omega (arith, length-append r.made l.made) in
    let m = lower_lets ys l.ports (k + length (r.made ++ l.made)) in
    ap (λ (u : LoweredLets). record { made = r.made ++ u.made; ports = u.ports }) (lets_append xs ys t (k + length r.made))
    ∙ ap (λ j. record { made = r.made ++ (l.made ++ (lower_lets ys l.ports j).made); ports = (lower_lets ys l.ports j).ports }) n
    ∙ ap (λ (g : List graph.Vertex). record { made = g; ports = m.ports }) (sym (append_assoc r.made l.made m.made))

both_lowered : (xs ys : List Let) (m0 m1 m2 : List Vertex) (s0 s1 s2 : Ports) → AreLowered (graph_of m0) (graph_of m1) s1 (lower_lets xs s0 (length m0)) → AreLowered (graph_of m1) (graph_of m2) s2 (lower_lets ys s1 (length m1)) → AreLowered (graph_of m0) (graph_of m2) s2 (lower_lets (xs ++ ys) s0 (length m0))
both_lowered xs ys m0 m1 m2 s0 s1 s2 a b =
    let l = lower_lets xs s0 (length m0) in
    let n : length m1 ≡ length m0 + length l.made = number_of m0 m1 l.made a.made in
    let b1 : AreLowered (graph_of m1) (graph_of m2) s2 (lower_lets ys l.ports (length m0 + length l.made)) =
    subst (λ k. AreLowered (graph_of m1) (graph_of m2) s2 (lower_lets ys l.ports k)) n (subst (λ f. AreLowered (graph_of m1) (graph_of m2) s2 (lower_lets ys f (length m1))) a.names b) in
    let m = lower_lets ys l.ports (length m0 + length l.made) in
    let base : AreLowered (graph_of m0) (graph_of m2) s2 (joined xs ys s0 (length m0)) = record { made = b1.made ∙ ap (λ g. g ++ m.made) a.made ∙ append_assoc (graph_of m0) l.made m.made; names = b1.names } in
    subst (λ r. AreLowered (graph_of m0) (graph_of m2) s2 r) (sym (lets_append xs ys s0 (length m0))) base

more_over : (e : LowerFault) (xs ys : List Let) (s : Ports) (k : ℕ) → IsOver e (k + length (lower_lets xs s k).made) → IsOver e (k + length (lower_lets (xs ++ ys) s k).made)
more_over e xs ys s k o =
    let l = lower_lets xs s k in
    let m = lower_lets ys l.ports (k + length l.made) in
    subst (λ (r : LoweredLets). IsOver e (k + length r.made)) (sym (lets_append xs ys s k)) (is_over e _ _ o (omega (arith, length-append l.made m.made)))

next_over : (e : LowerFault) (xs ys : List Let) (m0 m1 : List Vertex) (s0 s1 : Ports) → AreLowered (graph_of m0) (graph_of m1) s1 (lower_lets xs s0 (length m0)) → IsOver e (length m1 + length (lower_lets ys s1 (length m1)).made) → IsOver e (length m0 + length (lower_lets (xs ++ ys) s0 (length m0)).made)
next_over e xs ys m0 m1 s0 s1 a o =
    let l = lower_lets xs s0 (length m0) in
    let n : length m1 ≡ length m0 + length l.made = number_of m0 m1 l.made a.made in
    let m = lower_lets ys l.ports (length m0 + length l.made) in
    let o1 : IsOver e ((length m0 + length l.made) + length m.made) =
    subst (λ k. IsOver e (k + length (lower_lets ys l.ports k).made)) n (subst (λ f. IsOver e (length m1 + length (lower_lets ys f (length m1)).made)) a.names o) in
    subst (λ (r : LoweredLets). IsOver e (length m0 + length r.made)) (sym (lets_append xs ys s0 (length m0))) (is_over e _ _ o1 (omega (arith, length-append l.made m.made)))

-- ---- a loop over them

taken : {A : Type 0} → (xs : List (declared.Let A)) (i : ℕ) (x : declared.Let A) → i < length xs → x ≡ get_or xs i x → plain_lets (take (suc i) xs) ≡ plain_lets (take i xs) ++ (plain_let (let_tree x) ∷ [])
taken [] i x h e = absurd (omega arith)
taken (y ∷ ys) zero x h e = ap (λ z. plain_let (let_tree z) ∷ []) (sym e)
taken (y ∷ ys) (suc i) x h e = ap (λ l. plain_let (let_tree y) ∷ l) (taken ys i x (omega arith) e)

all_taken : {A : Type 0} → (xs : List (declared.Let A)) (i : ℕ) → plain_lets xs ≡ plain_lets (take i xs) ++ plain_lets (drop i xs)
all_taken xs zero = refl
all_taken [] (suc i) = refl
all_taken (x ∷ xs) (suc i) = ap (λ l. plain_let (let_tree x) ∷ l) (all_taken xs i)

pub nested_at : {A : Type 0} → (xs : List (declared.Let A)) (i : ℕ) (x : declared.Let A) → i < length xs → x ≡ get_or xs i x → AreNested (plain_lets xs) → AreNested (plain_let (let_tree x) ∷ [])
nested_at [] i x h e n = absurd (omega arith)
nested_at (y ∷ ys) zero x h e n = (subst (λ z. Nested 0 (plain_let (let_tree z)).value) (sym e) n.0, tt)
nested_at (y ∷ ys) (suc i) x h e n = nested_at ys i x (omega arith) e n.1

pub one_more : {A : Type 0} → (xs : List (declared.Let A)) (i : ℕ) (x : declared.Let A) (m0 m1 m2 : List Vertex) (s0 s1 s2 : Ports) → i < length xs → x ≡ get_or xs i x → AreLowered (graph_of m0) (graph_of m1) s1 (lower_lets (plain_lets (take i xs)) s0 (length m0)) → AreLowered (graph_of m1) (graph_of m2) s2 (lower_lets (plain_let (let_tree x) ∷ []) s1 (length m1)) → AreLowered (graph_of m0) (graph_of m2) s2 (lower_lets (plain_lets (take (i + 1) xs)) s0 (length m0))
one_more xs i x m0 m1 m2 s0 s1 s2 h e a b =
    let k : i + 1 ≡ suc i = omega arith in
    subst (λ l. AreLowered (graph_of m0) (graph_of m2) s2 (lower_lets l s0 (length m0))) (sym (ap (λ j. plain_lets (take j xs)) k ∙ taken xs i x h e))
    (both_lowered (plain_lets (take i xs)) (plain_let (let_tree x) ∷ []) m0 m1 m2 s0 s1 s2 a b)

pub one_over : {A : Type 0} → (f : LowerFault) (xs : List (declared.Let A)) (i : ℕ) (x : declared.Let A) (m0 m1 : List Vertex) (s0 s1 : Ports) → i < length xs → x ≡ get_or xs i x → AreLowered (graph_of m0) (graph_of m1) s1 (lower_lets (plain_lets (take i xs)) s0 (length m0)) → IsOver f (length m1 + length (lower_lets (plain_let (let_tree x) ∷ []) s1 (length m1)).made) → IsOver f (length m0 + length (lower_lets (plain_lets xs) s0 (length m0)).made)
one_over f xs i x m0 m1 s0 s1 h e a o =
    let next = next_over f (plain_lets (take i xs)) (plain_let (let_tree x) ∷ []) m0 m1 s0 s1 a o in
    let q = ap (λ l. l ++ plain_lets (drop (suc i) xs)) (taken xs i x h e) in
    subst (λ l. IsOver f (length m0 + length (lower_lets l s0 (length m0)).made)) (sym (all_taken xs (suc i) ∙ q))
    (more_over f (plain_lets (take i xs) ++ (plain_let (let_tree x) ∷ [])) (plain_lets (drop (suc i) xs)) s0 (length m0) next)

-- an error that a `?` passes on
pub passed_on : {T E : Type 0} → (r : Result T E) (x : E) (P : E → Type 0) → IsErrAnd r (λ e. e ≡ x) → P x → IfErr r P
passed_on (Ok v) x P h p = tt
passed_on (Err e) x P h p = subst P (sym h) p
