-- The lines of a report, one after another.
use Rattle.std.proofs.Common.{◌≡◌, ◌+◌, ◌<◌, ◌≤◌, ◌∙◌, ◌++◌, ◌⊎◌, inl, inr, ℕ, zero, suc, cond, List, [], ◌∷◌, length, refl, sym, ap, subst, arith, take, get_or, nat_lt, add-one, append_assoc}
use Rattle.std.specs.Prelude.{codes, decimal, slice_index_or}
use Rattle.std.proofs.lemmas.Bool.{le-ltb}
use Rattle.std.proofs.Math.Seq.{take-suc}
use Rattle.std.proofs.lemmas.List.{get_or_default}
use Rattle.semantics.specs.Multiset.{total}
use Rattle.semantics.proofs.MultisetSums.{total-append}
use Rattle.graph.specs.Shown.{GraphValue}
use Rattle.events.specs.Outputs.{counted}
use Rattle.driver.specs.declared.tally.Counts.{Counts}
use Rattle.statistics.specs.Report.{AreOfVertices, IsOfVertex, head_of, sum_of, worker_line, worker_lines}

-- one element more
take_one : {X : Type 0} (xs : List X) (i : ℕ) (x : X) → i < length xs → x ≡ get_or xs i x → take (i + 1) xs ≡ take i xs ++ x ∷ []
take_one xs i x l e = ap (λ n. take n xs) (add-one i) ∙ take-suc xs i x l ∙ ap (λ y. take i xs ++ y ∷ []) (sym e)

-- one worker's counters more
pub sum_more : (row : List Counts) (i : ℕ) (d all next : Counts) → i < length row → all ≡ sum_of (take i row)
    → next.events ≡ counted (all.events + (get_or row i d).events) → next.received ≡ counted (all.received + (get_or row i d).received) → next.sent ≡ counted (all.sent + (get_or row i d).sent)
    → next ≡ sum_of (take (i + 1) row)
sum_more row i d all next l is p q r =
    let one = get_or row i d in
    let t = take_one row i one l (get_or_default row i d one l) in
    let a = total-append (λ (c : Counts). c.events) (take i row) (one ∷ []) in
    let b = total-append (λ (c : Counts). c.received) (take i row) (one ∷ []) in
    let d = total-append (λ (c : Counts). c.sent) (take i row) (one ∷ []) in
    let ea = ap (λ (c : Counts). c.events) is in
    let eb = ap (λ (c : Counts). c.received) is in
    let ed = ap (λ (c : Counts). c.sent) is in
    let x : next.events ≡ counted (total (λ (c : Counts). c.events) (take i row ++ one ∷ [])) = omega (arith, p, a, ea) in
    let y : next.received ≡ counted (total (λ (c : Counts). c.received) (take i row ++ one ∷ [])) = omega (arith, q, b, eb) in
    let z : next.sent ≡ counted (total (λ (c : Counts). c.sent) (take i row ++ one ∷ [])) = omega (arith, r, d, ed) in
    let same : next ≡ sum_of (take i row ++ one ∷ []) = λ j. record { events = x j; received = y j; sent = z j } in
    same ∙ ap sum_of (sym t)

pub workers_more : (head : List ℕ) (row : List Counts) (k : ℕ) (d : Counts) (first old new : List ℕ) → k < length row
    → old ≡ first ++ worker_lines head row k → new ≡ old ++ worker_line head k (get_or row k d) → new ≡ first ++ worker_lines head row (k + 1)
workers_more head row k d first old new l is more =
    let zeros : Counts = record { events = 0; received = 0; sent = 0 } in
    let one = get_or row k d in
    let there : one ≡ get_or row k zeros = get_or_default row k d zeros l in
    more ∙ ap (λ t. t ++ worker_line head k one) is ∙ append_assoc first (worker_lines head row k) (worker_line head k one)
    ∙ ap (λ c. first ++ (worker_lines head row k ++ worker_line head k c)) there
    ∙ ap (λ n. first ++ worker_lines head row n) (sym (add-one k))

pub of_same : (g g' : GraphValue) (v : ℕ) (row row' : List Counts) (text : List ℕ) → g' ≡ g → row' ≡ row → IsOfVertex (head_of g' v) row' text → IsOfVertex (head_of g v) row text
of_same g g' v row row' text e f is = subst (λ x. IsOfVertex (head_of x v) row text) e (subst (λ x. IsOfVertex (head_of g' v) x text) f is)

pub vertices_more : (g : GraphValue) (rows : ℕ → List Counts) (n : ℕ) (before here text : List ℕ) → AreOfVertices g rows n before → IsOfVertex (head_of g n) (rows n) here → text ≡ before ++ here → AreOfVertices g rows (n + 1) text
vertices_more g rows n before here text are is e = subst (λ m. AreOfVertices g rows m text) (sym (add-one n)) (before, here, are, is, e)

-- five texts one after another
pub five_texts : (t0 t1 t2 t3 t4 t5 a b c d e : List ℕ) → t1 ≡ t0 ++ a → t2 ≡ t1 ++ b → t3 ≡ t2 ++ c → t4 ≡ t3 ++ d → t5 ≡ t4 ++ e → t5 ≡ t0 ++ (a ++ (b ++ (c ++ (d ++ e))))
five_texts t0 t1 t2 t3 t4 t5 a b c d e f g h i j =
    let flat : ((((t0 ++ a) ++ b) ++ c) ++ d) ++ e ≡ t0 ++ (a ++ (b ++ (c ++ (d ++ e)))) = simp append_assoc in
    j ∙ ap (λ t. t ++ e) (i ∙ ap (λ t. t ++ d) (h ∙ ap (λ t. t ++ c) (g ∙ ap (λ t. t ++ b) f))) ∙ flat

-- of a vertex that is no input, the counters are those of the run
pub no_input : (fed : ℕ) (inputs v : ℕ) (x y : List Counts) → fed ≤ inputs → inputs ≤ v → cond (nat_lt v fed) x y ≡ y
no_input fed inputs v x y few past = ap (λ b. cond b x y) (le-ltb v fed (omega (arith, few, past)))
