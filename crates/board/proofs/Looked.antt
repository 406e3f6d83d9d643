-- What is seen of an epoch keeps the promise.
use Rattle.std.proofs.Common.{◌≡◌, ◌≢◌, ◌⊎◌, inl, inr, ◌<◌, ◌+◌, ℕ, zero, suc, ◌==◌, true, false, List, [], ◌∷◌, ◌++◌, length, length-append, map, refl, sym, ap, ◌∙◌, subst, slice_index_or, arith}
use Rattle.semantics.specs.Multiset.{Record, IsPartOf, ◌≈◌}
use Rattle.semantics.specs.Query.{Program}
use Rattle.semantics.specs.Meaning.{program_meaning}
use Rattle.semantics.specs.Graph.{output_numbers}
use Rattle.semantics.proofs.LoweredDataflow.{lowered_outputs}
use Rattle.graph.specs.Shown.{shown_graph}
use Rattle.rows.specs.FlatRows.{joined}
use Rattle.board.specs.Shown.{Shown, InputShown, no_input}
use Rattle.board.specs.Lateness.{BoardShown}
use Rattle.board.specs.Looks.{IsLookAt, IsOutputLookAt, IsPromised, LookShown, meant_by, no_output, output_in}
use Rattle.board.specs.declared.look.OutputLook.{OutputLook}
use Rattle.std.proofs.lemmas.Bool.Decides.{eqb_tells}
use Rattle.board.specs.Promises.{IsOutputPlace, KeepsPromise, RunsProgram, emitted_at, meant_of}

-- what was fed to one input, taken from what was fed to each
pub fed_at : (is : List InputShown) (e i : ℕ) → slice_index_or (map (λ (x : InputShown). slice_index_or x.fed e []) is) i [] ≡ slice_index_or (slice_index_or is i no_input).fed e []
fed_at [] e i = none i ∙ sym (none_fed i)
  where
    none : (k : ℕ) → slice_index_or {A = List (List Record)} [] k [] ≡ []
    none zero = refl
    none (suc k) = refl

    none_at : (k : ℕ) → slice_index_or {A = InputShown} [] k no_input ≡ no_input
    none_at zero = refl
    none_at (suc k) = refl

    none_fed : (k : ℕ) → slice_index_or (slice_index_or {A = InputShown} [] k no_input).fed e [] ≡ []
    none_fed k = ap (λ (x : InputShown). slice_index_or x.fed e []) (none_at k) ∙ none e
fed_at (x ∷ is) e zero = refl
fed_at (x ∷ is) e (suc i) = fed_at is e i

pub promised : (b : BoardShown) (e : ℕ) (l : LookShown) → IsLookAt b e l → ((p : Program) → RunsProgram p b.shown → KeepsPromise p b.shown) → IsPromised l
promised b e l is keeps p ns typed graph k there =
    let s : Shown = b.shown in
    let runs : RunsProgram p s = record { arities = ns; typed = typed; graph = ap shown_graph (sym is.graph) ∙ graph } in
    let h = keeps p runs k e there in
    let place : IsOutputPlace s k = (let n = lowered_outputs p in let m = ap (λ g. length (output_numbers g)) runs.graph in omega (arith, there, n, m)) in
    let o = is.outputs.each k place in
    let emitted : emitted_at s k e ≡ joined (output_in l k).emitted = ap joined (sym o.emitted) in
    let meant : meant_of p s k e ≡ meant_by p l k = λ j. program_meaning p k (λ i. joined (sym (is.fed i) j)) in
    let A : List Record → Type 0 = λ xs. IsPartOf xs (meant_of p s k e) in
    let B : List Record → Type 0 = λ ys. IsPartOf (joined (output_in l k).emitted) ys in
    let C : List Record → Type 0 = λ xs. xs ≈ meant_of p s k e in
    let D : List Record → Type 0 = λ ys. joined (output_in l k).emitted ≈ ys in
    record {
      part = subst B meant (subst A emitted h.part);
      whole = λ t. subst D meant (subst C emitted (h.whole (o.passed t)));
    }

-- ---- what outputs show, one after another

-- the looks at the outputs before a place
abbrev pub LooksBelow : BoardShown → (epoch place : ℕ) → List OutputLook → Type 0
LooksBelow s e place os = (length os ≡ place) × ((k : ℕ) → k < place → IsOutputLookAt s e k (slice_index_or os k no_output))

at_last : (os : List OutputLook) (o : OutputLook) → slice_index_or (os ++ o ∷ []) (length os) no_output ≡ o
at_last [] o = refl
at_last (x ∷ os) o = at_last os o

at_before : (os : List OutputLook) (o : OutputLook) (k : ℕ) → k < length os → slice_index_or (os ++ o ∷ []) k no_output ≡ slice_index_or os k no_output
at_before [] o k l = absurd (omega arith)
at_before (x ∷ os) o zero l = refl
at_before (x ∷ os) o (suc k) l = at_before os o k (omega arith)

pub looks_more : (s : BoardShown) (e place : ℕ) (os ps : List OutputLook) (o : OutputLook) → ps ≡ os ++ o ∷ [] → IsOutputLookAt s e place o → LooksBelow s e place os → LooksBelow s e (place + 1) ps
looks_more s e place os ps o is new below = (
  (let n = ap length is in let m = length-append os (o ∷ []) in let k = below.0 in omega (arith, n, m, k)),
  λ k l. go k l (eqb_tells k place),
)
  where
    at : (k : ℕ) → slice_index_or (os ++ o ∷ []) k no_output ≡ slice_index_or ps k no_output
    at k = ap (λ (l : List OutputLook). slice_index_or l k no_output) (sym is)

    go : (k : ℕ) → k < place + 1 → ((k == place) ≡ true) × (k ≡ place) ⊎ ((k == place) ≡ false) × (k ≢ place) → IsOutputLookAt s e k (slice_index_or ps k no_output)
    go k l (inl (t, q)) =
        let here : slice_index_or ps k no_output ≡ o = sym (at k) ∙ ap (λ n. slice_index_or (os ++ o ∷ []) n no_output) (q ∙ sym below.0) ∙ at_last os o in
        subst (λ (x : OutputLook). IsOutputLookAt s e k x) (sym here) (subst (λ n. IsOutputLookAt s e n o) (sym q) new)
    go k l (inr (t, q)) =
        let less : k < place = omega (arith, l, q) in
        let there : k < length os = (let n = below.0 in omega (arith, less, n)) in
        subst (λ (x : OutputLook). IsOutputLookAt s e k x) (sym (at_before os o k there) ∙ at k) (below.1 k less)
