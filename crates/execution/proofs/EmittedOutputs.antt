-- What the outputs have emitted, one after another.
use Rattle.std.proofs.Common.{◌≡◌, ◌≢◌, ◌⊎◌, inl, inr, ◌<◌, ◌+◌, ℕ, zero, suc, ◌==◌, true, false, List, [], ◌∷◌, ◌++◌, length, length-append, map, take, get_or, slice_index_or, refl, sym, ap, ◌∙◌, subst, arith}
use Rattle.std.proofs.lemmas.Bool.Decides.{eqb_tells}
use Rattle.std.proofs.lemmas.List.{length-map, map-append, map_more}
use Rattle.semantics.specs.Multiset.{Record}
use Rattle.board.specs.Shown.{Shown}
use Rattle.board.specs.Promises.{emitted_at}
use Rattle.graph.specs.Views.{name_of_output}
use Rattle.graph.specs.declared.graph.GraphOutput.{GraphOutput}
use Rattle.collector.specs.Emitted.{epochs_of, names_of, records_of}
use Rattle.collector.specs.declared.output.OutputEpochs.{OutputEpochs}
use Rattle.execution.specs.Fed.{HasEpochs}

-- the outputs before a place, by their names, with what each has emitted
pub record AreBelow (s : Shown) (count : ℕ) (outputs : List GraphOutput) (place : ℕ) (os : List OutputEpochs) : Type 0 where
  pub many : length os ≡ place
  pub names : names_of os ≡ map name_of_output (take place outputs)
  pub each : (k : ℕ) → k < place → HasEpochs s k count (slice_index_or (map epochs_of os) k [])

at_last : (xs : List (List (List Record))) (x : List (List Record)) → slice_index_or (xs ++ x ∷ []) (length xs) [] ≡ x
at_last [] x = refl
at_last (y ∷ xs) x = at_last xs x

at_before : (xs : List (List (List Record))) (x : List (List Record)) (k : ℕ) → k < length xs → slice_index_or (xs ++ x ∷ []) k [] ≡ slice_index_or xs k []
at_before [] x k l = absurd (omega arith)
at_before (y ∷ xs) x zero l = refl
at_before (y ∷ xs) x (suc k) l = at_before xs x k (omega arith)

pub one_more : (s : Shown) (count : ℕ) (outputs : List GraphOutput) (place : ℕ) (os ps : List OutputEpochs) (o : OutputEpochs) (g : GraphOutput) → place < length outputs → g ≡ get_or outputs place g → ps ≡ os ++ o ∷ [] → o.name.now ≡ name_of_output g
    → HasEpochs s place count (epochs_of o) → AreBelow s count outputs place os → AreBelow s count outputs (place + 1) ps
one_more s count outputs place os ps o g lt at is name new below = record {
  many = (let n = ap length is in let m = length-append os (o ∷ []) in let k = below.many in omega (arith, n, m, k));
  names =
      ap names_of is ∙ map-append (λ (x : OutputEpochs). x.name.now) os (o ∷ []) ∙ ap (λ ns. ns ++ o.name.now ∷ []) below.names ∙ ap (λ n. map name_of_output (take place outputs) ++ n ∷ []) (name ∙ ap name_of_output at)
      ∙ sym (map_more name_of_output outputs place g lt);
  each = λ k l. go k l (eqb_tells k place);
}
  where
    shown : map epochs_of ps ≡ map epochs_of os ++ epochs_of o ∷ []
    shown = ap (map epochs_of) is ∙ map-append epochs_of os (o ∷ [])

    size : length (map epochs_of os) ≡ place
    size = length-map os epochs_of ∙ below.many

    go : (k : ℕ) → k < place + 1 → ((k == place) ≡ true) × (k ≡ place) ⊎ ((k == place) ≡ false) × (k ≢ place) → HasEpochs s k count (slice_index_or (map epochs_of ps) k [])
    go k l (inl (t, q)) =
        let here : slice_index_or (map epochs_of ps) k [] ≡ epochs_of o =
        ap (λ xs. slice_index_or xs k []) shown ∙ ap (λ n. slice_index_or (map epochs_of os ++ epochs_of o ∷ []) n []) (q ∙ sym size) ∙ at_last (map epochs_of os) (epochs_of o) in
        subst (λ xs. HasEpochs s k count xs) (sym here) (subst (λ n. HasEpochs s n count (epochs_of o)) (sym q) new)
    go k l (inr (t, q)) =
        let less : k < place = omega (arith, l, q) in
        let there : k < length (map epochs_of os) = omega (arith, less, size) in
        subst (λ xs. HasEpochs s k count xs) (sym (ap (λ xs. slice_index_or xs k []) shown ∙ at_before (map epochs_of os) (epochs_of o) k there)) (below.each k less)

pub below_all : (s : Shown) (count place : ℕ) (outputs : List GraphOutput) (os : List OutputEpochs) → AreBelow s count outputs place os → (output epoch : ℕ) → output < place → epoch < count → records_of os output epoch ≡ emitted_at s output epoch
below_all s count place outputs os below output epoch l lt = (below.each output l).each epoch lt
