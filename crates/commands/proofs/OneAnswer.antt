-- A query and an input have one answer.
use Rattle.std.proofs.Common.{◌≡◌, ◌<◌, ◌∙◌, ℕ, List, length, ap, subst, arith}
use Rattle.std.proofs.lemmas.List.{length-map}
use Rattle.semantics.specs.Multiset.{Record, ◌≈◌}
use Rattle.semantics.specs.Query.{Input, Output, Program}
use Rattle.semantics.specs.Meaning.{program_meaning}
use Rattle.collector.specs.InputText.{IsInputText}
use Rattle.collector.specs.OutputText.{IsTextFrom}
use Rattle.compile.specs.Queries.{output_names}
use Rattle.commands.specs.Runs.{IsRun}
use Rattle.commands.proofs.Answering.{meant_alike}
use Rattle.compile.proofs.OneGraph.{same_program}

module _ (back : (xs ys : List Record) → xs ≈ ys → ys ≈ xs) (onward : (xs ys zs : List Record) → xs ≈ ys → ys ≈ zs → xs ≈ zs)
    (one_input : (inputs : List Input) (text : List ℕ) (m n : ℕ) (r s : ℕ → ℕ → List Record) → IsInputText inputs text m r → IsInputText inputs text n s → (m ≡ n) × ((epoch input : ℕ) → r epoch input ≡ s epoch input))
    (one_text : (names : List (List ℕ)) (r s : (output epoch : ℕ) → List Record) (count : ℕ) (t u : List ℕ) → ((output epoch : ℕ) → output < length names → epoch < count → r output epoch ≈ s output epoch) → IsTextFrom names r 0 count t → IsTextFrom names s 0 count u → t ≡ u) where
  pub one_answer : (query input t u : List ℕ) → IsRun query input t → IsRun query input u → t ≡ u
  one_answer query input t u a b =
      let program : a.program ≡ b.program = same_program query a.program b.program a.reads b.reads in
      let epochs = one_input b.program.inputs input a.count b.count a.records b.records (subst (λ (p : Program). IsInputText p.inputs input a.count a.records) program a.epochs) b.epochs in
      let r = a.answer.emitted in
      let s = b.answer.emitted in
      let first : IsTextFrom (output_names b.program) r 0 b.count t = subst (λ n. IsTextFrom (output_names b.program) r 0 n t) epochs.0 (subst (λ p. IsTextFrom (output_names p) r 0 a.count t) program a.answer.is_text) in
      one_text (output_names b.program) r s b.count t u (λ k epoch there lt.
      let here : epoch < a.count = (let count = epochs.0 in omega (arith, lt, count)) in
      let place : k < length b.program.outputs = (let n = length-map b.program.outputs (λ (o : Output). o.name) in omega (arith, there, n)) in
      let first_place : k < length a.program.outputs = (let n = ap (λ (p : Program). length p.outputs) program in omega (arith, place, n)) in
      let meant : program_meaning a.program k (a.records epoch) ≡ program_meaning b.program k (b.records epoch) =
      meant_alike a.program k (a.records epoch) (b.records epoch) (λ i below. epochs.1 epoch i) ∙ ap (λ p. program_meaning p k (b.records epoch)) program in
      onward (r k epoch) (program_meaning b.program k (b.records epoch)) (s k epoch) (subst (λ m. r k epoch ≈ m) meant (a.answer.meant k epoch first_place here)) (back (s k epoch) (program_meaning b.program k (b.records epoch)) (b.answer.meant k epoch place lt)))
      first b.answer.is_text
