-- Records that were read for a graph's inputs have the fields that these take.
use Rattle.std.proofs.Common.{◌≡◌, ◌<◌, ◌+◌, ◌∙◌, ◌⊎◌, ℕ, Bool, true, false, List, [], ◌∷◌, length, refl, sym, ap, subst, arith, inl, inr}
use Rattle.std.specs.Prelude.{◌==◌, ◌&&◌, if◌then◌else◌}
use Rattle.std.proofs.Math.Logic.{∥∥₁_elim}
use Rattle.std.proofs.Math.Nat.{ℕ_set}
use Rattle.std.proofs.lemmas.Bool.Decides.{eqb_tells}
use Rattle.semantics.specs.Multiset.{Record, count, one_if, same}
use Rattle.semantics.proofs.MultisetSums.{Decides-same}
use Rattle.graph.specs.Shown.{GraphValue, shown_inputs}
use Rattle.board.specs.Fitting.{arity_in}
use Rattle.driver.specs.Inputs.{AreInputsOf}
use Rattle.collector.specs.InputText.{IsReadFrom, LinesSay, records_in}
use Rattle.collector.specs.Lines.{Item}
use Rattle.collector.specs.Piecewise.{HasRead, HasStopped}
use Rattle.collector.specs.declared.epochs.Epochs.{Epochs}
use Rattle.collector.specs.declared.input_reader.InputReader.{InputReader}
use Rattle.execution.specs.Single.{Fit}
use Rattle.commands.specs.Taken.{ReadsFor}

module _ (g : GraphValue) (are : AreInputsOf g (shown_inputs g)) (epoch input : ℕ) (r : Record) where
  -- the record is the first one, if that is taken, or among the others
  found : (b : Bool) (zs : Record) (rest : List Record) → 0 < count r (if b then zs ∷ rest else rest) → ((b ≡ true) × (zs ≡ r)) ⊎ (0 < count r rest)
  found false zs rest some = inr some
  found true zs rest some = go (same zs r) refl
    where
      go : (t : Bool) → same zs r ≡ t → ((true ≡ true) × (zs ≡ r)) ⊎ (0 < count r rest)
      go true e = inl (refl, (Decides-same zs r).0 e)
      go false e = inr (let z : 0 < one_if false + count r rest = subst (λ t. 0 < one_if t + count r rest) e some in omega (arith, z))

  input_is : (i : ℕ) (x : Bool) → (input == i) && x ≡ true → input ≡ i
  input_is i x e = elim (eqb_tells input i) [
    | inl yes_way ↦ yes_way.1
    | inr no_way ↦ absurd (let f : false && x ≡ true = subst (λ b. b && x ≡ true) no_way.0 e in cc)
  ]

  said_fit : (n m : ℕ) (lines : List (List ℕ)) (items : List Item) → LinesSay (shown_inputs g) n lines items → 0 < count r (records_in epoch input m items) → length r ≡ arity_in g input
  said_fit n m [] [] say some = absurd (omega (arith, some))
  said_fit n m [] (item ∷ items) say some = absurd say
  said_fit n m (line ∷ lines) [] say some = absurd say
  said_fit n m (line ∷ lines) (Item.epoch ∷ items) say some = said_fit (n + 1) (m + 1) lines items say.1 some
  said_fit n m (line ∷ lines) (Item.row i zs ∷ items) ((name, rest, words, begun, is, record_is, numbers), more) some =
      elim (found ((input == i) && (epoch + 1 == m)) zs (records_in epoch input m items) some) [
        | inl here ↦ ap length (sym here.1) ∙ sym (are.arities i (record { name = name; arity = length zs }) is.there) ∙ ap (arity_in g) (sym (input_is i (epoch + 1 == m) here.0))
        | inr there ↦ said_fit n m lines items more there
      ]

pub reads_fit : (g : GraphValue) (text : List ℕ) (e : Epochs) → AreInputsOf g (shown_inputs g) → IsReadFrom (shown_inputs g) text e → Fit e g
reads_fit g text e are (records, is, same_records) input epoch r some =
    let counts = (same_records epoch input).counts r in
    said_fit g are epoch input r 0 0 is.lines is.items is.said (subst (λ (xs : List Record). 0 < count r xs) (is.holds epoch input) (omega (arith, some, counts)))

-- so do those of what was taken
pub taken_fit : (g : GraphValue) (taken : InputReader) (e : Epochs) → AreInputsOf g (shown_inputs g) → ((text : List ℕ) → HasRead (shown_inputs g) text taken → IsReadFrom (shown_inputs g) text e) → (HasStopped taken → ⊥)
    → ∥ ReadsFor (shown_inputs g) taken ∥₁ → Fit e g
taken_fit g taken e are read going some input epoch r there =
    ∥∥₁_elim some (ℕ_set (length r) (arity_in g input)) (λ reads. elim reads [
      | inl (text, is) ↦ reads_fit g text e are (read text is) input epoch r there
      | inr stopped ↦ absurd (going stopped)
    ])
