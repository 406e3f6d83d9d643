-- The first input of a name.
use Rattle.std.proofs.Common.{◌≡◌, ◌<◌, ◌∙◌, ℕ, List, length, map, Option, Some, None, refl, sym, ap, get_or}
use Rattle.std.specs.Prelude.{slice_get, option_map}
use Rattle.std.proofs.lemmas.Option.{slice_get-map, slice_get-get_or}
use Rattle.record_core.specs.Inputs.{input_of}
use Rattle.record_core.specs.declared.input.DeclaredInput.{DeclaredInput}
use Rattle.semantics.specs.Query.{Input}
use Rattle.collector.specs.Lines.{IsInput, IsAbsent}

of_map : (o : Option DeclaredInput) (input : Input) → option_map input_of o ≡ Some input → (d : DeclaredInput) × (o ≡ Some d) × (input_of d ≡ input)
of_map None input h = absurd (let e : None ≡ Some input = h in cc)
of_map (Some d) input h = (d, refl, (let e : Some (input_of d) ≡ Some input = h in cc))

declared_at : (ds : List DeclaredInput) (k : ℕ) (input : Input) → slice_get (map input_of ds) k ≡ Some input → (d : DeclaredInput) × (slice_get ds k ≡ Some d) × (input_of d ≡ input)
declared_at ds k input h = of_map (slice_get ds k) input (sym (slice_get-map input_of ds k) ∙ h)

abbrev name_of : Input → List ℕ
name_of input = input.name

pub is_absent : (ds : List DeclaredInput) (name : List ℕ) → ((k : ℕ) (d : DeclaredInput) → slice_get ds k ≡ Some d → d.name ≡ name → ⊥) → IsAbsent (map input_of ds) name
is_absent ds name none = record { none = λ k input at e. let d = declared_at ds k input at in none k d.0 d.1 (ap name_of d.2 ∙ e) }

pub is_input : (ds : List DeclaredInput) (name : List ℕ) (i : ℕ) (d : DeclaredInput) → i < length ds → d ≡ get_or ds i d → d.name ≡ name
    → ((k : ℕ) (e : DeclaredInput) → k < i → slice_get ds k ≡ Some e → e.name ≡ name → ⊥) → IsInput (map input_of ds) name i d.arity
is_input ds name i d lt is same first = record {
  there = slice_get-map input_of ds i ∙ ap (option_map input_of) (slice_get-get_or ds i d lt ∙ ap Some (sym is)) ∙ ap (λ (x : List ℕ). Some (record { name = x; arity = d.arity })) same;
  first = λ k input less at e. let f = declared_at ds k input at in first k f.0 less f.1 (ap name_of f.2 ∙ e);
}
