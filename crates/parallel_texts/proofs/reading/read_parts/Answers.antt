use Rattle.std.proofs.Common.{◌≡◌, ◌∙◌, ◌++◌, ℕ, List, map, subst, take-append-drop}
use Rattle.std.specs.Prelude.{IfSome}
use Rattle.std.specs.List.{AllZip}
use Rattle.record_core.specs.Inputs.{input_of}
use Rattle.collector.specs.InputText.{IsReadFrom}
use Rattle.collector.specs.Parts.{IsPart, together}
use Rattle.parallel_texts.proofs.Parts.{all_shown}
use Rattle.parallel_texts.proofs.reading.read_parts.Goals as goal

pub returns : goal.returns
returns g c =
    let inputs = map input_of c.args.inputs.now in
    let head : List ℕ = c.split_at.result.0.now in
    let cuts : List (List ℕ) = map (λ r. r.now) c.in-Ok-cut_lines.texts.items in
    let each : AllZip (IsPart inputs 1) cuts c.in-Ok-read_side_by_side.parts.items =
    all_shown (IsPart inputs 1) (λ r. r.now) c.in-Ok-cut_lines.texts.items c.in-Ok-read_side_by_side.parts.items (rw (← c.as_slice.ensures.value) c.in-Ok-read_side_by_side.ensures) in
    let whole : head ++ together cuts ≡ c.args.text.now =
    (λ i. c.split_at.ensures.front i ++ (c.in-Ok-cut_lines.ensures ∙ c.split_at.ensures.back) i) ∙ take-append-drop _ c.args.text.now in
    subst (λ (t : List ℕ). IfSome c.join_parts.result (IsReadFrom inputs t)) whole (c.join_parts.ensures inputs head cuts c.in-Ok.ensures.read each)
