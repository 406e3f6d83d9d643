use Rattle.std.proofs.Common.{◌≡◌, ◌∙◌, ℕ, List, Vec, Result, Ok, Err, Bor, map, subst, sym}
use Rattle.std.specs.Prelude.{IfOk, MatchResult}
use Rattle.std.specs.List.{AllZip}
use Rattle.std.specs.declared.alloc.Global.{Global}
use Rattle.rayon.proofs.ToStd.{slice-AllZip}
use Rattle.record_core.specs.Inputs.{input_of}
use Rattle.collector.specs.Parts.{IsPart}
use Rattle.collector.specs.declared.epochs.Epochs.{Epochs}
use Rattle.collector.specs.declared.refusal.InputRefusal.{InputRefusal}
use Rattle.parallel_texts.proofs.Parts.{all_made}
use Rattle.parallel_texts.proofs.reading.read_side_by_side.Goals as goal

-- where each text was read, their list is the parts
gathered : (P : Bor (List ℕ) → Epochs → Type 0) (texts : List (Bor (List ℕ))) (made : List (Result Epochs InputRefusal)) (parts : Result (Vec Epochs Global) InputRefusal) (Failed : InputRefusal → Type 0)
    → AllZip (λ t r. IfOk r (P t)) texts made → MatchResult parts (λ v. (es : List Epochs) × (made ≡ map Ok es) × (v.items ≡ es)) Failed → IfOk parts (λ v. AllZip P texts v.items)
gathered P texts made (Ok v) Failed each h = subst (AllZip P texts) (sym h.2) (all_made InputRefusal P texts h.0 (subst (AllZip (λ t r. IfOk r (P t)) texts) h.1 each))
gathered P texts made (Err e) Failed each h = tt

pub returns : goal.returns
returns g c =
    let collected = c.in_ok-collect.ensures in
    let inputs = map input_of c.args.inputs.now in
    let slice = c.par_iter.ensures in
    let chain = rw (c.map.ensures.base, c.map.ensures.f, c.with_min_len.ensures.base) at collected.1 in
    let each = slice-AllZip chain.0 c.args.texts.now (chain.1 ∙ slice) (λ t r. IfOk r (IsPart inputs 1 t.now)) collected.0 chain.2 in
    gathered (λ t e. IsPart inputs 1 t.now e) c.args.texts.now collected.0 c.in_ok-collect.field-0 _ each collected.2
