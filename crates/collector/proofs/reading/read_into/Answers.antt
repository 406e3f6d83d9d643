use Rattle.std.proofs.Common.{◌≡◌, ◌∙◌, ℕ, List, [], sym, subst, refl, map, ◌∷◌}
use Rattle.std.proofs.lemmas.List.{length-map}
use Rattle.record_core.specs.Inputs.{input_of}
use Rattle.collector.specs.Pieces.{split_on}
use Rattle.collector.specs.Said.{item_of}
use Rattle.collector.specs.Lines.{Says, IsFault}
use Rattle.collector.proofs.LinesRead.{all_read, nothing_read, no_rest, some_rest, can_take, next_read}
use Rattle.collector.proofs.PiecesRead.{faulty, unended}
use Rattle.collector.proofs.reading.read_into.Goals as goal

pub loop-rest-init : goal.loop-rest-init
loop-rest-init c = nothing_read (map input_of c.args.inputs.now) c.args.text.now c.args.draft c.requires.even (c.requires.inputs ∙ sym (length-map c.args.inputs.now input_of))

pub take_line-requires-clause-can : goal.take_line-requires-clause-can
take_line-requires-clause-can c =
    let inputs = map input_of c.args.inputs.now in
    let line : List ℕ = c.in-Ok.ensures.0 in
    let said : Says inputs c.count.result line (item_of c.in-Ok.said c.as_slice.result.now) = rw c.as_slice.ensures.value c.in-Ok.ensures.3 in
    can_take inputs c.loop-rest.draft line _ c.loop-rest.invariant.tracks (subst (λ (k : ℕ). Says inputs k line (item_of c.in-Ok.said c.as_slice.result.now)) c.count.ensures said)

pub loop-rest-preserved : goal.loop-rest-preserved
loop-rest-preserved c =
    let inputs = map input_of c.args.inputs.now in
    let line : List ℕ = c.in-Ok.ensures.0 in
    let said : Says inputs c.count.result line (item_of c.in-Ok.said c.as_slice.result.now) = rw c.as_slice.ensures.value c.in-Ok.ensures.3 in
    next_read inputs c.args.text.now c.loop-rest.rest.now line c.in-Ok.after.now c.loop-rest.number c.args.draft c.loop-rest.draft c.take_line.new.draft (item_of c.in-Ok.said c.as_slice.result.now) c.loop-rest.invariant c.in-Ok.ensures.1
    c.in-Ok.ensures.2 (subst (λ (k : ℕ). Says inputs k line (item_of c.in-Ok.said c.as_slice.result.now)) c.count.ensures said) c.in_ok-take_line-in-Ok.ensures

pub returns-in-Err-Fault-clause-refused : goal.returns-in-Err-Fault-clause-refused
returns-in-Err-Fault-clause-refused c = λ before records is.
    let inputs = map input_of c.args.inputs.now in
    let found : (line : List ℕ) × (after : List ℕ) × (split_on 10 c.loop-rest.rest.now ≡ line ∷ split_on 10 after) × IsFault inputs c.count.result line c.in-Err-Fault.fault = rw c.in-Err-Fault.field-0-is at c.in-Err-Fault.ensures in
    faulty inputs before c.args.text.now c.loop-rest.rest.now c.loop-rest.number c.args.draft c.loop-rest.draft records is c.loop-rest.invariant found.0 found.1 c.in-Err-Fault.fault c.code.result _ found.2
    (subst (λ (k : ℕ). IsFault inputs k found.0 c.in-Err-Fault.fault) c.count.ensures found.3) (rw c.in-Err-Fault.field-0-is at c.code.ensures) refl

pub returns-clause-read : goal.returns-clause-read
returns-clause-read c =
    let none : c.loop-rest.rest.now ≡ [] = no_rest c.loop-rest.rest.now c.is_empty.result c.is_empty.ensures c.loop-rest-test.false in
    all_read (map input_of c.args.inputs.now) c.args.text.now c.loop-rest.rest.now c.loop-rest.number c.args.draft c.loop-rest.draft c.loop-rest.invariant none

pub returns-in-Err-NoLineFeed-clause-refused : goal.returns-in-Err-NoLineFeed-clause-refused
returns-in-Err-NoLineFeed-clause-refused c = λ before records is.
    let inputs = map input_of c.args.inputs.now in
    let rest = c.loop-rest.rest.now in
    let cut : split_on 10 rest ≡ rest ∷ [] = rw c.in-Err-NoLineFeed.field-0-is at c.in-Err-NoLineFeed.ensures in
    let some = some_rest rest c.is_empty.result c.is_empty.ensures c.loop-rest-test.true in
    unended inputs before c.args.text.now rest c.loop-rest.number c.args.draft c.loop-rest.draft records is c.loop-rest.invariant _ _ cut some refl refl
