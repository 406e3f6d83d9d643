use Rattle.std.proofs.Common.{◌≡◌, ◌++◌, ◌∷◌, ◌+◌, ◌∙◌, [], ℕ, List, get_or, take, take_all, ap, sym, subst, arith}
use Rattle.std.proofs.lemmas.List.{take_more}
use Rattle.csv_cells.specs.Texts.{IsAdded, texts_of}
use Rattle.schema.specs.declared.tables.Constant.{Constant}
use Rattle.tables.specs.Inputs.{AreAdded}
use Rattle.tables.proofs.Joined.{added-push, none-added}
use Rattle.tables.proofs.encoding.number_constants.Goals as goal

pub loop-i-init : goal.loop-i-init
loop-i-init c = record { added = none-added (texts_of c.args.dictionary.now) }

pub loop-i-preserved : goal.loop-i-preserved
loop-i-preserved c =
    let constants : List Constant = c.args.constants.now in
    let i : ℕ = c.loop-i.i in
    let constant : Constant = c.index-constants-i.result in
    let old : List (List ℕ) = texts_of c.args.dictionary.now in
    let new : List (List ℕ) = texts_of c.number.new.self in
    let at : get_or constants i constant ≡ constant = sym c.index-constants-i.is in
    let here : IsAdded constant.text.items (texts_of c.loop-i.dictionary) new =
    subst (λ (t : List ℕ). IsAdded t (texts_of c.loop-i.dictionary) new) (c.as_slice.ensures.value ∙ ap (λ (k : Constant). k.text.items) at) c.in_ok-number.ensures.added in
    let more : take i constants ++ constant ∷ [] ≡ take (i + 1) constants = sym (rw at at (take_more constants i constant c.loop-i-test.true)) in
    record { added = subst (λ (cs : List Constant). AreAdded cs old new) more (added-push (take i constants) constant old (texts_of c.loop-i.dictionary) new c.loop-i.invariant.added here) }

pub returns : goal.returns
returns c =
    let all : take c.loop-i.i c.args.constants.now ≡ c.args.constants.now = take_all c.loop-i.i c.args.constants.now (omega (arith, c.loop-i-test.false)) in
    subst (λ (cs : List Constant). AreAdded cs (texts_of c.args.dictionary.now) (texts_of c.loop-i.dictionary)) all c.loop-i.invariant.added
