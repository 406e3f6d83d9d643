use Rattle.std.proofs.Common.{◌≡◌, ◌∙◌, ℕ, ℤ, List, Option, Some, None, Result, Ok, Err, IfOk, IfNone, sym, subst, arith}
use Rattle.csv_cells.specs.Cells.{Spells}
use Rattle.csv_cells.specs.Texts.{texts_of}
use Rattle.csv_answers.specs.Answers.{words_text}
use Rattle.csv_answers.proofs.Cut.{words-once}
use Rattle.csv_answers.proofs.decoding.cells_of.Goals as goal

if-ok-none : {T E : Type 0} {P Q : Type 0} (r : Result (Option T) E) → (P → Q) → IfOk r (λ o. IfNone o P) → IfOk r (λ o. IfNone o Q)
if-ok-none (Ok None) f p = f p
if-ok-none (Ok (Some x)) f p = tt
if-ok-none (Err e) f p = tt

pub returns-in-None-clause-none : goal.returns-in-None-clause-none
returns-in-None-clause-none c = λ cells h. (rw c.in-None.is at c.in_ok-numbers.ensures.none) h.0 (λ i below. h.2.fit i (omega (arith, below, h.2.counted))) h.1

pub returns-in-Some-clause-none : goal.returns-in-Some-clause-none
returns-in-Some-clause-none c =
    let line : List ℕ = c.args.line.now in
    let numbers : List ℤ = c.in-Some.numbers.items in
    let found : line ≡ words_text numbers = rw c.in-Some.is at c.in_ok-numbers.ensures.found in
    let fit = rw c.in-Some.is at c.in_ok-numbers.ensures.fit in
    if-ok-none c.write_row.result
    (λ none cells h.
    let same : h.0 ≡ numbers = words-once h.0 numbers (λ i below. h.2.fit i (omega (arith, below, h.2.counted))) fit (sym h.1 ∙ found) in
    none cells (subst (λ (zs : List ℤ). Spells c.args.columns.now (texts_of c.args.dictionary.now) cells zs) (same ∙ sym c.as_slice.ensures.value) h.2))
    c.write_row.ensures.none
