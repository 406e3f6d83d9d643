use Rattle.std.proofs.Common.{rules, ◌≡◌, ◌≢◌, ◌∙◌, ◌<◌, [], ℕ, List, length, true, refl, sym, ap, subst, arith, inl, inr}
use Rattle.std.proofs.lemmas.List.{append-nil}
use Rattle.csv_cells.specs.Texts.{texts_of}
use Rattle.csv_cells.specs.declared.column.Column.{Column}
use Rattle.csv_answers.specs.Answers.{Adds, Begins, HasCells, IsOfRecord, Where, where_of}
use Rattle.csv_answers.specs.Files.{IsFile}
use Rattle.csv_answers.proofs.Cut.{no-bytes}
use Rattle.csv_answers.proofs.Refused.{no-cells, no-epoch, no-head}
use Rattle.csv_answers.proofs.decoding.write_line.Goals as goal

some-bytes : (l : List ℕ) → 0 < length l → l ≢ []
some-bytes l some e = let none : length l ≡ 0 = ap length e in absurd (omega (arith, some, none))

pub returns-in-Some-clause-none : goal.returns-in-Some-clause-none
returns-in-Some-clause-none c = λ e more next adds.
    no-head c.args.table.now c.args.with_epochs (texts_of c.args.dictionary.now) (where_of c.args.place.now) c.args.line.now more next
    (rw c.in-Some.is at c.take_head.ensures.refused e) (rw c.in-Some.is at c.take_head.ensures.head) adds

pub returns-then-is_empty-clause-none : goal.returns-then-is_empty-clause-none
returns-then-is_empty-clause-none c = λ e more next adds.
    let stays : where_of c.take_head.new.place ≡ where_of c.args.place.now = rw c.in_default.is at c.take_head.ensures.same in
    let other : IsOfRecord c.args.line.now = rw c.in_default.is at c.take_head.ensures.other in
    let none : length c.take_head.new.place.epoch.now ≡ 0 = search rules in
    no-epoch c.args.table.now c.args.with_epochs (texts_of c.args.dictionary.now) (where_of c.args.place.now) next c.args.line.now more other
    (ap (λ (w : Where). w.label) (sym stays) ∙ no-bytes c.take_head.new.place.epoch.now none) adds

pub returns-then-not-place-clause-found : goal.returns-then-not-place-clause-found
returns-then-not-place-clause-found c = λ e rows file.
    let stays : where_of c.take_head.new.place ≡ where_of c.args.place.now = rw c.in_default.is at c.take_head.ensures.same in
    let other : IsOfRecord c.args.line.now = rw c.in_default.is at c.take_head.ensures.other in
    let some : 0 < length c.take_head.new.place.epoch.now = search (rules, c.if-is_empty.false) in
    let off = c.if-not-place.true in
    let adds : Adds c.args.table.now c.args.with_epochs (texts_of c.args.dictionary.now) (where_of c.take_head.new.place) c.args.line.now [] (where_of c.take_head.new.place) =
    inr (other, some-bytes _ some, refl, inl (off, refl)) in
    ([], subst (λ (w : Where). Adds c.args.table.now c.args.with_epochs (texts_of c.args.dictionary.now) w c.args.line.now [] (where_of c.take_head.new.place)) stays adds, rw (append-nil rows) file)

pub returns-in_default-2-clause-none : goal.returns-in_default-2-clause-none
returns-in_default-2-clause-none c = λ e more next adds.
    let stays : where_of c.take_head.new.place ≡ where_of c.args.place.now = rw c.in_default.is at c.take_head.ensures.same in
    let other : IsOfRecord c.args.line.now = rw c.in_default.is at c.take_head.ensures.other in
    let on : c.take_head.new.place.is_asked ≡ true = search rules in
    let none = subst (λ (columns : List Column). (cells : List (List ℕ)) → HasCells columns (texts_of c.args.dictionary.now) c.args.line.now cells → ⊥) c.deref.ensures.value (rw c.in_default-2.is at c.in_ok-cells.ensures.none) in
    no-cells c.args.table.now c.args.with_epochs (texts_of c.args.dictionary.now) (where_of c.args.place.now) next c.args.line.now more other
    (ap (λ (w : Where). w.asked) (sym stays) ∙ on) none adds

pub returns-in-Some-clause-found : goal.returns-in-Some-clause-found
returns-in-Some-clause-found c = λ e rows file.
    let begins : Begins c.args.table.now.name.items c.args.with_epochs c.args.line.now (where_of c.args.place.now) (where_of c.take_head.new.place) =
    rw c.in-Some.is at c.take_head.ensures.begins e in
    ([], inl (begins, refl), rw (append-nil rows) file)
