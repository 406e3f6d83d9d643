use Rattle.std.proofs.Common.{rules, ◌++◌, ◌∷◌, [], codes, sym, ◌∙◌, ap, arith}
use Rattle.std.proofs.lemmas.List.{append_assoc, append_cancel_right}
use Rattle.std.proofs.lemmas.Bool.{both_ways}
use Rattle.std.proofs.lemmas.Bool.Decides.{Decides-eqb}
use Rattle.std.proofs.lemmas.Slice.Eq.{ends_is}
use Rattle.schema_lines.specs.Lines.{IsAroundLast}
use Rattle.schema_lines.specs.Words.{Lacks, kind_text}
use Rattle.schema_lines.proofs.CellBytes.{kind-lacks}
use Rattle.schema_lines.proofs.ColumnLines.{column-case, column-plain, column-space, column-valued}
use Rattle.schema_lines.proofs.SaidLines.{name-first, suffix-none, suffix-some}
use Rattle.schema_lines.proofs.Spelled.{last-same}
use Rattle.schema_lines.proofs.lines.column_parts.Goals as goal

pub returns-in_err-front-clause-read : goal.returns-in_err-front-clause-read
returns-in_err-front-clause-read c = λ name column header right is.
    let lacks : Lacks 32 c.args.words.now = search rules in
    absurd (column-space name column c.args.words.now is lacks)

pub returns-in-None-clause-read : goal.returns-in-None-clause-read
returns-in-None-clause-read c = λ name column header right is.
    let cut : IsAroundLast 32 c.args.words.now c.in_ok-front.front.now c.in_ok-front.last.now = search rules in
    column-plain name column c.in_ok-front.front.now c.in_ok-front.last.now
    (column-case name column c.args.words.now c.in_ok-front.front.now c.in_ok-front.last.now right is cut.0 cut.1)
    (λ before e. suffix-none c.in_ok-front.front.now (codes " or") before c.in-None.ensures.cases e)

pub returns-in_err-name-in-Some-clause-read : goal.returns-in_err-name-in-Some-clause-read
returns-in_err-name-in-Some-clause-read c = λ name column header right is.
    let cut : IsAroundLast 32 c.args.words.now c.in_ok-front.front.now c.in_ok-front.last.now = search rules in
    let ends = suffix-some c.in_ok-front.front.now (codes " or") c.in-Some.front c.in-Some.ensures.cases in
    let valued = column-valued name column c.in_ok-front.front.now c.in_ok-front.last.now c.in-Some.front.now
    (column-case name column c.args.words.now c.in_ok-front.front.now c.in_ok-front.last.now right is cut.0 cut.1) header ends in
    let lacks : Lacks 32 c.in-Some.front.now = search rules in
    absurd (name-first name (kind_text column.kind) c.in-Some.front.now
    (append_cancel_right c.in-Some.front.now (name ++ 32 ∷ kind_text column.kind) (codes " or") (sym ends ∙ valued.0)) lacks)

pub returns-then-ends_with-clause-read : goal.returns-then-ends_with-clause-read
returns-then-ends_with-clause-read c = λ name column header right is.
    let cut : IsAroundLast 32 c.args.words.now c.in_ok-front.front.now c.in_ok-front.last.now = search rules in
    let ends = suffix-some c.in_ok-front.front.now (codes " or") c.in-Some.front c.in-Some.ensures.cases in
    let valued = column-valued name column c.in_ok-front.front.now c.in_ok-front.last.now c.in-Some.front.now
    (column-case name column c.args.words.now c.in_ok-front.front.now c.in_ok-front.last.now right is cut.0 cut.1) header ends in
    let again : IsAroundLast 32 c.in-Some.front.now c.in_ok-name-in-Some.name.now c.in_ok-name-in-Some.kind.now = search rules in
    let same = last-same 32 c.in_ok-name-in-Some.name.now c.in_ok-name-in-Some.kind.now name (kind_text column.kind)
    (sym again.0 ∙ append_cancel_right c.in-Some.front.now (name ++ 32 ∷ kind_text column.kind) (codes " or") (sym ends ∙ valued.0)) again.1
    (kind-lacks 32 column.kind (omega arith) right.0) in
    let tail = (ends_is Decides-eqb c.in_ok-name-in-Some.name.now (codes " or") c.ends_with.result c.ends_with.ensures.value).0 c.if-ends_with.true in
    header.2 _ (sym same.0 ∙ tail)

pub returns-else-ends_with-clause-right : goal.returns-else-ends_with-clause-right
returns-else-ends_with-clause-right c =
    let cut : IsAroundLast 32 c.args.words.now c.in_ok-front.front.now c.in_ok-front.last.now = search rules in
    let ends = suffix-some c.in_ok-front.front.now (codes " or") c.in-Some.front c.in-Some.ensures.cases in
    let again : IsAroundLast 32 c.in-Some.front.now c.in_ok-name-in-Some.name.now c.in_ok-name-in-Some.kind.now = search rules in
    let name = c.in_ok-name-in-Some.name.now in
    let kind = c.in_ok-name-in-Some.kind.now in
    let last = c.in_ok-front.last.now in
    let whole = cut.0 ∙ ap (λ f. f ++ 32 ∷ last) (ends ∙ ap (λ f. f ++ codes " or") again.0)
    ∙ append_assoc (name ++ 32 ∷ kind) (codes " or") (32 ∷ last) ∙ append_assoc name (32 ∷ kind) (codes " or" ++ 32 ∷ last) in (
      ([], (32 ∷ kind) ++ (codes " or" ++ 32 ∷ last), whole),
      λ front e. both_ways c.ends_with.result c.if-ends_with.false
          ((ends_is Decides-eqb name (codes " or") c.ends_with.result c.ends_with.ensures.value).1 front e),
    )

pub returns-else-ends_with-clause-read : goal.returns-else-ends_with-clause-read
returns-else-ends_with-clause-read c = λ name column header right is.
    let cut : IsAroundLast 32 c.args.words.now c.in_ok-front.front.now c.in_ok-front.last.now = search rules in
    let ends = suffix-some c.in_ok-front.front.now (codes " or") c.in-Some.front c.in-Some.ensures.cases in
    let valued = column-valued name column c.in_ok-front.front.now c.in_ok-front.last.now c.in-Some.front.now
    (column-case name column c.args.words.now c.in_ok-front.front.now c.in_ok-front.last.now right is cut.0 cut.1) header ends in
    let again : IsAroundLast 32 c.in-Some.front.now c.in_ok-name-in-Some.name.now c.in_ok-name-in-Some.kind.now = search rules in
    let same = last-same 32 c.in_ok-name-in-Some.name.now c.in_ok-name-in-Some.kind.now name (kind_text column.kind)
    (sym again.0 ∙ append_cancel_right c.in-Some.front.now (name ++ 32 ∷ kind_text column.kind) (codes " or") (sym ends ∙ valued.0)) again.1
    (kind-lacks 32 column.kind (omega arith) right.0) in
    (same.0, same.1, valued.1)
