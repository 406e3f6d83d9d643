use Rattle.std.proofs.Common.{rules, ◌++◌, ◌∷◌, [], codes, refl, sym, ◌∙◌}
use Rattle.std.proofs.lemmas.List.{append_cancel_left, append_cancel_right}
use Rattle.schema_lines.specs.Lines.{IsAroundFirst, IsPart}
use Rattle.schema_lines.specs.Words.{Lacks}
use Rattle.schema_lines.proofs.SaidLines.{name-first, name-same, part-wider, prefix-none, prefix-some, suffix-none, suffix-some}
use Rattle.schema_lines.proofs.lines.constant_line.Goals as goal

pub returns-in_default-clause-read : goal.returns-in_default-clause-read
returns-in_default-clause-read c = λ name text named is.
    let lacks : Lacks 32 c.args.rest.now = search rules in
    name-first name (codes "= \"" ++ (text ++ codes "\"")) c.args.rest.now is lacks

pub returns-in-None-clause-read : goal.returns-in-None-clause-read
returns-in-None-clause-read c = λ name text named is.
    let cut : IsAroundFirst 32 c.args.rest.now c.in-Some.name.now c.in-Some.words.now = search rules in
    let same = name-same name (codes "= \"" ++ (text ++ codes "\"")) c.args.rest.now c.in-Some.name.now c.in-Some.words.now named is cut.0 cut.1 in
    prefix-none c.in-Some.words.now (codes "= \"") (text ++ codes "\"") c.in-None.ensures.cases same.1

pub returns-in-None-strip_suffix-clause-read : goal.returns-in-None-strip_suffix-clause-read
returns-in-None-strip_suffix-clause-read c = λ name text named is.
    let cut : IsAroundFirst 32 c.args.rest.now c.in-Some.name.now c.in-Some.words.now = search rules in
    let same = name-same name (codes "= \"" ++ (text ++ codes "\"")) c.args.rest.now c.in-Some.name.now c.in-Some.words.now named is cut.0 cut.1 in
    let front = prefix-some c.in-Some.words.now (codes "= \"") c.in-Some-strip_prefix.text c.in-Some-strip_prefix.ensures.cases in
    let quoted = append_cancel_left (codes "= \"") c.in-Some-strip_prefix.text.now (text ++ codes "\"") (sym front ∙ same.1) in
    suffix-none c.in-Some-strip_prefix.text.now (codes "\"") text c.in-None-strip_suffix.ensures.cases quoted

pub returns-in-Some-strip_suffix-clause-read : goal.returns-in-Some-strip_suffix-clause-read
returns-in-Some-strip_suffix-clause-read c = λ name text named is.
    let cut : IsAroundFirst 32 c.args.rest.now c.in-Some.name.now c.in-Some.words.now = search rules in
    let same = name-same name (codes "= \"" ++ (text ++ codes "\"")) c.args.rest.now c.in-Some.name.now c.in-Some.words.now named is cut.0 cut.1 in
    let front = prefix-some c.in-Some.words.now (codes "= \"") c.in-Some-strip_prefix.text c.in-Some-strip_prefix.ensures.cases in
    let quoted = append_cancel_left (codes "= \"") c.in-Some-strip_prefix.text.now (text ++ codes "\"") (sym front ∙ same.1) in
    let end = suffix-some c.in-Some-strip_prefix.text.now (codes "\"") c.in-Some-strip_suffix.text c.in-Some-strip_suffix.ensures.cases in
    rw (same.0, append_cancel_right c.in-Some-strip_suffix.text.now text (codes "\"") (sym end ∙ quoted)) refl

pub returns-in-Some-strip_suffix-clause-right : goal.returns-in-Some-strip_suffix-clause-right
returns-in-Some-strip_suffix-clause-right c =
    let cut : IsAroundFirst 32 c.args.rest.now c.in-Some.name.now c.in-Some.words.now = search rules in
    let front = prefix-some c.in-Some.words.now (codes "= \"") c.in-Some-strip_prefix.text c.in-Some-strip_prefix.ensures.cases in
    let end = suffix-some c.in-Some-strip_prefix.text.now (codes "\"") c.in-Some-strip_suffix.text c.in-Some-strip_suffix.ensures.cases in
    let inner : IsPart c.in-Some-strip_suffix.text.now c.in-Some-strip_prefix.text.now = ([], codes "\"", end) in
    let words : IsPart c.in-Some-strip_suffix.text.now c.in-Some.words.now = part-wider _ _ (codes "= \"") _ front inner in
    part-wider _ (32 ∷ c.in-Some.words.now) c.in-Some.name.now _ cut.0 (part-wider _ c.in-Some.words.now (codes " ") _ refl words)
