use Rattle.std.proofs.Common.{rules, ℕ, List, sym, ◌∙◌, subst}
use Rattle.schema_lines.specs.Lines.{IsAroundFirst}
use Rattle.schema_lines.specs.Words.{Lacks}
use Rattle.schema_lines.proofs.Spelled.{first-same, lacks-none}
use Rattle.schema_lines.proofs.lines.cut_line.Goals as goal

pub returns-in-Some-clause-cut : goal.returns-in-Some-clause-cut
returns-in-Some-clause-cut c = λ l r lacks is.
    let found : IsAroundFirst 10 c.args.text.now c.in-Some.line.now c.in-Some.rest.now = search rules in
    let same = first-same 10 c.in-Some.line.now c.in-Some.rest.now l r (sym found.0 ∙ is) found.1 lacks in
    (same.0, same.1)

pub returns-in-None-clause-cut : goal.returns-in-None-clause-cut
returns-in-None-clause-cut c = λ l r lacks is.
    let L : List ℕ → Type 0 = λ t. Lacks 10 t in
    absurd (lacks-none 10 l r (subst L is c.in-None.ensures.none))
