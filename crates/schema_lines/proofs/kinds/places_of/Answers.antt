use Rattle.std.proofs.Common.{rules, ◌≡◌, ◌<◌, ◌≤◌, ◌^◌, ◌++◌, Some, codes, decimal, sym, ◌∙◌, ap, arith}
use Rattle.std.proofs.lemmas.List.{append_cancel_left, append_cancel_right}
use Rattle.std.proofs.lemmas.Fmt.{decimal_injective}
use Rattle.schema_lines.proofs.SaidLines.{prefix-some, suffix-some}
use Rattle.schema_lines.proofs.kinds.places_of.Goals as goal

pub returns-in-Ok-clause-read : goal.returns-in-Ok-clause-read
returns-in-Ok-clause-read c = λ p low high is.
    let front = prefix-some c.args.word.now (codes "decimal(") c.in_ok-strip_prefix.field-0 c.in_ok-strip_prefix.ensures.cases in
    let end = suffix-some c.in_ok-strip_prefix.field-0.now (codes ")") c.in_ok-strip_suffix.field-0 c.in_ok-strip_suffix.ensures.cases in
    let inner = append_cancel_left (codes "decimal(") c.in_ok-strip_prefix.field-0.now (decimal p ++ codes ")") (sym front ∙ is) in
    let digits = append_cancel_right c.in_ok-strip_suffix.field-0.now (decimal p) (codes ")") (sym end ∙ inner) in
    let fits : c.in_ok-places.places < 2 ^ 64 = search rules in
    let same : c.in_ok-places.places ≡ p = decimal_injective _ p fits (omega arith) (sym c.in_ok-places.ensures.found ∙ digits) in
    ap Some (search (rules, same))

pub returns-in_default-clause-read : goal.returns-in_default-clause-read
returns-in_default-clause-read c = λ p low high is.
    let front = prefix-some c.args.word.now (codes "decimal(") c.in_ok-strip_prefix.field-0 c.in_ok-strip_prefix.ensures.cases in
    let end = suffix-some c.in_ok-strip_prefix.field-0.now (codes ")") c.in_ok-strip_suffix.field-0 c.in_ok-strip_suffix.ensures.cases in
    let inner = append_cancel_left (codes "decimal(") c.in_ok-strip_prefix.field-0.now (decimal p ++ codes ")") (sym front ∙ is) in
    let digits = append_cancel_right c.in_ok-strip_suffix.field-0.now (decimal p) (codes ")") (sym end ∙ inner) in
    let fits : c.in_ok-places.places < 2 ^ 64 = search rules in
    let same : c.in_ok-places.places ≡ p = decimal_injective _ p fits (omega arith) (sym c.in_ok-places.ensures.found ∙ digits) in
    let far : 18 < c.in_ok-places.places = search rules in absurd (omega arith)

pub returns-in_default-2-clause-read : goal.returns-in_default-2-clause-read
returns-in_default-2-clause-read c = λ p low high is.
    let front = prefix-some c.args.word.now (codes "decimal(") c.in_ok-strip_prefix.field-0 c.in_ok-strip_prefix.ensures.cases in
    let end = suffix-some c.in_ok-strip_prefix.field-0.now (codes ")") c.in_ok-strip_suffix.field-0 c.in_ok-strip_suffix.ensures.cases in
    let inner = append_cancel_left (codes "decimal(") c.in_ok-strip_prefix.field-0.now (decimal p ++ codes ")") (sym front ∙ is) in
    let digits = append_cancel_right c.in_ok-strip_suffix.field-0.now (decimal p) (codes ")") (sym end ∙ inner) in
    let fits : c.in_ok-places.places < 2 ^ 64 = search rules in
    let same : c.in_ok-places.places ≡ p = decimal_injective _ p fits (omega arith) (sym c.in_ok-places.ensures.found ∙ digits) in
    let far : c.in_ok-places.places < 1 = search rules in absurd (omega arith)

pub returns-in_default-3-clause-read : goal.returns-in_default-3-clause-read
returns-in_default-3-clause-read c = λ p low high is.
    let front = prefix-some c.args.word.now (codes "decimal(") c.in_ok-strip_prefix.field-0 c.in_ok-strip_prefix.ensures.cases in
    let end = suffix-some c.in_ok-strip_prefix.field-0.now (codes ")") c.in_ok-strip_suffix.field-0 c.in_ok-strip_suffix.ensures.cases in
    let inner = append_cancel_left (codes "decimal(") c.in_ok-strip_prefix.field-0.now (decimal p ++ codes ")") (sym front ∙ is) in
    let digits = append_cancel_right c.in_ok-strip_suffix.field-0.now (decimal p) (codes ")") (sym end ∙ inner) in
    let fits : c.in_ok-places.places < 2 ^ 64 = search rules in
    let same : c.in_ok-places.places ≡ p = decimal_injective _ p fits (omega arith) (sym c.in_ok-places.ensures.found ∙ digits) in
    let far : 256 ≤ c.in_ok-places.places = search rules in absurd (omega arith)
