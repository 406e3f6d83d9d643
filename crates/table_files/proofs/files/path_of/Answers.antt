use Rattle.std.proofs.Common.{◌≡◌, ◌++◌, ◌∷◌, ◌∙◌, Some, sym, ap, arith}
use Rattle.std.proofs.lemmas.Slice.Eq.{bytes_eq-Decides}
use Rattle.std.proofs.lemmas.Str.Pattern.{split_parts}
use Rattle.table_files.proofs.files.path_of.Goals as goal

pub returns-then-eq : goal.returns-then-eq
returns-then-eq c =
    let same : c.as_bytes.result.now ≡ c.args.name.now = (bytes_eq-Decides c.as_bytes.result.now c.args.name.now).0
    (sym c.eq.ensures ∙ c.if-eq.true) in
    let parts = split_parts 61 c.args.word.now (Some (c.in_ok-key.key, c.in_ok-key.path)) c.in_ok-key.ensures.cases (omega arith) in
    parts.0 ∙ ap (λ t. t ++ 61 ∷ c.in_ok-key.path.now) (sym c.as_bytes.ensures.value ∙ same)
