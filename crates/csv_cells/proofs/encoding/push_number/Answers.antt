use Rattle.std.proofs.Common.{rules, ◌≡◌, ◌++◌, [], ◌∷◌, ◌∙◌, ap, append_assoc, w64, FitsSigned}
use Rattle.std.proofs.Math.Facts.{to_z-of_z}
use Rattle.std.specs.Fmt.{signed_decimal}
use Rattle.csv_cells.proofs.encoding.push_number.Goals as goal

pub returns : goal.returns
returns c =
    let fits : FitsSigned w64 c.args.number = search rules in
    let text : c.format.result.now ≡ signed_decimal c.args.number = c.format.ensures.text ∙ ap signed_decimal (to_z-of_z fits) in
    c.in_ok-extend_from_slice.ensures.items ∙ ap (λ x. x ++ c.as_bytes.result.now) c.in_ok-push.ensures.items ∙ ap (λ x. (c.args.out.now.items ++ 32 ∷ []) ++ x) (c.as_bytes.ensures.value ∙ text)
    ∙ append_assoc c.args.out.now.items (32 ∷ []) (signed_decimal c.args.number)
