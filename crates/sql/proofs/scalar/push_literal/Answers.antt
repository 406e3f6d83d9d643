use Rattle.std.proofs.Common.{◌++◌, codes, sym, ap, ◌∙◌}
use Rattle.std.specs.Fmt.{signed_decimal}
use Rattle.std.specs.Int.{int_wrap}
use Rattle.std.proofs.lemmas.Int.{int_wrap_fits, to_z-of_z}
use mir.Syntax.{w64}
use Rattle.sql.proofs.Texts.{ends_three}
use Rattle.sql.proofs.scalar.push_literal.Goals as goal

pub returns : goal.returns
returns c =
    let z = to_z-of_z w64 c.args.number c.ranges.number ∙ sym (int_wrap_fits w64 c.args.number c.ranges.number) in
    ends_three c.push-2.result c.args.text.now.items _ _ _ (codes "CAST(") (signed_decimal (int_wrap w64 c.args.number)) (codes " AS BIGINT)") c.in_ok-push.ensures
    (c.in_ok-push_signed.ensures ∙ ap (λ z. c.push.new.text.items ++ signed_decimal z) z) c.push-2.ensures
