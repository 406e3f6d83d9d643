use Rattle.std.proofs.Common.{◌∙◌, FitsSigned, w64, rules}
use Rattle.std.proofs.Math.Facts.{to_z-of_z}
use Rattle.std.proofs.lemmas.Result.{IfOk-weaker}
use Rattle.scalar_texts.proofs.LastDigits.{date_written, day_in}
use Rattle.scalar_texts.proofs.digits.push_date.Goals as goal

pub returns : goal.returns
returns c =
    let fits : FitsSigned w64 c.args.z = search rules in
    IfOk-weaker c.push_civil.result _ _ (λ b w. date_written c.in-Ok.date c.args.z _ _ b (c.in-Ok.ensures.value ∙ to_z-of_z fits) w) c.push_civil.ensures

pub returns-in_default : goal.returns-in_default
returns-in_default c =
    let fits : FitsSigned w64 c.args.z = search rules in
    λ text is.
    let never = c.in_default.ensures.succeeds.1 (rw (to_z-of_z fits) (day_in c.args.z text is)) in
    cc never
