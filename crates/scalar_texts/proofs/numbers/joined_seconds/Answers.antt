use Rattle.std.proofs.Common.{◌∙◌, ℕ, pos, Some, sym, ap, arith}
use Rattle.scalar_texts.proofs.Joined.{time-parts, seconds-read}
use Rattle.scalar_texts.proofs.numbers.joined_seconds.Goals as goal

pub returns : goal.returns
returns c = λ z e.
    let p = time-parts z c.args.text.now e in
    let w = seconds-read p.0 c.joined-hours.result c.joined-minutes.result c.joined-seconds.result c.args.text.now p.2 p.3 c.joined-hours.ensures c.joined-minutes.ensures c.joined-seconds.ensures in
    c.signed.ensures.small (omega (arith, w, p.2)) ∙ ap (λ (x : ℕ). Some (pos x)) w ∙ ap Some (sym p.1)
