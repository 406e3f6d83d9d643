use Rattle.std.proofs.Common.{◌≡◌, ◌∙◌, ℕ, pos, neg_ℤ, ap}
use Rattle.scalar_texts.proofs.Joined.{minus-parts, minus-some}
use Rattle.scalar_texts.proofs.numbers.parts_of.Goals as goal

pub returns-in_err-amount_of-in-Some-clause-only : goal.returns-in_err-amount_of-in-Some-clause-only
returns-in_err-amount_of-in-Some-clause-only c = λ z fits e.
    let p = minus-parts c.args.places z c.in-Some.amount.now fits (e ∙ c.in-Some.ensures.some) in
    cc (c.amount_of.ensures.only p.0 p.1 p.2, c.in_err-amount_of-in-Some.was)

pub returns-in_ok-amount_of-in-Some-clause-only : goal.returns-in_ok-amount_of-in-Some-clause-only
returns-in_ok-amount_of-in-Some-clause-only c = λ z fits e.
    let whole = e ∙ c.in-Some.ensures.some in
    let p = minus-parts c.args.places z c.in-Some.amount.now fits whole in
    let same : p.0 ≡ c.in_ok-amount_of-in-Some.field-0 = cc (c.amount_of.ensures.only p.0 p.1 p.2, c.in_ok-amount_of-in-Some.was) in
    c.negated.ensures.only z fits (rw same at (minus-some c.args.places z c.in-Some.amount.now fits whole)) (p.3 ∙ ap (λ (x : ℕ). neg_ℤ (pos x)) same)
