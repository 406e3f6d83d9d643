use Rattle.std.proofs.Common.{◌≡◌, ◌∙◌, ℕ, List, pos, Some, ap, arith}
use Rattle.scalar_texts.specs.Numbers.{joined}
use Rattle.scalar_texts.proofs.Joined.{joined-small}
use Rattle.scalar_texts.proofs.numbers.part_of.Goals as goal

pub returns : goal.returns
returns c = λ n lt e.
    let value : joined 0 c.args.text.now ≡ n = ap (λ (t : List ℕ). joined 0 t) e ∙ joined-small 2 n lt in
    let same : c.joined.result ≡ n = c.joined.ensures (omega (arith, value, lt)) ∙ value in
    c.part.ensures (omega (arith, same, lt)) ∙ ap (λ (x : ℕ). Some (pos x)) same
