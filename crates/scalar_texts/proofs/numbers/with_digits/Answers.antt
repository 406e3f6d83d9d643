use Rattle.std.proofs.Common.{rules, ◌≡◌, ◌<◌, ◌≤◌, ◌+◌, ◌-◌, ◌*◌, ◌^◌, ◌++◌, ◌∷◌, [], ◌∙◌, ap, sym, ℕ, List, decimal, get_or, take, arith}
use Rattle.std.proofs.lemmas.List.{append_assoc, take_more}
use Rattle.scalar_texts.proofs.Spelled.{decimal-push}
use Rattle.scalar_texts.proofs.numbers.with_digits.Goals as goal

pub loop-i-preserved : goal.loop-i-preserved
loop-i-preserved c =
    let digits : List ℕ = c.args.digits.now in
    let byte : ℕ = get_or digits c.loop-i.i 0 in
    let inv = c.loop-i.invariant in
    let next : c.in_ok-sum.sum ≡ c.loop-i.sum * 10 + (byte - 48) = search rules in
    let low : 48 ≤ byte = search rules in
    let high : byte ≤ 57 = search rules in
    let fits : c.in_ok-sum.sum < 2 ^ 64 = search rules in
    record {
      some = omega (arith, inv.some, next);
      spelled = decimal-push c.loop-i.sum byte c.in_ok-sum.sum (omega (arith, inv.some)) low high next fits ∙ ap (λ (t : List ℕ). t ++ byte ∷ []) inv.spelled
          ∙ append_assoc (decimal c.args.start) (take c.loop-i.i digits) (byte ∷ []) ∙ ap (λ (t : List ℕ). decimal c.args.start ++ t) (sym (take_more digits c.loop-i.i 0 c.loop-i-test.true));
    }
