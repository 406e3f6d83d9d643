use Rattle.std.proofs.Common.{rules, ◌≡◌, ◌++◌, ◌+◌, [], ◌∷◌, pos, get_or, drop, sym, ◌∙◌, ap, w64, FitsSigned}
use Rattle.std.proofs.Math.Facts.{to_z-of_z}
use Rattle.std.proofs.lemmas.List.{drop_more}
use Rattle.std.proofs.Math.ListN.{drop_of_length-le}
use Rattle.csv_cells.proofs.Rows.{line-step, line-end}
use Rattle.csv_cells.specs.Encoded.{numbers_text}
use Rattle.csv_cells.proofs.encoding.append_line.Goals as goal

pub loop-i-preserved : goal.loop-i-preserved
loop-i-preserved c =
    let z = get_or c.args.numbers.now c.loop-i.i (pos 0) in
    let fits : FitsSigned w64 z = search rules in
    let d : drop c.loop-i.i c.args.numbers.now ≡ z ∷ drop (c.loop-i.i + 1) c.args.numbers.now = drop_more c.args.numbers.now c.loop-i.i (pos 0) c.loop-i-test.true in
    ap (λ x. x ++ numbers_text (drop (c.loop-i.i + 1) c.args.numbers.now)) (rw (to_z-of_z fits) at c.in_ok-push_number.ensures) ∙ sym (line-step (drop (c.loop-i.i + 1) c.args.numbers.now) z c.loop-i.out.items)
    ∙ ap (λ zs. c.loop-i.out.items ++ numbers_text zs) (sym d) ∙ c.loop-i.invariant

pub returns : goal.returns
returns c =
    let e = c.in_ok-push.ensures.items in
    let d : drop c.loop-i.i c.args.numbers.now ≡ [] = drop_of_length-le c.args.numbers.now (search (rules, c.loop-i-test.false)) in
    e ∙ sym (line-end c.loop-i.out.items) ∙ ap (λ zs. c.loop-i.out.items ++ numbers_text zs) (sym d) ∙ c.loop-i.invariant
