use Rattle.std.proofs.Common.{rules, pos, get_or, subst, sym, take, FitsSigned, w64, arith}
use Rattle.std.proofs.lemmas.List.{take_all, take_more}
use Rattle.collector.specs.Quick.{Fit}
use Rattle.collector.proofs.QuickRows.{fit_more}
use Rattle.collector.proofs.piecewise.law_fit.Goals as goal

pub loop-i-preserved : goal.loop-i-preserved
loop-i-preserved c =
    let row = c.args.row.now in
    let z = get_or row c.loop-i.i (pos 0) in
    let fits : FitsSigned w64 z = search rules in
    subst Fit (sym (take_more row c.loop-i.i (pos 0) c.loop-i-test.true)) (fit_more (take c.loop-i.i row) z c.loop-i.invariant fits)

pub returns : goal.returns
returns c = subst Fit (take_all c.loop-i.i c.args.row.now (omega (arith, c.loop-i-test.false))) c.loop-i.invariant
