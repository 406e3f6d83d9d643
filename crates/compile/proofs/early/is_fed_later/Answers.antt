use Rattle.std.proofs.Common.{rules, ◌<◌, ◌≡◌, ◌∙◌, true, false, sym, arith}
use Rattle.compile.specs.Early.{is_fed}
use Rattle.compile.proofs.FedEpochs.{any_next, or_false, or_true}
use Rattle.compile.proofs.early.is_fed_later.Goals as goal

pub returns-then-is_fed : goal.returns-then-is_fed
returns-then-is_fed c =
    let more : 1 < c.loop-left.left = omega arith in
    let yes : c.is_fed.result ≡ true = search rules in
    sym (c.loop-left.invariant ∙ any_next (is_fed c.args.epochs.now c.args.input) c.loop-left.left more ∙ or_true _ _ (sym c.is_fed.ensures ∙ yes))

pub loop-left-preserved : goal.loop-left-preserved
loop-left-preserved c =
    let more : 1 < c.loop-left.left = omega arith in
    let no : c.is_fed.result ≡ false = search rules in
    c.loop-left.invariant ∙ any_next (is_fed c.args.epochs.now c.args.input) c.loop-left.left more ∙ or_false _ _ (sym c.is_fed.ensures ∙ no)
