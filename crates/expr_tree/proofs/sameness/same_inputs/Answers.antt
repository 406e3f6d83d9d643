use Rattle.std.proofs.Common.{rules, tests}
use Rattle.std.proofs.lemmas.Iterator.{YieldsList-from_zip, same_from_all}
use Rattle.expr_tree.specs.Plain.{plain_input}
use Rattle.expr_tree.proofs.Seen.{slice-seen, lengths-seen}
use Rattle.expr_tree.proofs.sameness.same_inputs.Goals as goal

pub returns-then-left-right : goal.returns-then-left-right
returns-then-left-right c = same_from_all c.all.new.self _ _ _ _ c.all.ensures.ran (YieldsList-from_zip (slice-seen plain_input c.args.left.now cc) (slice-seen plain_input c.args.right.now cc)) (lengths-seen _ _ c.args.left.now c.args.right.now cc) (λ x q k. search (rules, tests)) (λ x q k. search (rules, tests))
