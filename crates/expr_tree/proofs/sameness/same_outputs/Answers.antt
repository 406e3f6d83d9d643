use Rattle.std.proofs.Common.{refl, rules, tests}
use Rattle.std.proofs.lemmas.Iterator.{YieldsList-from_zip, same_from_all}
use Rattle.expr_tree.specs.Plain.{plain_output}
use Rattle.expr_tree.specs.Views.{output_tree}
use Rattle.expr_tree.proofs.Seen.{slice-seen-twice, lengths-seen-twice}
use Rattle.expr_tree.proofs.sameness.same_outputs.Goals as goal

pub returns-then-left-right : goal.returns-then-left-right
returns-then-left-right g c = same_from_all c.all.new.self _ _ _ _ c.all.ensures.ran (YieldsList-from_zip (slice-seen-twice output_tree plain_output c.args.left.now cc) (slice-seen-twice output_tree plain_output c.args.right.now cc)) (lengths-seen-twice _ _ _ _ c.args.left.now c.args.right.now cc) (λ x q k. search (rules, tests, k.met.0 refl)) (λ x q k e. search (rules, tests, k.met.1 e))
