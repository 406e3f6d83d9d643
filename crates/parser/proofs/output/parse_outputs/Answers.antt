use Rattle.std.proofs.Common.{arith, rules, ◌≡◌, ◌<◌, length, max}
use Rattle.std.proofs.lemmas.List.{map-append}
use Rattle.expr_tree.specs.Views.{output_tree}
use Rattle.grammar.specs.Phrases.{Unread}
use Rattle.grammar.specs.Programs.{OutputAt}
use Rattle.grammar.specs.Texts.{max_height}
use Rattle.parser.specs.Items.{NoOutputs}
use Rattle.parser.proofs.Faults.{denied_with, passed_on}
use Rattle.parser.proofs.Outputs.{outputs_begin, outputs_go_on, outputs_end, outputs_unread}
use Rattle.parser.proofs.output.parse_outputs.Goals as goal

pub items-init : goal.items-init
items-init g c = record { on = outputs_begin _ _ output_tree c.new-outputs.result.items c.new-outputs.ensures.items; most = omega arith }

pub returns-in_err-next-clause-denied : goal.returns-in_err-next-clause-denied
returns-in_err-next-clause-denied g c =
    passed_on c.from_residual.result c.in_err-next.field-0.0 (NoOutputs c.args.text.now c.args.tokens.now) max_height (search rules)
    (denied_with (Unread (OutputAt c.args.text.now) c.items.rest.now) (NoOutputs c.args.text.now c.args.tokens.now) c.in_err-next.field-0.0 max_height
    (λ m u. outputs_unread _ _ _ _ _ m c.items.invariant.on u) c.in_err-next.ensures.denied)

pub returns-then-is_empty-clause-found : goal.returns-then-is_empty-clause-found
returns-then-is_empty-clause-found g c =
    let none : length c.in_ok-next.others.now ≡ 0 = grind (arith, c.if-is_empty.true, c.is_empty.ensures) in
    let m : c.max-height.result ≡ max c.items.height c.in_ok-next.other = omega arith in
    outputs_end _ _ _ _ _ _ _ _ _ _ c.items.invariant.on c.in_ok-next.ensures.found none (rw c.in_ok-push.ensures.items (simp map-append)) m

pub items-preserved : goal.items-preserved
items-preserved g c =
    let some : 0 < length c.in_ok-next.others.now = grind (arith, c.if-is_empty.false, c.is_empty.ensures) in
    let m : c.max-height.result ≡ max c.in_ok-next.other c.items.height = omega arith in
    record {
      on = outputs_go_on _ _ _ _ _ _ _ _ _ _ c.items.invariant.on c.in_ok-next.ensures.found some (rw c.in_ok-push.ensures.items (simp map-append)) m;
      most = omega (arith, c.in_ok-next.ensures.low, c.items.invariant.most);
    }
