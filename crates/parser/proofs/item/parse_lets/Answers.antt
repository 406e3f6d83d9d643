use Rattle.std.proofs.Common.{arith, rules, ◌≡◌, max}
use Rattle.std.proofs.lemmas.List.{map-append}
use Rattle.expr_tree.specs.Views.{let_tree}
use Rattle.grammar.specs.Phrases.{Unread}
use Rattle.grammar.specs.Programs.{Lets}
use Rattle.grammar.specs.Texts.{max_height}
use Rattle.parser.specs.Items.{Binds}
use Rattle.parser.proofs.Faults.{denied_with, passed_on}
use Rattle.parser.proofs.Items.{lets_begin, lets_go_on, lets_end, lets_unread}
use Rattle.parser.proofs.item.parse_lets.Goals as goal

pub items-init : goal.items-init
items-init g c = record { on = lets_begin _ _ let_tree c.new-lets.result.items c.new-lets.ensures.items; low = omega arith; most = omega arith }

pub returns-in_err-next-clause-denied : goal.returns-in_err-next-clause-denied
returns-in_err-next-clause-denied g c =
    passed_on c.from_residual.result c.in_err-next.field-0.0 (Unread (Lets c.args.text.now) c.args.tokens.now) max_height (search rules)
    (denied_with (Unread (Binds c.args.text.now) c.in-Some.after.now) (Unread (Lets c.args.text.now) c.args.tokens.now) c.in_err-next.field-0.0 max_height
    (λ m u. lets_unread _ _ _ _ _ _ _ m c.items.invariant.on c.in-Some.ensures u) c.in_err-next.ensures.denied)

pub items-preserved : goal.items-preserved
items-preserved g c =
    let m : c.max-height.result ≡ max c.in_ok-next.other c.items.height = omega arith in
    record {
      on = lets_go_on _ _ _ _ _ _ _ _ _ _ _ _ c.items.invariant.on c.in-Some.ensures c.in_ok-next.ensures.found (rw c.in_ok-push.ensures.items (simp map-append)) m;
      low = omega (arith, c.items.invariant.low);
      most = omega (arith, c.in_ok-next.ensures.low, c.items.invariant.most);
    }

pub returns-clause-found : goal.returns-clause-found
returns-clause-found g c = lets_end _ _ _ _ _ c.items.invariant.low c.items.invariant.on c.in_default.ensures
