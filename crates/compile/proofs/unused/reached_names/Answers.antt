use Rattle.std.proofs.Common.{rules, ◌≡◌, ◌<◌, ◌≤◌, false, true, length, map, refl, sym, ap, subst, ◌∙◌, arith}
use Rattle.std.specs.HashSet.{contains}
use Rattle.std.specs.List.{list_any}
use Rattle.semantics.specs.Meaning.{same_name}
use Rattle.expr_tree.specs.Plain.{plain_let, plain_output, plain_rel}
use Rattle.expr_tree.specs.PlainLists.{plain_lets, plain_outputs}
use Rattle.expr_tree.specs.Views.{let_tree, rel_tree}
use Rattle.normalise.specs.Reached.{Finds}
use Rattle.compile.proofs.OneMore.{none_left, before_place}
use Rattle.normalise.proofs.KeptLets.{finds_outputs, finds_more, not_reached}
use Rattle.compile.proofs.UsedNames.{finds_same}
use Rattle.compile.proofs.unused.reached_names.Goals as goal

pub loop-left-init : goal.loop-left-init
loop-left-init g c = record {
  few = omega arith;
  finds = rw (none_left c.args.lets.now) (finds_outputs (contains same_name c.add_free_in_outputs.new.names) (contains same_name c.new-names.result) _ (λ y. ap (list_any (same_name y)) c.new-names.ensures.empty) c.in_ok-add_free_in_outputs.ensures);
}

pub loop-left-preserved : goal.loop-left-preserved
loop-left-preserved g c =
    let inv = c.loop-left.invariant in
    let some : 0 < c.loop-left.left = omega arith in
    let now = plain_let (let_tree c.index-lets-left.result) in
    let no : c.contains.result ≡ false = search rules in
    let not = not_reached (contains same_name c.loop-left.names) now.name _ _ c.contains.result inv.finds c.contains.ensures no in
    record {
      few = omega (arith, inv.few);
      finds = rw (before_place c.args.lets.now c.loop-left.left c.index-lets-left.result some inv.few c.index-lets-left.is) (finds_same _ now _ _ not inv.finds);
    }

pub loop-left-preserved-in-Continue-branch-2 : goal.loop-left-preserved-in-Continue-branch-2
loop-left-preserved-in-Continue-branch-2 g c =
    let inv = c.loop-left.invariant in
    let some : 0 < c.loop-left.left = omega arith in
    let now = plain_let (let_tree c.index-lets-left.result) in
    let yes : c.contains.result ≡ true = search rules in
    let reached = (inv.finds.has now.name).0 (sym c.contains.ensures ∙ yes) in
    record {
      few = omega (arith, inv.few);
      finds = rw (before_place c.args.lets.now c.loop-left.left c.index-lets-left.result some inv.few c.index-lets-left.is)
          (finds_more (contains same_name c.loop-left.names) (contains same_name c.add_free.new.names) now.name now.value _ _ reached inv.finds (rw c.deref.ensures at c.in_ok-add_free.ensures));
    }

pub returns : goal.returns
returns g c =
    let none : c.loop-left.left ≡ 0 = omega arith in
    subst (λ n. Finds (contains same_name c.loop-left.names) (plain_lets (lib.ListN.drop n c.args.lets.now)) (plain_outputs c.args.outputs.now)) none c.loop-left.invariant.finds
