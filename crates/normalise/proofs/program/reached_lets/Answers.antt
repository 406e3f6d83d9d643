use Rattle.std.proofs.Common.{rules, ◌≡◌, true, false, sym, ap, ◌∙◌}
use Rattle.std.specs.HashSet.{contains}
use Rattle.std.specs.List.{list_any}
use Rattle.semantics.specs.Meaning.{same_name}
use Rattle.expr_tree.specs.Plain.{plain_let, plain_rel}
use Rattle.expr_tree.specs.Views.{let_tree, rel_tree}
use Rattle.normalise.proofs.KeptLets.{lets_at_first, popped, last_first, not_reached, lets_dropped, lets_rewritten, finds_outputs, finds_more}
use Rattle.normalise.proofs.program.reached_lets.Goals as goal

pub loop-item-init : goal.loop-item-init
loop-item-init g c = record {
  steps = rw c.new-kept.ensures.items (lets_at_first _ _);
  reduced = rw c.new-kept.ensures.items tt;
  reached = rw c.new-kept.ensures.items tt;
  finds = rw c.new-kept.ensures.items (finds_outputs (contains same_name c.add_free_in_outputs.new.names) (contains same_name c.new-reached.result) _ (λ y. ap (list_any (same_name y)) c.new-reached.ensures.empty) c.in_ok-add_free_in_outputs.ensures);
}

pub loop-item-preserved : goal.loop-item-preserved
loop-item-preserved g c =
    let inv = c.loop-item.invariant in
    let now = plain_let (let_tree c.in-Some.item) in
    let no : c.contains.result ≡ false = search rules in
    let not = not_reached (contains same_name c.loop-item.reached) now.name _ _ c.contains.result inv.finds c.contains.ensures no in
    record {
      steps = lets_dropped _ now _ _ _ inv.reached not (popped let_tree plain_let c.loop-item.lets.items c.pop.new.self.items c.in-Some.item _ _ _ c.in-Some.ensures.items inv.steps);
      reduced = inv.reduced;
      reached = inv.reached;
      finds = inv.finds;
    }

pub loop-item-preserved-in-Continue-branch-4 : goal.loop-item-preserved-in-Continue-branch-4
loop-item-preserved-in-Continue-branch-4 g c =
    let inv = c.loop-item.invariant in
    let now = plain_let (let_tree c.in-Some.item) in
    let made = c.in_ok-relation.ensures in
    let after = plain_rel (rel_tree c.in_ok-relation.relation.value) in
    let yes : c.contains.result ≡ true = search rules in
    let reached = (inv.finds.has now.name).0 (sym c.contains.ensures ∙ yes) in
    let front = last_first c.loop-item.kept.items c.push.new.self.items _ c.in_ok-push.ensures.items in
    record {
      steps = rw front (lets_rewritten _ now.name after now.value _ _ _ made.reached (popped let_tree plain_let c.loop-item.lets.items c.pop.new.self.items c.in-Some.item _ _ _ c.in-Some.ensures.items inv.steps));
      reduced = rw front (made.reduced, inv.reduced);
      reached = rw front (reached, inv.reached);
      finds = rw front (finds_more (contains same_name c.loop-item.reached) (contains same_name c.add_free.new.names) now.name after _ _ reached inv.finds (rw c.deref.ensures at c.in_ok-add_free.ensures));
    }
