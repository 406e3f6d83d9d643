use Rattle.std.proofs.Common.{rules, ◌≡◌, ◌++◌, ◌∷◌, [], Bool, true, false, List, cond, refl, sym, ap, subst, ◌∙◌, append-nil}
use Rattle.std.specs.HashSet.{contains}
use Rattle.std.specs.List.{list_any}
use Rattle.semantics.specs.Meaning.{same_name}
use Rattle.semantics.specs.FreeNames.{free}
use Rattle.expr_tree.specs.Plain.{plain_rel}
use Rattle.expr_tree.specs.Views.{rel_tree}
use Rattle.compile.proofs.UsedNames.{known}
use Rattle.compile.proofs.unused.push_variable.Goals as goal

pub returns-then-contains : goal.returns-then-contains
returns-then-contains g c =
    let yes : c.contains.result ≡ true = search rules in
    let has = known (contains same_name c.add_free.new.names) (contains same_name c.new-names.result) c.args.name.now _ (λ y. ap (list_any (same_name y)) c.new-names.ensures.empty) c.in_ok-add_free.ensures in
    rw (sym has ∙ sym c.contains.ensures ∙ yes) (sym (append-nil c.args.places.now.items))

pub returns : goal.returns
returns g c =
    let no : c.contains.result ≡ false = search rules in
    let has = known (contains same_name c.add_free.new.names) (contains same_name c.new-names.result) c.args.name.now _ (λ y. ap (list_any (same_name y)) c.new-names.ensures.empty) c.in_ok-add_free.ensures in
    rw (sym has ∙ sym c.contains.ensures ∙ no) c.in_ok-push.ensures.items
