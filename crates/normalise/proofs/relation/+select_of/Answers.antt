use Rattle.std.proofs.Common.{rules, ◌≡◌, ◌<◌, IsTrue, IsFalse, map, sym, ap, ◌∙◌}
use Rattle.std.specs.List.{AllZip, AllByRecursion}
use Rattle.semantics.specs.Query.{Rel}
use Rattle.semantics.specs.Normal.{IsSelect, UsesOnce, replaced, uses_all}
use Rattle.semantics.specs.Limits.{max_fields}
use Rattle.expr_tree.specs.Plain.{plain_rel, plain_scalar}
use Rattle.expr_tree.specs.Views.{rel_tree, scalar_tree}
use Rattle.normalise.specs.Rewritten.{Reduced, IsFolded}
use Rattle.normalise.proofs.Folding.{normal-folded}
use Rattle.normalise.proofs.Rewriting.{rewritten_selects, rewritten_select}
use Rattle.normalise.proofs.relation.+select_of.Goals as goal

pub returns-then-use_once : goal.returns-then-use_once
returns-then-use_once g t c h k =
    let ss = map plain_scalar (map scalar_tree c.in-Select.named.items) in
    let ts = map plain_scalar (map scalar_tree c.args.scalars.items) in
    let us = map plain_scalar (map scalar_tree c.replace_all.new.scalars.items) in
    let inner = plain_rel (rel_tree c.in-Select.inner.value) in
    let e : plain_rel (rel_tree c.args.of.value) ≡ Rel.select inner ss = ap (λ v. plain_rel (rel_tree v)) (sym (c.take.ensures.moved ∙ c.deref_mut.ensures.value) ∙ c.in-Select.ensures) in
    let reduced : Reduced (Rel.select inner ss) = rw e at h in
    let yes : IsTrue c.use_once.result = search rules in
    let once : UsesOnce ts = rw c.deref.ensures.value at (c.use_once.ensures.once yes) in
    let zip : AllZip IsFolded us (map (replaced ss) ts) = rw c.deref_mut-then-use_once.ensures.value at c.replace_all.ensures reduced.1 (record { counts = once }) in
    rewritten_selects _ inner _ ss ts us e reduced k once zip (c.select_of.ensures reduced.0 (normal-folded us (map (replaced ss) ts) zip))

pub returns-in_default : goal.returns-in_default
returns-in_default g t c h k =
    let e : plain_rel (rel_tree c.args.of.value) ≡ plain_rel (rel_tree c.whole.result) = ap (λ v. plain_rel (rel_tree v)) (sym (c.take.ensures.moved ∙ c.deref_mut.ensures.value) ∙ c.into_parts.ensures ∙ sym c.whole.ensures) in
    let not : IsSelect (plain_rel (rel_tree c.whole.result)) → ⊥ = rw c.whole.ensures (search rules) in
    rw e (rewritten_select (plain_rel (rel_tree c.whole.result)) _ (λ i fits once. not i) (rw e at h) k)

pub returns-else-use_once : goal.returns-else-use_once
returns-else-use_once g t c h k =
    let ss = map plain_scalar (map scalar_tree c.in-Select.named.items) in
    let ts = map plain_scalar (map scalar_tree c.args.scalars.items) in
    let inner = plain_rel (rel_tree c.in-Select.inner.value) in
    let e : plain_rel (rel_tree c.args.of.value) ≡ Rel.select inner ss = ap (λ v. plain_rel (rel_tree v)) (sym (c.take.ensures.moved ∙ c.deref_mut.ensures.value) ∙ c.in-Select.ensures) in
    let no : IsFalse c.use_once.result = search rules in
    let again : AllByRecursion (λ n. n < max_fields) (uses_all ts) → UsesOnce ts → ⊥ = rw c.deref.ensures.value at (c.use_once.ensures.again no) in
    rw e (rewritten_select (Rel.select inner ss) ts (λ i fits once. again fits once) (rw e at h) k)
