use Rattle.std.proofs.Common.{sym, subst}
use Rattle.semantics.specs.Normal.{NormalProgram}
use Rattle.semantics.specs.Rewriting.{RewritesTo}
use Rattle.semantics.proofs.StepsKeep.{rewrites_meaning, rewrites_typed, rewrites_smaller}
use Rattle.expr_tree.specs.Plain.{plain_program}
use Rattle.expr_tree.specs.Views.{program_tree}
use Rattle.typing.specs.Shown.{typed_program}
use Rattle.normalise.proofs.KeptLets.{program_rewritten, normal_program}
use Rattle.normalise.proofs.program.normalise.Goals as goal

pub new-requires : goal.new-requires
new-requires g c =
    let kept = rw c.deref.ensures.value at c.in_ok-lets.ensures in
    let typed = c.into_parts-program.ensures.typed in
    rewrites_typed (program_rewritten _ _ _ _ _ _ c.in_ok-rewrite_outputs.ensures kept.steps typed) _ typed

pub returns-clause-reached : goal.returns-clause-reached
returns-clause-reached g c =
    let kept = rw c.deref.ensures.value at c.in_ok-lets.ensures in
    let steps = program_rewritten _ _ _ _ _ _ c.in_ok-rewrite_outputs.ensures kept.steps c.into_parts-program.ensures.typed in
    let made = subst (λ p. RewritesTo (plain_program (program_tree c.into_parts-program.result.0)) (plain_program p)) (sym c.new.ensures.program) steps in
    subst (λ p. RewritesTo (plain_program p) (plain_program (typed_program c.new.result))) c.into_parts-program.ensures.program made

-- what steps keep
pub returns-clause-meaning : goal.returns-clause-meaning
returns-clause-meaning g c output records = rewrites_meaning (returns-clause-reached g c) output records

pub returns-clause-no_larger : goal.returns-clause-no_larger
returns-clause-no_larger g c = rewrites_smaller (returns-clause-reached g c)

pub returns-clause-normal : goal.returns-clause-normal
returns-clause-normal g c =
    let made = c.in_ok-rewrite_outputs.ensures in
    let kept = rw c.deref.ensures.value at c.in_ok-lets.ensures in
    let typed = c.into_parts-program.ensures.typed in
    let steps = program_rewritten _ _ _ _ _ _ made kept.steps typed in
    subst (λ p. NormalProgram (plain_program p)) (sym c.new.ensures.program) (normal_program _ _ _ _ _ (rewrites_typed steps _ typed) kept.reduced made kept.reached)
