use Rattle.std.proofs.Common.{rules, ◌++◌, drop, ◌+◌, sym, ◌∙◌, ap}
use Rattle.std.proofs.lemmas.List.{append-nil, append_assoc}
use Rattle.schema.specs.Text.{constant_text, constants_text}
use Rattle.schema.proofs.Written.{constants-more, constants-none}
use Rattle.schema.proofs.writing.push_constants.Goals as goal

pub loop-constant-preserved : goal.loop-constant-preserved
loop-constant-preserved c =
    let left = constants_text (drop (c.loop-constant.constant-index + 1) c.args.constants.now) in
    let step = constants-more c.args.constants.now c.loop-constant.constant-index c.constant-item.result c.loop-constant-test.true
    c.constant-item.is in
    ap (λ x. x ++ left) c.in_ok-push_constant.ensures ∙ append_assoc c.loop-constant.out.items (constant_text c.constant-item.result) left
    ∙ ap (λ x. c.loop-constant.out.items ++ x) (sym step) ∙ c.loop-constant.invariant

pub returns : goal.returns
returns c =
    let none = constants-none c.args.constants.now c.loop-constant.constant-index (search (rules, c.loop-constant-test.false)) in
    sym (append-nil c.loop-constant.out.items) ∙ ap (λ x. c.loop-constant.out.items ++ x) (sym none) ∙ c.loop-constant.invariant
