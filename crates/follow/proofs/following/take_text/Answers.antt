use Rattle.std.proofs.Common.{◌≡◌, ◌∙◌, ◌++◌, ℕ, List, ap, arith, length, map, subst, sym}
use Rattle.record_core.specs.Inputs.{input_of}
use Rattle.follow.specs.Steps.{TakesLines}
use Rattle.follow.proofs.following.take_text.Goals as goal

pub returns-in-Ok-clause-lines : goal.returns-in-Ok-clause-lines
returns-in-Ok-clause-lines g c =
    let inputs = map input_of c.args.inputs.now in
    let text : c.as_slice.result.now ≡ c.args.pending.now.items = c.as_slice.ensures.value ∙ ap (λ v. v.items) c.replace-text.ensures.value in
    let none : c.replace-text.new.dest.items ++ c.in-Ok.rest.now ≡ c.in-Ok.rest.now = ap (λ (xs : List ℕ). xs ++ c.in-Ok.rest.now) (ap (λ v. v.items) c.replace-text.ensures.after ∙ c.new.ensures.items) in
    let rest : c.in-Ok.rest.now ≡ c.extend_from_slice.new.self.items = sym (c.in_ok-extend_from_slice-in-Ok.ensures.items ∙ none) in
    subst (λ (xs : List ℕ). TakesLines c.args.base c.args.board.now.shown c.take_lines.new.board.shown c.args.intake.now c.take_lines.new.intake inputs xs c.extend_from_slice.new.self.items c.in-Ok.taken) text
    (subst (λ (ys : List ℕ). TakesLines c.args.base c.args.board.now.shown c.take_lines.new.board.shown c.args.intake.now c.take_lines.new.intake inputs c.as_slice.result.now ys c.in-Ok.taken) rest c.in-Ok.ensures.lines)

pub returns-in-Ok-clause-shorter : goal.returns-in-Ok-clause-shorter
returns-in-Ok-clause-shorter g c = λ e.
    let text = ap length (c.as_slice.ensures.value ∙ ap (λ v. v.items) c.replace-text.ensures.value) in
    let none : c.replace-text.new.dest.items ++ c.in-Ok.rest.now ≡ c.in-Ok.rest.now = ap (λ (xs : List ℕ). xs ++ c.in-Ok.rest.now) (ap (λ v. v.items) c.replace-text.ensures.after ∙ c.new.ensures.items) in
    let rest = ap length (c.in_ok-extend_from_slice-in-Ok.ensures.items ∙ none) in
    let l = c.in-Ok.ensures.shorter e in
    omega (arith, text, rest, l)
