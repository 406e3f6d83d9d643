use Rattle.std.proofs.Common.{◌++◌, ◌∷◌, [], ℤ, ◌∙◌, ap, rules}
use Rattle.std.specs.Prelude.{FitsSigned}
use Rattle.std.specs.Int.{w64}
use Rattle.std.proofs.lemmas.Int.{to_z-of_z}
use Rattle.collector.proofs.Splits.{split_none, cut_at}
use Rattle.collector.proofs.NumberLists.{read_more, read_all, read_bad}
use Rattle.collector.proofs.line.read_numbers.Goals as goal

pub returns-in-None-clause-none : goal.returns-in-None-clause-none
returns-in-None-clause-none c = λ e zs h. read_bad c.args.text.now c.loop-end.rest.now c.around.result.0.now _ c.loop-end.fields.items c.loop-end.invariant (cut_at 32 c.loop-end.rest.now c.around.result.0.now c.around.result.1.now c.in-Some.end c.in-Some.ensures.found c.around.ensures.before c.around.ensures.after) c.in-None.ensures.none zs h

pub loop-end-preserved : goal.loop-end-preserved
loop-end-preserved c =
    let fits : FitsSigned w64 c.in-Some-signed_number.number = search rules in
    read_more c.args.text.now c.loop-end.rest.now c.around.result.0.now c.around.result.1.now c.loop-end.fields.items c.push.new.self.items c.in-Some-signed_number.number c.loop-end.invariant (cut_at 32 c.loop-end.rest.now c.around.result.0.now c.around.result.1.now c.in-Some.end c.in-Some.ensures.found c.around.ensures.before c.around.ensures.after) fits c.in-Some-signed_number.ensures.found (c.in_ok-push-in-Some-signed_number.ensures.items ∙ ap (λ (z : ℤ). c.loop-end.fields.items ++ z ∷ []) (to_z-of_z w64 c.in-Some-signed_number.number fits))

pub returns-in-None-signed_number-clause-none : goal.returns-in-None-signed_number-clause-none
returns-in-None-signed_number-clause-none c = λ e zs h. read_bad c.args.text.now c.loop-end.rest.now c.loop-end.rest.now _ c.loop-end.fields.items c.loop-end.invariant (split_none 32 c.loop-end.rest.now c.in_default.ensures.none) c.in-None-signed_number.ensures.none zs h

pub returns-in_ok-push-in-Some-signed_number-2-clause-numbers : goal.returns-in_ok-push-in-Some-signed_number-2-clause-numbers
returns-in_ok-push-in-Some-signed_number-2-clause-numbers c = λ e.
    let fits : FitsSigned w64 c.in-Some-signed_number-2.number = search rules in
    read_all c.args.text.now c.loop-end.rest.now c.loop-end.fields.items c.push-in-Some-signed_number-2.new.self.items c.in-Some-signed_number-2.number c.loop-end.invariant (split_none 32 c.loop-end.rest.now c.in_default.ensures.none) fits c.in-Some-signed_number-2.ensures.found (c.in_ok-push-in-Some-signed_number-2.ensures.items ∙ ap (λ (z : ℤ). c.loop-end.fields.items ++ z ∷ []) (to_z-of_z w64 c.in-Some-signed_number-2.number fits))
