use Rattle.std.proofs.Common.{◌<◌, length, ◌≡◌, ◌∙◌, sym, ap, arith, inl, inr, false, true, get_or, List, ℕ}
use Rattle.std.proofs.lemmas.Bool.{cases_lt}
use Rattle.std.proofs.lemmas.Option.{get_or_from_slice_get, slice_get_within}
use Rattle.record_core.specs.declared.input.DeclaredInput.{DeclaredInput}
use Rattle.collector.proofs.InputNames.{is_input, is_absent}
use Rattle.collector.proofs.line.find_input.Goals as goal

abbrev bytes_of : DeclaredInput → List ℕ
bytes_of d = d.name

pub returns-then-is_same-clause-found : goal.returns-then-is_same-clause-found
returns-then-is_same-clause-found c = is_input c.args.inputs.now c.args.name.now c.loop-i.i c.index-inputs-i.result c.loop-i-test.true c.index-inputs-i.is (sym c.bytes.ensures.value ∙ c.is_same.ensures.0 c.if-is_same.true) c.loop-i.invariant

pub loop-i-preserved : goal.loop-i-preserved
loop-i-preserved c = λ k d lt at. elim (cases_lt k c.loop-i.i) [
  | inl less ↦ c.loop-i.invariant k d less at
  | inr ge ↦ λ e.
      let here : k ≡ c.loop-i.i = omega arith in
      let same : d ≡ c.index-inputs-i.result = sym (get_or_from_slice_get c.args.inputs.now k d c.index-inputs-i.result at) ∙ ap (λ j. get_or c.args.inputs.now j c.index-inputs-i.result) here ∙ sym c.index-inputs-i.is in
      let t : c.is_same.result ≡ true = c.is_same.ensures.1 (c.bytes.ensures.value ∙ ap bytes_of (sym same) ∙ e) in
      let f : c.is_same.result ≡ false = c.if-is_same.false in
      cc
]

pub returns-clause-none : goal.returns-clause-none
returns-clause-none c = is_absent c.args.inputs.now c.args.name.now (λ k d at. let within : k < length c.args.inputs.now = slice_get_within c.args.inputs.now k d at in c.loop-i.invariant k d (omega arith) at)
