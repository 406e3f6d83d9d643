use Rattle.std.proofs.Common.{◌≡◌, ◌∙◌, ap, sym, arith, get_or, List, ℕ, length, inl, inr}
use Rattle.std.proofs.lemmas.Bool.{cases_lt}
use Rattle.std.proofs.lemmas.Option.{get_or_from_slice_get}
use Rattle.record_core.specs.declared.input.DeclaredInput.{DeclaredInput}
use Rattle.std.proofs.Common.{◌++◌, ◌∷◌, take, drop}
use Rattle.std.proofs.Math.Seq.{take-append_seam}
use Rattle.collector.proofs.QuickRows.{row_at}
use Rattle.collector.proofs.quick.quick_row.Goals as goal

abbrev name_of : DeclaredInput → List ℕ
name_of d = d.name

pub returns-in-Some-quick_fields : goal.returns-in-Some-quick_fields
returns-in-Some-quick_fields c =
    let name : c.bytes.result.now ≡ c.index-inputs-i.result.name = c.bytes.ensures.value in
    let fields = c.quick_fields.new.fields in
    let long : c.set_len.new.fields.len ≡ length fields = omega (arith, c.quick_fields.ensures.count, c.as_mut_slice.ensures.len) in
    let kept : take c.set_len.new.fields.len (fields ++ drop (length fields) c.set_len.new.fields.items) ≡ fields =
    ap (λ n. take n (fields ++ drop (length fields) c.set_len.new.fields.items)) long ∙ take-append_seam fields (drop (length fields) c.set_len.new.fields.items) in
    let size : length fields ≡ c.index-inputs-i.result.arity = omega (arith, long, c.in_ok-set_len.ensures, c.as_mut_slice.ensures.len) in
    rw kept (row_at c.args.inputs.now c.args.text.now c.in-Some.rest.now c.in-Some-quick_fields.after.now fields c.loop-i.i c.index-inputs-i.result c.loop-i-test.true c.index-inputs-i.is c.bytes.ensures.name c.loop-i.invariant
    (rw (← name) c.in-Some.ensures.some) c.in-Some-quick_fields.ensures.spelled size c.in-Some-quick_fields.ensures.fit (omega (arith, c.if-declared-lt1.false)) (omega (arith, c.if-declared.false)))

pub loop-i-preserved : goal.loop-i-preserved
loop-i-preserved c = λ k d lt at rest e. elim (cases_lt k c.loop-i.i) [
  | inl less ↦ c.loop-i.invariant k d less at rest e
  | inr ge ↦
      let here : k ≡ c.loop-i.i = omega arith in
      let same : d ≡ c.index-inputs-i.result = sym (get_or_from_slice_get c.args.inputs.now k d c.index-inputs-i.result at) ∙ ap (λ j. get_or c.args.inputs.now j c.index-inputs-i.result) here ∙ sym c.index-inputs-i.is in
      let name : d.name ≡ c.bytes.result.now = ap name_of same ∙ sym c.bytes.ensures.value in
      c.in_default.ensures.none rest (e ∙ ap (λ (n : List ℕ). n ++ 32 ∷ rest) name)
]
