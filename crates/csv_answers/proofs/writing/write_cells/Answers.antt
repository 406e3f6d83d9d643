use Rattle.std.proofs.Common.{◌≡◌, ◌++◌, ◌∷◌, ◌∙◌, ◌≤◌, ◌<◌, ◌+◌, ◌-◌, ◌^◌, [], ℕ, List, get_or, length, map, take, sym, ap, subst, arith}
use Rattle.std.specs.Prelude.{option_map}
use Rattle.std.proofs.lemmas.List.{append_assoc, get_or-map, length-map, length-take, take_all, take_more}
use Rattle.csv.proofs.ReadFacts.{on-ok}
use Rattle.csv_answers.specs.Files.{HasBegun, labelled}
use Rattle.csv_answers.proofs.Written.{labelled-on, labelled-size, one-begun, one-written}
use Rattle.csv_answers.proofs.writing.write_cells.Goals as goal

pub loop-i-preserved : goal.loop-i-preserved
loop-i-preserved c = record {
  begun = λ b.
      let r = c.write_field.result in
      let good = sym c.is_err.ensures.value ∙ c.if-is_err.false in
      let e = c.write_field.ensures in
      let i : ℕ = c.loop-i.i in
      let first = option_map (λ s. s.now) c.args.first in
      let items : List (List ℕ) = map (λ v. v.items) c.args.cells.now in
      let lt : i < length c.args.cells.now = c.loop-i-test.true in
      let sized : length items ≡ length c.args.cells.now = length-map c.args.cells.now (λ v. v.items) in
      let fits : length (labelled first [] ++ take i items) + 1 ≤ 2 ^ 64 - 1 = omega (arith, labelled-size first (take i items), length-take i items) in
      let cell : c.as_slice.result.now ≡ get_or items i [] = c.as_slice.ensures.value ∙ ap (λ v. v.items) c.index-cells-i.is ∙ sym (get_or-map (λ v. v.items) c.args.cells.now i c.index-cells-i.result [] lt) in
      let more = one-begun c.args.writer.now c.loop-i.writer c.write_field.new.self (labelled first [] ++ take i items) c.as_slice.result.now (c.loop-i.invariant.begun b) fits
      (on-ok r good e.text) (on-ok r good e.same) (on-ok r good e.count) (on-ok r good e.wrote) (on-ok r good e.stays) in
      let front : (labelled first [] ++ take i items) ++ c.as_slice.result.now ∷ [] ≡ labelled first [] ++ take (i + 1) items =
      append_assoc (labelled first []) (take i items) (c.as_slice.result.now ∷ [])
      ∙ ap (λ (t : List (List ℕ)). labelled first [] ++ t) (ap (λ (x : List ℕ). take i items ++ x ∷ []) cell ∙ sym (take_more items i [] (omega (arith, sized)))) in
      subst (λ (t : List (List ℕ)). HasBegun c.args.writer.now c.write_field.new.self t) front more;
}

pub returns : goal.returns
returns c = λ rows f.
    let r = c.end_record.result in
    let good = sym c.is_err-2.ensures.value ∙ c.if-is_err-2.false in
    let e = c.end_record.ensures in
    let i : ℕ = c.loop-i.i in
    let first = option_map (λ s. s.now) c.args.first in
    let items : List (List ℕ) = map (λ v. v.items) c.args.cells.now in
    let sized : length items ≡ length c.args.cells.now = length-map c.args.cells.now (λ v. v.items) in
    let all : take i items ≡ items = take_all i items (omega (arith, sized, c.loop-i-test.false)) in
    let begun = rw (all, labelled-on first items) at (c.loop-i.invariant.begun f.between) in
    one-written c.args.writer.now c.loop-i.writer c.end_record.new.self rows (labelled first items) begun f
    (on-ok r good e.bytes) (on-ok r good e.fields) (on-ok r good e.wrote) (on-ok r good e.same)
