use Rattle.std.proofs.Common.{◌++◌, ◌∷◌, ◌∙◌, [], ℕ, List, ap, append_assoc}
use Rattle.std.specs.List.{flat_map}
use Rattle.collector.specs.OutputText.{spaced}
use Rattle.collector.proofs.Pushes.{pushes_more, pushes_done}
use Rattle.collector.proofs.piecewise.push_row_line.Goals as goal

pub loop-number-preserved : goal.loop-number-preserved
loop-number-preserved c = pushes_more spaced c.args.row.now c.loop-number.number-index _ c.extend_from_slice.new.self.items c.loop-number.out.items c.push_spaced.new.out.items c.loop-number-test.true c.loop-number.invariant c.in_ok-push_spaced.ensures

pub returns : goal.returns
returns c =
    let fields : List ℕ = flat_map spaced c.args.row.now in
    c.in_ok-push.ensures.items
    ∙ ap (λ (t : List ℕ). t ++ 10 ∷ []) (pushes_done spaced c.args.row.now c.loop-number.number-index c.extend_from_slice.new.self.items c.loop-number.out.items c.loop-number-test.false c.loop-number.invariant)
    ∙ ap (λ (t : List ℕ). (t ++ fields) ++ 10 ∷ []) c.in_ok-extend_from_slice.ensures.items
    ∙ simp append_assoc
