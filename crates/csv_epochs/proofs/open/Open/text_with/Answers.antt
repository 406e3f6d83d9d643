use Rattle.std.proofs.Common.{◌++◌, ◌∙◌, ap, ℕ, List}
use Rattle.csv_epochs.proofs.Joins.{joined}
use Rattle.csv_epochs.proofs.open.Open.text_with.Goals as goal

pub returns : goal.returns
returns c =
    let self = c.args.self.now in
    joined self.header.items self.body.items self.tail.items c.args.piece.now c.in_ok-text.text.items c.extend_from_slice.new.self.items c.extend_from_slice-2.new.self.items
    c.extend_from_slice-3.new.self.items (c.in_ok-text.ensures.items ∙ c.as_slice.ensures.value)
    (c.in_ok-extend_from_slice.ensures.items ∙ ap (λ (xs : List ℕ). c.in_ok-text.text.items ++ xs) c.as_slice-2.ensures.value)
    (c.in_ok-extend_from_slice-2.ensures.items ∙ ap (λ (xs : List ℕ). c.extend_from_slice.new.self.items ++ xs) c.as_slice-3.ensures.value)
    c.in_ok-extend_from_slice-3.ensures.items
