-- What lines say, and what later lines add.
use Rattle.std.proofs.Common.{◌≡◌, ◌+◌, ◌∙◌, ℤ, Bool, true, false, List, [], ◌∷◌, ◌++◌, cond, refl, ap, arith, inl, inr}
use Rattle.std.specs.Prelude.{◌==◌, ◌&&◌}
use Rattle.std.proofs.lemmas.Bool.Decides.{eqb_tells}
use Rattle.collector.specs.Lines.{Item}
use Rattle.collector.specs.InputText.{epochs_after, records_in}
use Rattle.follow.specs.Steps.{Continues}
use Rattle.collector.proofs.LinesRead.{epoch_push, epochs_push, row_push}

pub continues_here : (items : List Item) → Continues items items
continues_here items = record { begun = omega arith; ended = λ epoch input lt. refl }

pub continues_on : (a b c : List Item) → Continues a b → Continues b c → Continues a c
continues_on a b c p q = record {
  begun = omega (arith, p.begun, q.begun);
  ended = λ epoch input lt. q.ended epoch input (omega (arith, lt, p.begun)) ∙ p.ended epoch input lt;
}

pub continues_item : (items : List Item) (item : Item) → Continues items (items ++ item ∷ [])
continues_item items Item.epoch = record {
  begun = omega (arith, epochs_push 0 items Item.epoch);
  ended = λ epoch input lt. epoch_push epoch input 0 items;
}
continues_item items (Item.row i zs) = record {
  begun = omega (arith, epochs_push 0 items (Item.row i zs));
  ended = λ epoch input lt. row_push epoch input 0 items i zs ∙ elim (eqb_tells (epoch + 1) (epochs_after 0 items)) [
    | inl same ↦ absurd (omega (arith, same.1, lt))
    | inr other ↦ ap (λ t. cond ((input == i) && t) (records_in epoch input 0 items ++ zs ∷ []) (records_in epoch input 0 items)) other.0 ∙ neither (input == i) (records_in epoch input 0 items ++ zs ∷ []) (records_in epoch input 0 items)
  ];
}
  where
    neither : (t : Bool) (xs ys : List (List ℤ)) → cond (t && false) xs ys ≡ ys
    neither true xs ys = refl
    neither false xs ys = refl
