use Rattle.std.proofs.Common.{◌≡◌, ◌++◌, ◌∙◌, ℕ, Bool, true, false, length, ap, subst, sym, inl, inr}
use Rattle.std.specs.Prelude.{◌==◌}
use Rattle.rows.specs.Counts.{IsOver}
use Rattle.rows.specs.FlatRows.{joined}
use Rattle.events.proofs.Merging.{not_over}
use Rattle.events.proofs.message.Message.into_parts.Goals as goal

some_more : (n : ℕ) (b : Bool) → b ≡ (n == 0) → b ≡ false → n ≡ 0 → ⊥
some_more n b is no_way none = let p : true ≡ false = sym (ap (λ (m : ℕ). m == 0) none) ∙ sym is ∙ no_way in absurd cc

pub unreachable-requires : goal.unreachable-requires
unreachable-requires c =
    let over : IsOver (c.self.inside.batch ++ joined c.self.inside.more.items) = subst (λ bs. IsOver (c.self.inside.batch ++ joined bs)) c.deref.ensures.value (c.in-Err-Count.ensures.over c.in-Err-Count.field-0-is) in
    elim c.self.invariant.few [
      | inl none ↦ some_more _ c.is_empty.result c.is_empty.ensures c.if-is_empty.false (sym c.deref.ensures.len ∙ ap length (c.deref.ensures.value ∙ none))
      | inr few ↦ not_over (c.self.inside.batch ++ joined c.self.inside.more.items) few over
    ]
