use Rattle.std.proofs.Common.{◌≡◌, ◌⊎◌, inl, inr, ◌<◌, ◌≤◌, ◌∙◌, ℕ, List, length, slice_index_or, ap, subst, arith}
use Rattle.board.specs.Shown.{InputShown, Shown, no_input}
use Rattle.board.proofs.state.State.seals.Goals as goal

pub returns : goal.returns
returns c =
    let xs : List InputShown = c.deref-input-items.result.now in
    let n : ℕ = c.loop-input.most in
    let same : xs ≡ c.args.self.now.inputs = c.deref-input-items.ensures.value ∙ ap (λ (x : Shown). x.inputs) c.self.view_is in
    let A : List InputShown → Type 0 = λ ys. (i : ℕ) → i < length ys → (slice_index_or ys i no_input).open_epoch ≤ n in
    let B : List InputShown → Type 0 = λ ys. (n ≡ 0) ⊎ ((i : ℕ) × (i < length ys) × ((slice_index_or ys i no_input).open_epoch ≡ n)) in
    record {
      most = subst A same (λ i l. c.loop-input.invariant.0 i (omega (arith, l, c.loop-input-test.false)));
      some = subst B same (by xs n c.loop-input.input-index c.loop-input.auto.input-index-end c.loop-input.invariant.1);
    }
  where
    by : (xs : List InputShown) (n index : ℕ) → index ≤ length xs → (n ≡ 0) ⊎ ((i : ℕ) × (i < index) × ((slice_index_or xs i no_input).open_epoch ≡ n)) → (n ≡ 0) ⊎ ((i : ℕ) × (i < length xs) × ((slice_index_or xs i no_input).open_epoch ≡ n))
    by xs n index l (inl e) = inl e
    by xs n index l (inr (i, li, e)) = inr (i, omega (arith, l, li), e)
