use Rattle.std.proofs.Common.{◌≡◌, ◌∙◌, ◌≤◌, ◌<◌, ◌⊎◌, inl, inr, refl, sym, subst, ℕ, List, length, slice_index_or, arith}
use Rattle.std.specs.Prelude.{min}
use Rattle.std.proofs.lemmas.List.{get_or_default}
use Rattle.semantics.proofs.Cases.{below_or_last}
use Rattle.views.specs.Queued.{IsOneOf}
use Rattle.views.proofs.batches.least.Goals as goal

pub loop-i-init : goal.loop-i-init
loop-i-init c = record { some = IsOneOf.end refl; all = omega arith; each = λ w l. absurd (omega arith) }

which_min : (a b : ℕ) → (min a b ≡ a) ⊎ (min a b ≡ b)
which_min a b = grind arith

one_of_min : (taken : List ℕ) (all a i : ℕ) → i < length taken → IsOneOf taken all a → IsOneOf taken all (min a (slice_index_or taken i 0))
one_of_min taken all a i l one = go (which_min a (slice_index_or taken i 0))
  where
    go : (min a (slice_index_or taken i 0) ≡ a) ⊎ (min a (slice_index_or taken i 0) ≡ slice_index_or taken i 0) → IsOneOf taken all (min a (slice_index_or taken i 0))
    go (inl e) = subst (IsOneOf taken all) (sym e) one
    go (inr e) = IsOneOf.place i l (e ∙ get_or_default taken i 0 all l)

pub loop-i-preserved : goal.loop-i-preserved
loop-i-preserved c =
    let ts = c.args.taken.now in
    let i = c.loop-i.i in
    let l : i < length ts = c.loop-i-test.true in
    let m = c.min-least.ensures in
    record {
      some = subst (IsOneOf ts c.args.all) (sym m) (one_of_min ts c.args.all c.loop-i.least i l c.loop-i.invariant.some);
      all = let a = c.loop-i.invariant.all in omega arith;
      each = λ w k. go ts c.args.all c.loop-i.least i c.min-least.result w l m c.loop-i.invariant.each (below_or_last w i k);
    }
  where
    go : (ts : List ℕ) (all least i r w : ℕ) → i < length ts → r ≡ min least (slice_index_or ts i 0) → ((v : ℕ) → v < i → least ≤ slice_index_or ts v all) → (w < i) ⊎ (w ≡ i) → r ≤ slice_index_or ts w all
    go ts all least i r w l m h (inl x) = let a = h w x in omega arith
    go ts all least i r w l m h (inr x) = subst (λ v. r ≤ slice_index_or ts v all) (sym x) (let a = get_or_default ts i 0 all l in omega arith)
