-- The batches of a queue as lists of what they add and remove. It holds a proof too, since a law of the views cites it.
use Rattle.std.specs.Prelude.{◌≡◌, ℕ, ◌+◌, List, [], ◌∷◌, ◌++◌, false}
use Rattle.std.proofs.Common.{refl, ap, ◌∙◌, zero-add}
use Rattle.semantics.specs.Could.{Pointstamp}
use Rattle.machine.specs.Active.{one_if_same}
use Rattle.progress.specs.Content.{times_in}
use Rattle.views.specs.Queued.{batches_of, onto_first}
use Rattle.views.specs.Waiting.{Posted, batches_as}
use Rattle.views.specs.declared.queue.Change.{Change}
use Rattle.views.specs.declared.queue.Change.TheVariants.{Add, Remove, End}

-- these adds and removes come before those of the first batch
abbrev pub onto_lists : (added removed : List Pointstamp) → List Posted → List Posted
onto_lists added removed [] = []
onto_lists added removed (b ∷ posted) = (added ++ b.0, removed ++ b.1) ∷ posted

-- the batches; changes without an end don't make a batch yet
abbrev pub lists_of : List Change → List Posted
lists_of [] = []
lists_of (End ∷ changes) = ([], []) ∷ lists_of changes
lists_of (Add p ∷ changes) = onto_lists (p ∷ []) [] (lists_of changes)
lists_of (Remove p ∷ changes) = onto_lists [] (p ∷ []) (lists_of changes)

onto_added : (s : ℕ) (p : Pointstamp) (posted : List Posted) → onto_first (λ q. one_if_same q p) (λ q. 0) (batches_as s posted) ≡ batches_as s (onto_lists (p ∷ []) [] posted)
onto_added s p [] = refl
onto_added s p (b ∷ posted) = λ i. record { sender = s; adds = λ q. one_if_same q p + times_in b.0 q; removes = λ q. zero-add (times_in b.1 q) i; applied = false } ∷ batches_as s posted

onto_removed : (s : ℕ) (p : Pointstamp) (posted : List Posted) → onto_first (λ q. 0) (λ q. one_if_same q p) (batches_as s posted) ≡ batches_as s (onto_lists [] (p ∷ []) posted)
onto_removed s p [] = refl
onto_removed s p (b ∷ posted) = λ i. record { sender = s; adds = λ q. zero-add (times_in b.0 q) i; removes = λ q. one_if_same q p + times_in b.1 q; applied = false } ∷ batches_as s posted

pub batches_lists : (s : ℕ) (changes : List Change) → batches_of s changes ≡ batches_as s (lists_of changes)
batches_lists s [] = refl
batches_lists s (End ∷ changes) = λ i. record { sender = s; adds = λ q. 0; removes = λ q. 0; applied = false } ∷ batches_lists s changes i
batches_lists s (Add p ∷ changes) = ap (onto_first (λ q. one_if_same q p) (λ q. 0)) (batches_lists s changes) ∙ onto_added s p (lists_of changes)
batches_lists s (Remove p ∷ changes) = ap (onto_first (λ q. 0) (λ q. one_if_same q p)) (batches_lists s changes) ∙ onto_removed s p (lists_of changes)
