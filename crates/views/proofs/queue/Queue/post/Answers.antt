use Rattle.std.proofs.Common.{◌≡◌, ◌∙◌, ◌<◌, ◌+◌, ◌++◌, ◌∷◌, [], length, drop, slice_index_or, subst, sym, ap, arith, length-append}
use Rattle.views.specs.Waiting.{batch}
use Rattle.views.specs.Queued.{AllKnown, IsQueue, Queued, untaken, batches_of, as_changes}
use Rattle.views.proofs.TakenBatches.{queue_posted, left_more, parts_posted, known_posted, length_laid}
use Rattle.views.proofs.queue.Queue.post.Goals as goal

pub invariant_of-self : goal.invariant_of-self
invariant_of-self c =
    let xs = c.self.inside.changes.items in (
      omega (arith, c.self.invariant.0, c.push_batch.ensures.len, c.push_batch.ensures.capacity, c.requires.room, ap (λ (q : Queued). q.free) c.self.view_is),
      subst (λ l. IsQueue l c.self.inside.taken.items) (sym c.push_batch.ensures.items) (queue_posted xs c.self.inside.taken.items c.args.added.now c.args.removed.now c.self.invariant.1),
    )

pub returns-clause-batch : goal.returns-clause-batch
returns-clause-batch c = λ w h s.
    let xs = c.self.inside.changes.items in
    let ts = c.self.inside.taken.items in
    let ps = c.args.added.now in
    let rs = c.args.removed.now in
    let l : w < length ts = subst (λ (q : Queued). w < length q.taken) (sym c.self.view_is) h in
    subst (λ (q : Queued). batches_of s (drop (slice_index_or ts w (length c.push_batch.new.changes.items)) c.push_batch.new.changes.items) ≡ batches_of s (untaken q w) ++ (batch s ps rs ∷ [])) c.self.view_is
    (subst (λ l. batches_of s (drop (slice_index_or ts w (length l)) l) ≡ batches_of s (drop (slice_index_or ts w (length xs)) xs) ++ (batch s ps rs ∷ [])) (sym c.push_batch.ensures.items)
    (ap (batches_of s) (left_more xs (as_changes ps rs) ts c.self.invariant.1 w l) ∙ parts_posted s (drop (slice_index_or ts w (length xs)) xs) ps rs (c.self.invariant.1.between w l)))

pub returns-clause-more : goal.returns-clause-more
returns-clause-more c = λ w h.
    let xs = c.self.inside.changes.items in
    let ts = c.self.inside.taken.items in
    let ps = c.args.added.now in
    let rs = c.args.removed.now in
    let l : w < length ts = subst (λ (q : Queued). w < length q.taken) (sym c.self.view_is) h in
    subst (λ (q : Queued). length (drop (slice_index_or ts w (length c.push_batch.new.changes.items)) c.push_batch.new.changes.items) ≡ length (untaken q w) + (length ps + length rs + 1)) c.self.view_is
    (subst (λ l. length (drop (slice_index_or ts w (length l)) l) ≡ length (drop (slice_index_or ts w (length xs)) xs) + (length ps + length rs + 1)) (sym c.push_batch.ensures.items)
    (ap length (left_more xs (as_changes ps rs) ts c.self.invariant.1 w l) ∙ (let a = length-append (drop (slice_index_or ts w (length xs)) xs) (as_changes ps rs) in let b = length_laid ps rs in omega arith)))

pub returns-clause-known : goal.returns-clause-known
returns-clause-known c = λ g k a r.
    subst (λ l. AllKnown g l) (sym c.push_batch.ensures.items)
    (known_posted g c.self.inside.changes.items c.args.added.now c.args.removed.now (subst (λ (q : Queued). AllKnown g q.changes) (sym c.self.view_is) k) a r)
