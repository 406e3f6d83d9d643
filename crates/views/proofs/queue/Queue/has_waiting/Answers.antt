use Rattle.std.proofs.Common.{◌≡◌, ◌<◌, [], length, subst, sym, arith}
use Rattle.std.specs.Prelude.{MatchBool, ltb}
use Rattle.views.specs.Queued.{Queued, untaken, batches_of}
use Rattle.views.proofs.TakenBatches.{waits_tested}
use Rattle.views.proofs.queue.Queue.has_waiting.Goals as goal

pub returns : goal.returns
returns c = λ s.
    let xs = c.self.inside.changes.items in
    let ts = c.self.inside.taken.items in
    let w = c.args.worker in
    let l : w < length ts = subst (λ (q : Queued). w < length q.taken) (sym c.self.view_is) c.requires in
    subst (λ (q : Queued). MatchBool (ltb c.index.result.now c.len.result) (batches_of s (untaken q w) ≡ [] → ⊥) (batches_of s (untaken q w) ≡ [])) c.self.view_is
    (waits_tested xs ts w s c.index.result.now c.len.result c.self.invariant.1 l c.index.ensures (let b = c.len.ensures in let d = c.self.inside.changes.ok.0 in omega arith))
