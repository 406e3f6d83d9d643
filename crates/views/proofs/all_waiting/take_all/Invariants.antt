use Rattle.std.proofs.Common.{◌≡◌, ◌≤◌, ℕ, length}
use Rattle.semantics.specs.Could.{Pointstamp, CouldResultIn, NoneOf}
use Rattle.views.specs.Waiting.{IsSeenBy}
use Rattle.views.proofs.all_waiting.take_all.Given as goal

abbrev pub invariant-taking : goal.invariant-taking
invariant-taking g l = record {
  graph : g.V.Views.graph l.views ≡ g.V.Views.graph l.fn.views;
  workers : g.V.Views.workers l.views ≡ g.V.Views.workers l.fn.views;
  content : (q : Pointstamp) → g.V.Views.content l.views q ≡ g.V.Views.content l.fn.views q;
  others : (w s : ℕ) → (w ≡ l.fn.worker → s ≡ l.fn.sender → ⊥) → g.V.Views.waiting l.views w s ≡ g.V.Views.waiting l.fn.views w s;
  stays : (p : Pointstamp)
      → NoneOf (CouldResultIn (g.V.Views.graph l.fn.views)) (IsSeenBy (g.V.Views.content l.fn.views) (g.V.Views.waiting l.fn.views) (g.V.Views.workers l.fn.views) l.fn.worker) p
      → NoneOf (CouldResultIn (g.V.Views.graph l.fn.views)) (IsSeenBy (g.V.Views.content l.views) (g.V.Views.waiting l.views) (g.V.Views.workers l.fn.views) l.fn.worker) p;
  room : g.V.Views.room l.fn.views ≤ g.V.Views.room l.views;
}

abbrev pub decreases-taking : goal.decreases-taking
decreases-taking g l = length (g.V.Views.waiting l.views l.fn.worker l.fn.sender)
