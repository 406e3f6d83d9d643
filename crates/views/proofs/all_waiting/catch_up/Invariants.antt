use Rattle.std.proofs.Common.{◌≡◌, ◌≤◌, ◌<◌, [], ℕ}
use Rattle.semantics.specs.Could.{Pointstamp, CouldResultIn, NoneOf}
use Rattle.views.specs.Waiting.{IsSeenBy}
use Rattle.views.proofs.all_waiting.catch_up.Given as goal

abbrev pub invariant-loop-sender : goal.invariant-loop-sender
invariant-loop-sender g l = record {
  graph : g.V.Views.graph l.views ≡ g.V.Views.graph l.fn.views;
  workers : g.V.Views.workers l.views ≡ g.V.Views.workers l.fn.views;
  content : (q : Pointstamp) → g.V.Views.content l.views q ≡ g.V.Views.content l.fn.views q;
  none : (s : ℕ) → s < l.sender → g.V.Views.waiting l.views l.fn.worker s ≡ [];
  others : (w s : ℕ) → (w ≡ l.fn.worker → ⊥) → g.V.Views.waiting l.views w s ≡ g.V.Views.waiting l.fn.views w s;
  stays : (p : Pointstamp)
      → NoneOf (CouldResultIn (g.V.Views.graph l.fn.views)) (IsSeenBy (g.V.Views.content l.fn.views) (g.V.Views.waiting l.fn.views) l.fn.workers l.fn.worker) p
      → NoneOf (CouldResultIn (g.V.Views.graph l.fn.views)) (IsSeenBy (g.V.Views.content l.views) (g.V.Views.waiting l.views) l.fn.workers l.fn.worker) p;
  room : g.V.Views.room l.fn.views ≤ g.V.Views.room l.views;
}
