use Rattle.std.proofs.Common.{[], false, refl, arith}
use Rattle.views.specs.Waiting.{Waiting, batch}
use Rattle.views.proofs.PostedViews.{posted_stays}
use Rattle.views.proofs.WaitingCounts.{there_is_seen}
use Rattle.views.proofs.direct.DirectViews.post.Goals as goal

pub returns-clause-stays : goal.returns-clause-stays
returns-clause-stays g c =
    let nothing : Waiting = λ w s. [] in
    let graph = g.P.Progress.graph c.args.self.now.tracker in
    let n = c.args.self.now.workers in
    let before = g.P.Progress.content c.args.self.now.tracker in
    let after = g.P.Progress.content c.remove_all.new.tracker in
    λ flows w l p none.
    posted_stays graph flows n w before after nothing nothing (batch c.args._sender c.args.added.now c.args.removed.now) (let s = c.requires.sender in omega (arith, s)) c.requires.may
    (λ q. let a = c.add_all.ensures.content q in let r = c.remove_all.ensures.content q in omega (arith, a, r)) false (λ s. refl) p
    (λ q there could. none q (there_is_seen before nothing n w (λ s m. refl) q there) could) none
