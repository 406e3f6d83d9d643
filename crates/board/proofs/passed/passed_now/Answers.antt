use Rattle.std.proofs.Common.{◌≡◌, ◌⊎◌, inl, inr, ◌<◌, ◌≤◌, arith}
use Rattle.std.proofs.lemmas.Bool.{cases_lt}
use Rattle.views.specs.Waiting.{IsSeenBy}
use Rattle.board.specs.Seals.{NoneLeftAtAll}
use Rattle.board.specs.Shown.{Shown}
use Rattle.board.proofs.Passing.{at_most_seals, have_further, outputs_there, seals_one}
use Rattle.board.proofs.passed.passed_now.Goals as goal

pub passed_from-requires-clause-order : goal.passed_from-requires-clause-order
passed_from-requires-clause-order g c =
    let s : Shown = c.args.state.now in
    let kept = c.requires.kept in
    at_most_seals (g.V.Views.graph c.args.views.now) (g.V.Views.content c.args.views.now) s kept c.seals.result c.seals.ensures kept.world kept.shows c.args.from (c.requires.passed kept.world kept.shows).0

pub passed_from-requires-clause-some : goal.passed_from-requires-clause-some
passed_from-requires-clause-some g c = let e = c.requires.viewers in let l = c.requires.kept.some in omega (arith, e, l)

pub passed_from-requires-clause-outputs : goal.passed_from-requires-clause-outputs
passed_from-requires-clause-outputs g c = outputs_there (g.V.Views.graph c.args.views.now) (g.V.Views.content c.args.views.now) c.args.state.now c.requires.kept

pub returns-clause-passed : goal.returns-clause-passed
returns-clause-passed g c =
    let r = c.passed_from.ensures in
    have_further (g.V.Views.graph c.args.views.now) (g.V.Views.content c.args.views.now) c.args.state.now c.requires.kept c.seals.result c.seals.ensures c.args.from c.requires.passed c.passed_from.result r.most r.passed

pub returns-clause-most : goal.returns-clause-most
returns-clause-most g c m most =
    let r = c.passed_from.ensures in
    let same : m ≡ c.seals.result = seals_one c.args.state.now m c.seals.result most c.seals.ensures in
    (omega (arith, r.most, same), λ l. r.first (omega (arith, l, same)))

pub returns-clause-seen : goal.returns-clause-seen
returns-clause-seen g c e l = go (cases_lt e c.args.from)
  where
    go : (e < c.args.from) ⊎ (c.args.from ≤ e) → NoneLeftAtAll (g.V.Views.graph c.args.views.now) (IsSeenBy (g.V.Views.content c.args.views.now) (g.V.Views.waiting c.args.views.now) (g.V.Views.workers c.args.views.now) 0) c.args.state.now e
    go (inl early) = c.requires.seen e early
    go (inr late) = c.passed_from.ensures.seen e late l
