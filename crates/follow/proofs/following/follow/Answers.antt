use Rattle.std.proofs.Common.{[], subst, sym}
use Rattle.std.specs.Prelude.{Err, false}
use Rattle.collector.specs.Watching.{inner_of}
use Rattle.follow.specs.Follows.{Follows, HasRead}
use Rattle.follow.proofs.Positions.{nothing_follows, read_none}
use Rattle.follow.proofs.following.follow.Goals as goal

pub returns-in-Err-clause-follows : goal.returns-in-Err-clause-follows
returns-in-Err-clause-follows g c =
    let start = g.W.Write.contents (inner_of c.args.writer.now) in
    ([], false, read_none g.R.Read.remaining c.args.reader.now, subst (λ e. Follows c.args.manner.first.number c.args.graph [] false start start (Err e)) (sym c.ending.ensures) (nothing_follows c.args.manner.first.number c.args.graph false start c.in-Err.halt))

pub returns-in-Ok-follow_graph-clause-follows : goal.returns-in-Ok-follow_graph-clause-follows
returns-in-Ok-follow_graph-clause-follows g c =
    let f = c.in-Ok-follow_graph.ensures.follows in
    let start = g.W.Write.contents (inner_of c.args.writer.now) in
    let new = g.W.Write.contents (inner_of c.follow_graph.new.writer) in
    (f.0, f.1, f.2, subst (λ n. Follows n.number c.args.graph f.0 f.1 start new c.in-Ok-follow_graph.result) c.in-Ok.ensures.first (subst (λ x. Follows c.in-Ok.pair.0.first.number x f.0 f.1 start new c.in-Ok-follow_graph.result) c.in-Ok.ensures.same f.3))

pub returns-clause-follows : goal.returns-clause-follows
returns-clause-follows g c =
    let start = g.W.Write.contents (inner_of c.args.writer.now) in
    let ended = subst (λ e. Follows c.args.manner.first.number c.args.graph [] false start start (Err e)) (sym c.ending-in-Err-follow_graph.ensures) (nothing_follows c.args.manner.first.number c.args.graph false start c.in-Err-follow_graph.halt) in (
      [],
      false,
      subst (λ r. HasRead g.R.Read.remaining c.args.reader.now r [] false) (sym c.in-Err-follow_graph.ensures.unread) (read_none g.R.Read.remaining c.args.reader.now),
      subst (λ w. Follows c.args.manner.first.number c.args.graph [] false start (g.W.Write.contents (inner_of w)) (Err c.ending-in-Err-follow_graph.result)) (sym c.in-Err-follow_graph.ensures.unwritten) ended,
    )
