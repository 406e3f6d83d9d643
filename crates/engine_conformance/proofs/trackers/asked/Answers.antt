use Rattle.engine_conformance.proofs.PossibleChanges.{possible_changes}
use Rattle.engine_conformance.proofs.trackers.asked.Goals as goal

pub changes-requires : goal.changes-requires
changes-requires g c = rw (c.copied.ensures, c.copied-2.ensures, c.copied-3.ensures, c.copied-4.ensures, c.copied-5.ensures, c.copied-6.ensures, c.copied-7.ensures, c.copied-8.ensures, c.copied-9.ensures)
    (possible_changes (g.P.Progress.graph c.args.tracker.now) (g.P.Progress.content c.args.tracker.now) c.args.p.now c.args.q.now c.requires.p c.requires.q)
