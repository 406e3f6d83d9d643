use Rattle.std.proofs.Common.{◌∙◌, arith, refl}
use Rattle.driver.proofs.Tallying.{stays_then}
use Rattle.alone.proofs.Stepping.{moves_on, stays}
use Rattle.driver.specs.Received.{received_of}
use Rattle.execution.proofs.Tellings.{told_more, tells_nothing, tells_then}
use Rattle.execution.proofs.single.work_and_tell.Goals as goal

pub looks-init : goal.looks-init
looks-init g c = record {
  moves = stays c.args.board.now.shown c.args.board.now.shown refl;
  free = λ free. free;
  rises = omega arith;
  counts = λ s is. is;
  received = c.requires.received;
  passed = refl;
  tells = tells_nothing g.W.Write.contents c.args.watch.now.watcher c.args.watch.now.told;
}

pub looks-preserved : goal.looks-preserved
looks-preserved g c =
    let inv = c.looks.invariant in
    let some = c.in-Partly.ensures in
    let tells = c.tell_received.ensures in
    record {
      moves = moves_on c.args.board.now.shown c.looks.board.shown c.work_some.new.board.shown inv.moves some.moves;
      free = λ free. some.free (inv.free free);
      rises = (let a = inv.rises in let b = some.rises in omega (arith, a, b));
      counts = stays_then c.args.board.now.shown c.looks.board.shown c.work_some.new.board.shown c.args.tally.now c.looks.tally c.work_some.new.tally inv.counts some.counts;
      received = told_more c.looks.watch.told.received (received_of c.looks.tally) (received_of c.work_some.new.tally) c.received.result c.tell_received.new.self.told.received
          inv.received some.received c.received.ensures tells.due tells.early;
      passed = tells.passed ∙ inv.passed;
      tells = tells_then g.W.Write.contents c.args.watch.now.watcher c.looks.watch.watcher c.tell_received.new.self.watcher c.args.watch.now.told c.looks.watch.told c.tell_received.new.self.told
          inv.tells tells.tells;
    }

pub returns-in-Off-clause-counts : goal.returns-in-Off-clause-counts
returns-in-Off-clause-counts g c = stays_then c.args.board.now.shown c.looks.board.shown c.work_some.new.board.shown c.args.tally.now c.looks.tally c.work_some.new.tally c.looks.invariant.counts c.in-Off.ensures.counts

pub returns-clause-counts : goal.returns-clause-counts
returns-clause-counts g c = stays_then c.args.board.now.shown c.looks.board.shown c.work_off.new.board.shown c.args.tally.now c.looks.tally c.work_off.new.tally c.looks.invariant.counts c.work_off.ensures.counts

pub returns-in-Off-clause-moves : goal.returns-in-Off-clause-moves
returns-in-Off-clause-moves g c = moves_on c.args.board.now.shown c.looks.board.shown c.work_some.new.board.shown c.looks.invariant.moves c.in-Off.ensures.moves

pub returns-in-Off-clause-free : goal.returns-in-Off-clause-free
returns-in-Off-clause-free g c = λ free. c.in-Off.ensures.free (c.looks.invariant.free free)

pub returns-clause-moves : goal.returns-clause-moves
returns-clause-moves g c = moves_on c.args.board.now.shown c.looks.board.shown c.work_off.new.board.shown c.looks.invariant.moves c.work_off.ensures.moves

pub returns-clause-free : goal.returns-clause-free
returns-clause-free g c = λ free. c.work_off.ensures.free (c.looks.invariant.free free)
