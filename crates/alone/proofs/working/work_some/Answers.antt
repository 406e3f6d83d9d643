use Rattle.std.proofs.Common.{◌∙◌, arith, refl}
use Rattle.driver.proofs.Tallying.{stays_then}
use Rattle.alone.proofs.Stepping.{moves_on, stays}
use Rattle.alone.proofs.working.work_some.Goals as goal

pub events-init : goal.events-init
events-init g c = record { graph = refl; rises = omega arith; free = λ free. free; counts = λ s is. is; received = omega arith; moves = stays c.args.board.now.shown c.args.board.now.shown refl; most = omega arith }

pub events-preserved : goal.events-preserved
events-preserved g c =
    let inv = c.events.invariant in
    let more = c.in-Partly.ensures in
    record {
      graph = more.graph ∙ inv.graph;
      rises = (let a = inv.rises in let b = more.rises in omega (arith, a, b));
      free = λ free. more.free (inv.free free);
      counts = stays_then c.args.board.now.shown c.events.board.shown c.work_once.new.board.shown c.args.tally.now c.events.tally c.work_once.new.tally inv.counts more.counts;
      received = (let a = inv.received in let b = more.received in omega (arith, a, b));
      moves = moves_on c.args.board.now.shown c.events.board.shown c.work_once.new.board.shown inv.moves more.moves;
      most = (let a = inv.most in let b = more.turn in omega (arith, a, b));
    }

pub returns-in-Off-clause-free : goal.returns-in-Off-clause-free
returns-in-Off-clause-free g c = λ free. c.in-Off.ensures.free (c.events.invariant.free free)

pub returns-in-Off-clause-counts : goal.returns-in-Off-clause-counts
returns-in-Off-clause-counts g c = stays_then c.args.board.now.shown c.events.board.shown c.work_once.new.board.shown c.args.tally.now c.events.tally c.work_once.new.tally c.events.invariant.counts c.in-Off.ensures.counts

pub returns-in-Off-clause-moves : goal.returns-in-Off-clause-moves
returns-in-Off-clause-moves g c = moves_on c.args.board.now.shown c.events.board.shown c.work_once.new.board.shown c.events.invariant.moves c.in-Off.ensures.moves
