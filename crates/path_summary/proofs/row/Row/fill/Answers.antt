use Rattle.std.proofs.Common.{◌≡◌, ◌+◌, ◌*◌, ◌≤◌, suc, subst, arith, length}
use Rattle.path_summary.specs.Codes.{row_of}
use Rattle.path_summary.specs.Walks.{HasGot}
use Rattle.path_summary.proofs.CodesGrow.{grows_on}
use Rattle.path_summary.proofs.Steps.{got_fewer}
use Rattle.path_summary.proofs.Passes.{closed_last}
use Rattle.path_summary.proofs.row.Row.fill.Goals as goal

pub returns-then-not-branch-clause-good : goal.returns-then-not-branch-clause-good
returns-then-not-branch-clause-good c = λ v l g.
    record {
      bound = 8192 * suc c.loop.counter;
      of_walks = (c.in_ok-pass.ensures.got v c.loop.counter l (c.loop.invariant.got v l g)).of_walks;
      closed = c.in_ok-pass.ensures.closed c.if-not-branch.true;
      self = (c.in_ok-pass.ensures.got v c.loop.counter l (c.loop.invariant.got v l g)).self;
    }

pub loop-preserved : goal.loop-preserved
loop-preserved c =
    let e : suc c.loop.counter ≡ c.loop.counter + 1 = omega arith in
    record {
      grows = grows_on c.args.summaries.now c.loop.summaries c.pass.new.summaries c.loop.invariant.grows c.pass.ensures.grows;
      codes = c.in_ok-pass.ensures.codes;
      got = λ v l g. subst (λ n. HasGot c.args.links.now v (8192 * n) n (row_of c.pass.new.summaries c.pass.new.self)) e (c.in_ok-pass.ensures.got v c.loop.counter l (c.loop.invariant.got v l g));
    }

pub returns-clause-good : goal.returns-clause-good
returns-clause-good c = λ v l g.
    let w = c.args.links.now in
    let n : length w.depths ≤ c.loop.counter = let a = c.loop-test.false in omega (arith, c.vertex_count-end.ensures) in
    let got = c.loop.invariant.got v l g in
    record {
      bound = 8192 * c.loop.counter;
      of_walks = got.of_walks;
      closed = closed_last w c.requires.loops v l (8192 * c.loop.counter) (row_of c.loop.summaries c.loop.self) (got_fewer w v (8192 * c.loop.counter) c.loop.counter (length w.depths) (row_of c.loop.summaries c.loop.self) n got);
      self = got.self;
    }
