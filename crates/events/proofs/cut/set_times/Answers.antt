use Rattle.std.proofs.Common.{◌∙◌, ap, sym, arith}
use Rattle.semantics.specs.Time.{at_epoch}
use Rattle.events.specs.Cuts.{at_time}
use Rattle.events.proofs.Cuts.{write-next, written_all}
use Rattle.events.proofs.cut.set_times.Goals as goal

pub loop-letter-preserved : goal.loop-letter-preserved
loop-letter-preserved c =
    let f = at_time (at_epoch c.args.epoch) in
    let is = c.loop-letter.invariant in
    rw is (write-next f c.loop-letter.letter-index c.args.letters.now c.letter-item.result c.set_time.new.letter c.loop-letter-test.true (rw is at c.letter-item.is) (c.set_time.ensures ∙ ap f (sym c.letter-item.is)))

pub returns : goal.returns
returns c = c.loop-letter.invariant ∙ written_all (at_time (at_epoch c.args.epoch)) c.loop-letter.letter-index c.args.letters.now (omega (arith, c.loop-letter-test.false))
