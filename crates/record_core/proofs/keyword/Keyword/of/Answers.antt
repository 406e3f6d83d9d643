use Rattle.std.proofs.Common.{sym, arith}
use Rattle.record_core.specs.declared.keyword.TheConstants.{KEYWORDS}
use Rattle.record_core.proofs.Keywords.{not_there, place}
use Rattle.record_core.proofs.keyword.Keyword.of.Goals as goal

pub loop-keyword-preserved : goal.loop-keyword-preserved
loop-keyword-preserved c = not_there KEYWORDS c.args.word.now c.text.result.now c.loop-keyword.keyword-index c.loop-keyword.invariant c.text.ensures (sym c.if-eq.ensures)

pub returns-clause-none : goal.returns-clause-none
returns-clause-none c = λ k e. let p = place k in c.loop-keyword.invariant k p.0 (omega (arith, p.1)) p.2 e
