use Rattle.std.proofs.Common.{arith, ap, length}
use Rattle.lexer.specs.declared.mark.Mark.TheVariants as mark
use Rattle.grammar.specs.Relations.{AggAt}
use Rattle.grammar.proofs.Phrases.{one_list, one_agg}
use Rattle.parser.proofs.Faults.{denied_anyhow}
use Rattle.parser.proofs.Lists.{ones_go_on, ones_end, ones_unread, ones_no_end}
use Rattle.parser.proofs.list.parse_last_aggs.Goals as goal

pub returns-in_err-next-clause-denied : goal.returns-in_err-next-clause-denied
returns-in_err-next-clause-denied g c =
    denied_anyhow c.from_residual.result _ (λ m. ones_unread AggAt mark.CloseRound _ _ _ m c.items.invariant.on (c.in_err-next.ensures.none m))

pub returns-in_default-clause-denied : goal.returns-in_default-clause-denied
returns-in_default-clause-denied g c = λ room m.
    ones_no_end AggAt mark.CloseRound _ _ _ _ _ m (one_list AggAt one_agg) c.items.invariant.on c.in_ok-next.ensures.found c.in-None.ensures c.in_default.ensures

pub returns-in-None-clause-found : goal.returns-in-None-clause-found
returns-in-None-clause-found g c =
    ones_end AggAt mark.CloseRound _ _ _ _ _ _ _ _ c.items.invariant.on c.in_ok-next.ensures.found c.in-None.ensures c.in_ok-push.ensures.items c.in-Some-after_mark.ensures

pub items-preserved : goal.items-preserved
items-preserved g c = record {
  on = ones_go_on AggAt _ _ _ _ _ _ _ _ one_agg c.items.invariant.on c.in_ok-next.ensures.found c.in-Some.ensures c.in_ok-push.ensures.items;
  shorter = omega (arith, ap length c.in-Some.ensures, c.in_ok-next.ensures.shorter);
}
