use Rattle.std.proofs.Common.{arith, rules, ap, ◌≡◌, max, length}
use Rattle.std.proofs.lemmas.List.{map-append}
use Rattle.grammar.specs.Scalars.{ScalarAt}
use Rattle.grammar.proofs.Scalars.{one_scalar}
use Rattle.parser.proofs.Faults.{denied_with, passed_on}
use Rattle.parser.proofs.Lists.{list_unread, list_ends, list_goes_on}
use Rattle.parser.proofs.list.parse_scalars.Goals as goal

pub returns-in_err-next-clause-denied : goal.returns-in_err-next-clause-denied
returns-in_err-next-clause-denied g c =
    passed_on c.from_residual.result c.in_err-next.field-0.0 _ _ (search rules) (denied_with _ _ _ _ (λ m u. list_unread ScalarAt _ _ _ _ m c.items.invariant.on (λ x h us d. u _ _ _ _ d.1)) c.in_err-next.ensures.denied)

pub returns-in-None-clause-found : goal.returns-in-None-clause-found
returns-in-None-clause-found g c =
    let m : c.max-height.result ≡ max c.items.height c.in_ok-next.other = omega arith in
    list_ends ScalarAt _ _ _ _ _ _ _ _ _ c.items.invariant.on (_, c.in_ok-next.ensures.found) c.in-None.ensures (rw c.in_ok-push.ensures.items (simp map-append)) m

pub items-preserved : goal.items-preserved
items-preserved g c =
    let m : c.max-height.result ≡ max c.items.height c.in_ok-next.other = omega arith in
    record {
      on = list_goes_on ScalarAt _ _ _ _ _ _ _ _ _ _ _ one_scalar c.items.invariant.on (_, c.in_ok-next.ensures.found) c.in-Some.ensures (rw c.in_ok-push.ensures.items (simp map-append)) m;
      shorter = omega (arith, ap length c.in-Some.ensures, c.in_ok-next.ensures.shorter);
      most = omega (arith, c.in_ok-next.ensures.low.1);
    }
