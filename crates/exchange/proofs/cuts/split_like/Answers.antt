use Rattle.std.proofs.Common.{◌∙◌, List, refl, subst, sym}
use Rattle.semantics.specs.Multiset.{Record, ◌≈◌}
use Rattle.exchange.specs.Parts.{from_all, parcels as divided}
use Rattle.exchange.proofs.cuts.split_like.Goals as goal

pub returns-then-serves-clause-each : goal.returns-then-serves-clause-each
returns-then-serves-clause-each c =
    let e = c.if-serves.ensures in
    c.in_ok-again.ensures ∙ c.in-Some.cut.each ∙ (λ i. divided (e.routing refl i (e.workers refl i) (e.sender refl i)) (e.batch refl i) (e.workers refl i))

pub invariant_of-cut : goal.invariant_of-cut
invariant_of-cut c = record {
  each = c.in_ok-parcels.ensures.each ∙ (λ i. divided (sym c.in_ok-routing.ensures i c.args.workers c.args.sender) (c.in_ok-shared.ensures i) c.args.workers);
  sum = subst (λ (b : List Record). b ≈ from_all c.in_ok-parcels.parcels.items) c.in_ok-shared.ensures c.in_ok-parcels.ensures.sum;
}
