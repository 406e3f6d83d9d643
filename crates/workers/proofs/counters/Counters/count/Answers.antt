use Rattle.std.proofs.Common.{◌∙◌, Some, ap, arith, sym}
use Rattle.std.specs.Prelude.{option_map}
use Rattle.driver.proofs.Sums.{raises_receives}
use Rattle.workers.specs.Counters.{published_by}
use Rattle.workers.specs.declared.counters.Receipts.{Receipts}
use Rattle.workers.proofs.counters.Counters.count.Goals as goal

pub invariant_of-self : goal.invariant_of-self
invariant_of-self g c =
    let behind = c.args.self.now.behind in
    let number = ap published_by c.in-Some.is in
    let rises = raises_receives c.args.self.now.tally c.args.sent c.count.new.self c.count.ensures in
    record {
      behind = (
        behind.0 ∙ ap (option_map (λ (r : Receipts). r.publisher.table)) c.in-Some.is ∙ ap Some (sym c.note.ensures.table),
        c.note.ensures.most (let most = behind.1 in omega (arith, most, number, rises)),
      );
    }
