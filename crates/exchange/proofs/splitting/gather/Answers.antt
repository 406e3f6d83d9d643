use Rattle.std.proofs.Common.{rules, length, sym, subst}
use Rattle.std.proofs.lemmas.Iterator.Consumers.{YieldsList-turn}
use Rattle.std.proofs.lemmas.Iterator.Adapters.{YieldsList-from_vec}
use Rattle.rows.specs.Counts.{RunList, rows_of}
use Rattle.rows.specs.Indexes.{AreDifferent}
use Rattle.exchange.proofs.splitting.gather.Goals as goal

pub put_parcel-requires : goal.put_parcel-requires
put_parcel-requires c =
    let t = YieldsList-turn (YieldsList-from_vec {s = c.into_iter-part-iterator.result} c.args.parts.items (search rules) (search rules)) c.loop-part.yielded c.loop-part.part-iterator c.loop-part.yielded_by c.next.result c.next.new.self c.in-Some.part c.in-Some.is c.next.ensures.steps in
    subst (λ (p : RunList). AreDifferent (rows_of p.runs)) (sym t.1) (c.requires.different (length c.loop-part.yielded) c.in-Some.part t.0)
