use Rattle.std.proofs.Common.{◌≤◌, ◌+◌, ◌∙◌, ◌++◌, ◌∷◌, length, ap, sym, subst}
use Rattle.machine.specs.World.{Message}
use Rattle.rows.specs.Counts.{most}
use Rattle.rows.specs.FlatRows.{arity_of, joined}
use Rattle.events.proofs.Merging.{both_records, one_message}
use Rattle.events.proofs.message.Message.merge.Goals as goal

pub invariant_of-self-2 : goal.invariant_of-self-2
invariant_of-self-2 c =
    one_message _ c.self.inside.more.items _ _ c.self.invariant _ c.other.inside.more.items _ _ c.other.invariant
    (subst (λ (m : Message). length m.records + length (c.other.inside.batch ++ joined c.other.inside.more.items) ≤ most) (sym c.self.view_is)
    (subst (λ (m : Message). length c.args.self.now.records + length m.records ≤ most) (sym c.other.view_is) c.requires.few))
    (ap (λ (m : Message). arity_of m.records) c.other.view_is ∙ c.requires.arity ∙ ap (λ (m : Message). arity_of m.records) (sym c.self.view_is)) _
    (c.put_reserved.ensures ∙ ap (λ bs. bs ++ (c.other.inside.batch ∷ c.other.inside.more.items)) c.reserve.ensures.items)

pub returns-clause-merged : goal.returns-clause-merged
returns-clause-merged c =
    let all = c.put_reserved.ensures ∙ ap (λ bs. bs ++ (c.other.inside.batch ∷ c.other.inside.more.items)) c.reserve.ensures.items in
    let mine = c.self.view_is in
    let others = ap (λ (m : Message). m.records) c.other.view_is in
    λ i. record {
      edge = (mine i).edge;
      time = (mine i).time;
      records = (both_records c.self.inside.batch c.self.inside.more.items c.other.inside.batch c.other.inside.more.items c.put_reserved.new.batches.items all ∙ (λ j. (mine j).records ++ others j)) i;
    }
