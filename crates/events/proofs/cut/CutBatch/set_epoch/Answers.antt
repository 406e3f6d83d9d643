use Rattle.std.proofs.Common.{◌≡◌, ◌∙◌, length, map, subst, sym, ap}
use Rattle.std.proofs.lemmas.List.{length-map}
use Rattle.semantics.specs.Time.{at_epoch}
use Rattle.events.specs.Cuts.{IsCut, at_time}
use Rattle.events.proofs.Cuts.{cut_at, lent_whole}
use Rattle.events.proofs.cut.CutBatch.set_epoch.Goals as goal

pub invariant_of-self : goal.invariant_of-self
invariant_of-self c =
    let f = at_time (at_epoch c.args.epoch) in
    let old = c.self.inside.letters.items in
    let made : c.set_times.new.letters ≡ map f old = c.set_times.ensures ∙ ap (map f) c.deref_mut.ensures.value in
    let long : length c.set_times.new.letters ≡ length old = ap length made ∙ length-map old f in
    let is = lent_whole c.self.inside.letters.len c.set_times.new.letters old c.self.inside.letters.ok.0 long ∙ made in
    subst (IsCut _) (sym is) (cut_at _ c.args.epoch old c.self.invariant)
