use Rattle.std.proofs.Common.{sym, subst, ◌∙◌}
use Rattle.semantics.specs.Summary.{Summary}
use Rattle.semantics.specs.Time.{Action}
use Rattle.path_summary.specs.Rows.{Follows}
use Rattle.path_summary.proofs.Following.{left_follows}
use Rattle.path_summary.proofs.summary.Summary.left.Goals as goal

pub returns-in-Some : goal.returns-in-Some
returns-in-Some c =
    let s = c.self.inside in
    let f : Summary = record { keep = s.keep; add = s.add; tail = s.tail.items } in
    subst (λ (f : Summary). Follows Action.leave f (record { keep = s.keep; add = s.add; tail = c.pop.new.self.items })) c.self.view_is
    (left_follows f c.pop.new.self.items _ (rw (sym c.self.view_is) at c.requires) (sym (c.copied_counters-tail.ensures ∙ c.as_slice.ensures.value) ∙ c.in-Some.ensures.items))
