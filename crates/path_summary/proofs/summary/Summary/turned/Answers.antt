use Rattle.std.proofs.Common.{sym, subst, ◌∙◌}
use Rattle.semantics.specs.Summary.{Summary}
use Rattle.semantics.specs.Time.{Action}
use Rattle.path_summary.specs.Rows.{Follows}
use Rattle.path_summary.proofs.Following.{turned_follows}
use Rattle.path_summary.proofs.summary.Summary.turned.Goals as goal

pub returns-in-Some : goal.returns-in-Some
returns-in-Some c =
    let s = c.self.inside in
    let f : Summary = record { keep = s.keep; add = s.add; tail = s.tail.items } in
    subst (λ (f : Summary). Follows Action.next f (record { keep = s.keep; add = s.add; tail = c.push.new.self.items })) c.self.view_is
    (turned_follows f c.pop.new.self.items c.push.new.self.items c.in-Some.counter (rw (sym c.self.view_is) at c.requires.some) (sym (c.copied_counters-tail.ensures ∙ c.as_slice.ensures.value) ∙ c.in-Some.ensures.items) c.push.ensures.items)
