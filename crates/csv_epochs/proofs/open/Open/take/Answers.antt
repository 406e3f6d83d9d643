use Rattle.std.proofs.Common.{◌∙◌, ◌++◌, ℕ, List, Option, None, Some, sym, ap, subst, arith}
use Rattle.csv_epochs.specs.Opened.{EndsRow, IsEnded}
use Rattle.csv_epochs.specs.declared.epoch.Epoch.{Epoch}
use Rattle.csv_epochs.proofs.Grouping.{begins-anew, goes-on, hands-out, keeps-text}
use Rattle.csv_epochs.proofs.open.Open.take.Goals as goal

pub returns-in-Some-clause-taken : goal.returns-in-Some-clause-taken
returns-in-Some-clause-taken c =
    let before = c.loop-self.invariant in
    let taken = c.in-Ok.ensures.taken in
    let ended : IsEnded c.advance.new.self = rw c.if-ended.true at c.in-Ok.ensures.ended in
    let row : EndsRow c.advance.new.self c.end_row.new.self (Some c.in-Some.epoch) =
    subst (λ (o : Option Epoch). EndsRow c.advance.new.self c.end_row.new.self o) c.in-Some.is c.in_ok-epoch.ensures in
    hands-out c.args.self.now c.advance.new.self c.end_row.new.self c.args.piece.now c.in-Ok.taken.1.now c.in-Some.epoch ended row (before.all ∙ taken.all)
    (taken.column ∙ before.column) (taken.lines ∙ before.lines) (λ has. let b = before.header has in let t = taken.header b.0 in (t.0, t.1 ∙ b.1)) (omega (arith, before.few, taken.shorter))

pub returns-in-Some-clause-kept : goal.returns-in-Some-clause-kept
returns-in-Some-clause-kept c =
    let ended : IsEnded c.advance.new.self = rw c.if-ended.true at c.in-Ok.ensures.ended in
    let row : EndsRow c.advance.new.self c.end_row.new.self (Some c.in-Some.epoch) =
    subst (λ (o : Option Epoch). EndsRow c.advance.new.self c.end_row.new.self o) c.in-Some.is c.in_ok-epoch.ensures in
    begins-anew c.advance.new.self c.end_row.new.self c.in-Some.epoch ended row

pub loop-self-preserved-in_default : goal.loop-self-preserved-in_default
loop-self-preserved-in_default c =
    let before = c.loop-self.invariant in
    let taken = c.in-Ok.ensures.taken in
    let ended : IsEnded c.advance.new.self = rw c.if-ended.true at c.in-Ok.ensures.ended in
    let row : EndsRow c.advance.new.self c.end_row.new.self None =
    subst (λ (o : Option Epoch). EndsRow c.advance.new.self c.end_row.new.self o) c.in_default.is c.in_ok-epoch.ensures in
    record {
      kept = goes-on c.advance.new.self c.end_row.new.self ended row;
      few = omega (arith, before.few, taken.shorter);
      header = λ has.
          let b = before.header has in
          let t = taken.header b.0 in
          (row.0.stage ∙ t.0, ap (λ v. v.items) row.0.header ∙ (t.1 ∙ b.1));
      all = before.all ∙ (taken.all ∙ ap (λ (t : List ℕ). t ++ c.in-Ok.taken.1.now) (sym (keeps-text c.advance.new.self c.end_row.new.self row.0)));
      column = row.0.column ∙ (taken.column ∙ before.column);
      lines = row.0.lines ∙ (taken.lines ∙ before.lines);
    }
