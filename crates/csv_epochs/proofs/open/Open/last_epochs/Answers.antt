use Rattle.csv_epochs.proofs.Endings.{last-epochs}
use Rattle.csv_epochs.proofs.open.Open.last_epochs.Goals as goal

pub returns-clause-epochs : goal.returns-clause-epochs
returns-clause-epochs c =
    rw c.in_ok-epochs.ensures
    (last-epochs c.args.self.now c.end_tail.new.self c.end_body.new.self c.in_ok-first.first c.in_ok-last.last c.requires.kept c.requires.ends c.in_ok-first.ensures
    c.in_ok-last.ensures)
