use Rattle.sql.proofs.Texts.{on_ok, two_texts}
use Rattle.sql.proofs.query.push_query.Goals as goal

pub returns-in_ok-push-in-Distinct : goal.returns-in_ok-push-in-Distinct
returns-in_ok-push-in-Distinct g c =
    rw (c.in-Distinct.is, ← c.dialect-in-Distinct.ensures) (on_ok c.push_table.result (two_texts c.args.text.now.items _ _ _ _ c.in_ok-push-in-Distinct.ensures) c.push_table.ensures)

pub returns-in-Recursive : goal.returns-in-Recursive
returns-in-Recursive g c = rw c.in-Recursive.is c.push_recursive.ensures
