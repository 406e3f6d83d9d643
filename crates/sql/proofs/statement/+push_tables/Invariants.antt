use Rattle.sql.proofs.statement.+push_tables.Given as goal

abbrev pub decreases-push_tables : goal.decreases-push_tables
decreases-push_tables g l = l.count
