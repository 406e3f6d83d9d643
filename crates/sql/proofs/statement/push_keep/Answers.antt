use Rattle.sql.proofs.Texts.{ends_three}
use Rattle.sql.proofs.statement.push_keep.Goals as goal

pub returns-in_ok-push_made-in-Spark : goal.returns-in_ok-push_made-in-Spark
returns-in_ok-push_made-in-Spark c =
    rw c.in-Spark.is (ends_three c.push-in-Spark-2.result c.args.text.now.items _ _ _ _ _ _ c.in_ok-push-in-Spark.ensures (rw c.in-Spark.is at c.in_ok-push_made-in-Spark.ensures) c.push-in-Spark-2.ensures)
