use Rattle.std.proofs.Common.{◌++◌, ℕ, List, subst}
use Rattle.std.proofs.lemmas.List.{append_assoc}
use Rattle.table_queries.proofs.engine_sink.EngineSinkLineSink.append.Goals as goal

pub returns-in-Ok-clause-taken : goal.returns-in-Ok-clause-taken
returns-in-Ok-clause-taken g c = λ first taken holds query text h.
    subst (λ (t : List ℕ). g.A.Answering.holds c.take.new.intake query t) (append_assoc text taken c.args.lines.now) (c.in-Ok.ensures query (text ++ taken) (holds query text h))
