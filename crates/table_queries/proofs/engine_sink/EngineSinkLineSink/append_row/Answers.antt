use Rattle.std.proofs.Common.{◌++◌, ◌∙◌, ℕ, List, ap, subst}
use Rattle.std.proofs.lemmas.List.{append_assoc}
use Rattle.collector.specs.Piecewise.{row_line}
use Rattle.table_queries.proofs.RowLines.{line_is}
use Rattle.table_queries.proofs.engine_sink.EngineSinkLineSink.append_row.Goals as goal

pub returns-in-Ok-clause-taken : goal.returns-in-Ok-clause-taken
returns-in-Ok-clause-taken g c = λ first taken holds query text h.
    let name = c.args.name.now in
    let numbers = c.args.numbers.now in
    subst (λ (t : List ℕ). g.A.Answering.holds c.take_row.new.intake query t)
    (append_assoc text taken (row_line name numbers) ∙ ap (λ (line : List ℕ). text ++ (taken ++ line)) (line_is name numbers))
    (c.in-Ok.ensures query (text ++ taken) (holds query text h))
