use Rattle.std.proofs.Common.{◌++◌, [], ℕ, List, sym, subst}
use Rattle.std.proofs.lemmas.List.{append-nil}
use Rattle.query_answers.specs.Runs.{read_part}
use Rattle.table_runs.proofs.running.answer_of_files.Goals as goal

pub returns-in-Ok-clause-answered : goal.returns-in-Ok-clause-answered
returns-in-Ok-clause-answered g c =
    let (text, is, took) = c.in-Ok.ensures.input in
    let first = c.new-input.result in
    let query : List ℕ = read_part c.args.job.now.query.now in
    let holds = took first [] (λ q t h. subst (λ (x : List ℕ). g.A.Answering.holds first.intake q x) (sym (append-nil t)) h) in
    let begun : g.A.Answering.holds first.intake query [] = rw c.new-input.ensures c.in_ok-intake.ensures in (
      text,
      is,
      c.in_ok-answer-in-Ok.ensures query text (holds query [] begun),
    )
