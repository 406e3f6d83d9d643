use Rattle.std.proofs.Common.{◌≡◌, [], ℕ, List, map, refl, sym, subst}
use Rattle.std.proofs.lemmas.List.{append-nil}
use Rattle.csv_cells.specs.Texts.{texts_of}
use Rattle.query_answers.specs.Runs.{read_part}
use Rattle.tables.specs.Inputs.{AreFiles, held}
use Rattle.tables.proofs.Joined.{held-input}
use Rattle.table_epochs.proofs.epoch_answer.answer_of_files.Goals as goal

pub returns-in-Ok-clause-answered : goal.returns-in-Ok-clause-answered
returns-in-Ok-clause-answered g c =
    let (texts, input, long, known, is, took) = c.in-Ok.ensures.input in
    let schema = c.args.following.now.job.schema.now in
    let files : List (List ℕ) = map (λ v. v.items) c.args.following.now.files.items in
    let same : map (λ v. v.items) c.as_slice.result.now ≡ files = subst (λ vs. map (λ v. v.items) vs ≡ files) (sym c.as_slice.ensures.value) refl in
    let first = c.new-input.result in
    let query : List ℕ = read_part c.args.following.now.job.query.now in
    let holds = took first [] (λ q t h. subst (λ (x : List ℕ). g.A.Answering.holds first.intake q x) (sym (append-nil t)) h) in
    let begun : g.A.Answering.holds first.intake query [] = rw c.new-input.ensures c.in_ok-intake.ensures in (
      input,
      held-input schema files texts (texts_of c.encode.new.dictionary) input (subst (λ (fs : List (List ℕ)). AreFiles (held fs) texts 0 schema.inputs.items) same known) is,
      c.in_ok-answer-in-Ok.ensures query input (holds query [] begun),
    )
