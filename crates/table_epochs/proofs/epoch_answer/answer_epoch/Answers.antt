use Rattle.std.proofs.Common.{◌≡◌, ◌∙◌, [], ℕ, List, map, set, sym, ap, subst, arith, suc}
use Rattle.csv_cells.specs.Texts.{texts_of}
use Rattle.query_answers.specs.Runs.{IsRun, read_part}
use Rattle.tables.specs.Inputs.{IsInput}
use Rattle.table_epochs.specs.Followed.{Followed, Reached}
use Rattle.table_epochs.specs.Going.{followed_by, reached_by}
use Rattle.table_epochs.specs.declared.epoch_answer.Following.{Following}
use Rattle.table_epochs.proofs.Kept.{answer-of, set-set, with-files}
use Rattle.table_epochs.proofs.Results.{if-ok, on-any}
use Rattle.table_epochs.proofs.epoch_answer.answer_epoch.Goals as goal

pub returns-clause-answered : goal.returns-clause-answered
returns-clause-answered g c =
    let f : Followed = followed_by c.args.following.now in
    let new : Reached = record { count = c.in-Some.count; last = c.in_ok-value.value; texts = texts_of c.answer_of_files.new.following.dictionary } in
    let place : ℕ = f.place in
    let text : List ℕ = c.args.epoch.text.items in
    let own : List (List ℕ) = map (λ v. v.items) c.args.following.now.files.items in
    let counted : c.in-Some.count ≡ suc c.args.following.now.count = omega (arith, c.in-Some.ensures) in
    let files : map (λ v. v.items) c.put_text.new.files.items ≡ set f.files place text = c.put_text.ensures ∙ sym (set-set own place [] text) in
    let (input, is, run) = c.in_ok-answer.ensures.answered in
    let taken = subst (λ (fs : List (List ℕ)). IsInput f.schema fs new.texts input) files is in
    let ran = subst (λ (a : List ℕ). IsRun (read_part f.query) input a) (sym c.as_slice.ensures.value) run in
    if-ok c.file_of.result (λ file h. answer-of f (reached_by c.args.following.now) new c.args.epoch input file.items counted
    (texts_of c.value_of.new.dictionary) c.in_ok-value.ensures.grows c.in_ok-answer.ensures.grows c.in_ok-value.ensures.value
    (c.is_late.ensures c.if-is_late.false) taken
    h)
    (c.file_of.ensures input ran)

pub returns-clause-keeps : goal.returns-clause-keeps
returns-clause-keeps g c =
    let f : Followed = followed_by c.args.following.now in
    let own : List (List ℕ) = map (λ v. v.items) c.args.following.now.files.items in
    let files : set (map (λ v. v.items) c.put_text.new.files.items) f.place [] ≡ f.files =
    ap (λ (fs : List (List ℕ)). set fs f.place []) c.put_text.ensures ∙ set-set own f.place c.args.epoch.text.items [] in
    let rest = c.in_ok-answer.ensures.rest in
    on-any c.file_of.result (record {
      followed = ap followed_by rest ∙ ap (with-files f) files;
      header = ap (λ (a : Following). a.header) rest;
    })
