use Rattle.std.proofs.Common.{[], get_or, map}
use Rattle.collector.specs.Watching.{inner_of}
use Rattle.csv_cells.specs.Texts.{texts_of}
use Rattle.table_epochs.specs.Followed.{FailsText}
use Rattle.table_epochs.specs.Going.{followed_by}
use Rattle.table_epochs.proofs.Results.{err-any, from-err, on-any}
use Rattle.table_follows.proofs.Ready.{text-failed}
use Rattle.table_follows.proofs.files.follow_counted.Goals as goal

pub returns-in_err-follow_file-clause-fault : goal.returns-in_err-follow_file-clause-fault
returns-in_err-follow_file-clause-fault g c = λ header start.
    let fl = c.args.following.now in
    let known = g.S.Sources.content c.args.sources.now (get_or (map (λ s. s.now) fl.job.paths.now) fl.stream.place []) in
    let old = g.W.Write.contents (inner_of c.args.out.now) in
    let new = g.W.Write.contents (inner_of c.follow_file.new.out) in
    from-err (FailsText known (followed_by fl) old new) c.from_residual.result c.in_err-follow_file.field-0.0 c.from_residual.ensures.1
    (c.in_err-follow_file.ensures.fault header start)

pub returns-clause-written : goal.returns-clause-written
returns-clause-written g c = λ header start. on-any c.grown_after.result (c.in_ok-follow_file.ensures.written header start)

pub returns-clause-fault : goal.returns-clause-fault
returns-clause-fault g c = λ header start.
    let fl = c.args.following.now in
    let known = g.S.Sources.content c.args.sources.now (get_or (map (λ s. s.now) fl.job.paths.now) fl.stream.place []) in
    let old = g.W.Write.contents (inner_of c.args.out.now) in
    let new = g.W.Write.contents (inner_of c.follow_file.new.out) in
    err-any (FailsText known (followed_by fl) old new) c.grown_after.result
    (λ fault. text-failed known (followed_by fl) (texts_of fl.dictionary) old new fault (c.in_ok-follow_file.ensures.written header start))
