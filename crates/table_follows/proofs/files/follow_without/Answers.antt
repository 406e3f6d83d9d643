use Rattle.std.proofs.Common.{ℕ, List, None, map}
use Rattle.collector.specs.Watching.{inner_of}
use Rattle.csv_cells.specs.Texts.{texts_of}
use Rattle.table_epochs.proofs.Results.{if-err, on-ok}
use Rattle.table_follows.specs.Followed.{FailsFile, FollowsFile}
use Rattle.table_follows.proofs.Ready.{file-failed, file-followed}
use Rattle.table_follows.proofs.files.follow_without.Goals as goal

pub returns-clause-written : goal.returns-clause-written
returns-clause-written g c = λ stream.
    let known = g.S.Sources.content c.args.sources.now in
    let job = c.args.streamed.job in
    let names : List (List ℕ) = map (λ s. s.now) job.paths.now in
    let fl = c.in_ok-following.following in
    let old = g.W.Write.contents (inner_of c.args.out.now) in
    let new = g.W.Write.contents (inner_of c.follow_file.new.out) in
    let ready = c.in_ok-following.ensures stream in
    on-ok {Q = FollowsFile known job.schema.now job.table.now names job.query.now None old new} c.follow_file.result
    (λ w. file-followed known job.schema.now job.table.now names job.query.now None (texts_of c.new-none.result) fl old new c.new-none.ensures ready w)
    (c.follow_file.ensures.written ready.header ready.start)

pub returns-clause-fault : goal.returns-clause-fault
returns-clause-fault g c = λ stream.
    let known = g.S.Sources.content c.args.sources.now in
    let job = c.args.streamed.job in
    let names : List (List ℕ) = map (λ s. s.now) job.paths.now in
    let fl = c.in_ok-following.following in
    let old = g.W.Write.contents (inner_of c.args.out.now) in
    let new = g.W.Write.contents (inner_of c.follow_file.new.out) in
    let ready = c.in_ok-following.ensures stream in
    if-err {Q = FailsFile known job.schema.now job.table.now names job.query.now old new} c.follow_file.result
    (λ fault w. file-failed known job.schema.now job.table.now names job.query.now (texts_of c.new-none.result) fl old new fault ready w)
    (c.follow_file.ensures.fault ready.header ready.start)
