use Rattle.std.proofs.Common.{ℕ, Bor, List, OnOk, Option, Some, map, option_map, subst, sym}
use Rattle.collector.specs.Watching.{inner_of}
use Rattle.table_follows.specs.Followed.{FailsFile, FollowsFile}
use Rattle.table_follows.proofs.Ready.{failed-after, none_is}
use Rattle.table_epochs.proofs.Results.{err-any}
use Rattle.table_follows.proofs.files.follow_streamed.Goals as goal

pub returns-in_err-keep_dictionary-in-Ok-clause-fault : goal.returns-in_err-keep_dictionary-in-Ok-clause-fault
returns-in_err-keep_dictionary-in-Ok-clause-fault g c = λ stream.
    let known = g.S.Sources.content c.args.sources.now in
    let job = c.args.streamed.job in
    let names : List (List ℕ) = map (λ s. s.now) job.paths.now in
    let old = g.W.Write.contents (inner_of c.args.out.now) in
    let new = g.W.Write.contents (inner_of c.follow_with.new.out) in
    err-any (FailsFile known job.schema.now job.table.now names job.query.now old new) c.from_residual-in_err-keep_dictionary-in-Ok.result
    (λ fault. failed-after known job.schema.now job.table.now names job.query.now (Some c.in-Some.name.now) old new fault (c.in-Ok.ensures.written stream))

pub returns-in_default-clause-written : goal.returns-in_default-clause-written
returns-in_default-clause-written g c = λ stream.
    let known = g.S.Sources.content c.args.sources.now in
    let job = c.args.streamed.job in
    let names : List (List ℕ) = map (λ s. s.now) job.paths.now in
    let old = g.W.Write.contents (inner_of c.args.out.now) in
    let new = g.W.Write.contents (inner_of c.follow_without.new.out) in
    subst (λ (d : Option (List ℕ)). OnOk c.follow_without.result (FollowsFile known job.schema.now job.table.now names job.query.now d old new))
    (sym (none_is (λ (s : Bor (List ℕ)). s.now) job.dictionary c.in_default.not-Some)) (c.follow_without.ensures.written stream)

pub returns-in_ok-keep_dictionary-in-Ok-clause-written : goal.returns-in_ok-keep_dictionary-in-Ok-clause-written
returns-in_ok-keep_dictionary-in-Ok-clause-written g c = λ stream.
    let known = g.S.Sources.content c.args.sources.now in
    let job = c.args.streamed.job in
    let names : List (List ℕ) = map (λ s. s.now) job.paths.now in
    let old = g.W.Write.contents (inner_of c.args.out.now) in
    let new = g.W.Write.contents (inner_of c.follow_with.new.out) in
    subst (λ (d : Option (Bor (List ℕ))). FollowsFile known job.schema.now job.table.now names job.query.now (option_map (λ s. s.now) d) old new)
    (sym c.in-Some.is) (c.in-Ok.ensures.written stream)
