use Rattle.std.proofs.Common.{ℕ, List, inl, inr, map, subst}
use Rattle.std.specs.Prelude.{option_map}
use Rattle.collector.specs.Watching.{inner_of}
use Rattle.schema.specs.declared.tables.Table.{Table}
use Rattle.table_runs.specs.Runs.{WritesAnswer}
use Rattle.table_follows.specs.Followed.{FailsFile, FailsSo, FollowsFile, HasFollowed, HasNoneIn, IsStream}
use Rattle.table_epochs.proofs.Results.{if-err, on-ok}
use Rattle.table_follows.proofs.files.follow_tables.Goals as goal

pub returns-in-Some-clause-written : goal.returns-in-Some-clause-written
returns-in-Some-clause-written g c =
    let known = g.S.Sources.content c.args.sources.now in
    let dictionary = option_map (λ s. s.now) c.args.asked.now.dictionary in
    let old = g.W.Write.contents (inner_of c.args.out.now) in
    let new = g.W.Write.contents (inner_of c.follow_streamed.new.out) in
    let begun = c.in_ok-begun.begun in
    let schema = begun.schema in
    let table = c.in_ok-asked_output.field-0.now in
    let names : List (List ℕ) = map (λ s. s.now) begun.paths.items in
    let stream = subst (λ (ts : List Table). IsStream ts c.in-Some.stream.place c.in-Some.stream.column c.in-Some.stream.cells) c.deref.ensures.value
    c.in-Some.ensures.stream in
    on-ok {Q = HasFollowed known c.args.asked.now old new} c.follow_streamed.result (λ w. record {
      schema = schema;
      table = table;
      paths = names;
      query = begun.query.items;
      begun = c.in_ok-begun.ensures;
      output = c.in_ok-asked_output.ensures;
      written = inl (subst (λ q. FollowsFile known schema table names q dictionary old new) c.as_slice-2.ensures.value
          (subst (λ ps. FollowsFile known schema table (map (λ s. s.now) ps) c.as_slice-2.result.now dictionary old new) c.as_slice.ensures.value w));
    }) (c.follow_streamed.ensures.written stream)

pub returns-in-Some-clause-fault : goal.returns-in-Some-clause-fault
returns-in-Some-clause-fault g c =
    let known = g.S.Sources.content c.args.sources.now in
    let old = g.W.Write.contents (inner_of c.args.out.now) in
    let new = g.W.Write.contents (inner_of c.follow_streamed.new.out) in
    let begun = c.in_ok-begun.begun in
    let schema = begun.schema in
    let table = c.in_ok-asked_output.field-0.now in
    let names : List (List ℕ) = map (λ s. s.now) begun.paths.items in
    let stream = subst (λ (ts : List Table). IsStream ts c.in-Some.stream.place c.in-Some.stream.column c.in-Some.stream.cells) c.deref.ensures.value
    c.in-Some.ensures.stream in
    if-err {Q = FailsSo known c.args.asked.now old new} c.follow_streamed.result (λ fault w. inr (record {
      schema = schema;
      table = table;
      paths = names;
      query = begun.query.items;
      begun = c.in_ok-begun.ensures;
      output = c.in_ok-asked_output.ensures;
      written = inl (subst (λ q. FailsFile known schema table names q old new fault) c.as_slice-2.ensures.value
          (subst (λ ps. FailsFile known schema table (map (λ s. s.now) ps) c.as_slice-2.result.now old new fault) c.as_slice.ensures.value w));
    })) (c.follow_streamed.ensures.fault stream)

pub returns-clause-written : goal.returns-clause-written
returns-clause-written g c =
    let known = g.S.Sources.content c.args.sources.now in
    let dictionary = option_map (λ s. s.now) c.args.asked.now.dictionary in
    let old = g.W.Write.contents (inner_of c.args.out.now) in
    let new = g.W.Write.contents (inner_of c.run_job.new.out) in
    let begun = c.in_ok-begun.begun in
    let schema = begun.schema in
    let table = c.in_ok-asked_output.field-0.now in
    let names : List (List ℕ) = map (λ s. s.now) begun.paths.items in
    let none = subst HasNoneIn c.deref.ensures.value c.in-None.ensures.none in
    on-ok {Q = HasFollowed known c.args.asked.now old new} c.run_job.result (λ w. record {
      schema = schema;
      table = table;
      paths = names;
      query = begun.query.items;
      begun = c.in_ok-begun.ensures;
      output = c.in_ok-asked_output.ensures;
      written = inr (
        none,
        subst (λ q. WritesAnswer known schema table names q dictionary old new) c.as_slice-2.ensures.value
            (subst (λ ps. WritesAnswer known schema table (map (λ s. s.now) ps) c.as_slice-2.result.now dictionary old new) c.as_slice.ensures.value w),
      );
    }) c.run_job.ensures.written

pub returns-clause-fault : goal.returns-clause-fault
returns-clause-fault g c =
    let known = g.S.Sources.content c.args.sources.now in
    let old = g.W.Write.contents (inner_of c.args.out.now) in
    let new = g.W.Write.contents (inner_of c.run_job.new.out) in
    let begun = c.in_ok-begun.begun in
    let schema = begun.schema in
    let table = c.in_ok-asked_output.field-0.now in
    let names : List (List ℕ) = map (λ s. s.now) begun.paths.items in
    let none = subst HasNoneIn c.deref.ensures.value c.in-None.ensures.none in
    if-err {Q = FailsSo known c.args.asked.now old new} c.run_job.result (λ fault w. inr (record {
      schema = schema;
      table = table;
      paths = names;
      query = begun.query.items;
      begun = c.in_ok-begun.ensures;
      output = c.in_ok-asked_output.ensures;
      written = inr (none, w);
    })) c.run_job.ensures.fault
