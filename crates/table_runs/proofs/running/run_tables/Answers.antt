use Rattle.std.proofs.Common.{map, subst}
use Rattle.std.specs.Prelude.{option_map}
use Rattle.collector.specs.Watching.{inner_of}
use Rattle.table_runs.specs.Runs.{WritesAnswer}
use Rattle.table_runs.proofs.Answered.{on_ok}
use Rattle.table_runs.proofs.running.run_tables.Goals as goal

pub returns-clause-written : goal.returns-clause-written
returns-clause-written g c =
    let known = g.S.Sources.content c.args.sources.now in
    let dictionary = option_map (λ s. s.now) c.args.asked.now.dictionary in
    let old = g.W.Write.contents (inner_of c.args.out.now) in
    let new = g.W.Write.contents (inner_of c.run_job.new.out) in
    let begun = c.in_ok-begun.begun in
    let schema = begun.schema in
    let table = c.in_ok-asked_output.field-0.now in
    on_ok c.run_job.result (λ w. record {
      schema = schema;
      table = table;
      paths = map (λ s. s.now) begun.paths.items;
      query = begun.query.items;
      begun = c.in_ok-begun.ensures;
      output = c.in_ok-asked_output.ensures;
      written = subst (λ q. WritesAnswer known schema table (map (λ s. s.now) begun.paths.items) q dictionary old new) c.as_slice-2.ensures.value
          (subst (λ ps. WritesAnswer known schema table (map (λ s. s.now) ps) c.as_slice-2.result.now dictionary old new) c.as_slice.ensures.value w);
    }) c.run_job.ensures.written
