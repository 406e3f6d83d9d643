use Rattle.sql.specs.Shown.{made_of, names_of}
use Rattle.sql.proofs.Inputs.{split_first}
use Rattle.sql.proofs.Outputs.{no_output, no_result, one_output, one_result}
use Rattle.sql.proofs.Texts.{on_ok}
use Rattle.sql.proofs.whole.+write_outputs.Goals as goal

pub returns-in-empty-clause-made : goal.returns-in-empty-clause-made
returns-in-empty-clause-made g t c = no_output c.args.recursive c.args.outputs.now (names_of c.args.scope.now) (made_of c.args.made.now.items) c.in-empty.len_below

pub returns-in-empty-clause-results : goal.returns-in-empty-clause-results
returns-in-empty-clause-results g t c = no_result c.args.recursive c.args.outputs.now (names_of c.args.scope.now) (made_of c.args.made.now.items) _ c.in-empty.len_below

pub returns-in_ok-push-in-len1-up-clause-made : goal.returns-in_ok-push-in-len1-up-clause-made
returns-in_ok-push-in-len1-up-clause-made g t c =
    let e = split_first c.args.outputs.now c.output-item.result c.in-len1-up.len_at_least c.output-item.is in
    let w = rw c.deref.ensures at c.in_ok-table-in-len1-up.ensures.made in
    on_ok c.write_outputs.result (one_output c.args.recursive c.args.outputs.now _ c.output-item.result (names_of c.args.scope.now) (made_of c.args.made.now.items) c.write_rel.new.made.items c.in_ok-table-in-len1-up.table _ e w)
    (rw c.in_ok-table-in-len1-up.ensures.scope at c.write_outputs.ensures.made)

pub returns-in_ok-push-in-len1-up-clause-results : goal.returns-in_ok-push-in-len1-up-clause-results
returns-in_ok-push-in-len1-up-clause-results g t c =
    let e = split_first c.args.outputs.now c.output-item.result c.in-len1-up.len_at_least c.output-item.is in
    let w = rw c.deref.ensures at c.in_ok-table-in-len1-up.ensures.made in
    on_ok c.write_outputs.result (one_result c.args.recursive c.args.outputs.now _ c.output-item.result (names_of c.args.scope.now) (made_of c.args.made.now.items) c.write_rel.new.made.items c.in_ok-table-in-len1-up.table c.args.results.now.items c.push.new.self.items _ e w c.in_ok-push-in-len1-up.ensures.items)
    (rw c.in_ok-table-in-len1-up.ensures.scope at c.write_outputs.ensures.results)
