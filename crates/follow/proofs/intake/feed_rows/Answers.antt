use Rattle.std.proofs.Common.{◌≡◌, ◌∙◌, [], arith, subst}
use Rattle.std.specs.Prelude.{MatchOption}
use Rattle.rows.specs.FlatRows.{arity_of}
use Rattle.semantics.specs.Multiset.{◌≈◌}
use Rattle.rows.specs.Counts.{records_in}
use Rattle.follow.proofs.Fed.{has_inputs, input_there, sent_one, takes_arity}
use Rattle.follow.proofs.intake.feed_rows.Goals as goal

pub feed-requires-clause-ready : goal.feed-requires-clause-ready
feed-requires-clause-ready g c = c.requires.fed.2.ready

pub feed-requires-clause-there : goal.feed-requires-clause-there
feed-requires-clause-there g c =
    let f = c.requires.fed in
    let is = has_inputs c.args.board.now.shown c.graph.result.now c.law_inputs.ensures c.graph.ensures c.law_inputs-2.ensures.inputs in
    let l = input_there c.args.board.now.shown f.0 c.args.intake.now f.1 f.2 is in
    omega (arith, l, c.requires.there)

pub feed-requires-clause-fits : goal.feed-requires-clause-fits
feed-requires-clause-fits g c =
    let f = c.requires.fed in
    let is = has_inputs c.args.board.now.shown c.graph.result.now c.law_inputs.ensures c.graph.ensures c.law_inputs-2.ensures.inputs in
    let same : arity_of c.in-Some.batch ≡ c.take_rows-rows.result.arity = subst (λ o. MatchOption o (c.take_rows-rows.result.rows ≡ []) (λ b. arity_of b ≡ c.take_rows-rows.result.arity)) c.in-Some.is c.in_ok-from_rows.ensures.some in
    same ∙ c.take_rows-rows.ensures.arity ∙ takes_arity c.args.board.now.shown f.0 c.args.intake.now f.1 c.args.input f.2 is c.requires.there

pub returns-in-Ok : goal.returns-in-Ok
returns-in-Ok g c =
    let rows = c.take_rows-rows.result.rows in
    let same : c.in-Some.batch ≈ rows = subst (λ o. records_in o ≈ rows) c.in-Some.is c.in_ok-from_rows.ensures.value in
    sent_one c.args.board.now.shown c.feed.new.board.shown c.args.intake.now c.take_rows-rows.new.intake c.args.input c.in-Some.batch rows same c.take_rows-rows.ensures.empties c.requires.there c.in-Ok.ensures.feeds
