use Rattle.std.proofs.Common.{◌≡◌, arith, length, refl, rules}
use Rattle.follow.proofs.Fed.{begun_first, begun_sealed, few_inputs, has_inputs, input_there, open_below, portion_so}
use Rattle.follow.proofs.intake.begin.Goals as goal

pub seal_inputs-requires-clause-ready : goal.seal_inputs-requires-clause-ready
seal_inputs-requires-clause-ready g c = (portion_so c.args.board.now.shown c.feed_portion.new.board.shown c.args.intake.now c.feed_portion.new.intake c.in_ok-feed_portion.ensures c.requires.fed).2.ready

pub seal_inputs-requires-clause-there : goal.seal_inputs-requires-clause-there
seal_inputs-requires-clause-there g c =
    let f = portion_so c.args.board.now.shown c.feed_portion.new.board.shown c.args.intake.now c.feed_portion.new.intake c.in_ok-feed_portion.ensures c.requires.fed in
    let is = has_inputs c.feed_portion.new.board.shown c.graph.result.now c.law_inputs.ensures c.graph.ensures c.law_inputs-2.ensures.inputs in
    let l = input_there c.feed_portion.new.board.shown f.0 c.feed_portion.new.intake f.1 f.2 is in
    let n : c.len.result ≡ length c.feed_portion.new.intake.portion.items = search rules in
    omega (arith, l, n)

pub overflow_cast-len : goal.overflow_cast-len
overflow_cast-len g c =
    let f = portion_so c.args.board.now.shown c.feed_portion.new.board.shown c.args.intake.now c.feed_portion.new.intake c.in_ok-feed_portion.ensures c.requires.fed in
    let is = has_inputs c.feed_portion.new.board.shown c.graph.result.now c.law_inputs.ensures c.graph.ensures c.law_inputs-2.ensures.inputs in
    let few = few_inputs c.feed_portion.new.board.shown f.0 c.feed_portion.new.intake f.1 f.2 is in
    let n : c.len.result ≡ length c.feed_portion.new.intake.portion.items = search rules in
    omega (arith, few, n)

pub seal_inputs-requires-clause-below : goal.seal_inputs-requires-clause-below
seal_inputs-requires-clause-below g c = λ i lt.
    let f = portion_so c.args.board.now.shown c.feed_portion.new.board.shown c.args.intake.now c.feed_portion.new.intake c.in_ok-feed_portion.ensures c.requires.fed in
    let n : c.len.result ≡ length c.feed_portion.new.intake.portion.items = search rules in
    let begun = c.in_ok-feed_portion.ensures.holds.begun in
    open_below c.feed_portion.new.board.shown f.0 c.feed_portion.new.intake f.1 i f.2 (omega (arith, lt, n)) (omega (arith, begun, c.requires.few))

pub returns-then-intake-eq0 : goal.returns-then-intake-eq0
returns-then-intake-eq0 g c = begun_first c.args.board.now.shown c.feed_portion.new.board.shown c.args.intake.now c.feed_portion.new.intake _ c.in_ok-feed_portion.ensures c.if-intake-eq0.true (omega (arith, c.if-intake-eq0.true)) refl refl

pub returns : goal.returns
returns g c = begun_sealed c.args.board.now.shown c.feed_portion.new.board.shown c.seal_inputs.new.board.shown c.args.intake.now c.feed_portion.new.intake _ c.len.result c.in_ok-feed_portion.ensures c.in_ok-seal_inputs.ensures.seals (search rules) c.if-intake-eq0.false (omega arith) refl refl
