use Rattle.collector.specs.OutputText.{label_of}
use Rattle.replay.proofs.Printed.{printed_text}
use Rattle.replay.proofs.answer.push_output.Goals as goal

pub returns : goal.returns
returns g c =
    printed_text g.V.Views.late c.args.board.now c.args.output c.args.epoch c.passed.result (label_of c.args.plain c.args.name.now) c.args.out.now.items c.push_heading.new.out.items c.push_sorted.new.out.items c.emitted.result.now c.requires
    (record { prompt = c.law_prompt.ensures; within = c.law_waits.ensures }) (record { called = c.passed.ensures.called; passed = c.passed.ensures.passed; all = c.passed.ensures.seen }) c.law_headline.ensures c.in_ok-push_heading.ensures c.emitted.ensures c.in_ok-push_sorted.ensures
