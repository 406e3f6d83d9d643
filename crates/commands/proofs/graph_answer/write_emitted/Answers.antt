use Rattle.std.proofs.Common.{◌≡◌, subst}
use Rattle.graph.specs.Shown.{shown_names}
use Rattle.collector.specs.Emitted.{names_of, records_of}
use Rattle.collector.specs.OutputText.{IsTextFrom}
use Rattle.collector.specs.ReadEpochs.{epoch_count}
use Rattle.execution.specs.Fed.{EmittedBelow}
use Rattle.commands.proofs.Answering.{is_answer}
use Rattle.commands.proofs.graph_answer.write_emitted.Goals as goal

pub returns-in-Ok-write_epochs-clause-text : goal.returns-in-Ok-write_epochs-clause-text
returns-in-Ok-write_epochs-clause-text g c = λ query compiled.
    let is_text = c.in-Ok-write_epochs.ensures.text in
    let names : names_of c.as_slice.result.now ≡ shown_names c.args.report.now.graph = rw c.as_slice.ensures.value c.in-Ok.ensures.names in
    let lists : EmittedBelow c.args.report.now (epoch_count c.args.epochs.now) (records_of c.as_slice.result.now) = rw (c.as_slice.ensures.value, ← c.count.ensures) c.in-Ok.ensures.each in (
      is_text.0,
      is_answer c.args.report.now c.args.epochs.now (names_of c.as_slice.result.now) (records_of c.as_slice.result.now) is_text.0 c.requires names lists c.law_headline.ensures c.law_drained.ensures
          (subst (λ n. IsTextFrom (names_of c.as_slice.result.now) (records_of c.as_slice.result.now) 0 n is_text.0) c.count-2.ensures is_text.1) query compiled,
      is_text.2,
    )

pub returns-clause-text : goal.returns-clause-text
returns-clause-text g c = λ query compiled.
    let is_text = rw c.in-Err-Write.field-0-is at c.in-Err-Write.ensures.text in
    let names : names_of c.as_slice.result.now ≡ shown_names c.args.report.now.graph = rw c.as_slice.ensures.value c.in-Ok.ensures.names in
    let lists : EmittedBelow c.args.report.now (epoch_count c.args.epochs.now) (records_of c.as_slice.result.now) = rw (c.as_slice.ensures.value, ← c.count.ensures) c.in-Ok.ensures.each in (
      is_text.0,
      is_answer c.args.report.now c.args.epochs.now (names_of c.as_slice.result.now) (records_of c.as_slice.result.now) is_text.0 c.requires names lists c.law_headline.ensures c.law_drained.ensures
          (subst (λ n. IsTextFrom (names_of c.as_slice.result.now) (records_of c.as_slice.result.now) 0 n is_text.0) c.count-2.ensures is_text.1) query compiled,
      is_text.2,
    )
