use Rattle.std.proofs.Common.{[], Bool, map, refl, subst, sym}
use Rattle.std.proofs.KnownBytes.{Appends-nil}
use Rattle.std.specs.Prelude.{IfOk}
use Rattle.collector.specs.Watching.{inner_of}
use Rattle.csv_cells.specs.Texts.{texts_of}
use Rattle.table_commands.specs.Done.{IsBegunBy}
use Rattle.table_commands.proofs.Results.{if-ok}
use Rattle.table_commands.proofs.encoding.begin_input.Goals as goal

pub returns-then-files-clause-input : goal.returns-then-files-clause-input
returns-then-files-clause-input g c =
    subst (λ (mark : Bool). IfOk c.stream_input.result (λ rest. IsBegunBy (g.S.Sources.content c.args.sources.now) c.args.files.schema.now (map (λ s. s.now) c.args.files.paths.now)
    (texts_of c.stream_input.new.dictionary) mark (g.W.Write.contents (inner_of c.args.out.now)) (g.W.Write.contents (inner_of c.stream_input.new.out)) rest.items))
    (sym c.if-files.true) c.stream_input.ensures.input

pub returns-else-files-clause-input : goal.returns-else-files-clause-input
returns-else-files-clause-input g c =
    subst (λ (mark : Bool). IfOk c.input_text.result (λ rest. IsBegunBy (g.S.Sources.content c.args.sources.now) c.args.files.schema.now (map (λ s. s.now) c.args.files.paths.now)
    (texts_of c.input_text.new.dictionary) mark (g.W.Write.contents (inner_of c.args.out.now)) (g.W.Write.contents (inner_of c.args.out.now)) rest.items))
    (sym c.if-files.false)
    (if-ok c.input_text.result (λ rest is. (rest.items, [], is, Appends-nil (g.W.Write.contents (inner_of c.args.out.now)), refl)) c.input_text.ensures.input)
