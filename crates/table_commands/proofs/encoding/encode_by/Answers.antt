use Rattle.std.proofs.Common.{List, Option, ℕ, ap, inr, map, subst, sym}
use Rattle.std.specs.Borrow.{Bor}
use Rattle.std.specs.Prelude.{Some, None, option_map}
use Rattle.collector.specs.Watching.{inner_of}
use Rattle.table_commands.specs.Done.{HasEncoded, WritesInput}
use Rattle.table_commands.proofs.Results.{any-err, on-ok}
use Rattle.table_commands.proofs.Streamed.{none-stays}
use Rattle.table_commands.proofs.Writing.{encoded}
use Rattle.table_commands.proofs.encoding.encode_by.Goals as goal

abbrev texts_now : List (Bor (List ℕ)) → List (List ℕ)
texts_now = map (λ s. s.now)

abbrev text_now : Option (Bor (List ℕ)) → Option (List ℕ)
text_now = option_map (λ s. s.now)

pub returns-in-Some-clause-written : goal.returns-in-Some-clause-written
returns-in-Some-clause-written g c =
    let known = g.S.Sources.content c.args.sources.now in
    let asked = c.args.asked in
    let schema = c.args.schema.now in
    let paths = texts_now c.in_ok-paths.paths.items in
    let old = g.W.Write.contents (inner_of c.args.out.now) in
    let new = g.W.Write.contents (inner_of c.encode_with.new.out) in
    on-ok {Q = HasEncoded known asked.schema.now (texts_now asked.files.now) (text_now asked.dictionary) asked.end_mark old new} c.encode_with.result
    (λ w. encoded known asked.schema.now (texts_now asked.files.now) paths (text_now asked.dictionary) asked.end_mark schema old new c.requires.read
    c.in_ok-paths.ensures (subst (λ d. WritesInput known schema paths d asked.end_mark old new) (sym (ap text_now c.in-Some.is))
    (subst (λ ps. WritesInput known schema (texts_now ps) (Some c.in-Some.name.now) asked.end_mark old new) c.as_slice-2.ensures.value w)))
    c.encode_with.ensures.written

pub returns-clause-written : goal.returns-clause-written
returns-clause-written g c =
    let known = g.S.Sources.content c.args.sources.now in
    let asked = c.args.asked in
    let schema = c.args.schema.now in
    let paths = texts_now c.in_ok-paths.paths.items in
    let old = g.W.Write.contents (inner_of c.args.out.now) in
    let new = g.W.Write.contents (inner_of c.encode_without.new.out) in
    on-ok {Q = HasEncoded known asked.schema.now (texts_now asked.files.now) (text_now asked.dictionary) asked.end_mark old new} c.encode_without.result
    (λ w. encoded known asked.schema.now (texts_now asked.files.now) paths (text_now asked.dictionary) asked.end_mark schema old new c.requires.read
    c.in_ok-paths.ensures (subst (λ d. WritesInput known schema paths d asked.end_mark old new) (sym (ap text_now c.in-None.is))
    (subst (λ ps. WritesInput known schema (texts_now ps) None asked.end_mark old new) c.as_slice-2.ensures.value w)))
    c.encode_without.ensures.written

pub returns-in_err-paths-clause-fault : goal.returns-in_err-paths-clause-fault
returns-in_err-paths-clause-fault g c = any-err c.from_residual.result (λ e. inr (none-stays c.args.asked.end_mark _))

pub returns-then-is_input_twice-clause-fault : goal.returns-then-is_input_twice-clause-fault
returns-then-is_input_twice-clause-fault g c = inr (none-stays c.args.asked.end_mark _)
