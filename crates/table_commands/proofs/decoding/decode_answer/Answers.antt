use Rattle.std.proofs.Common.{List, Option, ℕ, subst}
use Rattle.std.specs.Prelude.{option_map}
use Rattle.std.specs.Io.KnownBytes.{Appends}
use Rattle.collector.specs.Watching.{inner_of}
use Rattle.table_commands.specs.Done.{HasDecoded}
use Rattle.table_commands.proofs.Results.{on-ok}
use Rattle.table_commands.proofs.Writing.{decoded}
use Rattle.table_commands.proofs.decoding.decode_answer.Goals as goal

pub returns-clause-written : goal.returns-clause-written
returns-clause-written g c =
    let known = g.S.Sources.content c.args.sources.now in
    let asked = c.args.asked in
    let dictionary : Option (List ℕ) = option_map (λ s. s.now) asked.dictionary in
    let output : Option (List ℕ) = option_map (λ s. s.now) asked.output in
    let old = g.W.Write.contents (inner_of c.args.out.now) in
    let new = g.W.Write.contents (inner_of c.write_text.new.out) in
    on-ok {Q = HasDecoded known asked.schema.now asked.answer.now dictionary output old new} c.write_text.result
    (λ w. decoded known asked.schema.now asked.answer.now dictionary output c.in_ok-text.text.items old new c.in_ok-text.ensures
    (subst (λ bytes. Appends old new bytes) c.as_slice.ensures.value w)) c.write_text.ensures.written
