use Rattle.std.proofs.Common.{subst}
use Rattle.std.specs.Io.KnownBytes.{Appends}
use Rattle.collector.specs.Watching.{inner_of}
use Rattle.table_commands.specs.Done.{HasListedKinds}
use Rattle.table_commands.proofs.Results.{on-ok}
use Rattle.table_commands.proofs.Writing.{listed-kinds}
use Rattle.table_commands.proofs.listing.list_kinds.Goals as goal

pub returns-clause-written : goal.returns-clause-written
returns-clause-written g c =
    let known = g.S.Sources.content c.args.sources.now in
    let asked = c.args.asked in
    let old = g.W.Write.contents (inner_of c.args.out.now) in
    let new = g.W.Write.contents (inner_of c.write_text.new.out) in
    on-ok {Q = HasListedKinds known asked.schema.now asked.query.now old new} c.write_text.result
    (λ w. listed-kinds known asked.schema.now asked.query.now c.in_ok-text.text.items old new c.in_ok-text.ensures
    (subst (λ bytes. Appends old new bytes) c.as_slice.ensures.value w)) c.write_text.ensures.written
