use Rattle.std.proofs.Common.{◌++◌, List, ℕ, inr, subst}
use Rattle.std.proofs.KnownBytes.{Appends-trans}
use Rattle.std.specs.Io.KnownBytes.{Appends}
use Rattle.collector.specs.Watching.{inner_of}
use Rattle.csv_cells.specs.Texts.{texts_of}
use Rattle.table_commands.proofs.Results.{on-ok}
use Rattle.table_commands.proofs.Streamed.{none-stays}
use Rattle.table_commands.proofs.encoding.encode_without.Goals as goal

pub returns-then-needs_dictionary-clause-fault : goal.returns-then-needs_dictionary-clause-fault
returns-then-needs_dictionary-clause-fault g c = inr (none-stays c.args.files.end_mark _)

pub returns-clause-written : goal.returns-clause-written
returns-clause-written g c =
    let (text, begun, is, has, whole) = c.in_ok-rest.ensures.input in
    let rest : List ℕ = c.in_ok-rest.rest.items in
    on-ok c.write_text.result (λ more. (
      begun ++ rest,
      record {
        old = texts_of c.new-none.result;
        new = texts_of c.begin_input.new.dictionary;
        text = text;
        begins = c.new-none.ensures;
        numbered = c.in_ok-rest.ensures.numbered;
        encoded = is;
        ended = whole;
      },
      Appends-trans _ _ _ begun rest has
          (subst (λ (t : List ℕ). Appends (g.W.Write.contents (inner_of c.begin_input.new.out)) (g.W.Write.contents (inner_of c.write_text.new.out)) t) c.as_slice.ensures.value more),
    )) c.write_text.ensures.written
