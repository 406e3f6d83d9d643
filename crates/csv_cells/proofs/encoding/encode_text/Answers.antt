use Rattle.std.proofs.Common.{Bor, ◌≡◌, ℕ, List, [], ◌∷◌, ◌++◌, Some, sym, ◌∙◌, ap, refl, inl, inr}
use Rattle.std.proofs.lemmas.List.{append-nil}
use Rattle.csv.specs.Reading.{default_config, strip_bom}
use Rattle.csv.specs.Records.{fields_of}
use Rattle.csv.specs.declared.parser.State.TheVariants as st
use Rattle.csv.proofs.ReadFacts.{rows-more}
use Rattle.text_dictionary.specs.Texts.{texts_of, Grows}
use Rattle.csv_cells.specs.Encoded.{line_text}
use Rattle.csv_cells.specs.Cells.{Spells}
use Rattle.csv_cells.proofs.Rows.{all-push, lines-push, grown-twice, none-spelled, no-lines, none-reached}
use Rattle.csv_cells.proofs.encoding.encode_text.Goals as goal

pub loop-row-init : goal.loop-row-init
loop-row-init c =
    let fr = c.from_reader-reader.ensures in
    let e = c.has_headers.ensures in
    let start = c.into_iter-row-iterator.ensures.into_iter_gives ∙ refl in
    let rdr = c.into_byte_records-row-items.ensures.rdr in
    let left = c.into_byte_records-row-items.ensures.left in
    rw (start, rdr, c.new-out.ensures.items) (record {
      trim = rw (e) at fr.trim ∙ c.new.ensures.trim;
      ready = inr (inr (rw e at fr.has_headers, fr.headers));
      left = left;
      config = rw e at fr.config ∙ c.new.ensures.config;
      rest = strip_bom c.args.text.now;
      source = fr.source;
      rows = [];
      reached = rw fr.state (none-reached st.StartRecord (strip_bom c.args.text.now));
      all = [];
      spelled = none-spelled _ _;
      grown = ([], sym (append-nil (texts_of c.args.dictionary.now)));
      written = no-lines c.args.name.now;
    })

pub loop-row-preserved : goal.loop-row-preserved
loop-row-preserved c =
    let inv = c.loop-row.invariant in
    let s = rw (c.in-Some.is, c.in-Ok.is) at ((c.next.ensures.steps inv.left inv.trim).0 inv.ready) in
    let m = rows-more (λ (s : Bor (List ℕ)). Some s.now) c.loop-row.row-iterator.rdr c.next.new.self.rdr (fields_of c.in-Ok.row) default_config st.StartRecord (strip_bom c.args.text.now) inv.rest inv.rows inv.config inv.source inv.reached s.0 in
    let says : Spells c.args.columns.now (texts_of c.push_record.new.dictionary) (fields_of c.in-Ok.row) c.push_record.new.numbers.items = rw c.in-Ok-push_record.is at c.push_record.ensures.spelled in
    let grows : Grows (texts_of c.loop-row.dictionary) (texts_of c.push_record.new.dictionary) = rw c.in-Ok-push_record.is at c.push_record.ensures.grows in
    let line : c.push_record.new.out.items ≡ c.loop-row.out.items ++ line_text c.args.name.now c.push_record.new.numbers.items = rw c.in-Ok-push_record.is at c.push_record.ensures.written in
    let all = all-push c.args.columns.now (texts_of c.loop-row.dictionary) grows.0 inv.rows inv.all (fields_of c.in-Ok.row) c.push_record.new.numbers.items inv.spelled (rw grows.1 at says) in
    record {
      trim = s.0.3 ∙ inv.trim;
      ready = inl s.1;
      left = s.2;
      config = s.0.2 ∙ inv.config;
      rest = m.0;
      source = m.1;
      rows = inv.rows ++ fields_of c.in-Ok.row ∷ [];
      reached = m.2;
      all = inv.all ++ c.push_record.new.numbers.items ∷ [];
      spelled = rw grows.1 all;
      grown = grown-twice _ _ _ inv.grown grows;
      written = line ∙ ap (λ x. x ++ line_text c.args.name.now c.push_record.new.numbers.items) inv.written ∙ sym (lines-push c.args.name.now inv.all c.push_record.new.numbers.items);
    }
