-- The records of a text, block by block.
use Rattle.std.proofs.Common.{◌≡◌, ◌⊎◌, ◌++◌, ◌∙◌, ℕ, ℤ, List, [], ◌∷◌, Bool, true, false, Option, Some, None, length, option_map, refl, sym, ap, subst, inl, inr, arith}
use Rattle.std.proofs.lemmas.List.{append-nil, append_assoc}
use Rattle.csv.specs.Machine.{Read, next_record}
use Rattle.csv.specs.Reading.{AreRecords, default_config, strip_bom}
use Rattle.csv.specs.declared.parser.State.TheVariants as st
use Rattle.csv_blocks.specs.Texts.{AreWhole}
use Rattle.csv_blocks.proofs.Composed.{Begins, begins-longer, begins-on, feed-begins, feed-first, feed-records, feed-strip, first-longer, records-on, run-on, some-record}
use Rattle.csv_cells.specs.Encoded.{SpellsAll, line_text}
use Rattle.csv_cells.specs.Texts.{Grows}
use Rattle.csv_cells.specs.declared.column.Column.{Column}
use Rattle.schema.specs.Text.{names_of}
use Rattle.schema.specs.declared.tables.Epochs.{Epochs}
use Rattle.schema.specs.declared.tables.Table.{Table}
use Rattle.csv_answers.specs.declared.refusal.Fault.{Fault}
use Rattle.csv_answers.specs.declared.refusal.Fault.TheVariants as fault
use Rattle.tables.proofs.Faulty.{all-kept}
use Rattle.tables.specs.Blocks.{AreAppended, HaveGone, NeedsNoReason, Stops, last_epoch}
use Rattle.tables.specs.TextFiles.{MayFollow}
use Rattle.tables.specs.Tables.{AreInOrder, AreRefused, BeginsWith, HasHeader, IsRecordFault, epoch_of, head_text, rows_text}
use Rattle.tables.specs.declared.file.Progress.TheVariants.{Header, Records}
use Rattle.tables.specs.declared.refusal.RecordFault.{RecordFault}
use Rattle.tables.specs.declared.refusal.RecordFault.TheVariants.{NoMemory, Stopped, Fault as InRecord}
use Rattle.tables.specs.declared.records.Target.{Target}

-- of two lists of records, one behind the other: their cells, order, lines and last epoch
all-join : (columns : List Column) (texts : List (List ℕ)) (rows more : List (List (List ℕ))) (numbers others : List (List ℤ)) → SpellsAll columns texts rows numbers → SpellsAll columns texts more others
    → SpellsAll columns texts (rows ++ more) (numbers ++ others)
unfolding SpellsAll
all-join columns texts [] more [] others h k = k
all-join columns texts [] more (n ∷ numbers) others h k = absurd h
all-join columns texts (r ∷ rows) more [] others h k = absurd h
all-join columns texts (r ∷ rows) more (n ∷ numbers) others h k = (h.0, all-join columns texts rows more numbers others h.1 k)

order-join : (target : Target) (last : Option ℤ) (numbers others : List (List ℤ)) → AreInOrder target.epochs last numbers → AreInOrder target.epochs (last_epoch target last numbers) others
    → AreInOrder target.epochs last (numbers ++ others)
unfolding AreInOrder last_epoch
order-join target last [] others h k = k
order-join target last (n ∷ numbers) others h k = (h.0, order-join target (epoch_of target.epochs n) numbers others h.1 k)

order-split : (target : Target) (last : Option ℤ) (numbers others : List (List ℤ)) → AreInOrder target.epochs last (numbers ++ others) → AreInOrder target.epochs (last_epoch target last numbers) others
unfolding AreInOrder last_epoch
order-split target last [] others h = h
order-split target last (n ∷ numbers) others h = order-split target (epoch_of target.epochs n) numbers others h.1

rows-join : (target : Target) (last : Option ℤ) (numbers others : List (List ℤ)) → rows_text target last (numbers ++ others) ≡ rows_text target last numbers ++ rows_text target (last_epoch target last numbers) others
unfolding rows_text last_epoch
rows-join target last [] others = refl
rows-join target last (n ∷ numbers) others =
    let line : List ℕ = head_text target.shared.now last (epoch_of target.epochs n) ++ line_text target.name.now n in
    ap (λ (t : List ℕ). line ++ t) (rows-join target (epoch_of target.epochs n) numbers others)
    ∙ sym (append_assoc line (rows_text target (epoch_of target.epochs n) numbers) (rows_text target (last_epoch target (epoch_of target.epochs n) numbers) others))

last-join : (target : Target) (last : Option ℤ) (numbers others : List (List ℤ)) → last_epoch target last (numbers ++ others) ≡ last_epoch target (last_epoch target last numbers) others
unfolding last_epoch
last-join target last [] others = refl
last-join target last (n ∷ numbers) others = last-join target (epoch_of target.epochs n) numbers others

-- the records of a block behind those of the text before it
appended-join : (columns : List Column) (target : Target) (texts : List (List ℕ)) (last latest : Option ℤ) (rows more : List (List (List ℕ))) (lines others : List ℕ)
    → AreAppended columns target texts None last rows lines → AreAppended columns target texts last latest more others → AreAppended columns target texts None latest (rows ++ more) (lines ++ others)
appended-join columns target texts last latest rows more lines others a b = record {
  numbers = a.numbers ++ b.numbers;
  spelled = all-join columns texts rows more a.numbers b.numbers a.spelled b.spelled;
  ordered = order-join target None a.numbers b.numbers a.ordered (rw (← a.is_last) b.ordered);
  written = ap (λ (t : List ℕ). t ++ others) a.written ∙ ap (λ (t : List ℕ). rows_text target None a.numbers ++ t) (b.written ∙ ap (λ (e : Option ℤ). rows_text target e b.numbers) a.is_last)
      ∙ sym (rows-join target None a.numbers b.numbers);
  is_last = b.is_last ∙ ap (λ (e : Option ℤ). last_epoch target e b.numbers) a.is_last ∙ sym (last-join target None a.numbers b.numbers);
}

appended-kept : (columns : List Column) (target : Target) (old more : List (List ℕ)) (last latest : Option ℤ) (rows : List (List (List ℕ))) (lines : List ℕ)
    → AreAppended columns target old last latest rows lines → AreAppended columns target (old ++ more) last latest rows lines
appended-kept columns target old more last latest rows lines a = record {
  numbers = a.numbers;
  spelled = all-kept columns old more rows a.numbers a.spelled;
  ordered = a.ordered;
  written = a.written;
  is_last = a.is_last;
}

-- the text of a reader is a block behind a line feed
block-records : (block : List ℕ) (rows : List (List (List ℕ))) → AreRecords default_config st.StartRecord (strip_bom (10 ∷ block)) rows → AreRecords default_config st.StartRecord block rows
block-records block rows h = feed-records block rows (subst (λ (t : List ℕ). AreRecords default_config st.StartRecord t rows) (feed-strip block) h)

block-begins : (block : List ℕ) (rows : List (List (List ℕ))) → BeginsWith (10 ∷ block) rows → Begins block rows
block-begins block rows h = feed-begins block rows (subst (λ (t : List ℕ). Begins t rows) (feed-strip block) h)

-- after the first block, and after a later one
pub first-gone : (table : Table) (target : Target) (old new : List (List ℕ)) (done block lines more : List ℕ) (latest : Option ℤ) (rows : List (List (List ℕ)))
    → HaveGone table target old Header done lines → AreRecords default_config st.StartRecord (strip_bom (10 ∷ block)) (names_of table ∷ rows)
    → AreAppended table.columns.items target new None latest rows more → HaveGone table target new (Records latest) (done ++ block) (lines ++ more)
first-gone table target old new done block lines more latest rows (none, empty) read appended = (
  rows,
  rw none (block-records block (names_of table ∷ rows) read),
  rw empty appended,
)

next-gone : (table : Table) (target : Target) (old grown : List (List ℕ)) (done block lines more : List ℕ) (last latest : Option ℤ) (rows : List (List (List ℕ)))
    → AreWhole done → HaveGone table target old (Records last) done lines → AreRecords default_config st.StartRecord (strip_bom (10 ∷ block)) rows
    → AreAppended table.columns.items target (old ++ grown) last latest rows more → HaveGone table target (old ++ grown) (Records latest) (done ++ block) (lines ++ more)
next-gone table target old grown done block lines more last latest rows whole (before, all, gone) read appended = (
  before ++ rows,
  records-on done block (names_of table ∷ before) rows whole all (block-records block rows read),
  appended-join table.columns.items target (old ++ grown) last latest before rows lines more (appended-kept table.columns.items target old grown None last before lines gone) appended,
)

pub next-made : (table : Table) (target : Target) (old new : List (List ℕ)) (done block lines more : List ℕ) (last latest : Option ℤ) (rows : List (List (List ℕ)))
    → AreWhole done → HaveGone table target old (Records last) done lines → AreRecords default_config st.StartRecord (strip_bom (10 ∷ block)) rows → Grows old new
    → AreAppended table.columns.items target new last latest rows more → HaveGone table target new (Records latest) (done ++ block) (lines ++ more)
next-made table target old new done block lines more last latest rows whole gone read grows appended =
    rw grows.1 (next-gone table target old grows.0 done block lines more last latest rows whole gone read (rw (← grows.1) appended))

-- a file begins with what a block begins with
file-begins : (final : Bool) (done block tail file : List ℕ) (rows more : List (List (List ℕ))) → AreWhole done → MayFollow final block tail → strip_bom file ≡ (done ++ block) ++ tail
    → AreRecords default_config st.StartRecord done rows → BeginsWith (10 ∷ block) more → BeginsWith file (rows ++ more)
file-begins false done block tail file rows more whole (ends, some) is all h =
    let b = begins-on done block rows more whole all (block-begins block more h) in
    subst (λ (t : List ℕ). Begins t (rows ++ more)) (sym is) (begins-longer (done ++ block) tail (rows ++ more) (run-on done block whole ∙ ends) b)
file-begins true done block tail file rows more whole (strict, none) is all h =
    let b = begins-on done block rows more whole all (block-begins block more h) in
    subst (λ (t : List ℕ). Begins t (rows ++ more)) (sym (is ∙ ap (λ (t : List ℕ). (done ++ block) ++ t) none ∙ append-nil (done ++ block))) b

first-begins : (final : Bool) (block tail file : List ℕ) (more : List (List (List ℕ))) → MayFollow final block tail → strip_bom file ≡ block ++ tail → BeginsWith (10 ∷ block) more → BeginsWith file more
first-begins false block tail file more (ends, some) is h = subst (λ (t : List ℕ). Begins t more) (sym is) (begins-longer block tail more ends (block-begins block more h))
first-begins true block tail file more (strict, none) is h =
    subst (λ (t : List ℕ). Begins t more) (sym (is ∙ ap (λ (t : List ℕ). block ++ t) none ∙ append-nil block)) (block-begins block more h)

-- a file has the header row that its first block has
abbrev first_cells : List ℕ → Option (List (List ℕ))
first_cells text = option_map (λ (p : Read). p.0) (next_record default_config st.StartRecord [] [] text)

first-cells : (final : Bool) (block tail : List ℕ) → MayFollow final block tail → (o : Option Read) → next_record default_config st.StartRecord [] [] block ≡ o → first_cells (block ++ tail) ≡ first_cells block
first-cells false block tail (ends, some) (Some p) e = let (s, rest, longer) = first-longer block tail ends p e in ap (option_map (λ (p : Read). p.0)) longer ∙ sym (ap (option_map (λ (p : Read). p.0)) e)
first-cells false block tail (ends, some) None e = absurd (some-record block _ ends (λ none. let l = ap length none in absurd (omega (arith, l, some))) e)
first-cells true block tail (strict, none) o e = ap first_cells (ap (λ (t : List ℕ). block ++ t) none ∙ append-nil block)

other-file-header : (final : Bool) (names : List (List ℕ)) (block tail file : List ℕ) → MayFollow final block tail → strip_bom file ≡ block ++ tail → (HasHeader names (10 ∷ block) → ⊥) → HasHeader names file → ⊥
other-file-header final names block tail file follows is other has =
    let cells : first_cells (strip_bom file) ≡ first_cells block = ap first_cells is ∙ first-cells final block tail follows (next_record default_config st.StartRecord [] [] block) refl in
    let feed : first_cells (strip_bom (10 ∷ block)) ≡ first_cells block = ap first_cells (feed-strip block) ∙ ap (option_map (λ (p : Read). p.0)) (feed-first block) in
    other (feed ∙ sym cells ∙ has)

-- a file is refused as its first block is
pub first-refused : (final : Bool) (names : List (List ℕ)) (columns : List Column) (epochs : Epochs) (block tail file : List ℕ) (texts : List (List ℕ)) (f : RecordFault) → MayFollow final block tail → strip_bom file ≡ block ++ tail
    → AreRefused names columns epochs (10 ∷ block) texts f → AreRefused names columns epochs file texts f
first-refused final names columns epochs block tail file texts (InRecord f) follows is (inl (header, other)) = inl (header, other-file-header final names block tail file follows is other)
first-refused final names columns epochs block tail file texts (InRecord f) follows is (inr r) = inr (record {
  rows = r.rows;
  numbers = r.numbers;
  cells = r.cells;
  read = first-begins final block tail file (names ∷ (r.rows ++ r.cells ∷ [])) follows is r.read;
  spelled = r.spelled;
  ordered = r.ordered;
  why = r.why;
})
first-refused final names columns epochs block tail file texts NoMemory follows is h = tt
first-refused final names columns epochs block tail file texts Stopped follows is h = tt

-- the fault of a record behind others
fault-behind : (columns : List Column) (target : Target) (texts : List (List ℕ)) (last : Option ℤ) (numbers others : List (List ℤ)) (cells : List (List ℕ)) (f : Fault)
    → last ≡ last_epoch target None numbers → IsRecordFault columns target.epochs texts last others cells f → IsRecordFault columns target.epochs texts None (numbers ++ others) cells f
fault-behind columns target texts last numbers others cells fault.Length is h = h
fault-behind columns target texts last numbers others cells (fault.Cell i) is h = h
fault-behind columns target texts last numbers others cells (fault.Order i) is (by, zs, says, late) = (
  by,
  zs,
  says,
  λ ordered. late (rw is (order-split target None numbers (others ++ zs ∷ [])
      (subst (λ (n : List (List ℤ)). AreInOrder target.epochs None n) (append_assoc numbers others (zs ∷ [])) ordered))),
)
fault-behind columns target texts last numbers others cells (fault.Text t) is h = h
fault-behind columns target texts last numbers others cells fault.Header is h = h
fault-behind columns target texts last numbers others cells fault.Dictionary is h = h
fault-behind columns target texts last numbers others cells fault.Answer is h = h

-- and as a later one stops
next-refused : (final : Bool) (table : Table) (target : Target) (old grown : List (List ℕ)) (last : Option ℤ) (done block tail file lines : List ℕ) (f : RecordFault)
    → AreWhole done → HaveGone table target old (Records last) done lines → MayFollow final block tail → strip_bom file ≡ (done ++ block) ++ tail
    → Stops table.columns.items target.epochs (old ++ grown) last (BeginsWith (10 ∷ block)) f
    → AreRefused (names_of table) table.columns.items target.epochs file (old ++ grown) f
next-refused final table target old grown last done block tail file lines (InRecord f) whole (rows, all, gone) follows is (s, read) =
    inr (record {
      rows = rows ++ s.rows;
      numbers = gone.numbers ++ s.numbers;
      cells = s.cells;
      read = subst (BeginsWith file) (ap (λ (r : List (List (List ℕ))). names_of table ∷ r) (sym (append_assoc rows s.rows (s.cells ∷ []))))
          (file-begins final done block tail file (names_of table ∷ rows) (s.rows ++ s.cells ∷ []) whole follows is all read);
      spelled = all-join table.columns.items (old ++ grown) rows s.rows gone.numbers s.numbers (all-kept table.columns.items old grown rows gone.numbers gone.spelled) s.spelled;
      ordered = order-join target None gone.numbers s.numbers gone.ordered (rw (← gone.is_last) s.ordered);
      why = fault-behind table.columns.items target (old ++ grown) last gone.numbers s.numbers s.cells f gone.is_last s.why;
    })
next-refused final table target old grown last done block tail file lines NoMemory whole gone follows is h = tt
next-refused final table target old grown last done block tail file lines Stopped whole gone follows is h = tt

-- whether or not the dictionary grew
pub next-unmade : (final : Bool) (table : Table) (target : Target) (old new : List (List ℕ)) (last : Option ℤ) (done block tail file lines : List ℕ) (f : RecordFault)
    → AreWhole done → HaveGone table target old (Records last) done lines → MayFollow final block tail → strip_bom file ≡ (done ++ block) ++ tail
    → NeedsNoReason f ⊎ Grows old new → Stops table.columns.items target.epochs new last (BeginsWith (10 ∷ block)) f
    → AreRefused (names_of table) table.columns.items target.epochs file new f
next-unmade final table target old new last done block tail file lines (InRecord f) whole gone follows is (inl none) h = absurd none
next-unmade final table target old new last done block tail file lines (InRecord f) whole gone follows is (inr grows) h =
    rw grows.1 (next-refused final table target old grows.0 last done block tail file lines (InRecord f) whole gone follows is (rw (← grows.1) h))
next-unmade final table target old new last done block tail file lines NoMemory whole gone follows is grows h = tt
next-unmade final table target old new last done block tail file lines Stopped whole gone follows is grows h = tt
