use Rattle.std.proofs.Common.{◌≡◌, ℕ, ℤ, List, [], ◌∷◌, ◌++◌, refl, sym, ◌∙◌, ap, subst, inr}
use Rattle.std.proofs.lemmas.Bool.{false≢true}
use Rattle.std.proofs.lemmas.List.{append-nil, append_assoc}
use Rattle.csv.specs.Records.{fields_of}
use Rattle.csv_cells.specs.Texts.{texts_of, Grows}
use Rattle.tables.specs.Blocks.{ReadsOn, last_epoch}
use Rattle.tables.specs.Tables.{BeginsWith, HasRead, IsLate, rows_text, epoch_of}
use Rattle.tables.proofs.Lines.{row_text, rows-push, last-push, late-by, late-push, no-rows, no-epoch, none-ordered, now-late, order-push}
use Rattle.tables.proofs.Readers.{begins}
use Rattle.csv_cells.specs.Cells.{Spells}
use Rattle.csv_cells.specs.Encoded.{SpellsAll}
use Rattle.tables.proofs.Faulty.{all-kept, at-ok, late-stops, row-kept, row-stops, unexplained}
use Rattle.csv_cells.proofs.Rows.{all-push, grown-twice, none-spelled}
use Rattle.tables.proofs.records.append_rows.Goals as goal

pub loop-count-init : goal.loop-count-init
loop-count-init g c = record {
  rows = [];
  read = λ text before h. rw (append-nil before) h;
  all = [];
  spelled = none-spelled _ _;
  ordered = none-ordered c.args.target.epochs c.args.last;
  grown = ([], sym (append-nil (texts_of c.args.dictionary.now)));
  written = λ first taken h. subst (λ (t : List ℕ). g.O.LineSink.took first c.args.out.now t) (sym (append-nil taken) ∙ ap (λ (t : List ℕ). taken ++ t) (no-rows c.args.target c.args.last)) h;
  stays = λ first h. h;
  latest = no-epoch c.args.target c.args.last;
}

pub loop-count-preserved : goal.loop-count-preserved
loop-count-preserved g c =
    let inv = c.loop-count.invariant in
    let cells : List (List ℕ) = fields_of c.read_record.new.row in
    let says : Spells c.args.columns.now (texts_of c.read_row.new.dictionary) cells c.read_row.new.numbers.items = rw c.in-Ok.is at c.read_row.ensures.spelled in
    let grows : Grows (texts_of c.loop-count.dictionary) (texts_of c.read_row.new.dictionary) = rw c.in-Ok.is at c.read_row.ensures.grows in
    let target = c.args.target in
    let last = c.args.last in
    let zs : List ℤ = c.read_row.new.numbers.items in
    let epoch : c.epoch_value-epoch.result ≡ epoch_of target.epochs zs = c.epoch_value-epoch.ensures ∙ ap (λ x. epoch_of target.epochs x) c.as_slice.ensures.value in
    let on_time : IsLate c.loop-count.latest c.epoch_value-epoch.result → ⊥ = λ late. absurd (false≢true (sym c.if-is_late.false ∙ c.is_late.ensures.1 late)) in
    let line = λ (first : g.row.O.Denot) (taken : List ℕ) (h : g.O.LineSink.took first c.loop-count.out taken). at-ok c.append_row.result c.in-Ok-append_row.is (c.append_row.ensures.taken first taken h) in
    let all = all-push c.args.columns.now (texts_of c.loop-count.dictionary) grows.0 inv.rows inv.all cells zs inv.spelled (rw grows.1 at says) in
    record {
      rows = inv.rows ++ cells ∷ [];
      read = λ text before h. subst (λ (r : List (List (List ℕ))). HasRead text r c.read_record.new.reader) (append_assoc before inv.rows (cells ∷ []))
          (c.in-Ok-true.ensures.more c.in-Ok-true.field-0-test text (before ++ inv.rows) (inv.read text before h));
      all = inv.all ++ zs ∷ [];
      spelled = rw grows.1 all;
      ordered = order-push target last inv.all zs inv.ordered (λ late. on_time (now-late c.loop-count.latest _ c.epoch_value-epoch.result _ inv.latest epoch late));
      grown = grown-twice _ _ _ inv.grown grows;
      written = λ first taken h. subst (λ (t : List ℕ). g.O.LineSink.took first c.append_row.new.out t)
          (ap (λ (x : List ℤ). (taken ++ rows_text target last inv.all) ++ row_text target c.loop-count.latest x) c.as_slice-in-loop-count.ensures.value
          ∙ append_assoc taken (rows_text target last inv.all) (row_text target c.loop-count.latest zs)
          ∙ ap (λ (x : List ℕ). taken ++ x) (ap (λ x. rows_text target last inv.all ++ row_text target x zs) inv.latest ∙ sym (rows-push target last inv.all zs)))
          (line first (taken ++ rows_text target last inv.all) (inv.written first taken h));
      stays = λ first h. c.append_row.ensures.stays first (inv.stays first h);
      latest = epoch ∙ sym (last-push target last inv.all zs);
    }

pub returns-in-Ok-false-clause-encoded : goal.returns-in-Ok-false-clause-encoded
returns-in-Ok-false-clause-encoded g c =
    let inv = c.loop-count.invariant in (
      inv.rows,
      rows_text c.args.target c.args.last inv.all,
      record { numbers = inv.all; spelled = inv.spelled; ordered = inv.ordered; written = refl; is_last = inv.latest },
      (λ text before h. c.in-Ok-false.ensures.end c.in-Ok-false.field-0-test text (before ++ inv.rows) (inv.read text before h)),
      inv.written,
    )

pub returns-in-Err-read_row-clause-refused : goal.returns-in-Err-read_row-clause-refused
returns-in-Err-read_row-clause-refused g c =
    let inv = c.loop-count.invariant in
    let cells : List (List ℕ) = fields_of c.read_record.new.row in
    row-stops c.args.columns.now c.args.target.epochs (texts_of c.loop-count.dictionary) (texts_of c.read_row.new.dictionary) c.args.last (ReadsOn c.args.reader.now) inv.rows inv.all cells
    (λ text before h. subst (BeginsWith text) (append_assoc before inv.rows (cells ∷ []))
    (begins text ((before ++ inv.rows) ++ cells ∷ []) c.read_record.new.reader (c.in-Ok-true.ensures.more c.in-Ok-true.field-0-test text (before ++ inv.rows) (inv.read text before h))))
    inv.spelled inv.ordered c.in-Err-read_row.fault c.fault_of_row-fault.result c.fault_of_row-fault.ensures c.in-Err-read_row.ensures.refused c.in-Err-read_row.ensures.kept

pub returns-then-is_late-clause-refused : goal.returns-then-is_late-clause-refused
returns-then-is_late-clause-refused g c =
    let inv = c.loop-count.invariant in
    let cells : List (List ℕ) = fields_of c.read_record.new.row in
    let says : Spells c.args.columns.now (texts_of c.read_row.new.dictionary) cells c.read_row.new.numbers.items = rw c.in-Ok.is at c.read_row.ensures.spelled in
    let grows : Grows (texts_of c.loop-count.dictionary) (texts_of c.read_row.new.dictionary) = rw c.in-Ok.is at c.read_row.ensures.grows in
    let target = c.args.target in
    let last = c.args.last in
    let zs : List ℤ = c.read_row.new.numbers.items in
    let epoch : c.epoch_value-epoch.result ≡ epoch_of target.epochs zs = c.epoch_value-epoch.ensures ∙ ap (λ x. epoch_of target.epochs x) c.as_slice.ensures.value in
    let late = now-late _ _ _ _ (sym inv.latest) (sym epoch) (c.is_late.ensures.0 c.if-is_late.true) in
    let by = late-by target.epochs (last_epoch target last inv.all) zs late in
    let all : SpellsAll c.args.columns.now (texts_of c.read_row.new.dictionary) inv.rows inv.all = rw grows.1 (all-kept c.args.columns.now (texts_of c.loop-count.dictionary) grows.0 inv.rows inv.all inv.spelled) in
    rw (c.late_fault-fault.ensures by.0 by.1) (late-stops c.args.columns.now target.epochs (texts_of c.read_row.new.dictionary) last (ReadsOn c.args.reader.now) inv.rows inv.all cells
    (λ text before h. subst (BeginsWith text) (append_assoc before inv.rows (cells ∷ []))
    (begins text ((before ++ inv.rows) ++ cells ∷ []) c.read_record.new.reader (c.in-Ok-true.ensures.more c.in-Ok-true.field-0-test text (before ++ inv.rows) (inv.read text before h))))
    all inv.ordered by.0 zs by.1 says (late-push target last inv.all zs late))

pub returns-in-Err-append_row-clause-refused : goal.returns-in-Err-append_row-clause-refused
returns-in-Err-append_row-clause-refused g c =
    unexplained c.args.columns.now c.args.target.epochs (texts_of c.read_row.new.dictionary) c.args.last (ReadsOn c.args.reader.now) c.fault_of_sink-fault.result c.fault_of_sink-fault.ensures

pub returns-in-Err-read_row-clause-kept : goal.returns-in-Err-read_row-clause-kept
returns-in-Err-read_row-clause-kept g c =
    row-kept (texts_of c.args.dictionary.now) (texts_of c.loop-count.dictionary) (texts_of c.read_row.new.dictionary) c.in-Err-read_row.fault c.fault_of_row-fault.result c.fault_of_row-fault.ensures
    c.loop-count.invariant.grown c.in-Err-read_row.ensures.kept

pub returns-then-is_late-clause-kept : goal.returns-then-is_late-clause-kept
returns-then-is_late-clause-kept g c =
    let grows : Grows (texts_of c.loop-count.dictionary) (texts_of c.read_row.new.dictionary) = rw c.in-Ok.is at c.read_row.ensures.grows in
    inr (grown-twice _ _ _ c.loop-count.invariant.grown grows)
