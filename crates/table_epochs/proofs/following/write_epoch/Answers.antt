use Rattle.std.proofs.Common.{◌≡◌, ◌++◌, ◌∙◌, ℕ, List, sym, ap, refl, subst, inr}
use Rattle.std.specs.Io.KnownBytes.{Appends}
use Rattle.collector.specs.Watching.{inner_of}
use Rattle.collector.specs.WrittenBytes.{AppendsFront}
use Rattle.tables.specs.Files.{csv_text}
use Rattle.table_epochs.specs.Going.{bytes_for, reached_by}
use Rattle.table_epochs.proofs.Answered.{bytes-first, bytes-rest}
use Rattle.table_epochs.proofs.Kept.{under-header}
use Rattle.table_epochs.proofs.following.write_epoch.Goals as goal
use Rattle.table_epochs.proofs.following.write_epoch.Goals.{then-is_first, else-is_first}

pub returns-in-Ok-clause-written : goal.returns-in-Ok-clause-written
returns-in-Ok-clause-written g c = λ header.
    let (rows, is, file) = c.in_ok-file.ensures.answered in
    let f = c.args.following.now in
    let bytes : c.if-is_first.rows.now ≡ bytes_for f.count f.job.table.now rows = elim c.if-is_first.branch [
      | then-is_first w ↦ ap (λ b. b.now) w.rows-is ∙ (w.as_slice-rows.ensures.value ∙
          (file ∙ sym (bytes-first f.count f.job.table.now rows w.if-is_first.true)))
      | else-is_first w ↦
          let head : w.as_slice.result.now ≡ f.header.items = w.as_slice.ensures.value ∙ ap (λ v. v.items) c.in_ok-file.ensures.keeps.header in
          let cut : w.as_slice-else-is_first.result.now ≡ w.as_slice.result.now ++ csv_text rows =
          w.as_slice-else-is_first.ensures.value ∙ (under-header f c.in_ok-file.file.items rows header file ∙ ap (λ (h : List ℕ). h ++ csv_text rows)
          (sym head)) in
          ap (λ b. b.now) w.rows-is ∙ (w.rows_under-rows.ensures (csv_text rows) cut ∙ sym
          (bytes-rest f.count f.job.table.now rows w.if-is_first.false))
    ] in (
      rows,
      is,
      subst (Appends (g.W.Write.contents (inner_of c.args.out.now))
          (g.W.Write.contents (inner_of c.put.new.writer))) bytes c.in-Ok.ensures.ok,
    )

pub returns-clause-fault : goal.returns-clause-fault
returns-clause-fault g c = λ header.
    let (rows, is, file) = c.in_ok-file.ensures.answered in
    let f = c.args.following.now in
    let bytes : c.if-is_first.rows.now ≡ bytes_for f.count f.job.table.now rows = elim c.if-is_first.branch [
      | then-is_first w ↦ ap (λ b. b.now) w.rows-is ∙ (w.as_slice-rows.ensures.value ∙
          (file ∙ sym (bytes-first f.count f.job.table.now rows w.if-is_first.true)))
      | else-is_first w ↦
          let head : w.as_slice.result.now ≡ f.header.items = w.as_slice.ensures.value ∙ ap (λ v. v.items) c.in_ok-file.ensures.keeps.header in
          let cut : w.as_slice-else-is_first.result.now ≡ w.as_slice.result.now ++ csv_text rows =
          w.as_slice-else-is_first.ensures.value ∙ (under-header f c.in_ok-file.file.items rows header file ∙ ap (λ (h : List ℕ). h ++ csv_text rows)
          (sym head)) in
          ap (λ b. b.now) w.rows-is ∙ (w.rows_under-rows.ensures (csv_text rows) cut ∙ sym
          (bytes-rest f.count f.job.table.now rows w.if-is_first.false))
    ] in
    inr (
      refl,
      (
        reached_by c.answer_epoch.new.following,
        rows,
        is,
        subst (AppendsFront (g.W.Write.contents (inner_of c.args.out.now))
            (g.W.Write.contents (inner_of c.put.new.writer))) bytes c.in-Err.ensures.err,
      ),
    )
