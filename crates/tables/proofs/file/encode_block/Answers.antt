use Rattle.std.proofs.Common.{◌≡◌, ◌++◌, ◌∷◌, ℕ, List, subst}
use Rattle.csv.specs.Reading.{AreRecords, default_config, strip_bom}
use Rattle.csv.specs.declared.parser.State.TheVariants as st
use Rattle.csv_cells.specs.Texts.{texts_of}
use Rattle.schema.specs.Text.{names_of}
use Rattle.tables.proofs.Blocks.{first-gone, first-refused, next-made, next-unmade}
use Rattle.tables.proofs.Faulty.{err-both, err-else, ok-both, ok-else}
use Rattle.tables.specs.Blocks.{HaveGone, Stops}
use Rattle.tables.specs.declared.file.Progress.{Progress}
use Rattle.tables.specs.declared.file.Progress.TheVariants.{Header, Records}
use Rattle.tables.specs.Tables.{AreRefused, BeginsWith}
use Rattle.tables.proofs.file.encode_block.Goals as goal

pub returns-in-Header-clause-encoded : goal.returns-in-Header-clause-encoded
returns-in-Header-clause-encoded g c = λ done block lines whole text gone.
    let at : HaveGone c.args.table.now c.args.target (texts_of c.args.dictionary.now) Header done lines =
    subst (λ (p : Progress). HaveGone c.args.table.now c.args.target (texts_of c.args.dictionary.now) p done lines) c.in-Header.is gone in
    ok-else c.encode_first.result _ _
    (λ latest (rows, more, appended, all, has). (
      more,
      first-gone c.args.table.now c.args.target (texts_of c.args.dictionary.now) (texts_of c.encode_first.new.dictionary) done block lines more latest rows at
          (subst (λ (t : List ℕ). AreRecords default_config st.StartRecord (strip_bom t) (names_of c.args.table.now ∷ rows)) text all) appended,
      has,
    )) (rw (c.deref.ensures.value, c.deref-in-Header.ensures.value) at c.encode_first.ensures.encoded)

pub returns-in-Header-clause-refused : goal.returns-in-Header-clause-refused
returns-in-Header-clause-refused g c = λ done block lines tail file whole text gone last follows is.
    let at : HaveGone c.args.table.now c.args.target (texts_of c.args.dictionary.now) Header done lines =
    subst (λ (p : Progress). HaveGone c.args.table.now c.args.target (texts_of c.args.dictionary.now) p done lines) c.in-Header.is gone in
    let all : strip_bom file ≡ block ++ tail = subst (λ (d : List ℕ). strip_bom file ≡ (d ++ block) ++ tail) at.0 is in
    err-else c.encode_first.result _ _
    (λ r refused. first-refused last (names_of c.args.table.now) c.args.table.now.columns.items c.args.target.epochs block tail file (texts_of c.encode_first.new.dictionary) r.fault follows all
    (subst (λ (t : List ℕ). AreRefused (names_of c.args.table.now) c.args.table.now.columns.items c.args.target.epochs t (texts_of c.encode_first.new.dictionary) r.fault) text refused))
    (rw (c.deref.ensures.value, c.deref-in-Header.ensures.value) at c.encode_first.ensures.refused)

pub returns-in-Records-clause-encoded : goal.returns-in-Records-clause-encoded
returns-in-Records-clause-encoded g c = λ done block lines whole text gone.
    let at : HaveGone c.args.table.now c.args.target (texts_of c.args.dictionary.now) (Records c.in-Records.last) done lines =
    subst (λ (p : Progress). HaveGone c.args.table.now c.args.target (texts_of c.args.dictionary.now) p done lines) c.in-Records.is gone in
    ok-both c.encode_next.result _ _
    (λ latest grows (rows, more, appended, all, has). (
      more,
      next-made c.args.table.now c.args.target (texts_of c.args.dictionary.now) (texts_of c.encode_next.new.dictionary) done block lines more c.in-Records.last latest rows whole at
          (subst (λ (t : List ℕ). AreRecords default_config st.StartRecord (strip_bom t) rows) text all) grows appended,
      has,
    )) c.encode_next.ensures.grows (rw c.deref-in-Records.ensures.value at c.encode_next.ensures.encoded)

pub returns-in-Records-clause-refused : goal.returns-in-Records-clause-refused
returns-in-Records-clause-refused g c = λ done block lines tail file whole text gone last follows is.
    let at : HaveGone c.args.table.now c.args.target (texts_of c.args.dictionary.now) (Records c.in-Records.last) done lines =
    subst (λ (p : Progress). HaveGone c.args.table.now c.args.target (texts_of c.args.dictionary.now) p done lines) c.in-Records.is gone in
    err-both c.encode_next.result _ _ _
    (λ r kept stops. next-unmade last c.args.table.now c.args.target (texts_of c.args.dictionary.now) (texts_of c.encode_next.new.dictionary) c.in-Records.last done block tail file lines r.fault
    whole at follows is kept
    (subst (λ (t : List ℕ). Stops c.args.table.now.columns.items c.args.target.epochs (texts_of c.encode_next.new.dictionary) c.in-Records.last (BeginsWith t) r.fault) text stops))
    c.encode_next.ensures.kept (rw c.deref-in-Records.ensures.value at c.encode_next.ensures.refused)
