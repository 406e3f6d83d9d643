use Rattle.std.proofs.Common.{◌≡◌, ◌++◌, ◌∷◌, ◌∙◌, ℕ, List, [], true, false, ap, refl, sym, subst, inl, inr, rules}
use Rattle.std.proofs.lemmas.List.{append-nil, append_assoc}
use Rattle.std.specs.List.{list_any}
use Rattle.csv.proofs.ReadFacts.{on-ok}
use Rattle.csv_cells.specs.Texts.{Grows, texts_of}
use Rattle.csv_cells.proofs.Rows.{grown-twice}
use Rattle.schema.specs.declared.tables.Constant.{Constant}
use Rattle.schema.specs.declared.tables.Table.{Table}
use Rattle.tables.specs.Inputs.{AreAdded, AreJoined, has_own}
use Rattle.tables.proofs.Joined.{blank-length, blanks, both-complete, constants-grow, joined-kept, one-completes, others-joined}
use Rattle.tables.proofs.encoding.encode.Goals as goal

pub returns-then-not-has_epochs-clause-input : goal.returns-then-not-has_epochs-clause-input
returns-then-not-has_epochs-clause-input g c =
    let tables : List Table = c.args.schema.now.inputs.items in
    let known = g.F.TableFiles.content c.args.files.now in
    let (texts, lines, long, completes, joined, took) = rw c.as_slice-tables.ensures.value at c.in_ok-encode_some.ensures.joined (blanks tables) (blank-length tables) in
    let none : list_any (λ (table : Table). has_own table.epochs) tables ≡ false = search rules in
    let begin : List ℕ = 101 ∷ 112 ∷ 111 ∷ 99 ∷ 104 ∷ 10 ∷ [] in (
      texts,
      begin ++ lines,
      long,
      one-completes known (blanks tables) texts 0 tables none completes,
      (lines, joined, inr (none, refl)),
      λ first taken h. subst (λ (t : List ℕ). g.O.LineSink.took first c.encode_some.new.out t) (append_assoc taken begin lines) (took first (taken ++ begin) (c.in-Ok.ensures.taken first taken h)),
    )

pub returns-then-not-has_epochs-clause-grows : goal.returns-then-not-has_epochs-clause-grows
returns-then-not-has_epochs-clause-grows g c =
    let good = sym c.is_err.ensures.value ∙ c.if-is_err.false in
    grown-twice _ _ _ (constants-grow c.as_slice.result.now _ _ (on-ok c.number_constants.result good c.number_constants.ensures)) c.in_ok-encode_some.ensures.grows

pub returns-then-not-has_epochs-clause-numbered : goal.returns-then-not-has_epochs-clause-numbered
returns-then-not-has_epochs-clause-numbered g c =
    let good = sym c.is_err.ensures.value ∙ c.if-is_err.false in
    let old = texts_of c.args.dictionary.now in
    let next = texts_of c.number_constants.new.dictionary in (
      next,
      subst (λ (cs : List Constant). AreAdded cs old next) c.as_slice.ensures.value (on-ok c.number_constants.result good c.number_constants.ensures),
      c.in_ok-encode_some.ensures.grows,
    )

pub returns-clause-input : goal.returns-clause-input
returns-clause-input g c =
    let tables : List Table = c.args.schema.now.inputs.items in
    let known = g.F.TableFiles.content c.args.files.now in
    let old : List (List ℕ) = texts_of c.encode_some-2.new.dictionary in
    let new : List (List ℕ) = texts_of c.encode_some-3.new.dictionary in
    let grows : Grows old new = c.in_ok-encode_some-3.ensures.grows in
    let (others, shared, long, first_completes, first_joined, first_took) = rw c.as_slice-tables.ensures.value at c.in_ok-encode_some-2.ensures.joined (blanks tables) (blank-length tables) in
    let (texts, lines, all_long, completes, joined, took) = rw c.as_slice-tables.ensures.value at c.in_ok-encode_some-3.ensures.joined others long in
    let empty : List ℕ = c.new-shared.result.items in
    let held : c.as_slice-2.result.now ≡ shared =
    c.as_slice-2.ensures.value ∙ first_took c.new-shared.result [] (sym (append-nil empty)) ∙ ap (λ (t : List ℕ). t ++ shared) c.new-shared.ensures.items in
    let some : list_any (λ (table : Table). has_own table.epochs) tables ≡ true = search rules in
    let kept : AreJoined false [] others new 0 tables shared = rw grows.1 (joined-kept false [] others old grows.0 0 tables shared first_joined) in (
      texts,
      lines,
      all_long,
      both-complete known (blanks tables) others texts 0 tables first_completes completes,
      (shared, others-joined [] known others texts new 0 tables shared completes kept, inl (some, subst (λ (s : List ℕ). AreJoined true s texts new 0 tables lines) held joined)),
      took,
    )

pub returns-clause-grows : goal.returns-clause-grows
returns-clause-grows g c =
    let good = sym c.is_err.ensures.value ∙ c.if-is_err.false in
    grown-twice _ _ _ (grown-twice _ _ _ (constants-grow c.as_slice.result.now _ _ (on-ok c.number_constants.result good c.number_constants.ensures)) c.in_ok-encode_some-2.ensures.grows)
    c.in_ok-encode_some-3.ensures.grows

pub returns-clause-numbered : goal.returns-clause-numbered
returns-clause-numbered g c =
    let good = sym c.is_err.ensures.value ∙ c.if-is_err.false in
    let old = texts_of c.args.dictionary.now in
    let next = texts_of c.number_constants.new.dictionary in (
      next,
      subst (λ (cs : List Constant). AreAdded cs old next) c.as_slice.ensures.value (on-ok c.number_constants.result good c.number_constants.ensures),
      grown-twice _ _ _ c.in_ok-encode_some-2.ensures.grows c.in_ok-encode_some-3.ensures.grows,
    )
