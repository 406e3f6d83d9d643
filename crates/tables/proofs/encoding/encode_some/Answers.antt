use Rattle.std.proofs.Common.{◌≡◌, ◌≢◌, ◌<◌, ◌+◌, ◌++◌, ◌∙◌, [], ℕ, List, get_or, length, set, take, Some, refl, sym, ap, subst, arith, rules, inl}
use Rattle.std.proofs.lemmas.List.{append-nil, append_assoc, get_or-set_other, length-set, take_all}
use Rattle.std.proofs.lemmas.Option.{slice_get-get_or}
use Rattle.csv_cells.specs.Texts.{texts_of}
use Rattle.csv_cells.proofs.Rows.{grown-twice}
use Rattle.schema.specs.declared.tables.Table.{Table}
use Rattle.tables.specs.Inputs.{AreJoined, Completes, IsKnownAs, has_own}
use Rattle.tables.proofs.Joined.{add-completes, add-joined, none-completes, none-joined, skip-completes, skip-joined}
use Rattle.tables.proofs.encoding.encode_some.Goals as goal

pub loop-place-init : goal.loop-place-init
loop-place-init g c = record {
  joined = λ before sized. (
    before,
    [],
    sized,
    λ i from. refl,
    none-completes c.args.own (g.F.TableFiles.content c.args.files.now) before before 0,
    none-joined c.args.own c.args.shared.now before (texts_of c.args.dictionary.now) 0,
    λ first taken h. subst (λ (t : List ℕ). g.O.LineSink.took first c.args.out.now t) (sym (append-nil taken)) h,
  );
  stays = λ first h. h;
  grown = ([], sym (append-nil (texts_of c.args.dictionary.now)));
}

pub loop-place-preserved-then-has_own-own : goal.loop-place-preserved-then-has_own-own
loop-place-preserved-then-has_own-own g c =
    let inv = c.loop-place.invariant in
    let tables : List Table = c.args.tables.now in
    let n : ℕ = c.loop-place.place in
    let lt : n < length tables = omega (arith, c.loop-place-test.true) in
    let table : Table = c.index-tables-place.result in
    let at : get_or tables n table ≡ table = search rules in
    let not : has_own table.epochs ≢ c.args.own = search rules in
    record {
      joined = λ before sized.
          let (texts, lines, long, behind, completes, joined, took) = inv.joined before sized in (
            texts,
            lines,
            long,
            λ i from. behind i (omega (arith, from)),
            skip-completes c.args.own (g.F.TableFiles.content c.args.files.now) before texts n tables table lt at not (behind n (omega arith)) completes,
            skip-joined c.args.own c.args.shared.now texts (texts_of c.loop-place.dictionary) n tables table lines lt at not joined,
            took,
          );
      stays = inv.stays;
      grown = inv.grown;
    }

pub returns-in-Err-clause-refused : goal.returns-in-Err-clause-refused
returns-in-Err-clause-refused g c =
    let tables : List Table = c.args.tables.now in
    let n : ℕ = c.loop-place.place in
    let lt : n < length tables = omega (arith, c.loop-place-test.true) in
    let table : Table = c.index-tables-place.result in
    let at : get_or tables n table ≡ table = search rules in
    inl (
      table,
      slice_get-get_or tables n table lt ∙ ap Some at,
      rw (sym c.open.ensures) c.in-Err.ensures.refused,
    )

pub loop-place-preserved : goal.loop-place-preserved
loop-place-preserved g c =
    let inv = c.loop-place.invariant in
    let tables : List Table = c.args.tables.now in
    let n : ℕ = c.loop-place.place in
    let lt : n < length tables = omega (arith, c.loop-place-test.true) in
    let table : Table = c.index-tables-place.result in
    let at : get_or tables n table ≡ table = search rules in
    let is : has_own table.epochs ≡ c.args.own = search rules in
    let old : List (List ℕ) = texts_of c.loop-place.dictionary in
    let grows = c.in-Ok.ensures.grows in
    let (file, more, known, encoded, took_file) = c.in-Ok.ensures.encoded in
    let known_as : IsKnownAs (g.F.TableFiles.content c.args.files.now n) file = rw (sym c.open.ensures) known in
    record {
      joined = λ before sized.
          let (texts, lines, long, behind, completes, joined, took) = inv.joined before sized in
          let within : n < length texts = omega (arith, lt, long) in (
            set texts n file,
            lines ++ more,
            length-set texts n file ∙ long,
            λ i from. get_or-set_other texts n i file [] (λ e. absurd (omega (arith, from, e))) ∙ behind i (omega (arith, from)),
            add-completes c.args.own (g.F.TableFiles.content c.args.files.now) before texts n file tables table lt within at is known_as completes,
            subst (λ (d : List (List ℕ)). AreJoined c.args.own c.args.shared.now (set texts n file) d 0 (take (n + 1) tables) (lines ++ more)) (sym grows.1)
                (add-joined c.args.own c.args.shared.now texts old grows.0 n file tables table lines more lt within at is (rw (← grows.1) encoded) joined),
            λ first taken h. subst (λ (t : List ℕ). g.O.LineSink.took first c.encode_file.new.out t) (append_assoc taken lines more) (took_file first (taken ++ lines) (took first taken h)),
          );
      stays = λ first h. c.encode_file.ensures.stays first (inv.stays first h);
      grown = grown-twice _ _ _ inv.grown grows;
    }

pub returns-clause-joined : goal.returns-clause-joined
returns-clause-joined g c = λ before sized.
    let tables : List Table = c.args.tables.now in
    let (texts, lines, long, behind, completes, joined, took) = c.loop-place.invariant.joined before sized in
    let all : take c.loop-place.place tables ≡ tables = take_all c.loop-place.place tables (omega (arith, c.loop-place-test.false)) in (
      texts,
      lines,
      long,
      subst (λ (t : List Table). Completes c.args.own (g.F.TableFiles.content c.args.files.now) before texts 0 t) all completes,
      subst (λ (t : List Table). AreJoined c.args.own c.args.shared.now texts (texts_of c.loop-place.dictionary) 0 t lines) all joined,
      took,
    )
