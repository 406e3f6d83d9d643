use Rattle.std.proofs.Common.{◌≡◌, ◌∙◌, ◌∷◌, ◌++◌, ◌+◌, [], ℕ, List, get_or, take, sym, ap, subst}
use Rattle.std.proofs.lemmas.List.{take_more}
use Rattle.std.proofs.lemmas.Option.{get_or_from_slice_get, slice_get_within}
use Rattle.csv_cells.specs.Texts.{texts_of}
use Rattle.csv_answers.specs.Files.{IsFile}
use Rattle.tables.specs.Dictionaries.{dictionary_rows}
use Rattle.tables.proofs.Cells.{dictionary-push}
use Rattle.tables.proofs.dictionary_file.dictionary_text.Goals as goal

pub loop-place-preserved : goal.loop-place-preserved
loop-place-preserved c =
    let texts : List (List ℕ) = texts_of c.args.dictionary.now in
    let place : ℕ = c.loop-place.place in
    let wrote = c.in_ok-write_text.ensures (dictionary_rows (take place texts)) c.loop-place.invariant.file in
    let there : get_or texts place [] ≡ wrote.0 = get_or_from_slice_get texts place wrote.0 [] wrote.1 in
    let more : take (place + 1) texts ≡ take place texts ++ wrote.0 ∷ [] =
    take_more texts place [] (slice_get_within texts place wrote.0 wrote.1) ∙ ap (λ (t : List ℕ). take place texts ++ t ∷ []) there in
    let path : dictionary_rows (take place texts) ++ (wrote.0 ∷ []) ∷ [] ≡ dictionary_rows (take (place + 1) texts) = sym (dictionary-push (take place texts) wrote.0) ∙ ap dictionary_rows (sym more) in
    record { file = subst (λ (rows : List (List (List ℕ))). IsFile c.write_text.new.writer rows) path wrote.2 }
