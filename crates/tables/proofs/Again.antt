-- A dictionary's file that is read again.
use Rattle.std.proofs.Common.{◌≡◌, ◌++◌, ◌∙◌, ℕ, List, [], ◌∷◌, map, Some, None, refl, sym, ap, subst, inl, inr}
use Rattle.std.specs.Prelude.{codes}
use Rattle.csv.specs.Machine.{Read, next_record}
use Rattle.csv.specs.Reading.{AreRecords, Reached, default_config, strip_bom}
use Rattle.csv.specs.Writing.{default_writer, escaped, fields_text, is_blank, read_back, row_text}
use Rattle.csv.specs.declared.parser.State.TheVariants as st
use Rattle.csv.proofs.RoundTrip.{read-write}
use Rattle.csv_answers.specs.Files.{csv_text}
use Rattle.tables.specs.Dictionaries.{IsDictionaryFile, dictionary_rows}
use Rattle.tables.specs.Tables.{IsReadDictionary}

pub once : (p q : Read) → Some p ≡ Some q → p ≡ q
once p q e = cc e

-- the first record of what was written, and those after it
first-again : (row first : List (List ℕ)) (rest : List ℕ) (more : List (List (List ℕ))) → AreRecords default_config st.StartRecord (row_text default_writer row ++ rest) (first ∷ more)
    → (first ≡ read_back row) × AreRecords default_config st.StartRecord rest more
unfolding Reached
first-again row first rest more (s2, ys, (p, e, q, reached), none) =
    let same : p ≡ (read_back row, st.StartRecord, rest) = once p (read_back row, st.StartRecord, rest) (sym e ∙ read-write row rest) in
    (q ∙ ap (λ (r : Read). r.0) same, (s2, ys, subst (λ (r : Read). Reached default_config r.1 r.2 more s2 ys) same reached, none))

nothing-again : (first : List (List ℕ)) (more : List (List (List ℕ))) → AreRecords default_config st.StartRecord [] (first ∷ more) → ⊥
unfolding Reached next_record
nothing-again first more (s2, ys, (p, e, q, reached), none) = cc e

something-again : (row : List (List ℕ)) (rest : List ℕ) → AreRecords default_config st.StartRecord (row_text default_writer row ++ rest) [] → ⊥
unfolding Reached
something-again row rest (s2, ys, (es, ey), none) =
    let ends : next_record default_config st.StartRecord [] [] (row_text default_writer row ++ rest) ≡ None = rw (← es, ← ey) at none in
    cc (sym ends ∙ read-write row rest)

texts-again : (texts others : List (List ℕ)) → AreRecords default_config st.StartRecord (csv_text (map (λ text. text ∷ []) texts)) (map (λ text. text ∷ []) others) → others ≡ texts
unfolding csv_text
texts-again [] [] h = refl
texts-again [] (o ∷ os) h = absurd (nothing-again (o ∷ []) (map (λ text. text ∷ []) os) h)
texts-again (t ∷ ts) [] h = absurd (something-again (t ∷ []) (csv_text (map (λ text. text ∷ []) ts)) h)
texts-again (t ∷ ts) (o ∷ os) h =
    let k = first-again (t ∷ []) (o ∷ []) (csv_text (map (λ text. text ∷ []) ts)) (map (λ text. text ∷ []) os) h in
    let head : o ∷ [] ≡ t ∷ [] = k.0 in
    let tail : os ≡ ts = texts-again ts os k.1 in
    cc

no-mark : (rest : List ℕ) → strip_bom (row_text default_writer (codes "text" ∷ []) ++ rest) ≡ row_text default_writer (codes "text" ∷ []) ++ rest
unfolding strip_bom fields_text is_blank escaped
no-mark rest = refl

some-text : (rest : List ℕ) → row_text default_writer (codes "text" ∷ []) ++ rest ≡ [] → ⊥
unfolding fields_text is_blank escaped
some-text rest e = cc e

-- what was written reads as the texts that were written, and no others
pub dictionary-again : (texts others : List (List ℕ)) (file : List ℕ) → IsDictionaryFile texts file → IsReadDictionary file others → others ≡ texts
unfolding csv_text
dictionary-again texts others file wrote (inl none) = absurd (some-text (csv_text (map (λ text. text ∷ []) texts)) (sym wrote ∙ none.0))
dictionary-again texts others file wrote (inr read) =
    let rest : List ℕ = csv_text (map (λ text. text ∷ []) texts) in
    let all : AreRecords default_config st.StartRecord (row_text default_writer (codes "text" ∷ []) ++ rest) (dictionary_rows others) =
    subst (λ (t : List ℕ). AreRecords default_config st.StartRecord t (dictionary_rows others)) (ap strip_bom wrote ∙ no-mark rest) read in
    texts-again texts others (first-again (codes "text" ∷ []) (codes "text" ∷ []) rest (map (λ text. text ∷ []) others) all).1
