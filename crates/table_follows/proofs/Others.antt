-- The texts of files, one of them left out.
use Rattle.std.proofs.Common.{◌≡◌, ◌≢◌, ◌++◌, ℕ, Bool, zero, suc, List, [], ◌∷◌, length, set, refl}
use Rattle.query_answers.specs.Runs.{Known}
use Rattle.schema.specs.declared.tables.Table.{Table}
use Rattle.table_files.specs.Read.{AreTexts, IsKnownAs}
use Rattle.tables.specs.Answers.{AreDecoded, AreLines, AreRows, Where, outside}
use Rattle.table_follows.specs.Followed.{AreOthers}

-- one more text
texts-push : (known : Known) (names texts : List (List ℕ)) (name text : List ℕ) → AreTexts known names texts → IsKnownAs (known name) text
    → AreTexts known (names ++ name ∷ []) (texts ++ text ∷ [])
unfolding AreTexts
texts-push known [] texts name text none is = rw none (is, refl)
texts-push known (n ∷ names) [] name text bad is = absurd bad
texts-push known (n ∷ names) (t ∷ texts) name text (first, more) is = (first, texts-push known names texts name text more is)

pub others-none : (known : Known) (place : ℕ) → AreOthers known place [] []
unfolding AreOthers
others-none known place = refl

-- one more file, but not at the place
pub others-push : (known : Known) (place : ℕ) (names files : List (List ℕ)) (name file : List ℕ) → AreOthers known place names files
    → (length names ≢ place → IsKnownAs (known name) file) → AreOthers known place (names ++ name ∷ []) (files ++ file ∷ [])
unfolding AreOthers AreTexts
others-push known zero [] files name file none is = rw none refl
others-push known (suc place) [] files name file none is = let other : 0 ≢ suc place = λ e. cc e in rw none (is other, refl)
others-push known zero (n ∷ names) [] name file bad is = absurd bad
others-push known (suc place) (n ∷ names) [] name file bad is = absurd bad
others-push known zero (n ∷ names) (f ∷ files) name file more is = let other : suc (length names) ≢ 0 =
    λ e. cc e in texts-push known names files name file more (is other)
others-push known (suc place) (n ∷ names) (f ∷ files) name file (first, more) is =
    (first, others-push known place names files name file more (λ other. is (λ e. other (let same : suc (length names) ≡ suc place = e in cc same))))

-- what is at the place doesn't count
pub others-set : (known : Known) (place : ℕ) (names files : List (List ℕ)) (text : List ℕ) → AreOthers known place names files
    → AreOthers known place names (set files place text)
unfolding AreOthers
others-set known place [] files text none = rw none refl
others-set known zero (n ∷ names) [] text bad = absurd bad
others-set known (suc place) (n ∷ names) [] text bad = absurd bad
others-set known zero (n ∷ names) (f ∷ files) text more = more
others-set known (suc place) (n ∷ names) (f ∷ files) text (first, more) = (first, others-set known place names files text more)

no-rows : (table : Table) (with_epochs : Bool) (texts : List (List ℕ)) (rows : List (List (List ℕ))) (last : Where) (lines : List (List ℕ))
    → AreLines [] lines
    → AreRows table with_epochs texts outside lines rows last → rows ≡ []
unfolding AreLines AreRows
no-rows table with_epochs texts rows last [] cut r = r.0
no-rows table with_epochs texts rows last ([] ∷ lines) (rest, is, free, more) r = let bad : [] ≡ 10 ∷ rest = is in cc bad
no-rows table with_epochs texts rows last ((b ∷ line) ∷ lines) (rest, is, free, more) r = let bad : [] ≡ b ∷ (line ++ 10 ∷ rest) = is in cc bad

-- an empty answer has no rows
pub nothing-decoded : (table : Table) (with_epochs : Bool) (texts : List (List ℕ)) (rows : List (List (List ℕ)))
    → AreDecoded table with_epochs texts [] rows → rows ≡ []
nothing-decoded table with_epochs texts rows d = no-rows table with_epochs texts rows d.last d.lines d.cut d.decoded
