-- The files of tables are those of the names that the tables have.
use Rattle.std.proofs.Common.{◌≡◌, ◌++◌, ℕ, zero, suc, List, [], ◌∷◌, Option, length, get_or, append_assoc, refl, subst, arith}
use Rattle.std.proofs.lemmas.List.{length-append}
use Rattle.schema.specs.declared.tables.Table.{Table}
use Rattle.table_files.specs.Read.{AreTexts, IsKnownAs}
use Rattle.tables.specs.Inputs.{AreFiles}

here : (before : List (List ℕ)) (x : List ℕ) (more : List (List ℕ)) (place : ℕ) → length before ≡ place → get_or (before ++ x ∷ more) place [] ≡ x
here [] x more zero e = refl
here [] x more (suc place) e = absurd (omega (arith, e))
here (b ∷ before) x more zero e = absurd (omega (arith, e))
here (b ∷ before) x more (suc place) e = here before x more place (omega (arith, e))

longer : (before : List (List ℕ)) (x : List ℕ) (place : ℕ) → length before ≡ place → length (before ++ x ∷ []) ≡ suc place
longer before x place e = omega (arith, e, length-append before (x ∷ []))

texts_from : (known : List ℕ → Option (List ℕ)) (before names others files : List (List ℕ)) (tables : List Table) (place : ℕ) → length before ≡ place → length others ≡ place
    → length names ≡ length tables → length files ≡ length tables → AreFiles (λ i. known (get_or (before ++ names) i [])) (others ++ files) place tables → AreTexts known names files
unfolding AreTexts AreFiles
texts_from known before [] others [] [] place a b m n h = refl
texts_from known before [] others (f ∷ files) tables place a b m n h = absurd (omega (arith, m, n))
texts_from known before [] others [] (t ∷ tables) place a b m n h = absurd (omega (arith, m))
texts_from known before (name ∷ names) others files [] place a b m n h = absurd (omega (arith, m))
texts_from known before (name ∷ names) others [] (t ∷ tables) place a b m n h = absurd (omega (arith, n))
texts_from known before (name ∷ names) others (f ∷ files) (t ∷ tables) place a b m n h =
    let at : get_or (before ++ name ∷ names) place [] ≡ name = here before name names place a in
    let it : get_or (others ++ f ∷ files) place [] ≡ f = here others f files place b in
    let first : IsKnownAs (known name) f = subst (λ (x : List ℕ). IsKnownAs (known x) f) at (subst (λ (x : List ℕ). IsKnownAs (known (get_or (before ++ name ∷ names) place [])) x) it h.0) in (
      first,
      texts_from known (before ++ name ∷ []) names (others ++ f ∷ []) files tables (suc place) (longer before name place a) (longer others f place b) (omega (arith, m)) (omega (arith, n))
          (rw (append_assoc before (name ∷ []) names, append_assoc others (f ∷ []) files) h.1),
    )

pub texts_of_files : (known : List ℕ → Option (List ℕ)) (names files : List (List ℕ)) (tables : List Table) → length names ≡ length tables → length files ≡ length tables
    → AreFiles (λ i. known (get_or names i [])) files 0 tables → AreTexts known names files
texts_of_files known names files tables m n h = texts_from known [] names [] files tables 0 refl refl m n h
