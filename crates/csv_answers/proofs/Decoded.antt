-- The lines of an answer, its numbers and its rows, one after another.
use Rattle.std.proofs.Common.{◌≡◌, ◌++◌, ◌∙◌, ◌≤◌, ◌<◌, ◌+◌, ◌-◌, ◌==◌, ℕ, ℤ, List, [], ◌∷◌, Bool, false, length, take, drop, get_or, refl, sym, ap}
use Rattle.std.proofs.lemmas.List.{append-nil, append_assoc, take-append-drop, take-take, take_more}
use Rattle.std.specs.Prelude.{Option, Some, None, IfNone, IfSome, MatchOption}
use Rattle.std.specs.Fmt.{signed_decimal}
use Rattle.std.specs.List.{list_any}
use Rattle.csv.proofs.WriteFacts.{slice-run}
use Rattle.schema.specs.declared.tables.Table.{Table}
use Rattle.csv_answers.specs.Answers.{Adds, AreLines, AreRows, Where, words_text}

-- the list up to a place: what comes before another, what lies between, and what stands at the place
pub up-to : (l : List ℕ) (b e d : ℕ) → b ≤ e → e < length l → take (e + 1) l ≡ take b l ++ (take (e - b) (drop b l) ++ get_or l e d ∷ [])
up-to l b e d le lt =
    let front : take e l ≡ take b l ++ drop b (take e l) = sym (take-append-drop b (take e l)) ∙ ap (λ (t : List ℕ). t ++ drop b (take e l)) (take-take b e l le) in
    take_more l e d lt ∙ ap (λ (t : List ℕ). t ++ get_or l e d ∷ []) (front ∙ ap (λ (t : List ℕ). take b l ++ t) (sym (slice-run l b e le)))
    ∙ append_assoc (take b l) (take (e - b) (drop b l)) (get_or l e d ∷ [])

-- numbers with a space after each
unfoldable pub begun_text : List ℤ → List ℕ
begun_text [] = []
begun_text (z ∷ zs) = signed_decimal z ++ (32 ∷ begun_text zs)

pub none-begun : [] ≡ begun_text []
unfolding begun_text
none-begun = refl

pub begun-push : (zs : List ℤ) (z : ℤ) → begun_text (zs ++ z ∷ []) ≡ begun_text zs ++ (signed_decimal z ++ 32 ∷ [])
unfolding begun_text
begun-push [] z = refl
begun-push (y ∷ zs) z = ap (λ (t : List ℕ). signed_decimal y ++ (32 ∷ t)) (begun-push zs z) ∙ sym (append_assoc (signed_decimal y) (32 ∷ begun_text zs) (signed_decimal z ++ 32 ∷ []))

words-more : (y : ℤ) (zs : List ℤ) (z : ℤ) → words_text (y ∷ (zs ++ z ∷ [])) ≡ signed_decimal y ++ (32 ∷ words_text (zs ++ z ∷ []))
unfolding words_text
words-more y [] z = refl
words-more y (x ∷ zs) z = refl

-- and the last one
pub words-end : (zs : List ℤ) (z : ℤ) → begun_text zs ++ signed_decimal z ≡ words_text (zs ++ z ∷ [])
unfolding begun_text words_text
words-end [] z = refl
words-end (y ∷ zs) z = append_assoc (signed_decimal y) (32 ∷ begun_text zs) (signed_decimal z) ∙ ap (λ (t : List ℕ). signed_decimal y ++ (32 ∷ t)) (words-end zs z) ∙ sym (words-more y zs z)

pub no-lines : AreLines [] []
unfolding AreLines
no-lines = refl

-- one more line
pub lines-push : (lines : List (List ℕ)) (text line : List ℕ) → AreLines text lines → list_any (λ b. b == 10) line ≡ false → AreLines (text ++ (line ++ 10 ∷ [])) (lines ++ line ∷ [])
unfolding AreLines
lines-push [] text line h free = ([], ap (λ (t : List ℕ). t ++ (line ++ 10 ∷ [])) h, free, refl)
lines-push (l ∷ lines) text line h free =
    (h.0 ++ (line ++ 10 ∷ []), ap (λ (t : List ℕ). t ++ (line ++ 10 ∷ [])) h.1 ∙ append_assoc l (10 ∷ h.0) (line ++ 10 ∷ []), h.2, lines-push lines h.0 line h.3 free)

pub no-rows : (table : Table) (with_epochs : Bool) (texts : List (List ℕ)) (a : Where) → AreRows table with_epochs texts a [] [] a
unfolding AreRows
no-rows table with_epochs texts a = (refl, refl)

-- and what it adds
pub rows-push : (table : Table) (with_epochs : Bool) (texts : List (List ℕ)) (lines : List (List ℕ)) (a b c : Where) (rows more : List (List (List ℕ))) (line : List ℕ)
    → AreRows table with_epochs texts a lines rows b → Adds table with_epochs texts b line more c → AreRows table with_epochs texts a (lines ++ line ∷ []) (rows ++ more) c
unfolding AreRows
rows-push table with_epochs texts [] a b c rows more line h add =
    (more, [], c, rw h.1 at add, (refl, refl), ap (λ (t : List (List (List ℕ))). t ++ more) h.0 ∙ sym (append-nil more))
rows-push table with_epochs texts (l ∷ lines) a b c rows more line h add = (
  h.0,
  h.1 ++ more,
  h.2,
  h.3,
  rows-push table with_epochs texts lines h.2 b c h.1 more line h.4 add,
  ap (λ (t : List (List (List ℕ))). t ++ more) h.5 ∙ append_assoc h.0 h.1 more,
)

pub match-some : {T : Type 0} (o : Option T) (P : Type 0) (Q : T → Type 0) → MatchOption o P Q → IfSome o Q
match-some None P Q h = tt
match-some (Some x) P Q h = h

pub match-none : {T : Type 0} (o : Option T) (P : Type 0) (Q : T → Type 0) → MatchOption o P Q → IfNone o P
match-none None P Q h = h
match-none (Some x) P Q h = tt
