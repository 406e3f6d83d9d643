-- The words after a verb's letter.
use Rattle.std.proofs.Common.{◌≡◌, ◌<◌, ◌^◌, ℕ, ℤ, List, [], ◌∷◌, length, map, refl, sym, ap, subst, arith}
use Rattle.std.specs.Prelude.{FitsSigned, decimal, ◌==◌}
use Rattle.std.specs.Int.{w64}
use Rattle.std.specs.Fmt.{signed_decimal}
use Rattle.std.specs.List.{AllByRecursion}
use Rattle.std.proofs.lemmas.List.Splits.{length-slice_split}
use Rattle.collector.specs.Pieces.{split_on}
use Rattle.collector.specs.Lines.{AreNumbers, IsFilled, IsWord}
use Rattle.schedule.specs.ScheduleText.{AreCounts, AreFilled, HasBadField, HasName}

-- a text has a first word
pub some_words : (text : List ℕ) → split_on 32 text ≡ [] → ⊥
some_words text e = omega (arith, length-slice_split (λ b. b == 32) text, ap length e)

pub not_one : (words : List (List ℕ)) (first : List ℕ) (text : List ℕ) → words ≡ first ∷ split_on 32 text → (word : List ℕ) → words ≡ word ∷ [] → ⊥
not_one words first text e word f = omega (arith, length-slice_split (λ b. b == 32) text, ap length e, ap length f)

-- numbers are spelled in one way
pub numbers_spelled : (words : List (List ℕ)) (zs : List ℤ) → AreNumbers words zs → words ≡ map signed_decimal zs
numbers_spelled [] [] h = refl
numbers_spelled [] (z ∷ zs) h = absurd h
numbers_spelled (w ∷ ws) [] h = absurd h
numbers_spelled (w ∷ ws) (z ∷ zs) h = let e = h.0.1 in let f = numbers_spelled ws zs h.1 in cc

pub numbers_fit : (words : List (List ℕ)) (zs : List ℤ) → AreNumbers words zs → AllByRecursion (FitsSigned w64) zs
numbers_fit [] [] h = tt
numbers_fit [] (z ∷ zs) h = absurd h
numbers_fit (w ∷ ws) [] h = absurd h
numbers_fit (w ∷ ws) (z ∷ zs) h = (h.0.0, numbers_fit ws zs h.1)

-- one word
pub one_filled : (words : List (List ℕ)) (word : List ℕ) → words ≡ word ∷ [] → 0 < length word → AreFilled 1 words
one_filled words word e some = subst (AreFilled 1) (sym e) (record { counted = refl; filled = (some, tt) })

pub one_of_one : (words : List (List ℕ)) → AreFilled 1 words → (word : List ℕ) × (words ≡ word ∷ []) × (0 < length word)
one_of_one [] h = absurd (omega (arith, h.counted))
one_of_one (w ∷ []) h = (w, refl, h.filled.0)
one_of_one (w ∷ v ∷ ws) h = absurd (omega (arith, h.counted))

pub no_count : (words : List (List ℕ)) (word : List ℕ) → words ≡ word ∷ [] → ((n : ℕ) → n < 2 ^ 32 → word ≡ decimal n → ⊥) → (ns : List ℕ) → AreCounts words ns → ⊥
no_count words word e none ns h = bad ns (subst (λ ws. AreCounts ws ns) e h)
  where
    bad : (ns : List ℕ) → AreCounts (word ∷ []) ns → ⊥
    bad [] g = g
    bad (n ∷ ns) g = none n g.0.0 g.0.1

-- two words
pub two_filled : (words : List (List ℕ)) (first second : List ℕ) → words ≡ first ∷ second ∷ [] → 0 < length first → 0 < length second → AreFilled 2 words
two_filled words first second e some more = subst (AreFilled 2) (sym e) (record { counted = refl; filled = (some, (more, tt)) })

pub two_of_two : (words : List (List ℕ)) → AreFilled 2 words → (first second : List ℕ) × (words ≡ first ∷ second ∷ []) × (0 < length first) × (0 < length second)
two_of_two [] h = absurd (omega (arith, h.counted))
two_of_two (w ∷ []) h = absurd (omega (arith, h.counted))
two_of_two (w ∷ v ∷ []) h = (w, v, refl, h.filled.0, h.filled.1.0)
two_of_two (w ∷ v ∷ u ∷ ws) h = absurd (omega (arith, h.counted))

pub no_first : (words : List (List ℕ)) (first second : List ℕ) → words ≡ first ∷ second ∷ [] → ((n : ℕ) → n < 2 ^ 32 → first ≡ decimal n → ⊥) → (ns : List ℕ) → AreCounts words ns → ⊥
no_first words first second e none ns h = bad ns (subst (λ ws. AreCounts ws ns) e h)
  where
    bad : (ns : List ℕ) → AreCounts (first ∷ second ∷ []) ns → ⊥
    bad [] g = g
    bad (n ∷ ns) g = none n g.0.0 g.0.1

pub no_second : (words : List (List ℕ)) (first second : List ℕ) → words ≡ first ∷ second ∷ [] → ((n : ℕ) → n < 2 ^ 32 → second ≡ decimal n → ⊥) → (ns : List ℕ) → AreCounts words ns → ⊥
no_second words first second e none ns h = bad ns (subst (λ ws. AreCounts ws ns) e h)
  where
    bad : (ns : List ℕ) → AreCounts (first ∷ second ∷ []) ns → ⊥
    bad [] g = g
    bad (n ∷ []) g = g.1
    bad (n ∷ m ∷ ns) g = none m g.1.0.0 g.1.0.1

-- the words after a feed's letter
pub feed_formed : (words : List (List ℕ)) (input : List ℕ) (rest : List (List ℕ)) → words ≡ input ∷ rest → IsWord input → AllByRecursion IsFilled rest → HasName words
feed_formed words input rest e word filled = subst HasName (sym e) (word, filled)

pub feed_bad : (words : List (List ℕ)) (input : List ℕ) (rest : List (List ℕ)) → words ≡ input ∷ rest → ((zs : List ℤ) → AreNumbers rest zs → ⊥) → HasBadField words
feed_bad words input rest e bad = subst HasBadField (sym e) bad

pub no_name : (words : List (List ℕ)) (input : List ℕ) (rest : List (List ℕ)) → words ≡ input ∷ rest → (IsWord input → AllByRecursion IsFilled rest → ⊥) → HasName words → ⊥
no_name words input rest e none h = let g : HasName (input ∷ rest) = subst HasName e h in none g.0 g.1

-- only a name
pub one_named : (words : List (List ℕ)) (name : List ℕ) → words ≡ name ∷ [] → IsWord name → HasName words × (length words ≡ 1)
one_named words name e word = subst (λ ws. HasName ws × (length ws ≡ 1)) (sym e) ((word, tt), refl)

pub none_named : (words : List (List ℕ)) → ((name : List ℕ) → words ≡ name ∷ [] → IsWord name → ⊥) → HasName words × (length words ≡ 1) → ⊥
none_named [] none h = h.0
none_named (w ∷ []) none h = none w refl h.0.0
none_named (w ∷ v ∷ ws) none h = omega (arith, h.1)
