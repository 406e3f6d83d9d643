-- Words read as numbers, one after another.
use Rattle.std.proofs.Common.{◌≡◌, ◌∙◌, ℕ, ℤ, List, [], ◌∷◌, ◌++◌, refl, sym, ap, subst, append_assoc}
use Rattle.std.specs.Prelude.{FitsSigned}
use Rattle.std.specs.Int.{w64}
use Rattle.std.specs.Fmt.{signed_decimal}
use Rattle.collector.specs.Pieces.{split_on}
use Rattle.collector.specs.Lines.{AreNumbers}

pub AreNumbers_push : (words : List (List ℕ)) (zs : List ℤ) (word : List ℕ) (z : ℤ) → AreNumbers words zs → FitsSigned w64 z → word ≡ signed_decimal z → AreNumbers (words ++ word ∷ []) (zs ++ z ∷ [])
AreNumbers_push [] [] word z h fits is = ((fits, is), tt)
AreNumbers_push [] (y ∷ ys) word z h fits is = absurd h
AreNumbers_push (w ∷ ws) [] word z h fits is = absurd h
AreNumbers_push (w ∷ ws) (y ∷ ys) word z h fits is = (h.0, AreNumbers_push ws ys word z h.1 fits is)

-- a word that isn't a number, after others
pub AreNumbers_none : (before : List (List ℕ)) (word : List ℕ) (after : List (List ℕ)) (zs : List ℤ) → ((z : ℤ) → FitsSigned w64 z → word ≡ signed_decimal z → ⊥) → AreNumbers (before ++ word ∷ after) zs → ⊥
AreNumbers_none [] word after [] none h = h
AreNumbers_none [] word after (z ∷ zs) none h = none z h.0.0 h.0.1
AreNumbers_none (w ∷ ws) word after [] none h = h
AreNumbers_none (w ∷ ws) word after (z ∷ zs) none h = AreNumbers_none ws word after zs none h.1

-- some words were read as numbers; the rest of the text has the others
pub record ReadFrom (text rest : List ℕ) (zs : List ℤ) : Type 0 where
  pub before : List (List ℕ)
  pub numbers : AreNumbers before zs
  pub parts : split_on 32 text ≡ before ++ split_on 32 rest

pub read_none : (text : List ℕ) (zs : List ℤ) → zs ≡ [] → ReadFrom text text zs
read_none text zs e = record { before = []; numbers = subst (AreNumbers []) (sym e) tt; parts = refl }

pub read_more : (text rest word after : List ℕ) (zs new : List ℤ) (z : ℤ) → ReadFrom text rest zs → split_on 32 rest ≡ word ∷ split_on 32 after → FitsSigned w64 z → word ≡ signed_decimal z → new ≡ zs ++ z ∷ [] → ReadFrom text after new
read_more text rest word after zs new z r cut fits is e = record {
  before = r.before ++ word ∷ [];
  numbers = subst (AreNumbers (r.before ++ word ∷ [])) (sym e) (AreNumbers_push r.before zs word z r.numbers fits is);
  parts = r.parts ∙ ap (λ (ws : List (List ℕ)). r.before ++ ws) cut ∙ sym (append_assoc r.before (word ∷ []) (split_on 32 after));
}

pub read_all : (text rest : List ℕ) (zs new : List ℤ) (z : ℤ) → ReadFrom text rest zs → split_on 32 rest ≡ rest ∷ [] → FitsSigned w64 z → rest ≡ signed_decimal z → new ≡ zs ++ z ∷ [] → AreNumbers (split_on 32 text) new
read_all text rest zs new z r cut fits is e =
    let parts : split_on 32 text ≡ r.before ++ rest ∷ [] = r.parts ∙ ap (λ (ws : List (List ℕ)). r.before ++ ws) cut in
    rw (parts, e) (AreNumbers_push r.before zs rest z r.numbers fits is)

pub read_bad : (text rest word : List ℕ) (after : List (List ℕ)) (zs : List ℤ) → ReadFrom text rest zs → split_on 32 rest ≡ word ∷ after → ((z : ℤ) → FitsSigned w64 z → word ≡ signed_decimal z → ⊥) → (ys : List ℤ) → AreNumbers (split_on 32 text) ys → ⊥
read_bad text rest word after zs r cut none ys h =
    let parts : split_on 32 text ≡ r.before ++ word ∷ after = r.parts ∙ ap (λ (ws : List (List ℕ)). r.before ++ ws) cut in
    AreNumbers_none r.before word after ys none (subst (λ (ws : List (List ℕ)). AreNumbers ws ys) parts h)
