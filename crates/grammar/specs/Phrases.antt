-- Phrases of any class: a relation between the tokens that begin with it, its value, its height and the tokens left.
use Rattle.std.specs.Prelude.{ℕ, max, ◌<◌, ◌≡◌, List, [], ◌∷◌}
use Rattle.record_core.specs.declared.span.Span.{Span}
use Rattle.lexer.specs.declared.token.Token.{Token}
use Rattle.lexer.specs.declared.mark.Mark.{Mark}
use Rattle.lexer.specs.declared.mark.Mark.TheVariants as mark
use Rattle.grammar.specs.Tokens.{mark_at, NoMark}

-- x { "," x }: the phrases, the greatest of their heights, and the tokens left
pub data Listed {X : Type 0} (P : List Token → X → ℕ → List Token → Type 0) : List Token → List X → ℕ → List Token → Type 0 where
  one : {x : X} {h : ℕ} {ts us : List Token} → P ts x h us → NoMark mark.Comma us → Listed P ts (x ∷ []) h us
  more : {x : X} {xs : List X} {s : Span} {h k : ℕ} {ts us vs : List Token} → P ts x h (mark_at mark.Comma s ∷ us)
      → Listed P us xs k vs → Listed P ts (x ∷ xs) (max h k) vs

-- a phrase, then that mark
abbrev pub Ended : {X : Type 0} → (List Token → X → ℕ → List Token → Type 0) → Mark → List Token → X → ℕ → List Token → Type 0
Ended P m ts x h us = (s : Span) × P ts x h (mark_at m s ∷ us)

-- every reading of that phrase is higher than that
abbrev pub Unread : {X : Type 0} → (List Token → X → ℕ → List Token → Type 0) → List Token → ℕ → Type 0
Unread {X} P ts m = (x : X) (h : ℕ) (us : List Token) → P ts x h us → m < h

-- the same phrase, with the same tokens left
pub record Agree {X : Type 0} (x y : X) (h k : ℕ) (us vs : List Token) : Type 0 where
  pub value : x ≡ y
  pub height : h ≡ k
  pub left : us ≡ vs

-- tokens begin with at most one such phrase
abbrev pub IsOne : {X : Type 0} → (List Token → X → ℕ → List Token → Type 0) → Type 0
IsOne {X} P = (ts us vs : List Token) (x y : X) (h k : ℕ) → P ts x h us → P ts y k vs → Agree x y h k us vs
