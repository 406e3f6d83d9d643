-- The marks, in the order in which they are tried.
use Rattle.std.proofs.Common.{◌≡◌, ◌<◌, ◌≤◌, ◌+◌, ◌∙◌, ℕ, zero, suc, List, length, take, true, false, Some, refl, sym, ap, subst, arith, get_or, inl, inr}
use Rattle.std.specs.Prelude.{slice_get}
use Rattle.std.specs.Str.{bytes_eq}
use Rattle.std.proofs.lemmas.Option.{get_or_from_slice_get}
use Rattle.std.proofs.lemmas.Bool.{cases_lt}
use Rattle.std.proofs.lemmas.Slice.Eq.{bytes_eq-Decides}
use Rattle.lexer.specs.declared.mark.Mark.{Mark}
use Rattle.lexer.specs.declared.mark.Mark.TheVariants.{NotEqual, AtMost, AtLeast, Slash, Semicolon, Comma, OpenRound, CloseRound, OpenSquare, CloseSquare, Equal, Below, Above, Plus, Minus, Star}
use Rattle.lexer.specs.declared.mark.TheConstants.{MARKS}
use Rattle.lexer.specs.Marks.{mark_text, BeginsWith, IsLongestMark}

-- what `starts_with` says for the mark's text
pub begins : (bytes text : List ℕ) (m : Mark) → text ≡ mark_text m → bytes_eq text (take (length text) bytes) ≡ true → BeginsWith bytes m
begins bytes text m e t =
    let is : text ≡ take (length text) bytes = (bytes_eq-Decides text (take (length text) bytes)).0 t in
    subst (λ (x : List ℕ). take (length x) bytes ≡ x) e (sym is)

pub begins_not : (bytes text : List ℕ) (m : Mark) → text ≡ mark_text m → bytes_eq text (take (length text) bytes) ≡ false → BeginsWith bytes m → ⊥
begins_not bytes text m e f b =
    let is : text ≡ take (length text) bytes = subst (λ (x : List ℕ). x ≡ take (length x) bytes) (sym e) (sym b) in
    let t : bytes_eq text (take (length text) bytes) ≡ true = (bytes_eq-Decides text (take (length text) bytes)).1 is in
    cc

-- one more mark isn't at the front
pub not_there : (bytes text : List ℕ) (n : ℕ) → ((m : Mark) (i : ℕ) → i < n → slice_get MARKS i ≡ Some m → BeginsWith bytes m → ⊥)
    → text ≡ mark_text (get_or MARKS n NotEqual) → bytes_eq text (take (length text) bytes) ≡ false
    → (m : Mark) (i : ℕ) → i < n + 1 → slice_get MARKS i ≡ Some m → BeginsWith bytes m → ⊥
not_there bytes text n before e f m i lt at = elim (cases_lt i n) [
  | inl less ↦ before m i less at
  | inr ge ↦
      let same : i ≡ n = omega arith in
      let here : get_or MARKS i NotEqual ≡ m = get_or_from_slice_get MARKS i m NotEqual at in
      begins_not bytes text m (e ∙ ap (λ (j : ℕ). mark_text (get_or MARKS j NotEqual)) (sym same) ∙ ap mark_text here) f
]

-- the place of a mark in the table: one of two bytes comes before one of one byte
pub record Place (m : Mark) : Type 0 where
  pub at : ℕ
  pub small : at < 16
  pub there : slice_get MARKS at ≡ Some m
  pub long : 1 < length (mark_text m) → at < 3
  pub size : (0 < length (mark_text m)) × (length (mark_text m) ≤ 2)

pub place : (m : Mark) → Place m
place NotEqual = record { at = 0; small = omega arith; there = refl; long = λ h. omega arith; size = (omega arith, omega arith) }
place AtMost = record { at = 1; small = omega arith; there = refl; long = λ h. omega arith; size = (omega arith, omega arith) }
place AtLeast = record { at = 2; small = omega arith; there = refl; long = λ h. omega arith; size = (omega arith, omega arith) }
place Slash = record { at = 3; small = omega arith; there = refl; long = λ h. omega arith; size = (omega arith, omega arith) }
place Semicolon = record { at = 4; small = omega arith; there = refl; long = λ h. omega arith; size = (omega arith, omega arith) }
place Comma = record { at = 5; small = omega arith; there = refl; long = λ h. omega arith; size = (omega arith, omega arith) }
place OpenRound = record { at = 6; small = omega arith; there = refl; long = λ h. omega arith; size = (omega arith, omega arith) }
place CloseRound = record { at = 7; small = omega arith; there = refl; long = λ h. omega arith; size = (omega arith, omega arith) }
place OpenSquare = record { at = 8; small = omega arith; there = refl; long = λ h. omega arith; size = (omega arith, omega arith) }
place CloseSquare = record { at = 9; small = omega arith; there = refl; long = λ h. omega arith; size = (omega arith, omega arith) }
place Equal = record { at = 10; small = omega arith; there = refl; long = λ h. omega arith; size = (omega arith, omega arith) }
place Below = record { at = 11; small = omega arith; there = refl; long = λ h. omega arith; size = (omega arith, omega arith) }
place Above = record { at = 12; small = omega arith; there = refl; long = λ h. omega arith; size = (omega arith, omega arith) }
place Plus = record { at = 13; small = omega arith; there = refl; long = λ h. omega arith; size = (omega arith, omega arith) }
place Minus = record { at = 14; small = omega arith; there = refl; long = λ h. omega arith; size = (omega arith, omega arith) }
place Star = record { at = 15; small = omega arith; there = refl; long = λ h. omega arith; size = (omega arith, omega arith) }

-- the first three marks have two bytes
two_bytes : (i : ℕ) → i < 3 → length (mark_text (get_or MARKS i NotEqual)) ≡ 2
two_bytes zero lt = refl
two_bytes (suc zero) lt = refl
two_bytes (suc (suc zero)) lt = refl
two_bytes (suc (suc (suc i))) lt = absurd (omega arith)

-- the first mark of the table that is at the front is the longest there
pub is_longest : (bytes : List ℕ) (n : ℕ) → ((m : Mark) (i : ℕ) → i < n → slice_get MARKS i ≡ Some m → BeginsWith bytes m → ⊥) → BeginsWith bytes (get_or MARKS n NotEqual)
    → IsLongestMark bytes (get_or MARKS n NotEqual)
is_longest bytes n before b = record {
  begins = b;
  longest = λ m longer there.
      let p = place m in
      let some : 0 < length (mark_text (get_or MARKS n NotEqual)) = (place (get_or MARKS n NotEqual)).size.0 in
      let first : p.at < 3 = p.long (omega arith) in
      elim (cases_lt p.at n) [
        | inl less ↦ before m p.at less p.there there
        | inr ge ↦ let two = two_bytes n (omega arith) in let most = p.size.1 in absurd (omega arith)
      ];
}
