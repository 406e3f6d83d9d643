-- The longest lexeme at the front of some bytes.
use Rattle.std.proofs.Common.{◌≡◌, ◌<◌, ◌≤◌, ◌+◌, ◌∙◌, ℕ, zero, suc, List, ◌∷◌, length, take, Bool, true, false, sym, ap, subst, arith, get_or, inl, inr}
use Rattle.std.specs.Bool.{IsTrue}
use Rattle.std.specs.List.{list_all}
use Rattle.std.proofs.lemmas.Bool.{cases_Bool}
use Rattle.std.proofs.lemmas.List.{get_or-take, length-take, length-take-le}
use Rattle.std.proofs.lemmas.List.Folds.{list_all_at}
use Rattle.lexer.specs.declared.mark.Mark.{Mark}
use Rattle.lexer.specs.declared.lexeme.Shape.{Shape}
use Rattle.lexer.specs.declared.lexeme.Shape.TheVariants.{Reference, Sign}
use Rattle.lexer.specs.Marks.{mark_text, BeginsWith, IsLongestMark}
use Rattle.record_core.specs.Names.{is_digit}
use Rattle.lexer.specs.Lexemes.{shape_of, HasShape, IsLexeme, IsLongest}
use Rattle.lexer.proofs.Marks.{place}

-- if every byte passes, the byte at a place does
pub each_at : (p : ℕ → Bool) (bs : List ℕ) → IsTrue (list_all p bs) → (i : ℕ) → i < length bs → p (get_or bs i 0) ≡ true
each_at p bs each i lt = elim (cases_Bool (p (get_or bs i 0))) [
  | inl t ↦ t
  | inr f ↦ let g = list_all_at p bs i 0 lt f in absurd cc
]

-- no longer run passes
pub run_ends : (p : ℕ → Bool) (bs : List ℕ) (n j : ℕ) → n < j → j ≤ length bs → (n < length bs → p (get_or bs n 0) ≡ false) → IsTrue (list_all p (take j bs)) → ⊥
run_ends p bs n j lt le stop each =
    let t : p (get_or (take j bs) n 0) ≡ true = each_at p (take j bs) each n (omega (arith, length-take-le j bs le)) in
    let u : p (get_or bs n 0) ≡ true = ap p (sym (get_or-take j bs n 0 lt)) ∙ t in
    let f : p (get_or bs n 0) ≡ false = stop (omega arith) in
    cc

-- the longest lexeme, if its bytes after the first are a run
pub longest_run : (s : Shape) (p : ℕ → Bool) (bytes : List ℕ) (b : ℕ) (bs : List ℕ) (n : ℕ) → bytes ≡ b ∷ bs → shape_of b ≡ s
    → (IsTrue (list_all p (take n bs)) → HasShape s b (take n bs)) → ((xs : List ℕ) → HasShape s b xs → IsTrue (list_all p xs))
    → n ≤ length bs → IsTrue (list_all p (take n bs)) → (n < length bs → p (get_or bs n 0) ≡ false)
    → IsLongest bytes (n + 1)
longest_run s p bytes b bs n parts e to from le each stop =
    let at : n + 1 ≡ suc n = omega arith in
    rw (parts, at) (record {
      within = omega arith;
      lexeme = rw e (to each);
      longest = λ k lt len is. over k lt len is;
    })
  where
    over : (k : ℕ) → suc n < k → k ≤ suc (length bs) → IsLexeme (take k (b ∷ bs)) → ⊥
    over zero lt len is = absurd (omega arith)
    over (suc j) lt len is =
        let h : HasShape s b (take j bs) = rw e at is in
        run_ends p bs n j (omega arith) (omega arith) stop (from (take j bs) h)

-- a `#` without digits begins no lexeme
pub lone : (bytes : List ℕ) (b : ℕ) (bs : List ℕ) (n : ℕ) → bytes ≡ b ∷ bs → shape_of b ≡ Reference → n ≡ 0 → (n < length bs → is_digit (get_or bs n 0) ≡ false)
    → (k : ℕ) → k ≤ length bytes → IsLexeme (take k bytes) → ⊥
lone bytes b bs n parts e zeroth stop = rw parts none
  where
    none : (k : ℕ) → k ≤ suc (length bs) → IsLexeme (take k (b ∷ bs)) → ⊥
    none zero le is = is
    none (suc j) le is =
        let h : HasShape Reference b (take j bs) = rw e at is in
        let stop0 : 0 < length bs → is_digit (get_or bs 0 0) ≡ false = subst (λ (i : ℕ). i < length bs → is_digit (get_or bs i 0) ≡ false) zeroth stop in
        let size : length (take j bs) ≡ j = length-take-le j bs (omega arith) in
        run_ends is_digit bs 0 j (omega (arith, h.0, size)) (omega arith) stop0 h.1

stands : (k : ℕ) (xs : List ℕ) (m : Mark) → k ≤ length xs → take k xs ≡ mark_text m → BeginsWith xs m
stands k xs m le is =
    let size : length (mark_text m) ≡ k = ap length (sym is) ∙ length-take-le k xs le in
    subst (λ (i : ℕ). take i xs ≡ mark_text m) (sym size) is

sign_lexeme : (k b : ℕ) (bs : List ℕ) (m : Mark) → shape_of b ≡ Sign → 0 < k → take k (b ∷ bs) ≡ mark_text m → IsLexeme (take k (b ∷ bs))
sign_lexeme zero b bs m e lt is = absurd (omega arith)
sign_lexeme (suc j) b bs m e lt is = rw e (m, is)

sign_mark : (k b : ℕ) (bs : List ℕ) → shape_of b ≡ Sign → IsLexeme (take k (b ∷ bs)) → (m : Mark) × (take k (b ∷ bs) ≡ mark_text m)
sign_mark zero b bs e is = absurd is
sign_mark (suc j) b bs e is = let h : HasShape Sign b (take j bs) = rw e at is in h

-- if no mark is at the front, no lexeme begins with such a byte
pub no_mark : (bytes : List ℕ) (b : ℕ) (bs : List ℕ) → bytes ≡ b ∷ bs → shape_of b ≡ Sign → ((m : Mark) → BeginsWith bytes m → ⊥) → (k : ℕ) → k ≤ length bytes → IsLexeme (take k bytes) → ⊥
no_mark bytes b bs parts e none k le is =
    let h = sign_mark k b bs e (subst (λ (x : List ℕ). IsLexeme (take k x)) parts is) in
    none h.0 (stands k bytes h.0 le (ap (take k) parts ∙ h.1))

-- the longest mark is the longest lexeme
pub longest_mark : (bytes : List ℕ) (b : ℕ) (bs : List ℕ) (m : Mark) → bytes ≡ b ∷ bs → shape_of b ≡ Sign → IsLongestMark bytes m → IsLongest bytes (length (mark_text m))
longest_mark bytes b bs m parts e long =
    let n : ℕ = length (mark_text m) in
    let begins : take n (b ∷ bs) ≡ mark_text m = ap (take n) (sym parts) ∙ long.begins in
    record {
      within = omega (arith, ap length long.begins, length-take n bytes);
      lexeme = subst (λ (x : List ℕ). IsLexeme (take n x)) (sym parts) (sign_lexeme n b bs m e (place m).size.0 begins);
      longest = λ k lt le is.
          let h = sign_mark k b bs e (subst (λ (x : List ℕ). IsLexeme (take k x)) parts is) in
          let here : take k bytes ≡ mark_text h.0 = ap (take k) parts ∙ h.1 in
          let size : length (mark_text h.0) ≡ k = ap length (sym here) ∙ length-take-le k bytes le in
          long.longest h.0 (omega arith) (stands k bytes h.0 le here);
    }
