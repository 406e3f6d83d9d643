-- Texts that lack a byte, and where a text is parted by one.
use Rattle.std.proofs.Common.{◌≡◌, ◌≢◌, ◌<◌, ◌+◌, ◌/◌, ◌%◌, ◌^◌, ◌&&◌, Bool, true, false, ℕ, zero}
use Rattle.std.proofs.Common.{suc, List, [], ◌∷◌, ◌++◌, decimal, refl, sym, ◌∙◌, ap, subst, arith}
use Rattle.std.specs.List.{list_all}
use Rattle.std.proofs.lemmas.Bool.{both_ways}
use Rattle.std.proofs.lemmas.Fmt.{decimal_by_steps}
use Rattle.csv_cells.specs.Numbers.{digits_text}
use Rattle.schema_lines.specs.Words.{Lacks, is_name_byte}
use Rattle.schema_lines.proofs.Each.{each-append, each-right}

pub along : (byte : ℕ) (text other : List ℕ) → text ≡ other → Lacks byte text → Lacks byte other
along byte text other e lacks = let L : List ℕ → Type 0 = λ t. Lacks byte t in subst L e lacks

-- a text with the byte doesn't lack it
pub lacks-none : (byte : ℕ) (before after : List ℕ) → Lacks byte (before ++ byte ∷ after) → ⊥
lacks-none byte before after lacks = (each-right (λ b. b ≢ byte) before (byte ∷ after) lacks).0 refl

pub cons-head : (x y : ℕ) (xs ys : List ℕ) → x ∷ xs ≡ y ∷ ys → x ≡ y
cons-head x y xs ys e = cc e

cons-tail : (x y : ℕ) (xs ys : List ℕ) → x ∷ xs ≡ y ∷ ys → xs ≡ ys
cons-tail x y xs ys e = cc e

-- there is one first place, and one last place
pub first-same : (byte : ℕ) (a b c d : List ℕ) → a ++ byte ∷ b ≡ c ++ byte ∷ d → Lacks byte a → Lacks byte c → (a ≡ c) × (b ≡ d)
first-same byte [] b [] d e l m = (refl, cons-tail byte byte b d e)
first-same byte [] b (y ∷ ys) d e l m = absurd (m.0 (sym (cons-head byte y b (ys ++ byte ∷ d) e)))
first-same byte (x ∷ xs) b [] d e l m = absurd (l.0 (cons-head x byte (xs ++ byte ∷ b) d e))
first-same byte (x ∷ xs) b (y ∷ ys) d e l m =
    let rest = first-same byte xs b ys d (cons-tail x y (xs ++ byte ∷ b) (ys ++ byte ∷ d) e) l.1 m.1 in
    let head : x ≡ y = cons-head x y (xs ++ byte ∷ b) (ys ++ byte ∷ d) e in
    (rw (head, rest.0) refl, rest.1)

pub last-same : (byte : ℕ) (a b c d : List ℕ) → a ++ byte ∷ b ≡ c ++ byte ∷ d → Lacks byte b → Lacks byte d → (a ≡ c) × (b ≡ d)
last-same byte [] b [] d e l m = (refl, cons-tail byte byte b d e)
last-same byte [] b (y ∷ ys) d e l m =
    absurd (lacks-none byte ys d (along byte _ _ (cons-tail byte y b (ys ++ byte ∷ d) e) l))
last-same byte (x ∷ xs) b [] d e l m =
    absurd (lacks-none byte xs b (along byte _ _ (sym (cons-tail x byte (xs ++ byte ∷ b) d e)) m))
last-same byte (x ∷ xs) b (y ∷ ys) d e l m =
    let rest = last-same byte xs b ys d (cons-tail x y (xs ++ byte ∷ b) (ys ++ byte ∷ d) e) l m in
    let head : x ≡ y = cons-head x y (xs ++ byte ∷ b) (ys ++ byte ∷ d) e in
    (rw (head, rest.0) refl, rest.1)

pub and-left : (a b : Bool) → (a && b) ≡ true → a ≡ true
and-left true b e = refl
and-left false b e = cc e

pub and-right : (a b : Bool) → (a && b) ≡ true → b ≡ true
and-right true b e = e
and-right false b e = cc e

-- a name has no byte that no name has
pub spelled-lacks : (byte : ℕ) (name : List ℕ) → is_name_byte byte ≡ false → list_all is_name_byte name ≡ true → Lacks byte name
spelled-lacks byte [] other so = tt
spelled-lacks byte (b ∷ bs) other so = (
  (λ same. both_ways (is_name_byte byte) other (ap is_name_byte (sym same) ∙ and-left (is_name_byte b) (list_all is_name_byte bs) so)),
  spelled-lacks byte bs other (and-right (is_name_byte b) (list_all is_name_byte bs) so),
)

-- digits are above the space and the line feed
pub digits-lack : (byte count n : ℕ) → byte < 48 → Lacks byte (digits_text count n)
digits-lack byte zero n below = tt
digits-lack byte (suc count) n below =
    each-append (λ b. b ≢ byte) (digits_text count (n / 10)) ((48 + n % 10) ∷ []) (digits-lack byte count (n / 10) below)
    ((λ same. absurd (omega arith)), tt)

pub decimal-lacks : (byte n : ℕ) → byte < 48 → n < 2 ^ 64 → Lacks byte (decimal n)
decimal-lacks byte n below fits = decimal_by_steps (λ m ds. Lacks byte ds)
    (λ m small. ((λ same. absurd (omega arith)), tt))
    (λ m ds large so. each-append (λ b. b ≢ byte) ds ((48 + m % 10) ∷ []) so ((λ same. absurd (omega arith)), tt))
    n fits
