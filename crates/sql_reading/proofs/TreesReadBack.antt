-- Expressions and conditions as trees of signs, whose texts read back.
use Rattle.std.proofs.Common.{◌≡◌, ℕ, ◌<◌, ◌^◌, Bool, true, false, cond, nat_eq, ◌++◌, ℤ, refl, sym, ap, ap₂, subst, ◌∙◌, ◌⊎◌, inl, inr, get_or, append_assoc, arith, codes, decimal}
use Rattle.std.specs.Fmt.{signed_decimal}
use Rattle.std.specs.Int.Signed.{mag}
use Rattle.std.proofs.lemmas.Bool.Decides.{nat_tests}
use Rattle.record_core.specs.Names.{is_digit}
use Rattle.semantics.specs.Query.{Comparison}
use Rattle.sql.specs.Dialects.{wrap_open, wrap_close}
use Rattle.sql.specs.Text.{column_text, number_text, comparison_text, bracketed, guarded_text}
use Rattle.sql.specs.declared.form.Arithmetic.TheVariants.{Wrapped}
use Rattle.sql.specs.declared.form.Form.{Form}
use Rattle.sql.specs.declared.form.Form.TheVariants as form
use Rattle.sql_reading.proofs.PrefixWords.{Text, Ends, tail_same, cancel, read_decimal, read_signed, signed_first, inside, inside_two}

-- ---- signs

pub data Sign : Type 0 where
  plus minus times conjunction disjunction : Sign
  comparison : Comparison → Sign

abbrev pub sign_text : Sign → Text
sign_text Sign.plus = codes " + "
sign_text Sign.minus = codes " - "
sign_text Sign.times = codes " * "
sign_text Sign.conjunction = codes " AND "
sign_text Sign.disjunction = codes " OR "
sign_text (Sign.comparison o) = comparison_text o

-- the sign with that second byte and that third one
abbrev sign_of : (b c : ℕ) → Sign
sign_of b c =
    cond (nat_eq b 43) Sign.plus (cond (nat_eq b 45) Sign.minus (cond (nat_eq b 42) Sign.times (cond (nat_eq b 65) Sign.conjunction
    (cond (nat_eq b 79) Sign.disjunction (cond (nat_eq b 61) (Sign.comparison Comparison.equal) (cond (nat_eq b 60)
    (cond (nat_eq c 62) (Sign.comparison Comparison.not_equal) (cond (nat_eq c 61) (Sign.comparison Comparison.at_most) (Sign.comparison Comparison.less)))
    (cond (nat_eq c 61) (Sign.comparison Comparison.at_least) (Sign.comparison Comparison.greater))))))))

abbrev sign_in : Text → Sign
sign_in t = sign_of (get_or t 1 0) (get_or t 2 0)

sign_told : (o : Sign) (r : Text) → sign_in (sign_text o ++ r) ≡ o
sign_told Sign.plus r = refl
sign_told Sign.minus r = refl
sign_told Sign.times r = refl
sign_told Sign.conjunction r = refl
sign_told Sign.disjunction r = refl
sign_told (Sign.comparison Comparison.equal) r = refl
sign_told (Sign.comparison Comparison.not_equal) r = refl
sign_told (Sign.comparison Comparison.less) r = refl
sign_told (Sign.comparison Comparison.at_most) r = refl
sign_told (Sign.comparison Comparison.greater) r = refl
sign_told (Sign.comparison Comparison.at_least) r = refl

ends_sign : (o : Sign) (r : Text) → Ends (sign_text o ++ r)
ends_sign Sign.plus r = refl
ends_sign Sign.minus r = refl
ends_sign Sign.times r = refl
ends_sign Sign.conjunction r = refl
ends_sign Sign.disjunction r = refl
ends_sign (Sign.comparison Comparison.equal) r = refl
ends_sign (Sign.comparison Comparison.not_equal) r = refl
ends_sign (Sign.comparison Comparison.less) r = refl
ends_sign (Sign.comparison Comparison.at_most) r = refl
ends_sign (Sign.comparison Comparison.greater) r = refl
ends_sign (Sign.comparison Comparison.at_least) r = refl

read_sign : (o p : Sign) (r s : Text) → sign_text o ++ r ≡ sign_text p ++ s → (o ≡ p) × (r ≡ s)
read_sign o p r s e =
    let same : o ≡ p = sym (sign_told o r) ∙ ap sign_in e ∙ sign_told p s in
    (same, cancel (sign_text p) r s (subst (λ x. sign_text x ++ r ≡ sign_text p ++ s) same e))

-- ---- trees

pub data Tree : Type 0 where
  column : ℕ → Tree
  number : ℤ → Tree
  cast wrap negated no : Tree → Tree
  binary guarded : Sign → Tree → Tree → Tree

-- after an operand that is taken to 38 digits
abbrev pub cast_close : Form → Text
cast_close (form.Postgres a) = codes " AS NUMERIC(38))"
cast_close form.Sqlite = codes " AS NUMERIC(38))"
cast_close (form.Spark a) = codes " AS DECIMAL(38))"

abbrev pub tree_text : Form → Tree → Text
tree_text a (Tree.column c) = column_text c
tree_text a (Tree.number z) = number_text z
tree_text a (Tree.cast t) = codes "CAST(" ++ (tree_text a t ++ cast_close a)
tree_text a (Tree.wrap t) = wrap_open Wrapped ++ (tree_text a t ++ wrap_close Wrapped)
tree_text a (Tree.negated t) = codes "(- " ++ (tree_text a t ++ codes ")")
tree_text a (Tree.no t) = codes "(NOT " ++ (tree_text a t ++ codes ")")
tree_text a (Tree.binary o l r) = bracketed (sign_text o) (tree_text a l) (tree_text a r)
tree_text a (Tree.guarded o l r) = guarded_text (sign_text o) (tree_text a l) (tree_text a r)

-- each number of a tree has 64 bits
abbrev pub IsShort : Tree → Type 0
IsShort (Tree.column c) = c < 2 ^ 64
IsShort (Tree.number z) = mag z < 2 ^ 63
IsShort (Tree.cast t) = IsShort t
IsShort (Tree.wrap t) = IsShort t
IsShort (Tree.negated t) = IsShort t
IsShort (Tree.no t) = IsShort t
IsShort (Tree.binary o l r) = IsShort l × IsShort r
IsShort (Tree.guarded o l r) = IsShort l × IsShort r

-- how a tree's text begins
pub data Begins (t : Text) : Type 0 where
  letter : get_or t 0 0 ≡ 99 → Begins t
  bracket : get_or t 0 0 ≡ 40 → Begins t
  word : get_or t 0 0 ≡ 67 → get_or t 3 0 ≡ 84 → Begins t

pub begins : (a : Form) (x : Tree) (r : Text) → Begins (tree_text a x ++ r)
begins a (Tree.column c) r = Begins.letter refl
begins a (Tree.number z) r = Begins.word refl refl
begins a (Tree.cast t) r = Begins.word refl refl
begins a (Tree.wrap t) r = Begins.word refl refl
begins a (Tree.negated t) r = Begins.bracket refl
begins a (Tree.no t) r = Begins.bracket refl
begins a (Tree.binary o m n) r = Begins.bracket refl
begins a (Tree.guarded o m n) r = Begins.bracket refl

-- ---- the kind of tree that a text begins with

abbrev after_cast : ℕ → ℕ
after_cast b = cond (nat_eq b 77) 2 (cond (nat_eq b 99) 3 (cond (nat_eq b 67) 3 (cond (nat_eq b 40) 3 1)))

abbrev in_brackets : (b d : ℕ) → ℕ
in_brackets b d = cond (nat_eq b 45) 4 (cond (nat_eq b 78) 5 (cond (nat_eq b 67) (cond (nat_eq d 69) 7 6) 6))

abbrev kind_in : Text → ℕ
kind_in t = cond (nat_eq (get_or t 0 0) 99) 0 (cond (nat_eq (get_or t 0 0) 67) (after_cast (get_or t 5 0)) (in_brackets (get_or t 1 0) (get_or t 4 0)))

abbrev kind : Tree → ℕ
kind (Tree.column c) = 0
kind (Tree.number z) = 1
kind (Tree.wrap t) = 2
kind (Tree.cast t) = 3
kind (Tree.negated t) = 4
kind (Tree.no t) = 5
kind (Tree.binary o l r) = 6
kind (Tree.guarded o l r) = 7

digit_below : (b c : ℕ) → is_digit b ≡ true → 57 < c → nat_eq b c ≡ false
digit_below b c d h = grind (arith, nat_tests)

digit_above : (b c : ℕ) → is_digit b ≡ true → c < 48 → nat_eq b c ≡ false
digit_above b c d h = grind (arith, nat_tests)

after_digit : (b : ℕ) → is_digit b ≡ true → after_cast b ≡ 1
after_digit b d = rw (digit_below b 77 d (omega arith)) (rw (digit_below b 99 d (omega arith)) (rw (digit_below b 67 d (omega arith)) (rw (digit_above b 40 d (omega arith)) refl)))

after_sign : (b : ℕ) → (is_digit b ≡ true) ⊎ (b ≡ 45) → after_cast b ≡ 1
after_sign b (inl d) = after_digit b d
after_sign b (inr e) = ap after_cast e

after_begun : (t : Text) → Begins t → after_cast (get_or t 0 0) ≡ 3
after_begun t (Begins.letter e) = ap after_cast e
after_begun t (Begins.bracket e) = ap after_cast e
after_begun t (Begins.word e f) = ap after_cast e

in_begun : (t : Text) → Begins t → in_brackets (get_or t 0 0) (get_or t 3 0) ≡ 6
in_begun t (Begins.letter e) = ap (λ b. in_brackets b (get_or t 3 0)) e
in_begun t (Begins.bracket e) = ap (λ b. in_brackets b (get_or t 3 0)) e
in_begun t (Begins.word e f) = ap₂ in_brackets e f

kind_told : (a : Form) (x : Tree) (r : Text) → IsShort x → kind_in (tree_text a x ++ r) ≡ kind x
kind_told a (Tree.column c) r h = refl
kind_told a (Tree.number z) r h =
    ap (λ t. after_cast (get_or t 0 0)) (append_assoc (signed_decimal z) (codes " AS BIGINT)") r)
    ∙ after_sign (get_or (signed_decimal z ++ (codes " AS BIGINT)" ++ r)) 0 0) (signed_first z (codes " AS BIGINT)" ++ r) h)
kind_told a (Tree.cast t) r h =
    ap (λ u. after_cast (get_or u 0 0)) (append_assoc (tree_text a t) (cast_close a) r)
    ∙ after_begun (tree_text a t ++ (cast_close a ++ r)) (begins a t (cast_close a ++ r))
kind_told a (Tree.wrap t) r h = refl
kind_told a (Tree.negated t) r h = refl
kind_told a (Tree.no t) r h = refl
kind_told a (Tree.binary o l m) r h =
    ap (λ u. in_brackets (get_or u 0 0) (get_or u 3 0)) (append_assoc (tree_text a l) (sign_text o ++ (tree_text a m ++ codes ")")) r)
    ∙ in_begun (tree_text a l ++ ((sign_text o ++ (tree_text a m ++ codes ")")) ++ r)) (begins a l ((sign_text o ++ (tree_text a m ++ codes ")")) ++ r))
kind_told a (Tree.guarded o l m) r h = refl

same_kinds : (m n : ℕ) → m ≡ n → nat_eq m n ≡ true
same_kinds m n e = grind (arith, nat_tests)

pub differ : (b : Bool) → b ≡ true → b ≡ false → ⊥
differ b t f = cc

-- ---- reading

ends_close : (a : Form) (r : Text) → Ends (cast_close a ++ r)
ends_close (form.Postgres a) r = refl
ends_close form.Sqlite r = refl
ends_close (form.Spark a) r = refl

binary_same : (o p : Sign) (l l' m m' : Tree) → o ≡ p → l ≡ l' → m ≡ m' → Tree.binary o l m ≡ Tree.binary p l' m'
binary_same o p l l' m m' e f g = cc

guarded_same : (o p : Sign) (l l' m m' : Tree) → o ≡ p → l ≡ l' → m ≡ m' → Tree.guarded o l m ≡ Tree.guarded p l' m'
guarded_same o p l l' m m' e f g = cc

guard_assoc : (k f g n t l o m e r : Text) → (k ++ ((f ++ (l ++ g)) ++ (n ++ ((f ++ (m ++ g)) ++ (t ++ ((l ++ (o ++ m)) ++ e)))))) ++ r ≡ k ++ (f ++ (l ++ (g ++ (n ++ (f ++ (m ++ (g ++ (t ++ (l ++ (o ++ (m ++ (e ++ r))))))))))))
guard_assoc k f g n t l o m e r = simp append_assoc

module _ (a : Form) where
  abbrev ReadsBack : Tree → Tree → Type 0
  ReadsBack x y = (r s : Text) → Ends r → Ends s → tree_text a x ++ r ≡ tree_text a y ++ s → (x ≡ y) × (r ≡ s)

  clash : (x y : Tree) (r s : Text) → IsShort x → IsShort y → tree_text a x ++ r ≡ tree_text a y ++ s → nat_eq (kind x) (kind y) ≡ false → ⊥
  clash x y r s f g e n = differ (nat_eq (kind x) (kind y)) (same_kinds (kind x) (kind y) (sym (kind_told a x r f) ∙ ap kind_in e ∙ kind_told a y s g)) n

  read_binary : (o p : Sign) (l m l' m' : Tree) → ReadsBack l l' → ReadsBack m m' → ReadsBack (Tree.binary o l m) (Tree.binary p l' m')
  read_binary o p l m l' m' i j r s h k e =
      let t : Text = tree_text a m ++ (codes ")" ++ r) in
      let u : Text = tree_text a m' ++ (codes ")" ++ s) in
      let left : (l ≡ l') × (sign_text o ++ t ≡ sign_text p ++ u) =
      i (sign_text o ++ t) (sign_text p ++ u) (ends_sign o t) (ends_sign p u)
      (inside_two (codes "(") (tree_text a l) (sign_text o) (tree_text a m) (tree_text a l') (sign_text p) (tree_text a m') (codes ")") r s e) in
      let sign : (o ≡ p) × (t ≡ u) = read_sign o p t u left.1 in
      let right : (m ≡ m') × (codes ")" ++ r ≡ codes ")" ++ s) = j (codes ")" ++ r) (codes ")" ++ s) refl refl sign.1 in
      (binary_same o p l l' m m' sign.0 left.0 right.0, cancel (codes ")") r s right.1)

  read_guarded : (o p : Sign) (l m l' m' : Tree) → ReadsBack l l' → ReadsBack m m' → ReadsBack (Tree.guarded o l m) (Tree.guarded p l' m')
  read_guarded o p l m l' m' i j r s h k e =
      let open' : Text = codes "(CASE WHEN " in
      let typeof : Text = codes "typeof(" in
      let integer : Text = codes ") = 'integer'" in
      let then : Text = codes " THEN " in
      let otherwise : Text = codes " ELSE abs(-9223372036854775807 - 1) END)" in
      let L : Text = tree_text a l in
      let M : Text = tree_text a m in
      let L' : Text = tree_text a l' in
      let M' : Text = tree_text a m' in
      let r4 : Text = M ++ (otherwise ++ r) in
      let s4 : Text = M' ++ (otherwise ++ s) in
      let r3 : Text = L ++ (sign_text o ++ r4) in
      let s3 : Text = L' ++ (sign_text p ++ s4) in
      let r2 : Text = M ++ (integer ++ (then ++ r3)) in
      let s2 : Text = M' ++ (integer ++ (then ++ s3)) in
      let r1 : Text = integer ++ (codes " AND " ++ (typeof ++ r2)) in
      let s1 : Text = integer ++ (codes " AND " ++ (typeof ++ s2)) in
      let whole : open' ++ (typeof ++ (L ++ r1)) ≡ open' ++ (typeof ++ (L' ++ s1)) =
      sym (guard_assoc open' typeof integer (codes " AND ") then L (sign_text o) M otherwise r) ∙ e
      ∙ guard_assoc open' typeof integer (codes " AND ") then L' (sign_text p) M' otherwise s in
      let one : (l ≡ l') × (r1 ≡ s1) = i r1 s1 refl refl (cancel typeof (L ++ r1) (L' ++ s1) (cancel open' (typeof ++ (L ++ r1)) (typeof ++ (L' ++ s1)) whole)) in
      let two : (m ≡ m') × (integer ++ (then ++ r3) ≡ integer ++ (then ++ s3)) =
      j (integer ++ (then ++ r3)) (integer ++ (then ++ s3)) refl refl
      (cancel typeof r2 s2 (cancel (codes " AND ") (typeof ++ r2) (typeof ++ s2) (cancel integer (codes " AND " ++ (typeof ++ r2)) (codes " AND " ++ (typeof ++ s2)) one.1))) in
      let three : (l ≡ l') × (sign_text o ++ r4 ≡ sign_text p ++ s4) =
      i (sign_text o ++ r4) (sign_text p ++ s4) (ends_sign o r4) (ends_sign p s4) (cancel then r3 s3 (cancel integer (then ++ r3) (then ++ s3) two.1)) in
      let sign : (o ≡ p) × (r4 ≡ s4) = read_sign o p r4 s4 three.1 in
      let four : (m ≡ m') × (otherwise ++ r ≡ otherwise ++ s) = j (otherwise ++ r) (otherwise ++ s) refl refl sign.1 in
      (guarded_same o p l l' m m' sign.0 one.0 two.0, cancel otherwise r s four.1)

  pub read_tree : (x y : Tree) → IsShort x → IsShort y → ReadsBack x y
  read_tree (Tree.column c) (Tree.column d) f g r s h k e =
      let both : (c ≡ d) × (r ≡ s) = read_decimal c d r s f g h k (tail_same 99 99 (decimal c ++ r) (decimal d ++ s) e) in
      (ap Tree.column both.0, both.1)
  read_tree (Tree.number y) (Tree.number z) f g r s h k e =
      let t : Text = codes " AS BIGINT)" ++ r in
      let u : Text = codes " AS BIGINT)" ++ s in
      let both : (y ≡ z) × (t ≡ u) = read_signed y z t u f g refl refl (inside (codes "CAST(") (signed_decimal y) (signed_decimal z) (codes " AS BIGINT)") r s e) in
      (ap Tree.number both.0, cancel (codes " AS BIGINT)") r s both.1)
  read_tree (Tree.cast x) (Tree.cast y) f g r s h k e =
      let both : (x ≡ y) × (cast_close a ++ r ≡ cast_close a ++ s) =
      read_tree x y f g (cast_close a ++ r) (cast_close a ++ s) (ends_close a r) (ends_close a s) (inside (codes "CAST(") (tree_text a x) (tree_text a y) (cast_close a) r s e) in
      (ap Tree.cast both.0, cancel (cast_close a) r s both.1)
  read_tree (Tree.wrap x) (Tree.wrap y) f g r s h k e =
      let both : (x ≡ y) × (wrap_close Wrapped ++ r ≡ wrap_close Wrapped ++ s) =
      read_tree x y f g (wrap_close Wrapped ++ r) (wrap_close Wrapped ++ s) refl refl (inside (wrap_open Wrapped) (tree_text a x) (tree_text a y) (wrap_close Wrapped) r s e) in
      (ap Tree.wrap both.0, cancel (wrap_close Wrapped) r s both.1)
  read_tree (Tree.negated x) (Tree.negated y) f g r s h k e =
      let both : (x ≡ y) × (codes ")" ++ r ≡ codes ")" ++ s) =
      read_tree x y f g (codes ")" ++ r) (codes ")" ++ s) refl refl (inside (codes "(- ") (tree_text a x) (tree_text a y) (codes ")") r s e) in
      (ap Tree.negated both.0, cancel (codes ")") r s both.1)
  read_tree (Tree.no x) (Tree.no y) f g r s h k e =
      let both : (x ≡ y) × (codes ")" ++ r ≡ codes ")" ++ s) =
      read_tree x y f g (codes ")" ++ r) (codes ")" ++ s) refl refl (inside (codes "(NOT ") (tree_text a x) (tree_text a y) (codes ")") r s e) in
      (ap Tree.no both.0, cancel (codes ")") r s both.1)
  read_tree (Tree.binary o l m) (Tree.binary p l' m') f g r s h k e =
      read_binary o p l m l' m' (read_tree l l' f.0 g.0) (read_tree m m' f.1 g.1) r s h k e
  read_tree (Tree.guarded o l m) (Tree.guarded p l' m') f g r s h k e =
      read_guarded o p l m l' m' (read_tree l l' f.0 g.0) (read_tree m m' f.1 g.1) r s h k e
  read_tree x y f g r s h k e = absurd (clash x y r s f g e refl)
