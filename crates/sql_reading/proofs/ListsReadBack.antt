-- Lists of columns and of pairs read back.
use Rattle.std.proofs.Common.{◌≡◌, ℕ, ◌<◌, ◌^◌, true, false, cond, nat_eq, List, [], ◌∷◌, ◌++◌, map, refl, sym, ap, ap₂, subst, ◌∙◌, ◌⊎◌, inl, inr, get_or, append_assoc, arith, codes, decimal}
use Rattle.std.specs.List.{AllByRecursion}
use Rattle.std.specs.Fmt.{signed_decimal}
use Rattle.std.proofs.lemmas.Bool.Decides.{nat_tests}
use Rattle.record_core.specs.Names.{is_digit}
use Rattle.semantics.specs.Query.{Pair}
use Rattle.sql.specs.Dialects.{wrap_close, sum_open, sum_close, operand_open, operand_close, arithmetic_of}
use Rattle.sql_reading.specs.Readable.{IsShortPair}
use Rattle.sql.specs.Text.{column_text, continued, joined, sum_text, pair_text}
use Rattle.sql.specs.declared.form.Arithmetic.TheVariants.{Plain, Wrapped}
use Rattle.sql.specs.declared.form.Form.{Form}
use Rattle.sql.specs.declared.form.Form.TheVariants as form
use Rattle.sql_reading.proofs.PrefixWords.{Text, Ends, tail_same, cancel, read_decimal, signed_first, inside}
use Rattle.sql_reading.proofs.TreesReadBack.{Tree, tree_text, cast_close, IsShort, Begins, begins, read_tree, differ}

-- ---- any list

module _ {X : Type 0} (text : X → Text) (IsFine : X → Type 0) (separator : Text) (After Last : Text → Type 0)
    (reads : (x y : X) (r s : Text) → IsFine x → IsFine y → After r → After s → text x ++ r ≡ text y ++ s → (x ≡ y) × (r ≡ s))
    (last_after : (r : Text) → Last r → After r)
    (goes_on : (r : Text) → After (separator ++ r))
    (stops : (r t : Text) → Last r → r ≡ separator ++ t → ⊥) where
  pub after_more : (xs : List X) (r : Text) → Last r → After (continued separator (map text xs) ++ r)
  after_more [] r h = last_after r h
  after_more (x ∷ xs) r h = subst After (sym (append_assoc separator (text x ++ continued separator (map text xs)) r)) (goes_on ((text x ++ continued separator (map text xs)) ++ r))

  regrouped : (k t u r : Text) → (k ++ (t ++ u)) ++ r ≡ k ++ (t ++ (u ++ r))
  regrouped k t u r = simp append_assoc

  pub read_continued : (xs ys : List X) (r s : Text) → AllByRecursion IsFine xs → AllByRecursion IsFine ys → Last r → Last s
      → continued separator (map text xs) ++ r ≡ continued separator (map text ys) ++ s → (xs ≡ ys) × (r ≡ s)
  read_continued [] [] r s f g h k e = (refl, e)
  read_continued [] (y ∷ ys) r s f g h k e =
      absurd (stops r ((text y ++ continued separator (map text ys)) ++ s) h (e ∙ append_assoc separator (text y ++ continued separator (map text ys)) s))
  read_continued (x ∷ xs) [] r s f g h k e =
      absurd (stops s ((text x ++ continued separator (map text xs)) ++ r) k (sym e ∙ append_assoc separator (text x ++ continued separator (map text xs)) r))
  read_continued (x ∷ xs) (y ∷ ys) r s f g h k e =
      let t : Text = continued separator (map text xs) ++ r in
      let u : Text = continued separator (map text ys) ++ s in
      let whole : separator ++ (text x ++ t) ≡ separator ++ (text y ++ u) =
      sym (regrouped separator (text x) (continued separator (map text xs)) r) ∙ e ∙ regrouped separator (text y) (continued separator (map text ys)) s in
      let first : (x ≡ y) × (t ≡ u) = reads x y t u f.0 g.0 (after_more xs r h) (after_more ys s k) (cancel separator (text x ++ t) (text y ++ u) whole) in
      let rest : (xs ≡ ys) × (r ≡ s) = read_continued xs ys r s f.1 g.1 h k first.1 in
      (ap₂ (λ (z : X) (zs : List X). z ∷ zs) first.0 rest.0, rest.1)

  -- a list that isn't empty
  pub read_some : (x y : X) (xs ys : List X) (r s : Text) → IsFine x → IsFine y → AllByRecursion IsFine xs → AllByRecursion IsFine ys → Last r → Last s
      → (text x ++ continued separator (map text xs)) ++ r ≡ (text y ++ continued separator (map text ys)) ++ s → (x ∷ xs ≡ y ∷ ys) × (r ≡ s)
  read_some x y xs ys r s f g f' g' h k e =
      let t : Text = continued separator (map text xs) ++ r in
      let u : Text = continued separator (map text ys) ++ s in
      let whole : text x ++ t ≡ text y ++ u = sym (append_assoc (text x) (continued separator (map text xs)) r) ∙ e ∙ append_assoc (text y) (continued separator (map text ys)) s in
      let first : (x ≡ y) × (t ≡ u) = reads x y t u f g (after_more xs r h) (after_more ys s k) whole in
      let rest : (xs ≡ ys) × (r ≡ s) = read_continued xs ys r s f' g' h k first.1 in
      (ap₂ (λ (z : X) (zs : List X). z ∷ zs) first.0 rest.0, rest.1)

  -- any list, if none of its members begins as what follows it
  pub read_joined : ((x : X) (r t : Text) → IsFine x → Last r → r ≡ text x ++ t → ⊥) → (xs ys : List X) (r s : Text) → AllByRecursion IsFine xs → AllByRecursion IsFine ys → Last r → Last s
      → joined separator (map text xs) ++ r ≡ joined separator (map text ys) ++ s → (xs ≡ ys) × (r ≡ s)
  read_joined begun [] [] r s f g h k e = (refl, e)
  read_joined begun [] (y ∷ ys) r s f g h k e =
      absurd (begun y r (continued separator (map text ys) ++ s) g.0 h (e ∙ append_assoc (text y) (continued separator (map text ys)) s))
  read_joined begun (x ∷ xs) [] r s f g h k e =
      absurd (begun x s (continued separator (map text xs) ++ r) f.0 k (sym e ∙ append_assoc (text x) (continued separator (map text xs)) r))
  read_joined begun (x ∷ xs) (y ∷ ys) r s f g h k e = read_some x y xs ys r s f.0 g.0 f.1 g.1 h k e

-- ---- what follows

pub first_differs : (t u : Text) (b : ℕ) → get_or t 0 0 ≡ b → t ≡ u → nat_eq b (get_or u 0 0) ≡ false → ⊥
first_differs t u b f e n = differ (nat_eq b (get_or u 0 0)) (same_first b (get_or u 0 0) (sym f ∙ ap (λ x. get_or x 0 0) e)) n
  where
    same_first : (m k : ℕ) → m ≡ k → nat_eq m k ≡ true
    same_first m k e = grind (arith, nat_tests)

-- a comma, a space, a semicolon or a bracket comes
pub data Follows (t : Text) : Type 0 where
  comma : get_or t 0 0 ≡ 44 → Follows t
  space : get_or t 0 0 ≡ 32 → Follows t
  semicolon : get_or t 0 0 ≡ 59 → Follows t
  close : get_or t 0 0 ≡ 41 → Follows t

ends_by : (t : Text) → is_digit (get_or t 0 0) ≡ false → Ends t
ends_by [] h = tt
ends_by (c ∷ cs) h = h

pub ends_followed : (t : Text) → Follows t → Ends t
ends_followed t (Follows.comma e) = ends_by t (ap is_digit e)
ends_followed t (Follows.space e) = ends_by t (ap is_digit e)
ends_followed t (Follows.semicolon e) = ends_by t (ap is_digit e)
ends_followed t (Follows.close e) = ends_by t (ap is_digit e)

abbrev pub Space : Text → Type 0
Space t = get_or t 0 0 ≡ 32

abbrev pub Semicolon : Text → Type 0
Semicolon t = get_or t 0 0 ≡ 59

-- a semicolon or a bracket comes, after a query
pub data Over (t : Text) : Type 0 where
  semicolon : get_or t 0 0 ≡ 59 → Over t
  close : get_or t 0 0 ≡ 41 → Over t

pub over_follows : (t : Text) → Over t → Follows t
over_follows t (Over.semicolon e) = Follows.semicolon e
over_follows t (Over.close e) = Follows.close e

over_differs : (t u : Text) → Over t → t ≡ u → nat_eq 59 (get_or u 0 0) ≡ false → nat_eq 41 (get_or u 0 0) ≡ false → ⊥
over_differs t u (Over.semicolon f) e n m = first_differs t u 59 f e n
over_differs t u (Over.close f) e n m = first_differs t u 41 f e m

-- ---- what a SELECT lists: `blank` stands before a list's first comma where nothing does

pub data Item : Type 0 where
  blank count : Item
  tree : Tree → Item
  sum least greatest : ℕ → Item

abbrev pub item_text : Form → Item → Text
item_text a Item.blank = []
item_text a Item.count = codes "COUNT(*)"
item_text a (Item.tree t) = tree_text a t
item_text a (Item.sum c) = sum_text a c
item_text a (Item.least c) = codes "MIN(" ++ (column_text c ++ codes ")")
item_text a (Item.greatest c) = codes "MAX(" ++ (column_text c ++ codes ")")

abbrev pub IsFine : Item → Type 0
IsFine Item.blank = Unit {0}
IsFine Item.count = Unit {0}
IsFine (Item.tree t) = IsShort t
IsFine (Item.sum c) = c < 2 ^ 64
IsFine (Item.least c) = c < 2 ^ 64
IsFine (Item.greatest c) = c < 2 ^ 64

abbrev after_cast : (b d : ℕ) → ℕ
after_cast b d = cond (nat_eq b 83) 3 (cond (nat_eq b 77) (cond (nat_eq d 83) 3 1) 1)

abbrev kind_by : (b c f n : ℕ) → ℕ
kind_by b c f n =
    cond (nat_eq b 99) 1 (cond (nat_eq b 40) 1 (cond (nat_eq b 67) (cond (nat_eq c 79) 2 (after_cast f n)) (cond (nat_eq b 77) (cond (nat_eq c 73) 4 5) 0)))

abbrev kind_in : Text → ℕ
kind_in t = kind_by (get_or t 0 0) (get_or t 1 0) (get_or t 5 0) (get_or t 13 0)

abbrev kind : Item → ℕ
kind Item.blank = 0
kind (Item.tree t) = 1
kind Item.count = 2
kind (Item.sum c) = 3
kind (Item.least c) = 4
kind (Item.greatest c) = 5

digit_below : (b c : ℕ) → is_digit b ≡ true → 57 < c → nat_eq b c ≡ false
digit_below b c d h = grind (arith, nat_tests)

after_sign : (b d : ℕ) → (is_digit b ≡ true) ⊎ (b ≡ 45) → after_cast b d ≡ 1
after_sign b d (inl h) = rw (digit_below b 83 h (omega arith)) (rw (digit_below b 77 h (omega arith)) refl)
after_sign b d (inr e) = ap (λ c. after_cast c d) e

after_begun : (t : Text) (d : ℕ) → Begins t → after_cast (get_or t 0 0) d ≡ 1
after_begun t d (Begins.letter e) = ap (λ b. after_cast b d) e
after_begun t d (Begins.bracket e) = ap (λ b. after_cast b d) e
after_begun t d (Begins.word e f) = ap (λ b. after_cast b d) e

wrapped_begun : (t : Text) → Begins t → after_cast 77 (get_or t 0 0) ≡ 1
wrapped_begun t (Begins.letter e) = ap (after_cast 77) e
wrapped_begun t (Begins.bracket e) = ap (after_cast 77) e
wrapped_begun t (Begins.word e f) = ap (after_cast 77) e

blank_told : (r : Text) → Follows r → kind_in r ≡ 0
blank_told r (Follows.comma e) = ap (λ b. kind_by b (get_or r 1 0) (get_or r 5 0) (get_or r 13 0)) e
blank_told r (Follows.space e) = ap (λ b. kind_by b (get_or r 1 0) (get_or r 5 0) (get_or r 13 0)) e
blank_told r (Follows.semicolon e) = ap (λ b. kind_by b (get_or r 1 0) (get_or r 5 0) (get_or r 13 0)) e
blank_told r (Follows.close e) = ap (λ b. kind_by b (get_or r 1 0) (get_or r 5 0) (get_or r 13 0)) e

tree_told : (a : Form) (x : Tree) (r : Text) → IsShort x → kind_in (tree_text a x ++ r) ≡ 1
tree_told a (Tree.column c) r h = refl
tree_told a (Tree.number z) r h =
    ap (λ t. after_cast (get_or t 0 0) (get_or t 8 0)) (append_assoc (signed_decimal z) (codes " AS BIGINT)") r)
    ∙ after_sign (get_or (signed_decimal z ++ (codes " AS BIGINT)" ++ r)) 0 0) (get_or (signed_decimal z ++ (codes " AS BIGINT)" ++ r)) 8 0)
    (signed_first z (codes " AS BIGINT)" ++ r) h)
tree_told a (Tree.cast t) r h =
    ap (λ u. after_cast (get_or u 0 0) (get_or u 8 0)) (append_assoc (tree_text a t) (cast_close a) r)
    ∙ after_begun (tree_text a t ++ (cast_close a ++ r)) (get_or (tree_text a t ++ (cast_close a ++ r)) 8 0) (begins a t (cast_close a ++ r))
tree_told a (Tree.wrap t) r h =
    ap (λ u. after_cast 77 (get_or u 0 0)) (append_assoc (tree_text a t) (wrap_close Wrapped) r)
    ∙ wrapped_begun (tree_text a t ++ (wrap_close Wrapped ++ r)) (begins a t (wrap_close Wrapped ++ r))
tree_told a (Tree.negated t) r h = refl
tree_told a (Tree.no t) r h = refl
tree_told a (Tree.binary o l m) r h = refl
tree_told a (Tree.guarded o l m) r h = refl

sum_told : (a : Form) (c : ℕ) (r : Text) → kind_in (sum_text a c ++ r) ≡ 3
sum_told (form.Postgres Plain) c r = refl
sum_told (form.Postgres Wrapped) c r = refl
sum_told form.Sqlite c r = refl
sum_told (form.Spark Plain) c r = refl
sum_told (form.Spark Wrapped) c r = refl

kind_told : (a : Form) (x : Item) (r : Text) → IsFine x → Follows r → kind_in (item_text a x ++ r) ≡ kind x
kind_told a Item.blank r h k = blank_told r k
kind_told a Item.count r h k = refl
kind_told a (Item.tree t) r h k = tree_told a t r h
kind_told a (Item.sum c) r h k = sum_told a c r
kind_told a (Item.least c) r h k = refl
kind_told a (Item.greatest c) r h k = refl

ends_sum : (a : Form) (r : Text) → Ends ((operand_close a ++ sum_close (arithmetic_of a)) ++ r)
ends_sum (form.Postgres Plain) r = refl
ends_sum (form.Postgres Wrapped) r = refl
ends_sum form.Sqlite r = refl
ends_sum (form.Spark Plain) r = refl
ends_sum (form.Spark Wrapped) r = refl

sum_regrouped : (k f w c r : Text) → (k ++ (f ++ (w ++ c))) ++ r ≡ k ++ (f ++ (w ++ (c ++ r)))
sum_regrouped k f w c r = simp append_assoc

pub read_column : (c d : ℕ) (r s : Text) → c < 2 ^ 64 → d < 2 ^ 64 → Ends r → Ends s → column_text c ++ r ≡ column_text d ++ s → (c ≡ d) × (r ≡ s)
read_column c d r s f g h k e = read_decimal c d r s f g h k (tail_same 99 99 (decimal c ++ r) (decimal d ++ s) e)

module _ (a : Form) where
  clash : (x y : Item) (r s : Text) → IsFine x → IsFine y → Follows r → Follows s → item_text a x ++ r ≡ item_text a y ++ s → nat_eq (kind x) (kind y) ≡ false → ⊥
  clash x y r s f g h k e n = differ (nat_eq (kind x) (kind y)) (same_kinds (kind x) (kind y) (sym (kind_told a x r f h) ∙ ap kind_in e ∙ kind_told a y s g k)) n
    where
      same_kinds : (m j : ℕ) → m ≡ j → nat_eq m j ≡ true
      same_kinds m j e = grind (arith, nat_tests)

  read_sum : (c d : ℕ) (r s : Text) → c < 2 ^ 64 → d < 2 ^ 64 → sum_text a c ++ r ≡ sum_text a d ++ s → (c ≡ d) × (r ≡ s)
  read_sum c d r s f g e =
      let k : Text = sum_open (arithmetic_of a) in
      let o : Text = operand_open a in
      let close : Text = operand_close a ++ sum_close (arithmetic_of a) in
      let whole : k ++ (o ++ (column_text c ++ (close ++ r))) ≡ k ++ (o ++ (column_text d ++ (close ++ s))) =
      sym (sum_regrouped k o (column_text c) close r) ∙ e ∙ sum_regrouped k o (column_text d) close s in
      let both : (c ≡ d) × (close ++ r ≡ close ++ s) =
      read_column c d (close ++ r) (close ++ s) f g (ends_sum a r) (ends_sum a s)
      (cancel o (column_text c ++ (close ++ r)) (column_text d ++ (close ++ s)) (cancel k (o ++ (column_text c ++ (close ++ r))) (o ++ (column_text d ++ (close ++ s))) whole)) in
      (both.0, cancel close r s both.1)

  read_of : (word : Text) (c d : ℕ) (r s : Text) → c < 2 ^ 64 → d < 2 ^ 64 → (word ++ (column_text c ++ codes ")")) ++ r ≡ (word ++ (column_text d ++ codes ")")) ++ s → (c ≡ d) × (r ≡ s)
  read_of word c d r s f g e =
      let both : (c ≡ d) × (codes ")" ++ r ≡ codes ")" ++ s) = read_column c d (codes ")" ++ r) (codes ")" ++ s) f g refl refl (inside word (column_text c) (column_text d) (codes ")") r s e) in
      (both.0, cancel (codes ")") r s both.1)

  pub read_item : (x y : Item) (r s : Text) → IsFine x → IsFine y → Follows r → Follows s → item_text a x ++ r ≡ item_text a y ++ s → (x ≡ y) × (r ≡ s)
  read_item Item.blank Item.blank r s f g h k e = (refl, e)
  read_item Item.count Item.count r s f g h k e = (refl, cancel (codes "COUNT(*)") r s e)
  read_item (Item.tree t) (Item.tree u) r s f g h k e =
      let both : (t ≡ u) × (r ≡ s) = read_tree a t u f g r s (ends_followed r h) (ends_followed s k) e in
      (ap Item.tree both.0, both.1)
  read_item (Item.sum c) (Item.sum d) r s f g h k e = let both : (c ≡ d) × (r ≡ s) = read_sum c d r s f g e in (ap Item.sum both.0, both.1)
  read_item (Item.least c) (Item.least d) r s f g h k e = let both : (c ≡ d) × (r ≡ s) = read_of (codes "MIN(") c d r s f g e in (ap Item.least both.0, both.1)
  read_item (Item.greatest c) (Item.greatest d) r s f g h k e = let both : (c ≡ d) × (r ≡ s) = read_of (codes "MAX(") c d r s f g e in (ap Item.greatest both.0, both.1)
  read_item x y r s f g h k e = absurd (clash x y r s f g h k e refl)

  no_comma : (r t : Text) → Space r → r ≡ codes ", " ++ t → ⊥
  no_comma r t h e = first_differs r (codes ", " ++ t) 32 h e refl

  pub items_followed : (xs : List Item) (r : Text) → Space r → Follows (continued (codes ", ") (map (item_text a) xs) ++ r)
  items_followed = after_more (item_text a) IsFine (codes ", ") Follows Space read_item (λ r h. Follows.space h) (λ r. Follows.comma refl) no_comma

  -- what a SELECT lists, up to FROM
  pub read_items : (x y : Item) (xs ys : List Item) (r s : Text) → IsFine x → IsFine y → AllByRecursion IsFine xs → AllByRecursion IsFine ys → Space r → Space s
      → (item_text a x ++ continued (codes ", ") (map (item_text a) xs)) ++ r ≡ (item_text a y ++ continued (codes ", ") (map (item_text a) ys)) ++ s → (x ∷ xs ≡ y ∷ ys) × (r ≡ s)
  read_items = read_some (item_text a) IsFine (codes ", ") Follows Space read_item (λ r h. Follows.space h) (λ r. Follows.comma refl) no_comma

-- ---- columns to group by, up to the end

no_column : (x : ℕ) (r t : Text) → x < 2 ^ 64 → Over r → r ≡ column_text x ++ t → ⊥
no_column x r t f h e = over_differs r (column_text x ++ t) h e refl refl

no_more : (r t : Text) → Over r → r ≡ codes ", " ++ t → ⊥
no_more r t h e = over_differs r (codes ", " ++ t) h e refl refl

column_followed : (c d : ℕ) (r s : Text) → c < 2 ^ 64 → d < 2 ^ 64 → Follows r → Follows s → column_text c ++ r ≡ column_text d ++ s → (c ≡ d) × (r ≡ s)
column_followed c d r s f g h k e = read_column c d r s f g (ends_followed r h) (ends_followed s k) e

pub read_keys : (ks ls : List ℕ) (r s : Text) → AllByRecursion (λ k. k < 2 ^ 64) ks → AllByRecursion (λ k. k < 2 ^ 64) ls → Over r → Over s
    → joined (codes ", ") (map column_text ks) ++ r ≡ joined (codes ", ") (map column_text ls) ++ s → (ks ≡ ls) × (r ≡ s)
read_keys = read_joined column_text (λ k. k < 2 ^ 64) (codes ", ") Follows Over column_followed over_follows (λ r. Follows.comma refl) no_more no_column

-- ---- pairs to join by, up to the end

no_pair : (p : Pair) (r t : Text) → IsShortPair p → Over r → r ≡ pair_text p ++ t → ⊥
no_pair p r t f h e = over_differs r (pair_text p ++ t) h e refl refl

no_and : (r t : Text) → Over r → r ≡ codes " AND " ++ t → ⊥
no_and r t h e = over_differs r (codes " AND " ++ t) h e refl refl

pair_regrouped : (k c m d r : Text) → (k ++ (c ++ (m ++ d))) ++ r ≡ k ++ (c ++ (m ++ (d ++ r)))
pair_regrouped k c m d r = simp append_assoc

pair_same : (p q : Pair) → p.left ≡ q.left → p.right ≡ q.right → p ≡ q
pair_same p q e f = ap₂ (λ (l r : ℕ). record { left = l; right = r }) e f

pub read_pair : (p q : Pair) (r s : Text) → IsShortPair p → IsShortPair q → Follows r → Follows s → pair_text p ++ r ≡ pair_text q ++ s → (p ≡ q) × (r ≡ s)
read_pair p q r s f g h k e =
    let t : Text = codes " = r." ++ (column_text p.right ++ r) in
    let u : Text = codes " = r." ++ (column_text q.right ++ s) in
    let whole : codes "l." ++ (column_text p.left ++ t) ≡ codes "l." ++ (column_text q.left ++ u) =
    sym (pair_regrouped (codes "l.") (column_text p.left) (codes " = r.") (column_text p.right) r) ∙ e
    ∙ pair_regrouped (codes "l.") (column_text q.left) (codes " = r.") (column_text q.right) s in
    let left : (p.left ≡ q.left) × (t ≡ u) = read_column p.left q.left t u f.0 g.0 refl refl (cancel (codes "l.") (column_text p.left ++ t) (column_text q.left ++ u) whole) in
    let right : (p.right ≡ q.right) × (r ≡ s) =
    read_column p.right q.right r s f.1 g.1 (ends_followed r h) (ends_followed s k) (cancel (codes " = r.") (column_text p.right ++ r) (column_text q.right ++ s) left.1) in
    (pair_same p q left.0 right.0, right.1)

pub read_pairs : (ps qs : List Pair) (r s : Text) → AllByRecursion IsShortPair ps → AllByRecursion IsShortPair qs → Over r → Over s
    → joined (codes " AND ") (map pair_text ps) ++ r ≡ joined (codes " AND ") (map pair_text qs) ++ s → (ps ≡ qs) × (r ≡ s)
read_pairs = read_joined pair_text IsShortPair (codes " AND ") Follows Over read_pair over_follows (λ r. Follows.space refl) no_and no_pair
