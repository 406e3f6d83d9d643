-- Queries read back.
use Rattle.std.proofs.Common.{◌≡◌, ℕ, zero, suc, ◌<◌, ◌^◌, Bool, true, false, cond, nat_eq, List, [], ◌∷◌, ◌++◌, map, length, refl, sym, ap, ap₂, ◌∙◌, get_or, append_assoc, append-nil, arith, codes, decimal}
use Rattle.std.specs.List.{AllByRecursion, list_all}
use Rattle.std.proofs.lemmas.Bool.{true≢false, and_parts}
use Rattle.std.proofs.lemmas.Bool.Decides.{nat_tests}
use Rattle.std.proofs.lemmas.Fmt.{decimal_injective}
use Rattle.record_core.specs.Names.{is_digit, is_letter, is_name_byte, begins_name, IsName}
use Rattle.semantics.specs.Query.{Pair, Input}
use Rattle.sql_meaning.specs.Script.{Table, Expression, Aggregate, Query}
use Rattle.sql_meaning.specs.WellFormed.{Widths}
use Rattle.sql.specs.Dialects.{dialect_of, arithmetic_of, quote}
use Rattle.sql.specs.Epochs.{epoch_text, join_word}
use Rattle.sql_reading.specs.Readable.{IsShortSearch, IsShortAggregate, IsShortPair, IsThere, IsShortQuery, name_of, AreNamed}
use Rattle.sql_reading.specs.Readable as readable
use Rattle.sql_reading.specs.Said.{said_expression, said_query}
use Rattle.sql.specs.Text.{column_text, expression_text, aggregate_text, continued, joined, pair_text, quoted, table_text, keys_text, query_text}
use Rattle.sql.specs.declared.form.Arithmetic.TheVariants.{Plain, Wrapped}
use Rattle.sql.specs.declared.form.Dialect.{Dialect}
use Rattle.sql.specs.declared.form.Dialect.TheVariants.{Postgres, Sqlite, Spark}
use Rattle.sql.specs.declared.form.Epochs.{Epochs}
use Rattle.sql.specs.declared.form.Epochs.TheVariants as epochs
use Rattle.sql.specs.declared.form.Form.{Form}
use Rattle.sql.specs.declared.form.Form.TheVariants as form
use Rattle.sql_reading.proofs.PrefixWords.{Text, Stops, runs, cancel, inside, decimal_digits, decimal_first}
use Rattle.sql_reading.proofs.TreesReadBack.{Tree, tree_text, IsShort, Begins, begins, read_tree, differ}
use Rattle.sql_reading.proofs.TreesOfExpressions.{tree, search_tree, tree_is, search_tree_is, back, back_search, back_tree, back_search_tree, short_tree, short_search_tree}
use Rattle.sql_reading.proofs.ListsReadBack.{Item, item_text, IsFine, Follows, Over, over_follows, ends_followed, read_items, items_followed, read_keys, read_pairs}

-- ---- names in quotes

stops_quote : (d : Dialect) (r : Text) → Stops is_name_byte (quote d ++ r)
stops_quote Postgres r = refl
stops_quote Sqlite r = refl
stops_quote Spark r = refl

pub read_quoted : (d : Dialect) (n m r s : Text) → list_all is_name_byte n ≡ true → list_all is_name_byte m ≡ true → quoted d n ++ r ≡ quoted d m ++ s → (n ≡ m) × (r ≡ s)
read_quoted d n m r s f g e =
    let both : (n ≡ m) × (quote d ++ r ≡ quote d ++ s) =
    runs is_name_byte n m (quote d ++ r) (quote d ++ s) f g (stops_quote d r) (stops_quote d s) (inside (quote d) n m (quote d) r s e) in
    (both.0, cancel (quote d) r s both.1)

digit_in_name : (b : ℕ) → is_digit b ≡ true → is_name_byte b ≡ true
digit_in_name b h = grind (arith, nat_tests)

digits_in_name : (bs : Text) → list_all is_digit bs ≡ true → list_all is_name_byte bs ≡ true
digits_in_name [] h = refl
digits_in_name (b ∷ bs) h = rw (digit_in_name b (and_parts _ _ h).0) (digits_in_name bs (and_parts _ _ h).1)

pub number_in_name : (n : ℕ) → n < 2 ^ 64 → list_all is_name_byte (decimal n) ≡ true
number_in_name n h = digits_in_name (decimal n) (decimal_digits n h)

letter_no_digit : (b : ℕ) → is_letter b ≡ true → is_digit b ≡ false
letter_no_digit b h = grind (arith, nat_tests)

name_no_digit : (w : Text) → begins_name w ≡ true → is_digit (get_or w 0 0) ≡ false
name_no_digit [] h = refl
name_no_digit (b ∷ bs) h = letter_no_digit b h

no_number : (w : Text) (n : ℕ) → begins_name w ≡ true → n < 2 ^ 64 → w ≡ decimal n → ⊥
no_number w n h k e =
    differ (is_digit (get_or w 0 0)) (ap (λ t. is_digit (get_or t 0 0)) (e ∙ sym (append-nil (decimal n))) ∙ decimal_first n [] k) (name_no_digit w h)

named_at : (inputs : List Input) (i : ℕ) → AllByRecursion (λ (a : Input). IsName a.name × (a.arity < 2 ^ 64)) inputs → i < length inputs → IsName (name_of inputs i)
named_at [] i h k = absurd (omega arith)
named_at (x ∷ xs) zero h k = h.0.0
named_at (x ∷ xs) (suc i) h k = named_at xs i h.1 (omega arith)

-- ---- tables

abbrev pub word_of : List Input → Table → Text
word_of inputs (Table.given i) = name_of inputs i
word_of inputs (Table.made n) = decimal n

pub table_is : (d : Dialect) (inputs : List Input) (t : Table) → table_text d inputs t ≡ quoted d (word_of inputs t)
table_is d inputs (Table.given i) = refl
table_is d inputs (Table.made n) = refl

module _ (a : Form) (inputs : List Input) (named : AreNamed inputs) where
  abbrev there : Table → Type 0
  there t = IsThere (length inputs) t

  abbrev text_of : Table → Text
  text_of t = table_text (dialect_of a) inputs t

  word_passes : (t : Table) → there t → list_all is_name_byte (word_of inputs t) ≡ true
  word_passes (Table.given i) h = (named_at inputs i named.names h).goes_on
  word_passes (Table.made n) h = number_in_name n h

  word_tells : (t u : Table) → there t → there u → word_of inputs t ≡ word_of inputs u → t ≡ u
  word_tells (Table.given i) (Table.given j) h k e = ap Table.given (named.differ i j h k e)
  word_tells (Table.given i) (Table.made n) h k e = absurd (no_number (name_of inputs i) n (named_at inputs i named.names h).begins k e)
  word_tells (Table.made n) (Table.given i) h k e = absurd (no_number (name_of inputs i) n (named_at inputs i named.names k).begins h (sym e))
  word_tells (Table.made m) (Table.made n) h k e = ap Table.made (decimal_injective m n h k e)

  pub read_table : (t u : Table) (r s : Text) → there t → there u → text_of t ++ r ≡ text_of u ++ s → (t ≡ u) × (r ≡ s)
  read_table t u r s h k e =
      let both : (word_of inputs t ≡ word_of inputs u) × (r ≡ s) =
      read_quoted (dialect_of a) (word_of inputs t) (word_of inputs u) r s (word_passes t h) (word_passes u k)
      (ap (λ (x : Text). x ++ r) (sym (table_is (dialect_of a) inputs t)) ∙ e ∙ ap (λ (x : Text). x ++ s) (table_is (dialect_of a) inputs u)) in
      (word_tells t u h k both.0, both.1)

-- ---- what stands before a query's first table

pub data Head : Type 0 where
  items : Item → List Item → Head
  star distinct : Head

abbrev pub head_text : Form → Epochs → Head → Text
head_text a o (Head.items x xs) = codes "SELECT " ++ (epoch_text o ++ ((item_text a x ++ continued (codes ", ") (map (item_text a) xs)) ++ codes " FROM "))
head_text a o Head.star = codes "SELECT * FROM "
head_text a o Head.distinct = codes "SELECT DISTINCT * FROM "

abbrev pub FineHead : Head → Type 0
FineHead (Head.items x xs) = IsFine x × AllByRecursion IsFine xs
FineHead Head.star = Unit {0}
FineHead Head.distinct = Unit {0}

abbrev first_kind : ℕ → ℕ
first_kind b = cond (nat_eq b 42) 1 (cond (nat_eq b 68) 2 0)

abbrev head_kind : Head → ℕ
head_kind (Head.items x xs) = 0
head_kind Head.star = 1
head_kind Head.distinct = 2

abbrev head_in : Text → ℕ
head_in t = first_kind (get_or t 7 0)

blank_first : (r : Text) → Follows r → first_kind (get_or r 0 0) ≡ 0
blank_first r (Follows.comma e) = ap first_kind e
blank_first r (Follows.space e) = ap first_kind e
blank_first r (Follows.semicolon e) = ap first_kind e
blank_first r (Follows.close e) = ap first_kind e

tree_first : (t : Text) → Begins t → first_kind (get_or t 0 0) ≡ 0
tree_first t (Begins.letter e) = ap first_kind e
tree_first t (Begins.bracket e) = ap first_kind e
tree_first t (Begins.word e f) = ap first_kind e

sum_first : (a : Form) (c : ℕ) (r : Text) → first_kind (get_or (item_text a (Item.sum c) ++ r) 0 0) ≡ 0
sum_first (form.Postgres Plain) c r = refl
sum_first (form.Postgres Wrapped) c r = refl
sum_first form.Sqlite c r = refl
sum_first (form.Spark Plain) c r = refl
sum_first (form.Spark Wrapped) c r = refl

item_first : (a : Form) (x : Item) (r : Text) → Follows r → first_kind (get_or (item_text a x ++ r) 0 0) ≡ 0
item_first a Item.blank r h = blank_first r h
item_first a Item.count r h = refl
item_first a (Item.tree t) r h = tree_first (tree_text a t ++ r) (begins a t r)
item_first a (Item.sum c) r h = sum_first a c r
item_first a (Item.least c) r h = refl
item_first a (Item.greatest c) r h = refl

items_assoc : (x c f r : Text) → ((x ++ c) ++ f) ++ r ≡ x ++ (c ++ (f ++ r))
items_assoc x c f r = simp append_assoc

head_told : (a : Form) (o : Epochs) (h : Head) (r : Text) → head_in (head_text a o h ++ r) ≡ head_kind h
head_told a epochs.Every (Head.items x xs) r = refl
head_told a epochs.One (Head.items x xs) r =
    ap (λ t. first_kind (get_or t 0 0)) (items_assoc (item_text a x) (continued (codes ", ") (map (item_text a) xs)) (codes " FROM ") r)
    ∙ item_first a x (continued (codes ", ") (map (item_text a) xs) ++ (codes " FROM " ++ r)) (items_followed a xs (codes " FROM " ++ r) refl)
head_told a o Head.star r = refl
head_told a o Head.distinct r = refl

same_kinds : (m j : ℕ) → m ≡ j → nat_eq m j ≡ true
same_kinds m j e = grind (arith, nat_tests)

items_same : (x y : Item) (xs ys : List Item) → x ∷ xs ≡ y ∷ ys → Head.items x xs ≡ Head.items y ys
items_same x y xs ys e = cc

head_clash : (a : Form) (o : Epochs) (h g : Head) (r s : Text) → head_text a o h ++ r ≡ head_text a o g ++ s → nat_eq (head_kind h) (head_kind g) ≡ false → ⊥
head_clash a o h g r s e n = differ (nat_eq (head_kind h) (head_kind g)) (same_kinds (head_kind h) (head_kind g) (sym (head_told a o h r) ∙ ap head_in e ∙ head_told a o g s)) n

-- what stands between two words and a third
within_assoc : (k p w c r : Text) → (k ++ (p ++ (w ++ c))) ++ r ≡ k ++ (p ++ (w ++ (c ++ r)))
within_assoc k p w c r = simp append_assoc

within : (k p w v c r s : Text) → (k ++ (p ++ (w ++ c))) ++ r ≡ (k ++ (p ++ (v ++ c))) ++ s → w ++ (c ++ r) ≡ v ++ (c ++ s)
within k p w v c r s e =
    cancel p (w ++ (c ++ r)) (v ++ (c ++ s)) (cancel k (p ++ (w ++ (c ++ r))) (p ++ (v ++ (c ++ s))) (sym (within_assoc k p w c r) ∙ e ∙ within_assoc k p v c s))

pub read_head : (a : Form) (o : Epochs) (h g : Head) (r s : Text) → FineHead h → FineHead g → head_text a o h ++ r ≡ head_text a o g ++ s → (h ≡ g) × (r ≡ s)
read_head a o (Head.items x xs) (Head.items y ys) r s h k e =
    let X : Text = item_text a x ++ continued (codes ", ") (map (item_text a) xs) in
    let Y : Text = item_text a y ++ continued (codes ", ") (map (item_text a) ys) in
    let both : (x ∷ xs ≡ y ∷ ys) × (codes " FROM " ++ r ≡ codes " FROM " ++ s) =
    read_items a x y xs ys (codes " FROM " ++ r) (codes " FROM " ++ s) h.0 k.0 h.1 k.1 refl refl (within (codes "SELECT ") (epoch_text o) X Y (codes " FROM ") r s e) in
    (items_same x y xs ys both.0, cancel (codes " FROM ") r s both.1)
read_head a o Head.star Head.star r s h k e = (refl, cancel (codes "SELECT * FROM ") r s e)
read_head a o Head.distinct Head.distinct r s h k e = (refl, cancel (codes "SELECT DISTINCT * FROM ") r s e)
read_head a o h g r s f k e = absurd (head_clash a o h g r s e refl)

-- ---- what stands after it

pub data Tail : Type 0 where
  end : Tail
  grouped : List ℕ → Tail
  filtered : Tree → Tail
  join : Table → List Pair → Tail
  union except intersect : Table → Tail

abbrev pub tail_text : Form → Epochs → List Input → Tail → Text
tail_text a o inputs Tail.end = []
tail_text a o inputs (Tail.grouped ks) = codes " GROUP BY " ++ keys_text o ks
tail_text a o inputs (Tail.filtered t) = codes " WHERE " ++ tree_text a t
tail_text a o inputs (Tail.join u ps) = codes " AS l INNER JOIN " ++ (table_text (dialect_of a) inputs u ++ (join_word o ++ joined (codes " AND ") (map pair_text ps)))
tail_text a o inputs (Tail.union u) = codes " UNION ALL" ++ (codes " SELECT * FROM " ++ table_text (dialect_of a) inputs u)
tail_text a o inputs (Tail.except u) = codes " EXCEPT" ++ (codes " SELECT * FROM " ++ table_text (dialect_of a) inputs u)
tail_text a o inputs (Tail.intersect u) = codes " INTERSECT" ++ (codes " SELECT * FROM " ++ table_text (dialect_of a) inputs u)

abbrev FineTail : (given : ℕ) → Tail → Type 0
FineTail given Tail.end = Unit {0}
FineTail given (Tail.grouped ks) = AllByRecursion (λ k. k < 2 ^ 64) ks
FineTail given (Tail.filtered t) = IsShort t
FineTail given (Tail.join u ps) = IsThere given u × AllByRecursion IsShortPair ps
FineTail given (Tail.union u) = IsThere given u
FineTail given (Tail.except u) = IsThere given u
FineTail given (Tail.intersect u) = IsThere given u

abbrev tail_kind : Tail → ℕ
tail_kind Tail.end = 0
tail_kind (Tail.grouped ks) = 1
tail_kind (Tail.filtered t) = 2
tail_kind (Tail.join u ps) = 3
tail_kind (Tail.union u) = 4
tail_kind (Tail.except u) = 5
tail_kind (Tail.intersect u) = 6

abbrev tail_by : (b c : ℕ) → ℕ
tail_by b c =
    cond (nat_eq b 32) (cond (nat_eq c 71) 1 (cond (nat_eq c 87) 2 (cond (nat_eq c 65) 3 (cond (nat_eq c 85) 4 (cond (nat_eq c 69) 5 6))))) 0

abbrev tail_in : Text → ℕ
tail_in t = tail_by (get_or t 0 0) (get_or t 1 0)

tail_told : (a : Form) (o : Epochs) (inputs : List Input) (t : Tail) (r : Text) → Over r → tail_in (tail_text a o inputs t ++ r) ≡ tail_kind t
tail_told a o inputs Tail.end r (Over.semicolon h) = ap (λ b. tail_by b (get_or r 1 0)) h
tail_told a o inputs Tail.end r (Over.close h) = ap (λ b. tail_by b (get_or r 1 0)) h
tail_told a o inputs (Tail.grouped ks) r h = refl
tail_told a o inputs (Tail.filtered t) r h = refl
tail_told a o inputs (Tail.join u ps) r h = refl
tail_told a o inputs (Tail.union u) r h = refl
tail_told a o inputs (Tail.except u) r h = refl
tail_told a o inputs (Tail.intersect u) r h = refl

join_assoc : (k u o p r : Text) → (k ++ (u ++ (o ++ p))) ++ r ≡ k ++ (u ++ (o ++ (p ++ r)))
join_assoc k u o p r = simp append_assoc

module _ (a : Form) (o : Epochs) (inputs : List Input) (named : AreNamed inputs) where
  abbrev fine : Tail → Type 0
  fine t = FineTail (length inputs) t

  abbrev word : Table → Text
  word t = table_text (dialect_of a) inputs t

  tail_clash : (t u : Tail) (r s : Text) → Over r → Over s → tail_text a o inputs t ++ r ≡ tail_text a o inputs u ++ s → nat_eq (tail_kind t) (tail_kind u) ≡ false → ⊥
  tail_clash t u r s h k e n = differ (nat_eq (tail_kind t) (tail_kind u)) (same_kinds (tail_kind t) (tail_kind u) (sym (tail_told a o inputs t r h) ∙ ap tail_in e ∙ tail_told a o inputs u s k)) n

  second_assoc : (k f w r : Text) → (k ++ (f ++ w)) ++ r ≡ k ++ (f ++ (w ++ r))
  second_assoc k f w r = simp append_assoc

  read_second : (operator : Text) (t u : Table) (r s : Text) → IsThere (length inputs) t → IsThere (length inputs) u
      → (operator ++ (codes " SELECT * FROM " ++ word t)) ++ r ≡ (operator ++ (codes " SELECT * FROM " ++ word u)) ++ s → (t ≡ u) × (r ≡ s)
  read_second operator t u r s h k e =
      let f : Text = codes " SELECT * FROM " in
      let whole : operator ++ (f ++ (word t ++ r)) ≡ operator ++ (f ++ (word u ++ s)) = sym (second_assoc operator f (word t) r) ∙ e ∙ second_assoc operator f (word u) s in
      read_table a inputs named t u r s h k (cancel f (word t ++ r) (word u ++ s) (cancel operator (f ++ (word t ++ r)) (f ++ (word u ++ s)) whole))

  read_join : (t u : Table) (ps qs : List Pair) (r s : Text) → fine (Tail.join t ps) → fine (Tail.join u qs) → Over r → Over s
      → tail_text a o inputs (Tail.join t ps) ++ r ≡ tail_text a o inputs (Tail.join u qs) ++ s → (Tail.join t ps ≡ Tail.join u qs) × (r ≡ s)
  read_join t u ps qs r s h k f g e =
      let j : Text = codes " AS l INNER JOIN " in
      let w : Text = join_word o in
      let P : Text = joined (codes " AND ") (map pair_text ps) ++ r in
      let Q : Text = joined (codes " AND ") (map pair_text qs) ++ s in
      let whole : j ++ (word t ++ (w ++ P)) ≡ j ++ (word u ++ (w ++ Q)) =
      sym (join_assoc j (word t) w (joined (codes " AND ") (map pair_text ps)) r) ∙ e ∙ join_assoc j (word u) w (joined (codes " AND ") (map pair_text qs)) s in
      let table : (t ≡ u) × (w ++ P ≡ w ++ Q) = read_table a inputs named t u (w ++ P) (w ++ Q) h.0 k.0 (cancel j (word t ++ (w ++ P)) (word u ++ (w ++ Q)) whole) in
      let pairs : (ps ≡ qs) × (r ≡ s) = read_pairs ps qs r s h.1 k.1 f g (cancel w P Q table.1) in
      (ap₂ Tail.join table.0 pairs.0, pairs.1)

  after_both : (k p x y r s : Text) → (k ++ (p ++ x)) ++ r ≡ (k ++ (p ++ y)) ++ s → x ++ r ≡ y ++ s
  after_both k p x y r s e = cancel p (x ++ r) (y ++ s) (cancel k (p ++ (x ++ r)) (p ++ (y ++ s)) (sym (second_assoc k p x r) ∙ e ∙ second_assoc k p y s))

  pub read_tail : (t u : Tail) (r s : Text) → fine t → fine u → Over r → Over s → tail_text a o inputs t ++ r ≡ tail_text a o inputs u ++ s → (t ≡ u) × (r ≡ s)
  read_tail Tail.end Tail.end r s h k f g e = (refl, e)
  read_tail (Tail.grouped ks) (Tail.grouped ls) r s h k f g e =
      let both : (ks ≡ ls) × (r ≡ s) =
      read_keys ks ls r s h k f g (after_both (codes " GROUP BY ") (epoch_text o) (joined (codes ", ") (map column_text ks)) (joined (codes ", ") (map column_text ls)) r s e) in
      (ap Tail.grouped both.0, both.1)
  read_tail (Tail.filtered t) (Tail.filtered u) r s h k f g e =
      let both : (t ≡ u) × (r ≡ s) = read_tree a t u h k r s (ends_followed r (over_follows r f)) (ends_followed s (over_follows s g))
      (cancel (codes " WHERE ") (tree_text a t ++ r) (tree_text a u ++ s) e) in
      (ap Tail.filtered both.0, both.1)
  read_tail (Tail.join t ps) (Tail.join u qs) r s h k f g e = read_join t u ps qs r s h k f g e
  read_tail (Tail.union t) (Tail.union u) r s h k f g e = let both : (t ≡ u) × (r ≡ s) = read_second (codes " UNION ALL") t u r s h k e in (ap Tail.union both.0, both.1)
  read_tail (Tail.except t) (Tail.except u) r s h k f g e = let both : (t ≡ u) × (r ≡ s) = read_second (codes " EXCEPT") t u r s h k e in (ap Tail.except both.0, both.1)
  read_tail (Tail.intersect t) (Tail.intersect u) r s h k f g e = let both : (t ≡ u) × (r ≡ s) = read_second (codes " INTERSECT") t u r s h k e in (ap Tail.intersect both.0, both.1)
  read_tail t u r s h k f g e = absurd (tail_clash t u r s f g e refl)

-- the query makes a recursive table; the others have these parts
abbrev pub is_recursive : Query → Bool
is_recursive (Query.select es t) = false
is_recursive (Query.select_where t c) = false
is_recursive (Query.select_join t u ps) = false
is_recursive (Query.select_group ks as' t) = false
is_recursive (Query.select_distinct t) = false
is_recursive (Query.union_all t u) = false
is_recursive (Query.except t u) = false
is_recursive (Query.intersect t u) = false
is_recursive (Query.recursive n t m) = true

-- ---- the parts of a query

abbrev key_item : ℕ → Item
key_item k = Item.tree (Tree.column k)

abbrev aggregate_item : Aggregate → Item
aggregate_item Aggregate.wrapped_count = Item.count
aggregate_item (Aggregate.wrapped_sum c) = Item.sum c
aggregate_item (Aggregate.least c) = Item.least c
aggregate_item (Aggregate.greatest c) = Item.greatest c

abbrev expression_item : Form → Expression → Item
expression_item a e = Item.tree (tree a e)

abbrev pub selected : Form → List Expression → Head
selected a [] = Head.items Item.blank []
selected a (e ∷ es) = Head.items (expression_item a e) (map (expression_item a) es)

abbrev pub grouping : List ℕ → List Aggregate → Head
grouping [] as' = Head.items Item.blank (map aggregate_item as')
grouping (k ∷ ks) as' = Head.items (key_item k) (map key_item ks ++ map aggregate_item as')

abbrev pub head_of : Form → Query → Head
head_of a (Query.select es t) = selected a es
head_of a (Query.select_where t c) = Head.star
head_of a (Query.select_join t u ps) = Head.star
head_of a (Query.select_group ks as' t) = grouping ks as'
head_of a (Query.select_distinct t) = Head.distinct
head_of a (Query.union_all t u) = Head.star
head_of a (Query.except t u) = Head.star
head_of a (Query.intersect t u) = Head.star
head_of a (Query.recursive n t m) = Head.star

abbrev pub table_of : Query → Table
table_of (Query.select es t) = t
table_of (Query.select_where t c) = t
table_of (Query.select_join t u ps) = t
table_of (Query.select_group ks as' t) = t
table_of (Query.select_distinct t) = t
table_of (Query.union_all t u) = t
table_of (Query.except t u) = t
table_of (Query.intersect t u) = t
table_of (Query.recursive n t m) = t

abbrev pub tail_of : Form → Query → Tail
tail_of a (Query.select es t) = Tail.end
tail_of a (Query.select_where t c) = Tail.filtered (search_tree a c)
tail_of a (Query.select_join t u ps) = Tail.join u ps
tail_of a (Query.select_group ks as' t) = Tail.grouped ks
tail_of a (Query.select_distinct t) = Tail.end
tail_of a (Query.union_all t u) = Tail.union u
tail_of a (Query.except t u) = Tail.except u
tail_of a (Query.intersect t u) = Tail.intersect u
tail_of a (Query.recursive n t m) = Tail.end

abbrev parts_text : Form → Epochs → List Input → Query → Text
parts_text a o inputs q = head_text a o (head_of a q) ++ (table_text (dialect_of a) inputs (table_of q) ++ tail_text a o inputs (tail_of a q))

-- ---- their texts are that of the query

expressions_are : (a : Form) (es : List Expression) → map (item_text a) (map (expression_item a) es) ≡ map (expression_text a) es
expressions_are a [] = refl
expressions_are a (e ∷ es) = ap₂ (λ (t : Text) (ts : List Text). t ∷ ts) (tree_is a e) (expressions_are a es)

aggregate_is : (a : Form) (g : Aggregate) → item_text a (aggregate_item g) ≡ aggregate_text a g
aggregate_is a Aggregate.wrapped_count = refl
aggregate_is a (Aggregate.wrapped_sum c) = refl
aggregate_is a (Aggregate.least c) = refl
aggregate_is a (Aggregate.greatest c) = refl

aggregates_are : (a : Form) (gs : List Aggregate) → map (item_text a) (map aggregate_item gs) ≡ map (aggregate_text a) gs
aggregates_are a [] = refl
aggregates_are a (g ∷ gs) = ap₂ (λ (t : Text) (ts : List Text). t ∷ ts) (aggregate_is a g) (aggregates_are a gs)

key_assoc : (o c x y : Text) → o ++ (c ++ (x ++ y)) ≡ (o ++ (c ++ x)) ++ y
key_assoc o c x y = simp append_assoc

keys_are : (a : Form) (ks : List ℕ) (gs : List Aggregate) → continued (codes ", ") (map (item_text a) (map key_item ks ++ map aggregate_item gs))
    ≡ continued (codes ", ") (map column_text ks) ++ continued (codes ", ") (map (aggregate_text a) gs)
keys_are a [] gs = ap (continued (codes ", ")) (aggregates_are a gs)
keys_are a (k ∷ ks) gs =
    ap (λ (t : Text). codes ", " ++ (column_text k ++ t)) (keys_are a ks gs)
    ∙ key_assoc (codes ", ") (column_text k) (continued (codes ", ") (map column_text ks)) (continued (codes ", ") (map (aggregate_text a) gs))

select_assoc : (k p i f t : Text) → (k ++ (p ++ (i ++ f))) ++ (t ++ []) ≡ k ++ (p ++ (i ++ (f ++ t)))
select_assoc k p i f t = simp (append_assoc, append-nil)

group_assoc : (k p i j f t : Text) → (k ++ (p ++ ((i ++ j) ++ f))) ++ t ≡ k ++ ((p ++ i) ++ (j ++ (f ++ t)))
group_assoc k p i j f t = simp append_assoc

pub selected_is : (a : Form) (o : Epochs) (es : List Expression) (t : Text) → head_text a o (selected a es) ++ (t ++ [])
    ≡ codes "SELECT " ++ (epoch_text o ++ (joined (codes ", ") (map (expression_text a) es) ++ (codes " FROM " ++ t)))
selected_is a o [] t = select_assoc (codes "SELECT ") (epoch_text o) [] (codes " FROM ") t
selected_is a o (e ∷ es) t =
    select_assoc (codes "SELECT ") (epoch_text o) (item_text a (expression_item a e) ++ continued (codes ", ") (map (item_text a) (map (expression_item a) es))) (codes " FROM ") t
    ∙ ap (λ (ts : List Text). codes "SELECT " ++ (epoch_text o ++ (joined (codes ", ") ts ++ (codes " FROM " ++ t)))) (expressions_are a (e ∷ es))

grouping_is : (a : Form) (o : Epochs) (ks : List ℕ) (gs : List Aggregate) (t : Text) → head_text a o (grouping ks gs) ++ t
    ≡ codes "SELECT " ++ (keys_text o ks ++ (continued (codes ", ") (map (aggregate_text a) gs) ++ (codes " FROM " ++ t)))
grouping_is a o [] gs t =
    group_assoc (codes "SELECT ") (epoch_text o) [] (continued (codes ", ") (map (item_text a) (map aggregate_item gs))) (codes " FROM ") t
    ∙ ap (λ (ts : List Text). codes "SELECT " ++ (keys_text o [] ++ (continued (codes ", ") ts ++ (codes " FROM " ++ t)))) (aggregates_are a gs)
grouping_is a o (k ∷ ks) gs t =
    ap (λ (u : Text). (codes "SELECT " ++ (epoch_text o ++ (u ++ codes " FROM "))) ++ t)
    (ap (λ (u : Text). column_text k ++ u) (keys_are a ks gs) ∙ sym (append_assoc (column_text k) (continued (codes ", ") (map column_text ks)) (continued (codes ", ") (map (aggregate_text a) gs))))
    ∙ group_assoc (codes "SELECT ") (epoch_text o) (joined (codes ", ") (map column_text (k ∷ ks))) (continued (codes ", ") (map (aggregate_text a) gs)) (codes " FROM ") t

pub parts_are : (a : Form) (o : Epochs) (inputs : List Input) (v : Widths) (n : ℕ) (q : Query) → is_recursive q ≡ false → parts_text a o inputs q ≡ query_text a o inputs v n q
parts_are a o inputs v n (Query.select es t) e = selected_is a o es (table_text (dialect_of a) inputs t)
parts_are a o inputs v n (Query.select_where t c) e = ap (λ (u : Text). codes "SELECT * FROM " ++ (table_text (dialect_of a) inputs t ++ (codes " WHERE " ++ u))) (search_tree_is a c)
parts_are a o inputs v n (Query.select_join t u ps) e = refl
parts_are a o inputs v n (Query.select_group ks as' t) e = grouping_is a o ks as' (table_text (dialect_of a) inputs t ++ (codes " GROUP BY " ++ keys_text o ks))
parts_are a o inputs v n (Query.select_distinct t) e = ap (λ (u : Text). codes "SELECT DISTINCT * FROM " ++ u) (append-nil (table_text (dialect_of a) inputs t))
parts_are a o inputs v n (Query.union_all t u) e = refl
parts_are a o inputs v n (Query.except t u) e = refl
parts_are a o inputs v n (Query.intersect t u) e = refl
parts_are a o inputs v n (Query.recursive k t m) e = absurd (true≢false e)

-- ---- and they say the query

abbrev pub expressions_of : List Item → List Expression
expressions_of [] = []
expressions_of (Item.blank ∷ xs) = expressions_of xs
expressions_of (Item.count ∷ xs) = expressions_of xs
expressions_of (Item.tree t ∷ xs) = back t ∷ expressions_of xs
expressions_of (Item.sum c ∷ xs) = expressions_of xs
expressions_of (Item.least c ∷ xs) = expressions_of xs
expressions_of (Item.greatest c ∷ xs) = expressions_of xs

abbrev aggregates_of : List Item → List Aggregate
aggregates_of [] = []
aggregates_of (Item.blank ∷ xs) = aggregates_of xs
aggregates_of (Item.count ∷ xs) = Aggregate.wrapped_count ∷ aggregates_of xs
aggregates_of (Item.tree t ∷ xs) = aggregates_of xs
aggregates_of (Item.sum c ∷ xs) = Aggregate.wrapped_sum c ∷ aggregates_of xs
aggregates_of (Item.least c ∷ xs) = Aggregate.least c ∷ aggregates_of xs
aggregates_of (Item.greatest c ∷ xs) = Aggregate.greatest c ∷ aggregates_of xs

abbrev listed : Head → List Item
listed (Head.items x xs) = x ∷ xs
listed Head.star = []
listed Head.distinct = []

-- a query without more after its first table
abbrev pub ended : Head → Table → Query
ended (Head.items x xs) t = Query.select (expressions_of (x ∷ xs)) t
ended Head.star t = Query.select_distinct t
ended Head.distinct t = Query.select_distinct t

abbrev query_of : Head → Table → Tail → Query
query_of h t Tail.end = ended h t
query_of h t (Tail.grouped ks) = Query.select_group ks (aggregates_of (listed h)) t
query_of h t (Tail.filtered c) = Query.select_where t (back_search c)
query_of h t (Tail.join u ps) = Query.select_join t u ps
query_of h t (Tail.union u) = Query.union_all t u
query_of h t (Tail.except u) = Query.except t u
query_of h t (Tail.intersect u) = Query.intersect t u

expressions_back : (a : Form) (es : List Expression) → expressions_of (map (expression_item a) es) ≡ map (said_expression (arithmetic_of a)) es
expressions_back a [] = refl
expressions_back a (e ∷ es) = ap₂ (λ (x : Expression) (xs : List Expression). x ∷ xs) (back_tree a e) (expressions_back a es)

pub selected_back : (a : Form) (es : List Expression) (t : Table) → ended (selected a es) t ≡ Query.select (map (said_expression (arithmetic_of a)) es) t
selected_back a [] t = refl
selected_back a (e ∷ es) t = ap (λ (xs : List Expression). Query.select xs t) (expressions_back a (e ∷ es))

aggregates_back : (gs : List Aggregate) → aggregates_of (map aggregate_item gs) ≡ gs
aggregates_back [] = refl
aggregates_back (Aggregate.wrapped_count ∷ gs) = ap (λ (xs : List Aggregate). Aggregate.wrapped_count ∷ xs) (aggregates_back gs)
aggregates_back (Aggregate.wrapped_sum c ∷ gs) = ap (λ (xs : List Aggregate). Aggregate.wrapped_sum c ∷ xs) (aggregates_back gs)
aggregates_back (Aggregate.least c ∷ gs) = ap (λ (xs : List Aggregate). Aggregate.least c ∷ xs) (aggregates_back gs)
aggregates_back (Aggregate.greatest c ∷ gs) = ap (λ (xs : List Aggregate). Aggregate.greatest c ∷ xs) (aggregates_back gs)

keys_back : (ks : List ℕ) (gs : List Aggregate) → aggregates_of (map key_item ks ++ map aggregate_item gs) ≡ gs
keys_back [] gs = aggregates_back gs
keys_back (k ∷ ks) gs = keys_back ks gs

grouping_back : (ks : List ℕ) (gs : List Aggregate) → aggregates_of (listed (grouping ks gs)) ≡ gs
grouping_back [] gs = aggregates_back gs
grouping_back (k ∷ ks) gs = keys_back ks gs

query_back : (a : Form) (q : Query) → is_recursive q ≡ false → query_of (head_of a q) (table_of q) (tail_of a q) ≡ said_query (arithmetic_of a) q
query_back a (Query.select es t) e = selected_back a es t
query_back a (Query.select_where t c) e = ap (Query.select_where t) (back_search_tree a c)
query_back a (Query.select_join t u ps) e = refl
query_back a (Query.select_group ks as' t) e = ap (λ (gs : List Aggregate). Query.select_group ks gs t) (grouping_back ks as')
query_back a (Query.select_distinct t) e = refl
query_back a (Query.union_all t u) e = refl
query_back a (Query.except t u) e = refl
query_back a (Query.intersect t u) e = refl
query_back a (Query.recursive n t m) e = absurd (true≢false e)

-- ---- with numbers of 64 bits

fine_expressions : (a : Form) (es : List Expression) → AllByRecursion readable.IsShort es → AllByRecursion IsFine (map (expression_item a) es)
fine_expressions a [] h = tt
fine_expressions a (e ∷ es) h = (short_tree a e h.0, fine_expressions a es h.1)

pub fine_selected : (a : Form) (es : List Expression) → AllByRecursion readable.IsShort es → FineHead (selected a es)
fine_selected a [] h = (tt, tt)
fine_selected a (e ∷ es) h = (short_tree a e h.0, fine_expressions a es h.1)

fine_aggregate : (g : Aggregate) → IsShortAggregate g → IsFine (aggregate_item g)
fine_aggregate Aggregate.wrapped_count h = tt
fine_aggregate (Aggregate.wrapped_sum c) h = h
fine_aggregate (Aggregate.least c) h = h
fine_aggregate (Aggregate.greatest c) h = h

fine_keys : (ks : List ℕ) (gs : List Aggregate) → AllByRecursion (λ k. k < 2 ^ 64) ks → AllByRecursion IsShortAggregate gs → AllByRecursion IsFine (map key_item ks ++ map aggregate_item gs)
fine_keys [] [] h k = tt
fine_keys [] (g ∷ gs) h k = (fine_aggregate g k.0, fine_keys [] gs h k.1)
fine_keys (c ∷ ks) gs h k = (h.0, fine_keys ks gs h.1 k)

fine_grouping : (ks : List ℕ) (gs : List Aggregate) → AllByRecursion (λ k. k < 2 ^ 64) ks → AllByRecursion IsShortAggregate gs → FineHead (grouping ks gs)
fine_grouping [] gs h k = (tt, fine_keys [] gs h k)
fine_grouping (c ∷ ks) gs h k = (h.0, fine_keys ks gs h.1 k)

fine_parts : (a : Form) (given : ℕ) (q : Query) → IsShortQuery given q → FineHead (head_of a q) × IsThere given (table_of q) × FineTail given (tail_of a q)
fine_parts a given (Query.select es t) h = (fine_selected a es h.0, h.1, tt)
fine_parts a given (Query.select_where t c) h = (tt, h.0, short_search_tree a c h.1)
fine_parts a given (Query.select_join t u ps) h = (tt, h.0, (h.1, h.2))
fine_parts a given (Query.select_group ks as' t) h = (fine_grouping ks as' h.0 h.1, h.2, h.0)
fine_parts a given (Query.select_distinct t) h = (tt, h, tt)
fine_parts a given (Query.union_all t u) h = (tt, h.0, h.1)
fine_parts a given (Query.except t u) h = (tt, h.0, h.1)
fine_parts a given (Query.intersect t u) h = (tt, h.0, h.1)
fine_parts a given (Query.recursive n t m) h = (tt, h.1, tt)

-- ---- reading

parts_assoc : (h t l r : Text) → (h ++ (t ++ l)) ++ r ≡ h ++ (t ++ (l ++ r))
parts_assoc h t l r = simp append_assoc

query_same : (h h' : Head) (t t' : Table) (l l' : Tail) → h ≡ h' → t ≡ t' → l ≡ l' → query_of h t l ≡ query_of h' t' l'
query_same h h' t t' l l' e f g = ap (λ x. query_of x t l) e ∙ ap (λ x. query_of h' x l) f ∙ ap (λ x. query_of h' t' x) g

pub read_ordinary : (a : Form) (o : Epochs) (inputs : List Input) → AreNamed inputs → (v w : Widths) (n : ℕ) (q p : Query) (r s : Text) → is_recursive q ≡ false → is_recursive p ≡ false → IsShortQuery (length inputs) q → IsShortQuery (length inputs) p → Over r → Over s
    → query_text a o inputs v n q ++ r ≡ query_text a o inputs w n p ++ s → (said_query (arithmetic_of a) q ≡ said_query (arithmetic_of a) p) × (r ≡ s)
read_ordinary a o inputs named v w n q p r s b c f g h k e =
    let fq = fine_parts a (length inputs) q f in
    let fp = fine_parts a (length inputs) p g in
    let T : Text = table_text (dialect_of a) inputs (table_of q) in
    let U : Text = table_text (dialect_of a) inputs (table_of p) in
    let L : Text = tail_text a o inputs (tail_of a q) in
    let M : Text = tail_text a o inputs (tail_of a p) in
    let whole : head_text a o (head_of a q) ++ (T ++ (L ++ r)) ≡ head_text a o (head_of a p) ++ (U ++ (M ++ s)) =
    sym (parts_assoc (head_text a o (head_of a q)) T L r) ∙ ap (λ (t : Text). t ++ r) (parts_are a o inputs v n q b) ∙ e
    ∙ ap (λ (t : Text). t ++ s) (sym (parts_are a o inputs w n p c)) ∙ parts_assoc (head_text a o (head_of a p)) U M s in
    let head : (head_of a q ≡ head_of a p) × (T ++ (L ++ r) ≡ U ++ (M ++ s)) = read_head a o (head_of a q) (head_of a p) (T ++ (L ++ r)) (U ++ (M ++ s)) fq.0 fp.0 whole in
    let table : (table_of q ≡ table_of p) × (L ++ r ≡ M ++ s) = read_table a inputs named (table_of q) (table_of p) (L ++ r) (M ++ s) fq.1 fp.1 head.1 in
    let tail : (tail_of a q ≡ tail_of a p) × (r ≡ s) = read_tail a o inputs named (tail_of a q) (tail_of a p) r s fq.2 fp.2 h k table.1 in
    (sym (query_back a q b) ∙ query_same (head_of a q) (head_of a p) (table_of q) (table_of p) (tail_of a q) (tail_of a p) head.0 table.0 tail.0 ∙ query_back a p c, tail.1)
