-- Recursive tables read back, and so all queries.
use Rattle.std.proofs.Common.{◌≡◌, ℕ, zero, suc, ◌+◌, ◌%◌, ◌/◌, ◌<◌, ◌^◌, Bool, true, false, cond, not, nat_eq, nat_lt, if◌then◌else◌, ◌==◌, ne_eqb, List, [], ◌∷◌, ◌++◌, map, length, refl, sym, ap, ap₂, ◌∙◌, get_or, append_assoc, append-nil, arith, codes, decimal}
use Rattle.std.specs.List.{AllByRecursion, list_all}
use Rattle.std.proofs.lemmas.Bool.{true≢false, and_parts}
use Rattle.std.proofs.lemmas.Bool.Decides.{nat_tests}
use Rattle.std.specs.Fmt.{digits, digits_onto, digit_glyph}
use Rattle.semantics.specs.Query.{Pair, Input}
use Rattle.sql_meaning.specs.Script.{Table, Expression, Search, Term, Query}
use Rattle.sql_meaning.specs.WellFormed.{Widths, term_width}
use Rattle.sql.specs.Dialects.{dialect_of, arithmetic_of, quote}
use Rattle.sql.specs.Epochs.{epoch_text, join_word, inner_join_word}
use Rattle.sql.specs.Text.{column_text, comma_text, numbered, columns_text, continued, joined, expression_text, search_text, pair_text, quoted, table_text, alias_text, term_text, turns_text, union_text, recursive_text, query_text}
use Rattle.sql.specs.declared.form.Dialect.{Dialect}
use Rattle.sql.specs.declared.form.Dialect.TheVariants.{Postgres, Sqlite, Spark}
use Rattle.sql.specs.declared.form.Epochs.{Epochs}
use Rattle.sql.specs.declared.form.Epochs.TheVariants as epochs
use Rattle.sql.specs.declared.form.Form.{Form}
use Rattle.sql_reading.specs.Readable.{IsShort, IsShortSearch, IsShortPair, IsThere, IsShortTerm, IsShortQuery, AreNamed}
use Rattle.sql_reading.specs.Said.{said_expression, said_search, said_term, said_query}
use Rattle.sql_reading.proofs.PrefixWords.{Text, Stops, runs, cancel, read_decimal}
use Rattle.sql_reading.proofs.TreesReadBack.{read_tree, differ}
use Rattle.sql_reading.proofs.TreesOfExpressions.{search_tree, search_tree_is, back_search, back_search_tree, short_search_tree}
use Rattle.sql_reading.proofs.ListsReadBack.{Follows, Over, first_differs, ends_followed, read_joined, read_pair}
use Rattle.sql_reading.proofs.NumberedReadBack.{Close}
use Rattle.sql_reading.proofs.QueriesReadBack.{Head, head_text, FineHead, read_head, read_table, table_is, word_of, selected, selected_is, selected_back, fine_selected, ended, is_recursive, read_ordinary}

-- ---- columns in brackets, up to the bracket that closes

abbrev no_bracket : ℕ → Bool
no_bracket b = not (nat_eq b 41)

abbrev NoBracket : Text → Type 0
NoBracket t = list_all no_bracket t ≡ true

both_none : (t u : Text) → NoBracket t → NoBracket u → NoBracket (t ++ u)
both_none [] u h k = k
both_none (b ∷ t) u h k = let p = and_parts (no_bracket b) (list_all no_bracket t) h in rw p.0 (both_none t u p.1 k)

glyph : (d : ℕ) → no_bracket (digit_glyph false d) ≡ true
glyph d = by (nat_lt d 10)
  where
    by : (c : Bool) → no_bracket (if c then 48 + d else 87 + d) ≡ true
    by true = ap not (ne_eqb (48 + d) 41 (λ e. omega arith))
    by false = ap not (ne_eqb (87 + d) 41 (λ e. omega arith))

no_digits : (k n : ℕ) (acc : Text) → NoBracket acc → NoBracket (digits_onto k 10 false n acc)
no_digits zero n acc h = h
no_digits (suc k) n acc h = by (n / 10 == 0) (no_digits k (n / 10) (digit_glyph false (n % 10) ∷ acc) (rw (glyph (n % 10)) h))
  where
    by : (c : Bool) → NoBracket (digits_onto k 10 false (n / 10) (digit_glyph false (n % 10) ∷ acc)) → NoBracket (if c then digit_glyph false (n % 10) ∷ acc else digits_onto k 10 false (n / 10) (digit_glyph false (n % 10) ∷ acc))
    by true i = rw (glyph (n % 10)) h
    by false i = i

no_decimal : (n : ℕ) → NoBracket (decimal n)
unfolding digits
no_decimal n = no_digits 64 n [] refl

no_numbers : (w : ℕ) → NoBracket (numbered column_text w)
no_numbers zero = refl
no_numbers (suc w) = both_none (numbered column_text w) (comma_text w ++ column_text w) (no_numbers w) (both_none (comma_text w) (column_text w) (no_comma w) (no_decimal w))
  where
    no_comma : (k : ℕ) → NoBracket (comma_text k)
    no_comma zero = refl
    no_comma (suc k) = refl

no_columns : (o : Epochs) (w : ℕ) → NoBracket (columns_text o w)
no_columns epochs.One w = no_numbers w
no_columns epochs.Every w = no_numbers w

closes_run : (r : Text) → Close r → Stops no_bracket r
closes_run [] h = tt
closes_run (c ∷ r) h = rw h refl

-- a list of columns, and its bracket, whatever the numbers of columns
read_columns : (o : Epochs) (v w : ℕ) (r s : Text) → Close r → Close s → columns_text o v ++ r ≡ columns_text o w ++ s → r ≡ s
read_columns o v w r s h k e = (runs no_bracket (columns_text o v) (columns_text o w) r s (no_columns o v) (no_columns o w) (closes_run r h) (closes_run s k) e).1

read_alias : (o : Epochs) (k : Text) (v w : ℕ) (r s : Text) → Close r → Close s → alias_text o k v ++ r ≡ alias_text o k w ++ s → r ≡ s
read_alias o k v w r s h l e =
    read_columns o v w r s h l (cancel k (columns_text o v ++ r) (columns_text o w ++ s) (sym (append_assoc k (columns_text o v) r) ∙ e ∙ append_assoc k (columns_text o w) s))

-- ---- conditions and pairs before a bracket

read_search : (a : Form) (c d : Search) (r s : Text) → IsShortSearch c → IsShortSearch d → Close r → Close s → search_text a c ++ r ≡ search_text a d ++ s → (said_search (arithmetic_of a) c ≡ said_search (arithmetic_of a) d) × (r ≡ s)
read_search a c d r s f g h k e =
    let both = read_tree a (search_tree a c) (search_tree a d) (short_search_tree a c f) (short_search_tree a d g) r s (ends_followed r (Follows.close h)) (ends_followed s (Follows.close k))
    (ap (λ (t : Text). t ++ r) (search_tree_is a c) ∙ e ∙ ap (λ (t : Text). t ++ s) (sym (search_tree_is a d))) in
    (sym (back_search_tree a c) ∙ ap back_search both.0 ∙ back_search_tree a d, both.1)

no_pair : (p : Pair) (r t : Text) → IsShortPair p → Close r → r ≡ pair_text p ++ t → ⊥
no_pair p r t f h e = first_differs r (pair_text p ++ t) 41 h e refl

no_and : (r t : Text) → Close r → r ≡ codes " AND " ++ t → ⊥
no_and r t h e = first_differs r (codes " AND " ++ t) 41 h e refl

read_inner_pairs : (ps qs : List Pair) (r s : Text) → AllByRecursion IsShortPair ps → AllByRecursion IsShortPair qs → Close r → Close s
    → joined (codes " AND ") (map pair_text ps) ++ r ≡ joined (codes " AND ") (map pair_text qs) ++ s → (ps ≡ qs) × (r ≡ s)
read_inner_pairs = read_joined pair_text IsShortPair (codes " AND ") Follows Close read_pair (λ r h. Follows.close h) (λ r. Follows.space refl) no_and no_pair

-- ---- recursive terms

abbrev head_of : Form → Term → Head
head_of a Term.latest = Head.star
head_of a (Term.select es m) = selected a es
head_of a (Term.select_where m c) = Head.star
head_of a (Term.join_left m t ps) = Head.star
head_of a (Term.join_right t m ps) = Head.star

not_selected : (a : Form) (es : List Expression) → Head.star ≡ selected a es → ⊥
not_selected a [] e = cc
not_selected a (x ∷ es) e = cc

expressions_in : Query → List Expression
expressions_in (Query.select es t) = es
expressions_in (Query.select_where t c) = []
expressions_in (Query.select_join t u ps) = []
expressions_in (Query.select_group ks as' t) = []
expressions_in (Query.select_distinct t) = []
expressions_in (Query.union_all t u) = []
expressions_in (Query.except t u) = []
expressions_in (Query.intersect t u) = []
expressions_in (Query.recursive n t m) = []

selected_same : (a : Form) (es fs : List Expression) → selected a es ≡ selected a fs → map (said_expression (arithmetic_of a)) es ≡ map (said_expression (arithmetic_of a)) fs
unfolding expressions_in
selected_same a es fs e =
    ap expressions_in (sym (selected_back a es (Table.given 0)) ∙ ap (λ h. ended h (Table.given 0)) e ∙ selected_back a fs (Table.given 0))

-- ---- a bracket and a quote

quote_first : (d : Dialect) (x r : Text) → nat_eq (get_or (quoted d x ++ r) 0 0) 40 ≡ false
quote_first Postgres x r = refl
quote_first Sqlite x r = refl
quote_first Spark x r = refl

not_open : (d : Dialect) (x r t : Text) → quoted d x ++ r ≡ codes "(" ++ t → ⊥
not_open d x r t e = differ (nat_eq (get_or (codes "(" ++ t) 0 0) 40) refl (ap (λ z. nat_eq (get_or z 0 0) 40) (sym e) ∙ quote_first d x r)

-- what is said of a column list's name
alias_tells : (x y r s : Text) → (codes ") AS s (" ++ x) ++ r ≡ (codes ") AS l (" ++ y) ++ s → ⊥
alias_tells x y r s e = differ (nat_eq (get_or ((codes ") AS s (" ++ x) ++ r) 5 0) 115) refl (ap (λ z. nat_eq (get_or z 5 0) 115) e)

closes_word : (o : Epochs) (r : Text) → Close (inner_join_word o ++ r)
closes_word epochs.One r = refl
closes_word epochs.Every r = refl

three : (p q k r : Text) → (p ++ (q ++ k)) ++ r ≡ p ++ (q ++ (k ++ r))
three p q k r = simp append_assoc

select_parts : (p q l k r : Text) → (p ++ (q ++ (l ++ k))) ++ r ≡ p ++ (q ++ (l ++ (k ++ r)))
select_parts p q l k r = simp append_assoc

where_parts : (p q l k c r : Text) → (p ++ (q ++ (l ++ (k ++ c)))) ++ r ≡ p ++ (q ++ (l ++ (k ++ (c ++ r))))
where_parts p q l k c r = simp append_assoc

join_parts : (p q l k t j c r : Text) → (p ++ (q ++ (l ++ (k ++ (t ++ (j ++ c)))))) ++ r ≡ p ++ (q ++ (l ++ (k ++ (t ++ (j ++ (c ++ r))))))
join_parts p q l k t j c r = simp append_assoc

right_parts : (t k q l j c r : Text) → (t ++ (k ++ (q ++ (l ++ (j ++ c))))) ++ r ≡ t ++ (k ++ (q ++ (l ++ (j ++ (c ++ r)))))
right_parts t k q l j c r = simp append_assoc

module _ (a : Form) (o : Epochs) (inputs : List Input) (named : AreNamed inputs) (n : ℕ) (small : n < 2 ^ 64) where
  abbrev d : Dialect
  d = dialect_of a

  abbrev word : Table → Text
  word t = table_text d inputs t

  abbrev pairs : List Pair → Text
  pairs ps = joined (codes " AND ") (map pair_text ps)

  abbrev short : Term → Type 0
  short m = IsShortTerm (length inputs) m

  abbrev said : Term → Term
  said m = said_term (arithmetic_of a) m

  -- the text of a term, and what stands after its head, where tables have these widths
  module _ (v : Widths) (j : ℕ) where
    abbrev text : Term → Text
    text m = term_text a o inputs v n j m

    abbrev columns : Text → Term → Text
    columns k m = alias_text o k (term_width m j v)

    abbrev body : Term → Text
    body Term.latest = quoted d (decimal n)
    body (Term.select es m) = codes "(" ++ (text m ++ (columns (codes ") AS s (") m ++ codes ")"))
    body (Term.select_where m c) = codes "(" ++ (text m ++ (columns (codes ") AS s (") m ++ (codes ") WHERE " ++ search_text a c)))
    body (Term.join_left m t ps) = codes "(" ++ (text m ++ (columns (codes ") AS l (") m ++ (codes ") INNER JOIN " ++ (word t ++ (join_word o ++ pairs ps)))))
    body (Term.join_right t m ps) = word t ++ (codes " AS l INNER JOIN (" ++ (text m ++ (columns (codes ") AS r (") m ++ (inner_join_word o ++ pairs ps))))

    text_is : (m : Term) → head_text a o (head_of a m) ++ body m ≡ text m
    text_is Term.latest = refl
    text_is (Term.select es m) = ap (λ (t : Text). head_text a o (selected a es) ++ t) (sym (append-nil (body (Term.select es m)))) ∙ selected_is a o es (body (Term.select es m))
    text_is (Term.select_where m c) = refl
    text_is (Term.join_left m t ps) = refl
    text_is (Term.join_right t m ps) = refl

  fine_head : (m : Term) → short m → FineHead (head_of a m)
  fine_head Term.latest h = tt
  fine_head (Term.select es m) h = fine_selected a es h.0
  fine_head (Term.select_where m c) h = tt
  fine_head (Term.join_left m t ps) h = tt
  fine_head (Term.join_right t m ps) h = tt

  -- a table's name and a subquery
  not_opened : (t : Table) (r x : Text) → word t ++ r ≡ codes "(" ++ x → ⊥
  not_opened t r x e = not_open d (word_of inputs t) r x (ap (λ (z : Text). z ++ r) (sym (table_is d inputs t)) ∙ e)

  -- the recursive table and a join with a subquery
  not_joined : (t : Table) (r x : Text) → IsThere (length inputs) t → Close r → quoted d (decimal n) ++ r ≡ word t ++ (codes " AS l INNER JOIN (" ++ x) → ⊥
  not_joined t r x h k e = first_differs r (codes " AS l INNER JOIN (" ++ x) 41 k (read_table a inputs named (Table.made n) t r (codes " AS l INNER JOIN (" ++ x) small h e).1 refl

  module _ (v w : Widths) (j k : ℕ) where
    heads : (m m' : Term) (r s : Text) → short m → short m' → text v j m ++ r ≡ text w k m' ++ s → (head_of a m ≡ head_of a m') × (body v j m ++ r ≡ body w k m' ++ s)
    heads m m' r s f g e =
        read_head a o (head_of a m) (head_of a m') (body v j m ++ r) (body w k m' ++ s) (fine_head m f) (fine_head m' g)
        (sym (append_assoc (head_text a o (head_of a m)) (body v j m) r) ∙ ap (λ (t : Text). t ++ r) (text_is v j m) ∙ e
        ∙ ap (λ (t : Text). t ++ s) (sym (text_is w k m')) ∙ append_assoc (head_text a o (head_of a m')) (body w k m') s)

    abbrev Reads : Term → Term → Text → Text → Type 0
    Reads m m' r s = (said m ≡ said m') × (r ≡ s)

    -- the parts of two joins whose left sides are subqueries
    left_end : (m m' : Term) (t u : Table) (ps qs : List Pair) (r s : Text) → short (Term.join_left m t ps) → short (Term.join_left m' u qs) → Close r → Close s → said m ≡ said m' →
        columns v j (codes ") AS l (") m ++ (codes ") INNER JOIN " ++ (word t ++ (join_word o ++ (pairs ps ++ r)))) ≡ columns w k (codes ") AS l (") m' ++ (codes ") INNER JOIN " ++ (word u ++ (join_word o ++ (pairs qs ++ s)))) →
        Reads (Term.join_left m t ps) (Term.join_left m' u qs) r s
    left_end m m' t u ps qs r s f g h l i e =
        let J : Text = join_word o ++ (pairs ps ++ r) in
        let K : Text = join_word o ++ (pairs qs ++ s) in
        let named_columns : codes ") INNER JOIN " ++ (word t ++ J) ≡ codes ") INNER JOIN " ++ (word u ++ K) =
        read_alias o (codes ") AS l (") (term_width m j v) (term_width m' k w) (codes ") INNER JOIN " ++ (word t ++ J)) (codes ") INNER JOIN " ++ (word u ++ K)) refl refl e in
        let table : (t ≡ u) × (J ≡ K) = read_table a inputs named t u J K f.1 g.1 (cancel (codes ") INNER JOIN ") (word t ++ J) (word u ++ K) named_columns) in
        let ends : (ps ≡ qs) × (r ≡ s) = read_inner_pairs ps qs r s f.2 g.2 h l (cancel (join_word o) (pairs ps ++ r) (pairs qs ++ s) table.1) in
        (ap (λ x. Term.join_left x t ps) i ∙ ap₂ (λ x y. Term.join_left (said m') x y) table.0 ends.0, ends.1)

    -- the parts of two joins whose right sides are subqueries
    right_end : (m m' : Term) (t u : Table) (ps qs : List Pair) (r s : Text) → short (Term.join_right t m ps) → short (Term.join_right u m' qs) → Close r → Close s → t ≡ u → said m ≡ said m' →
        columns v j (codes ") AS r (") m ++ (inner_join_word o ++ (pairs ps ++ r)) ≡ columns w k (codes ") AS r (") m' ++ (inner_join_word o ++ (pairs qs ++ s)) →
        Reads (Term.join_right t m ps) (Term.join_right u m' qs) r s
    right_end m m' t u ps qs r s f g h l b i e =
        let J : Text = inner_join_word o ++ (pairs ps ++ r) in
        let K : Text = inner_join_word o ++ (pairs qs ++ s) in
        let named_columns : J ≡ K = read_alias o (codes ") AS r (") (term_width m j v) (term_width m' k w) J K (closes_word o (pairs ps ++ r)) (closes_word o (pairs qs ++ s)) e in
        let ends : (ps ≡ qs) × (r ≡ s) = read_inner_pairs ps qs r s f.2 g.2 h l (cancel (inner_join_word o) (pairs ps ++ r) (pairs qs ++ s) named_columns) in
        (ap (λ x. Term.join_right x (said m) ps) b ∙ ap₂ (λ x y. Term.join_right u x y) i ends.0, ends.1)

    read_body : (m m' : Term) (r s : Text) → short m → short m' → Close r → Close s → head_of a m ≡ head_of a m' → body v j m ++ r ≡ body w k m' ++ s → Reads m m' r s
    read_body Term.latest Term.latest r s f g h l i e = (refl, cancel (quoted d (decimal n)) r s e)
    read_body Term.latest (Term.select es m) r s f g h l i e = absurd (not_selected a es i)
    read_body Term.latest (Term.select_where m c) r s f g h l i e = absurd (not_open d (decimal n) r _ (e ∙ where_parts (codes "(") (text w k m) (columns w k (codes ") AS s (") m) (codes ") WHERE ") (search_text a c) s))
    read_body Term.latest (Term.join_left m t ps) r s f g h l i e =
        absurd (not_open d (decimal n) r _ (e ∙ join_parts (codes "(") (text w k m) (columns w k (codes ") AS l (") m) (codes ") INNER JOIN ") (word t) (join_word o) (pairs ps) s))
    read_body Term.latest (Term.join_right t m ps) r s f g h l i e =
        absurd (not_joined t r _ g.0 h (e ∙ right_parts (word t) (codes " AS l INNER JOIN (") (text w k m) (columns w k (codes ") AS r (") m) (inner_join_word o) (pairs ps) s))
    read_body (Term.select es m) Term.latest r s f g h l i e = absurd (not_selected a es (sym i))
    read_body (Term.select es m) (Term.select fs m') r s f g h l i e =
        let X : Text = columns v j (codes ") AS s (") m ++ (codes ")" ++ r) in
        let Y : Text = columns w k (codes ") AS s (") m' ++ (codes ")" ++ s) in
        let whole : codes "(" ++ (text v j m ++ X) ≡ codes "(" ++ (text w k m' ++ Y) =
        sym (select_parts (codes "(") (text v j m) (columns v j (codes ") AS s (") m) (codes ")") r) ∙ e ∙ select_parts (codes "(") (text w k m') (columns w k (codes ") AS s (") m') (codes ")") s in
        let opened = heads m m' X Y f.1 g.1 (cancel (codes "(") (text v j m ++ X) (text w k m' ++ Y) whole) in
        let inner = read_body m m' X Y f.1 g.1 refl refl opened.0 opened.1 in
        (ap₂ Term.select (selected_same a es fs i) inner.0, cancel (codes ")") r s (read_alias o (codes ") AS s (") (term_width m j v) (term_width m' k w) (codes ")" ++ r) (codes ")" ++ s) refl refl inner.1))
    read_body (Term.select es m) (Term.select_where m' c) r s f g h l i e = absurd (not_selected a es (sym i))
    read_body (Term.select es m) (Term.join_left m' t ps) r s f g h l i e = absurd (not_selected a es (sym i))
    read_body (Term.select es m) (Term.join_right t m' ps) r s f g h l i e = absurd (not_selected a es (sym i))
    read_body (Term.select_where m c) Term.latest r s f g h l i e =
        absurd (not_open d (decimal n) s _ (sym e ∙ where_parts (codes "(") (text v j m) (columns v j (codes ") AS s (") m) (codes ") WHERE ") (search_text a c) r))
    read_body (Term.select_where m c) (Term.select es m') r s f g h l i e = absurd (not_selected a es i)
    read_body (Term.select_where m c) (Term.select_where m' c') r s f g h l i e =
        let C : Text = codes ") WHERE " ++ (search_text a c ++ r) in
        let D : Text = codes ") WHERE " ++ (search_text a c' ++ s) in
        let X : Text = columns v j (codes ") AS s (") m ++ C in
        let Y : Text = columns w k (codes ") AS s (") m' ++ D in
        let whole : codes "(" ++ (text v j m ++ X) ≡ codes "(" ++ (text w k m' ++ Y) =
        sym (where_parts (codes "(") (text v j m) (columns v j (codes ") AS s (") m) (codes ") WHERE ") (search_text a c) r) ∙ e
        ∙ where_parts (codes "(") (text w k m') (columns w k (codes ") AS s (") m') (codes ") WHERE ") (search_text a c') s in
        let opened = heads m m' X Y f.0 g.0 (cancel (codes "(") (text v j m ++ X) (text w k m' ++ Y) whole) in
        let inner = read_body m m' X Y f.0 g.0 refl refl opened.0 opened.1 in
        let ends = read_search a c c' r s f.1 g.1 h l (cancel (codes ") WHERE ") (search_text a c ++ r) (search_text a c' ++ s) (read_alias o (codes ") AS s (") (term_width m j v) (term_width m' k w) C D refl refl inner.1)) in
        (ap₂ Term.select_where inner.0 ends.0, ends.1)
    read_body (Term.select_where m c) (Term.join_left m' t ps) r s f g h l i e =
        let X : Text = columns v j (codes ") AS s (") m ++ (codes ") WHERE " ++ (search_text a c ++ r)) in
        let Y : Text = columns w k (codes ") AS l (") m' ++ (codes ") INNER JOIN " ++ (word t ++ (join_word o ++ (pairs ps ++ s)))) in
        let whole : codes "(" ++ (text v j m ++ X) ≡ codes "(" ++ (text w k m' ++ Y) =
        sym (where_parts (codes "(") (text v j m) (columns v j (codes ") AS s (") m) (codes ") WHERE ") (search_text a c) r) ∙ e
        ∙ join_parts (codes "(") (text w k m') (columns w k (codes ") AS l (") m') (codes ") INNER JOIN ") (word t) (join_word o) (pairs ps) s in
        let opened = heads m m' X Y f.0 g.0 (cancel (codes "(") (text v j m ++ X) (text w k m' ++ Y) whole) in
        absurd (alias_tells (columns_text o (term_width m j v)) (columns_text o (term_width m' k w)) (codes ") WHERE " ++ (search_text a c ++ r)) (codes ") INNER JOIN " ++ (word t ++ (join_word o ++ (pairs ps ++ s)))) (read_body m m' X Y f.0 g.0 refl refl opened.0 opened.1).1)
    read_body (Term.select_where m c) (Term.join_right t m' ps) r s f g h l i e =
        absurd (not_opened t _ _ (sym (right_parts (word t) (codes " AS l INNER JOIN (") (text w k m') (columns w k (codes ") AS r (") m') (inner_join_word o) (pairs ps) s) ∙ sym e
        ∙ where_parts (codes "(") (text v j m) (columns v j (codes ") AS s (") m) (codes ") WHERE ") (search_text a c) r))
    read_body (Term.join_left m t ps) Term.latest r s f g h l i e =
        absurd (not_open d (decimal n) s _ (sym e ∙ join_parts (codes "(") (text v j m) (columns v j (codes ") AS l (") m) (codes ") INNER JOIN ") (word t) (join_word o) (pairs ps) r))
    read_body (Term.join_left m t ps) (Term.select es m') r s f g h l i e = absurd (not_selected a es i)
    read_body (Term.join_left m t ps) (Term.select_where m' c) r s f g h l i e =
        let X : Text = columns v j (codes ") AS l (") m ++ (codes ") INNER JOIN " ++ (word t ++ (join_word o ++ (pairs ps ++ r)))) in
        let Y : Text = columns w k (codes ") AS s (") m' ++ (codes ") WHERE " ++ (search_text a c ++ s)) in
        let whole : codes "(" ++ (text v j m ++ X) ≡ codes "(" ++ (text w k m' ++ Y) =
        sym (join_parts (codes "(") (text v j m) (columns v j (codes ") AS l (") m) (codes ") INNER JOIN ") (word t) (join_word o) (pairs ps) r) ∙ e
        ∙ where_parts (codes "(") (text w k m') (columns w k (codes ") AS s (") m') (codes ") WHERE ") (search_text a c) s in
        let opened = heads m m' X Y f.0 g.0 (cancel (codes "(") (text v j m ++ X) (text w k m' ++ Y) whole) in
        absurd (alias_tells (columns_text o (term_width m' k w)) (columns_text o (term_width m j v)) (codes ") WHERE " ++ (search_text a c ++ s)) (codes ") INNER JOIN " ++ (word t ++ (join_word o ++ (pairs ps ++ r)))) (sym (read_body m m' X Y f.0 g.0 refl refl opened.0 opened.1).1))
    read_body (Term.join_left m t ps) (Term.join_left m' u qs) r s f g h l i e =
        let X : Text = columns v j (codes ") AS l (") m ++ (codes ") INNER JOIN " ++ (word t ++ (join_word o ++ (pairs ps ++ r)))) in
        let Y : Text = columns w k (codes ") AS l (") m' ++ (codes ") INNER JOIN " ++ (word u ++ (join_word o ++ (pairs qs ++ s)))) in
        let whole : codes "(" ++ (text v j m ++ X) ≡ codes "(" ++ (text w k m' ++ Y) =
        sym (join_parts (codes "(") (text v j m) (columns v j (codes ") AS l (") m) (codes ") INNER JOIN ") (word t) (join_word o) (pairs ps) r) ∙ e
        ∙ join_parts (codes "(") (text w k m') (columns w k (codes ") AS l (") m') (codes ") INNER JOIN ") (word u) (join_word o) (pairs qs) s in
        let opened = heads m m' X Y f.0 g.0 (cancel (codes "(") (text v j m ++ X) (text w k m' ++ Y) whole) in
        let inner = read_body m m' X Y f.0 g.0 refl refl opened.0 opened.1 in
        left_end m m' t u ps qs r s f g h l inner.0 inner.1
    read_body (Term.join_left m t ps) (Term.join_right u m' qs) r s f g h l i e =
        absurd (not_opened u _ _ (sym (right_parts (word u) (codes " AS l INNER JOIN (") (text w k m') (columns w k (codes ") AS r (") m') (inner_join_word o) (pairs qs) s) ∙ sym e
        ∙ join_parts (codes "(") (text v j m) (columns v j (codes ") AS l (") m) (codes ") INNER JOIN ") (word t) (join_word o) (pairs ps) r))
    read_body (Term.join_right t m ps) Term.latest r s f g h l i e =
        absurd (not_joined t s _ f.0 l (sym e ∙ right_parts (word t) (codes " AS l INNER JOIN (") (text v j m) (columns v j (codes ") AS r (") m) (inner_join_word o) (pairs ps) r))
    read_body (Term.join_right t m ps) (Term.select es m') r s f g h l i e = absurd (not_selected a es i)
    read_body (Term.join_right t m ps) (Term.select_where m' c) r s f g h l i e =
        absurd (not_opened t _ _ (sym (right_parts (word t) (codes " AS l INNER JOIN (") (text v j m) (columns v j (codes ") AS r (") m) (inner_join_word o) (pairs ps) r) ∙ e
        ∙ where_parts (codes "(") (text w k m') (columns w k (codes ") AS s (") m') (codes ") WHERE ") (search_text a c) s))
    read_body (Term.join_right t m ps) (Term.join_left m' u qs) r s f g h l i e =
        absurd (not_opened t _ _ (sym (right_parts (word t) (codes " AS l INNER JOIN (") (text v j m) (columns v j (codes ") AS r (") m) (inner_join_word o) (pairs ps) r) ∙ e
        ∙ join_parts (codes "(") (text w k m') (columns w k (codes ") AS l (") m') (codes ") INNER JOIN ") (word u) (join_word o) (pairs qs) s))
    read_body (Term.join_right t m ps) (Term.join_right u m' qs) r s f g h l i e =
        let X : Text = columns v j (codes ") AS r (") m ++ (inner_join_word o ++ (pairs ps ++ r)) in
        let Y : Text = columns w k (codes ") AS r (") m' ++ (inner_join_word o ++ (pairs qs ++ s)) in
        let J : Text = codes " AS l INNER JOIN (" in
        let whole : word t ++ (J ++ (text v j m ++ X)) ≡ word u ++ (J ++ (text w k m' ++ Y)) =
        sym (right_parts (word t) J (text v j m) (columns v j (codes ") AS r (") m) (inner_join_word o) (pairs ps) r) ∙ e
        ∙ right_parts (word u) J (text w k m') (columns w k (codes ") AS r (") m') (inner_join_word o) (pairs qs) s in
        let table = read_table a inputs named t u (J ++ (text v j m ++ X)) (J ++ (text w k m' ++ Y)) f.0 g.0 whole in
        let opened = heads m m' X Y f.1 g.1 (cancel J (text v j m ++ X) (text w k m' ++ Y) table.1) in
        let inner = read_body m m' X Y f.1 g.1 refl refl opened.0 opened.1 in
        right_end m m' t u ps qs r s f g h l table.0 inner.0 inner.1

    read_term : (m m' : Term) (r s : Text) → short m → short m' → Close r → Close s → text v j m ++ r ≡ text w k m' ++ s → Reads m m' r s
    read_term m m' r s f g h l e = let opened = heads m m' r s f g e in read_body m m' r s f g h l opened.0 opened.1

-- ---- recursive tables

union_parts : (p t u m b q r : Text) → (p ++ (t ++ (u ++ (m ++ (b ++ q))))) ++ r ≡ p ++ (t ++ (u ++ (m ++ (b ++ (q ++ r)))))
union_parts p t u m b q r = simp append_assoc

recursive_parts : (p k l w q b c u r : Text) → ((p ++ (k ++ l)) ++ (w ++ (q ++ (b ++ (c ++ u))))) ++ r ≡ p ++ (k ++ (l ++ (w ++ (q ++ (b ++ (c ++ (u ++ r)))))))
recursive_parts p k l w q b c u r = simp append_assoc

module _ (a : Form) (o : Epochs) (inputs : List Input) (named : AreNamed inputs) (n : ℕ) (small : n < 2 ^ 64) (v w : Widths) where
  read_union : (t t' : Table) (m m' : Term) (r s : Text) → IsThere (length inputs) t → IsThere (length inputs) t' → IsShortTerm (length inputs) m → IsShortTerm (length inputs) m' →
      union_text a o inputs v n t m ++ r ≡ union_text a o inputs w n t' m' ++ s → (t ≡ t') × (said_term (arithmetic_of a) m ≡ said_term (arithmetic_of a) m') × (r ≡ s)
  read_union t t' m m' r s f f' g g' e =
      let P : Text = codes ") AS (SELECT * FROM " in
      let U : Text = codes " UNION " in
      let B : Text = codes ") SELECT * FROM " in
      let Q : Text = quoted (dialect_of a) (decimal n) in
      let M : Text = term_text a o inputs v n (v t) m in
      let N : Text = term_text a o inputs w n (w t') m' in
      let T : Text = table_text (dialect_of a) inputs t in
      let T' : Text = table_text (dialect_of a) inputs t' in
      let X : Text = B ++ (Q ++ r) in
      let Y : Text = B ++ (Q ++ s) in
      let whole : P ++ (T ++ (U ++ (M ++ X))) ≡ P ++ (T' ++ (U ++ (N ++ Y))) = sym (union_parts P T U M B Q r) ∙ e ∙ union_parts P T' U N B Q s in
      let table = read_table a inputs named t t' (U ++ (M ++ X)) (U ++ (N ++ Y)) f f' (cancel P (T ++ (U ++ (M ++ X))) (T' ++ (U ++ (N ++ Y))) whole) in
      let term = read_term a o inputs named n small v w (v t) (w t') m m' X Y g g' refl refl (cancel U (M ++ X) (N ++ Y) table.1) in
      (table.0, term.0, cancel Q r s (cancel B (Q ++ r) (Q ++ s) term.1))

  read_recursive : (k k' : ℕ) (t t' : Table) (m m' : Term) (r s : Text) → IsShortQuery (length inputs) (Query.recursive k t m) → IsShortQuery (length inputs) (Query.recursive k' t' m') →
      recursive_text a o inputs v n k t m ++ r ≡ recursive_text a o inputs w n k' t' m' ++ s → (said_query (arithmetic_of a) (Query.recursive k t m) ≡ said_query (arithmetic_of a) (Query.recursive k' t' m')) × (r ≡ s)
  read_recursive k k' t t' m m' r s f g e =
      let P : Text = codes "-- The answer is the query's where nothing is new after " in
      let L : Text = codes " turns.\n" in
      let W : Text = codes "WITH RECURSIVE " in
      let Q : Text = quoted (dialect_of a) (decimal n) in
      let B : Text = codes " (" in
      let C : Text = columns_text o (v t) in
      let C' : Text = columns_text o (w t') in
      let U : Text = union_text a o inputs v n t m in
      let U' : Text = union_text a o inputs w n t' m' in
      let X : Text = L ++ (W ++ (Q ++ (B ++ (C ++ (U ++ r))))) in
      let Y : Text = L ++ (W ++ (Q ++ (B ++ (C' ++ (U' ++ s))))) in
      let whole : P ++ (decimal k ++ X) ≡ P ++ (decimal k' ++ Y) = sym (recursive_parts P (decimal k) L W Q B C U r) ∙ e ∙ recursive_parts P (decimal k') L W Q B C' U' s in
      let turns : (k ≡ k') × (X ≡ Y) = read_decimal k k' X Y f.0 g.0 refl refl (cancel P (decimal k ++ X) (decimal k' ++ Y) whole) in
      let columns : C ++ (U ++ r) ≡ C' ++ (U' ++ s) =
      cancel B (C ++ (U ++ r)) (C' ++ (U' ++ s)) (cancel Q (B ++ (C ++ (U ++ r))) (B ++ (C' ++ (U' ++ s))) (cancel W (Q ++ (B ++ (C ++ (U ++ r)))) (Q ++ (B ++ (C' ++ (U' ++ s)))) (cancel L (W ++ (Q ++ (B ++ (C ++ (U ++ r))))) (W ++ (Q ++ (B ++ (C' ++ (U' ++ s))))) turns.1))) in
      let union = read_union t t' m m' r s f.1 g.1 f.2 g.2 (read_columns o (v t) (w t') (U ++ r) (U' ++ s) refl refl columns) in
      (ap (λ x. Query.recursive x t (said_term (arithmetic_of a) m)) turns.0 ∙ ap₂ (λ x y. Query.recursive k' x y) union.0 union.1, union.2)

-- ---- all queries

dash_first : (a : Form) (o : Epochs) (inputs : List Input) (v : Widths) (n : ℕ) (q : Query) (r : Text) → nat_eq (get_or (query_text a o inputs v n q ++ r) 0 0) 45 ≡ is_recursive q
dash_first a o inputs v n (Query.select es t) r = refl
dash_first a o inputs v n (Query.select_where t c) r = refl
dash_first a o inputs v n (Query.select_join t u ps) r = refl
dash_first a o inputs v n (Query.select_group ks as' t) r = refl
dash_first a o inputs v n (Query.select_distinct t) r = refl
dash_first a o inputs v n (Query.union_all t u) r = refl
dash_first a o inputs v n (Query.except t u) r = refl
dash_first a o inputs v n (Query.intersect t u) r = refl
dash_first a o inputs v n (Query.recursive k t m) r = refl

pub read_query : (a : Form) (o : Epochs) (inputs : List Input) → AreNamed inputs → (v w : Widths) (n : ℕ) → n < 2 ^ 64 → (q p : Query) (r s : Text) → IsShortQuery (length inputs) q → IsShortQuery (length inputs) p → Over r → Over s
    → query_text a o inputs v n q ++ r ≡ query_text a o inputs w n p ++ s → (said_query (arithmetic_of a) q ≡ said_query (arithmetic_of a) p) × (r ≡ s)
read_query a o inputs named v w n small q p r s f g h k e =
    by q p (is_recursive q) (is_recursive p) refl refl (sym (dash_first a o inputs v n q r) ∙ ap (λ t. nat_eq (get_or t 0 0) 45) e ∙ dash_first a o inputs w n p s) f g e
  where
    recursions : (q p : Query) → is_recursive q ≡ true → is_recursive p ≡ true → IsShortQuery (length inputs) q → IsShortQuery (length inputs) p → query_text a o inputs v n q ++ r ≡ query_text a o inputs w n p ++ s
        → (said_query (arithmetic_of a) q ≡ said_query (arithmetic_of a) p) × (r ≡ s)
    recursions (Query.recursive i t m) (Query.recursive i' t' m') b c f g e = read_recursive a o inputs named n small v w i i' t t' m m' r s f g e
    recursions q p b c f g e = absurd cc

    by : (q p : Query) (b c : Bool) → is_recursive q ≡ b → is_recursive p ≡ c → is_recursive q ≡ is_recursive p → IsShortQuery (length inputs) q → IsShortQuery (length inputs) p → query_text a o inputs v n q ++ r ≡ query_text a o inputs w n p ++ s
        → (said_query (arithmetic_of a) q ≡ said_query (arithmetic_of a) p) × (r ≡ s)
    by q p true true x y z f g e = recursions q p x y f g e
    by q p false false x y z f g e = read_ordinary a o inputs named v w n q p r s x y f g h k e
    by q p true false x y z f g e = absurd (true≢false (sym x ∙ z ∙ y))
    by q p false true x y z f g e = absurd (true≢false (sym y ∙ sym z ∙ x))
