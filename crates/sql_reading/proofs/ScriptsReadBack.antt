-- Scripts read back.
use Rattle.std.proofs.Common.{◌≡◌, ℕ, ◌<◌, ◌^◌, Bool, true, false, cond, nat_eq, ◌||◌, List, [], ◌∷◌, ◌++◌, map, length, refl, sym, ap, ap₂, subst, ◌∙◌, get_or, append_assoc, append-nil, codes, decimal, Option}
use Rattle.std.specs.List.{AllByRecursion}
use Rattle.std.proofs.lemmas.Fmt.{decimal_injective}
use Rattle.record_core.specs.Names.{is_name_byte, IsName}
use Rattle.semantics.specs.Query.{Name, Input, Output}
use Rattle.sql_meaning.specs.Script.{Table, Expression, Search, Term, Query}
use Rattle.sql_meaning.specs.PlainScript.{unwrapped, unwrapped_search}
use Rattle.sql_meaning.specs.Wanted.{is_in, reads}
use Rattle.sql_meaning.specs.WellFormed.{Widths}
use Rattle.sql.specs.Asked.{is_asked}
use Rattle.sql.specs.Dialects.{dialect_of, arithmetic_of, database_name, promise_text}
use Rattle.sql.specs.Epochs.{reads_text, places}
use Rattle.sql_reading.specs.Readable.{IsShort, IsShortSearch, IsThere, IsShortTerm, IsShortQuery, AreNamed}
use Rattle.sql_reading.specs.Said.{said_expression, said_search, said_term, said_query, Made, Result, made_tables, asked_results}
use Rattle.sql.specs.Text.{quoted, table_text, numbered, made_columns_text, query_text, keep_text, made_word, made_fill, made_keep, create_text, tables_text, place_text, title_text, names_text, result_text, results_text, declared_columns_text, declaration_text, inputs_text}
use Rattle.sql.specs.declared.form.Arithmetic.{Arithmetic}
use Rattle.sql.specs.declared.form.Arithmetic.TheVariants.{Plain, Wrapped}
use Rattle.sql.specs.declared.form.Dialect.{Dialect}
use Rattle.sql.specs.declared.form.Dialect.TheVariants.{Postgres, Sqlite, Spark}
use Rattle.sql.specs.declared.form.Epochs.{Epochs}
use Rattle.sql.specs.declared.form.Epochs.TheVariants as epochs
use Rattle.sql.specs.declared.form.Form.{Form}
use Rattle.sql.specs.declared.form.Form.TheVariants as form
use Rattle.sql.specs.declared.form.Layout.{Layout}
use Rattle.sql.specs.declared.form.Layout.TheVariants.{Script, Statement}
use Rattle.sql.specs.declared.form.Making.{Making}
use Rattle.sql.specs.declared.form.Making.TheVariants.{Alone, Within}
use Rattle.sql_reading.proofs.PrefixWords.{Text, runs, cancel, both_ways}
use Rattle.sql_reading.proofs.ListsReadBack.{Over}
use Rattle.sql_reading.proofs.QueriesReadBack.{read_quoted, number_in_name, read_table}
use Rattle.sql_reading.proofs.RecursionsReadBack.{read_query}
use Rattle.sql_reading.proofs.NumberedReadBack.{Close, read_made_columns, read_declared_columns, read_places}

-- ---- numbers of 64 bits, said and written

short_unwrapped : (e : Expression) → IsShort (unwrapped e) → IsShort e
short_unwrapped (Expression.column c) h = h
short_unwrapped (Expression.number z) h = h
short_unwrapped (Expression.sum d e) h = (short_unwrapped d h.0, short_unwrapped e h.1)
short_unwrapped (Expression.difference d e) h = (short_unwrapped d h.0, short_unwrapped e h.1)
short_unwrapped (Expression.product d e) h = (short_unwrapped d h.0, short_unwrapped e h.1)
short_unwrapped (Expression.opposite e) h = short_unwrapped e h
short_unwrapped (Expression.wrapped e) h = short_unwrapped e h

short_said : (m : Arithmetic) (e : Expression) → IsShort (said_expression m e) → IsShort e
short_said Plain e h = short_unwrapped e h
short_said Wrapped e h = h

short_list : (m : Arithmetic) (es : List Expression) → AllByRecursion IsShort (map (said_expression m) es) → AllByRecursion IsShort es
short_list m [] h = tt
short_list m (e ∷ es) h = (short_said m e h.0, short_list m es h.1)

short_unwrapped_search : (c : Search) → IsShortSearch (unwrapped_search c) → IsShortSearch c
short_unwrapped_search (Search.compare o d e) h = (short_unwrapped d h.0, short_unwrapped e h.1)
short_unwrapped_search (Search.both c d) h = (short_unwrapped_search c h.0, short_unwrapped_search d h.1)
short_unwrapped_search (Search.either c d) h = (short_unwrapped_search c h.0, short_unwrapped_search d h.1)
short_unwrapped_search (Search.no c) h = short_unwrapped_search c h

short_said_search : (m : Arithmetic) (c : Search) → IsShortSearch (said_search m c) → IsShortSearch c
short_said_search Plain c h = short_unwrapped_search c h
short_said_search Wrapped c h = h

short_term : (m : Arithmetic) (given : ℕ) (t : Term) → IsShortTerm given (said_term m t) → IsShortTerm given t
short_term m given Term.latest h = tt
short_term m given (Term.select es t) h = (short_list m es h.0, short_term m given t h.1)
short_term m given (Term.select_where t c) h = (short_term m given t h.0, short_said_search m c h.1)
short_term m given (Term.join_left t u ps) h = (short_term m given t h.0, h.1, h.2)
short_term m given (Term.join_right u t ps) h = (h.0, short_term m given t h.1, h.2)

pub short_query : (m : Arithmetic) (given : ℕ) (q : Query) → IsShortQuery given (said_query m q) → IsShortQuery given q
short_query m given (Query.select es t) h = (short_list m es h.0, h.1)
short_query m given (Query.select_where t c) h = (h.0, short_said_search m c h.1)
short_query m given (Query.select_join t u ps) h = h
short_query m given (Query.select_group ks as' t) h = h
short_query m given (Query.select_distinct t) h = h
short_query m given (Query.union_all t u) h = h
short_query m given (Query.except t u) h = h
short_query m given (Query.intersect t u) h = h
short_query m given (Query.recursive n t u) h = (h.0, h.1, short_term m given u h.2)

-- ---- given tables

declaration_assoc : (k q o n c r : Text) → (k ++ (q ++ (o ++ (n ++ c)))) ++ r ≡ k ++ (q ++ (o ++ (n ++ (c ++ r))))
declaration_assoc k q o n c r = simp append_assoc

input_same : (x y : Input) → x.name ≡ y.name → x.arity ≡ y.arity → x ≡ y
input_same x y e f = ap₂ (λ (n : Name) (k : ℕ). record { name = n; arity = k }) e f

abbrev Fits : Input → Type 0
Fits a = IsName a.name × (a.arity < 2 ^ 64)

read_declaration : (d : Dialect) (z : Epochs) (x y : Input) (r s : Text) → Fits x → Fits y → declaration_text d z x ++ r ≡ declaration_text d z y ++ s → (x ≡ y) × (r ≡ s)
read_declaration d z x y r s f g e =
    let k : Text = codes "--   CREATE TABLE " in
    let o : Text = codes " (" in
    let c : Text = codes ");\n" in
    let X : Text = declared_columns_text z x.arity ++ (c ++ r) in
    let Y : Text = declared_columns_text z y.arity ++ (c ++ s) in
    let whole : k ++ (quoted d x.name ++ (o ++ X)) ≡ k ++ (quoted d y.name ++ (o ++ Y)) =
    sym (declaration_assoc k (quoted d x.name) o (declared_columns_text z x.arity) c r) ∙ e ∙ declaration_assoc k (quoted d y.name) o (declared_columns_text z y.arity) c s in
    let name : (x.name ≡ y.name) × (o ++ X ≡ o ++ Y) =
    read_quoted d x.name y.name (o ++ X) (o ++ Y) f.0.goes_on g.0.goes_on (cancel k (quoted d x.name ++ (o ++ X)) (quoted d y.name ++ (o ++ Y)) whole) in
    let arity : (x.arity ≡ y.arity) × (c ++ r ≡ c ++ s) = read_declared_columns z x.arity y.arity (c ++ r) (c ++ s) f.1 g.1 refl refl (cancel o X Y name.1) in
    (input_same x y name.0 arity.0, cancel c r s arity.1)

table_follows : (d : Dialect) (z : Epochs) (x : Input) (xs : List Input) (r s : Text) → nat_eq (get_or r 3 0) 32 ≡ false → r ≡ inputs_text d z (x ∷ xs) ++ s → ⊥
table_follows d z x xs r s n e = both_ways (nat_eq (get_or r 3 0) 32) (ap (λ t. nat_eq (get_or t 3 0) 32) e) n

read_inputs : (d : Dialect) (z : Epochs) (xs ys : List Input) (r s : Text) → AllByRecursion Fits xs → AllByRecursion Fits ys → nat_eq (get_or r 3 0) 32 ≡ false → nat_eq (get_or s 3 0) 32 ≡ false
    → inputs_text d z xs ++ r ≡ inputs_text d z ys ++ s → (xs ≡ ys) × (r ≡ s)
read_inputs d z [] [] r s f g h k e = (refl, e)
read_inputs d z [] (y ∷ ys) r s f g h k e = absurd (table_follows d z y ys r s h e)
read_inputs d z (x ∷ xs) [] r s f g h k e = absurd (table_follows d z x xs s r k (sym e))
read_inputs d z (x ∷ xs) (y ∷ ys) r s f g h k e =
    let first : (x ≡ y) × (inputs_text d z xs ++ r ≡ inputs_text d z ys ++ s) =
    read_declaration d z x y (inputs_text d z xs ++ r) (inputs_text d z ys ++ s) f.0 g.0
    (sym (append_assoc (declaration_text d z x) (inputs_text d z xs) r) ∙ e ∙ append_assoc (declaration_text d z y) (inputs_text d z ys) s) in
    let rest : (xs ≡ ys) × (r ≡ s) = read_inputs d z xs ys r s f.1 g.1 h k first.1 in
    (ap₂ (λ (v : Input) (vs : List Input). v ∷ vs) first.0 rest.0, rest.1)

-- ---- what stands before the tables

abbrev dialect_in : Text → Dialect
dialect_in t = cond (nat_eq (get_or t 0 0) 80) Postgres (cond (nat_eq (get_or t 1 0) 81) Sqlite Spark)

dialect_told : (d : Dialect) (r : Text) → dialect_in (database_name d ++ r) ≡ d
dialect_told Postgres r = refl
dialect_told Sqlite r = refl
dialect_told Spark r = refl

abbrev epochs_in : Text → Epochs
epochs_in t = cond (nat_eq (get_or t 2 0) 73) epochs.One epochs.Every

epochs_told : (z : Epochs) (r : Text) → epochs_in (reads_text z ++ r) ≡ z
epochs_told epochs.One r = refl
epochs_told epochs.Every r = refl

abbrev arithmetic_in : Text → Arithmetic
arithmetic_in t = cond (nat_eq (get_or t 3 0) 82) Plain Wrapped

arithmetic_told : (m : Arithmetic) (r : Text) → arithmetic_in (promise_text m ++ r) ≡ m
arithmetic_told Plain r = refl
arithmetic_told Wrapped r = refl

promise_follows : (m : Arithmetic) (r : Text) → nat_eq (get_or (promise_text m ++ r) 3 0) 32 ≡ false
promise_follows Plain r = refl
promise_follows Wrapped r = refl

abbrev pub form_with : Dialect → Arithmetic → Form
form_with Postgres m = form.Postgres m
form_with Sqlite m = form.Sqlite
form_with Spark m = form.Spark m

pub form_told : (f : Form) → form_with (dialect_of f) (arithmetic_of f) ≡ f
form_told (form.Postgres m) = refl
form_told form.Sqlite = refl
form_told (form.Spark m) = refl

abbrev pub opening : Dialect → Epochs → List Input → Arithmetic → Text → Text
opening d z i m t = database_name d ++ (reads_text z ++ (inputs_text d z i ++ (promise_text m ++ t)))

-- what stands after the database's name
after_name : (d : Dialect) (z z' : Epochs) (i i' : List Input) (m m' : Arithmetic) (t u : Text) → AllByRecursion Fits i → AllByRecursion Fits i'
    → reads_text z ++ (inputs_text d z i ++ (promise_text m ++ t)) ≡ reads_text z' ++ (inputs_text d z' i' ++ (promise_text m' ++ u))
    → (z ≡ z') × (i ≡ i') × (promise_text m ++ t ≡ promise_text m' ++ u)
after_name d z z' i i' m m' t u f g e =
    let T : Text = promise_text m ++ t in
    let U : Text = promise_text m' ++ u in
    let epochs : z ≡ z' = sym (epochs_told z (inputs_text d z i ++ T)) ∙ ap epochs_in e ∙ epochs_told z' (inputs_text d z' i' ++ U) in
    let whole : reads_text z ++ (inputs_text d z i ++ T) ≡ reads_text z ++ (inputs_text d z i' ++ U) =
    subst (λ x. reads_text z ++ (inputs_text d z i ++ T) ≡ reads_text x ++ (inputs_text d x i' ++ U)) (sym epochs) e in
    let inputs : (i ≡ i') × (T ≡ U) =
    read_inputs d z i i' T U f g (promise_follows m t) (promise_follows m' u) (cancel (reads_text z) (inputs_text d z i ++ T) (inputs_text d z i' ++ U) whole) in
    (epochs, inputs.0, inputs.1)

pub read_opening : (d d' : Dialect) (z z' : Epochs) (i i' : List Input) (m m' : Arithmetic) (t u : Text) → AllByRecursion Fits i → AllByRecursion Fits i' → opening d z i m t ≡ opening d' z' i' m' u
    → (d ≡ d') × (z ≡ z') × (i ≡ i') × (m ≡ m') × (t ≡ u)
read_opening d d' z z' i i' m m' t u f g e =
    let X : Text = reads_text z ++ (inputs_text d z i ++ (promise_text m ++ t)) in
    let Y : Text = reads_text z' ++ (inputs_text d z' i' ++ (promise_text m' ++ u)) in
    let dialect : d ≡ d' = sym (dialect_told d X) ∙ ap dialect_in e ∙ dialect_told d' (reads_text z' ++ (inputs_text d' z' i' ++ (promise_text m' ++ u))) in
    let whole : database_name d ++ X ≡ database_name d ++ Y = subst (λ x. opening d z i m t ≡ opening x z' i' m' u) (sym dialect) e in
    let after : (z ≡ z') × (i ≡ i') × (promise_text m ++ t ≡ promise_text m' ++ u) = after_name d z z' i i' m m' t u f g (cancel (database_name d) X Y whole) in
    let arithmetic : m ≡ m' = sym (arithmetic_told m t) ∙ ap arithmetic_in after.2 ∙ arithmetic_told m' u in
    (dialect, after.0, after.1, arithmetic, cancel (promise_text m) t u (subst (λ x. promise_text m ++ t ≡ promise_text x ++ u) (sym arithmetic) after.2))

-- ---- tables that are made

abbrev pub said_made : Arithmetic → Made → Made
said_made a m = record { number = m.number; width = m.width; query = said_query a m.query }

-- where tables have the widths `v`
abbrev entry_text : Form → Epochs → Making → List Input → (v : Widths) → Made → Text
entry_text f z o i v m =
    made_word o (dialect_of f) ++ (quoted (dialect_of f) (decimal m.number) ++ (codes " (" ++ (made_columns_text (dialect_of f) z m.width
    ++ (made_fill o (dialect_of f) m.number ++ (query_text f z i v m.number m.query ++ made_keep o (dialect_of f) m.number)))))

abbrev pub entries_text : Form → Epochs → Making → List Input → Widths → List Made → Text
entries_text f z o i v [] = []
entries_text f z o i v (m ∷ ms) = entry_text f z o i v m ++ entries_text f z o i v ms

create_assoc : (k q o c f t l r : Text) → (k ++ (q ++ (o ++ (c ++ (f ++ (t ++ l)))))) ++ r ≡ k ++ (q ++ (o ++ (c ++ (f ++ (t ++ (l ++ r))))))
create_assoc k q o c f t l r = simp append_assoc

closes : (o : Making) (d : Dialect) (n : ℕ) (r : Text) → Close (made_fill o d n ++ r)
closes Alone Postgres n r = refl
closes Alone Sqlite n r = refl
closes Alone Spark n r = refl
closes (Within l) d n r = refl

bracket_ends : (b : Bool) (r : Text) → Over (cond b (codes ")\n") (codes "),\n") ++ r)
bracket_ends true r = Over.close refl
bracket_ends false r = Over.close refl

keeps : (o : Making) (d : Dialect) (n : ℕ) (r : Text) → Over (made_keep o d n ++ r)
keeps Alone Postgres n r = Over.semicolon refl
keeps Alone Sqlite n r = Over.semicolon refl
keeps Alone Spark n r = Over.semicolon refl
keeps (Within l) d n r = bracket_ends (nat_eq n l) r

-- both alone, or each in a WITH
abbrev pub Alike : Making → Making → Type 0
Alike Alone Alone = Unit {0}
Alike Alone (Within l) = ⊥
Alike (Within k) Alone = ⊥
Alike (Within k) (Within l) = Unit {0}

word_same : (o o' : Making) (d : Dialect) → Alike o o' → made_word o' d ≡ made_word o d
word_same Alone Alone d a = refl
word_same Alone (Within l) d a = absurd a
word_same (Within k) Alone d a = absurd a
word_same (Within k) (Within l) d a = refl

fill_same : (o o' : Making) (d : Dialect) (n : ℕ) → Alike o o' → made_fill o' d n ≡ made_fill o d n
fill_same Alone Alone d n a = refl
fill_same Alone (Within l) d n a = absurd a
fill_same (Within k) Alone d n a = absurd a
fill_same (Within k) (Within l) d n a = refl

abbrev comma_next : Text → Bool
comma_next t = nat_eq (get_or t 1 0) 44

within_ends : (b c : Bool) (r s : Text) → cond b (codes ")\n") (codes "),\n") ++ r ≡ cond c (codes ")\n") (codes "),\n") ++ s → r ≡ s
within_ends true true r s e = cancel (codes ")\n") r s e
within_ends true false r s e = absurd (both_ways (comma_next (codes ")\n" ++ r)) (ap comma_next e) refl)
within_ends false true r s e = absurd (both_ways (comma_next (codes ")\n" ++ s)) (sym (ap comma_next e)) refl)
within_ends false false r s e = cancel (codes "),\n") r s e

keep_ends : (o o' : Making) (d : Dialect) (n : ℕ) (r s : Text) → Alike o o' → made_keep o d n ++ r ≡ made_keep o' d n ++ s → r ≡ s
keep_ends Alone Alone d n r s a e = cancel (keep_text d n) r s e
keep_ends Alone (Within l) d n r s a e = absurd a
keep_ends (Within k) Alone d n r s a e = absurd a
keep_ends (Within k) (Within l) d n r s a e = within_ends (nat_eq n k) (nat_eq n l) r s e

made_same : (m : Arithmetic) (x y : Made) → x.number ≡ y.number → x.width ≡ y.width → said_query m x.query ≡ said_query m y.query → said_made m x ≡ said_made m y
made_same m x y e f g =
    ap (λ (n : ℕ). record { number = n; width = x.width; query = said_query m x.query }) e
    ∙ ap₂ (λ (w : ℕ) (q : Query). record { number = y.number; width = w; query = q }) f g

-- a table begins here
abbrev pub begun : Making → Text → Bool
begun Alone t = nat_eq (get_or t 1 0) 82
begun (Within l) t = nat_eq (get_or t 0 0) 34 || nat_eq (get_or t 0 0) 96

begun_same : (o o' : Making) (t : Text) → Alike o o' → begun o' t ≡ begun o t
begun_same Alone Alone t a = refl
begun_same Alone (Within l) t a = absurd a
begun_same (Within k) Alone t a = absurd a
begun_same (Within k) (Within l) t a = refl

table_begun : (o : Making) (d : Dialect) (n r : Text) → begun o (made_word o d ++ (quoted d n ++ r)) ≡ true
table_begun Alone Postgres n r = refl
table_begun Alone Sqlite n r = refl
table_begun Alone Spark n r = refl
table_begun (Within l) Postgres n r = refl
table_begun (Within l) Sqlite n r = refl
table_begun (Within l) Spark n r = refl

begun_assoc : (k q o c f t l r : Text) → (k ++ (q ++ (o ++ (c ++ (f ++ (t ++ l)))))) ++ r ≡ k ++ (q ++ ((o ++ (c ++ (f ++ (t ++ l)))) ++ r))
begun_assoc k q o c f t l r = simp append_assoc

module _ (f : Form) (z : Epochs) (i : List Input) (named : AreNamed i) where
  abbrev d : Dialect
  d = dialect_of f

  abbrev pub Fine : Made → Type 0
  Fine m = (m.number < 2 ^ 64) × (m.width < 2 ^ 64) × IsShortQuery (length i) m.query

  module _ (o o' : Making) (alike : Alike o o') (v w : Widths) where
    read_entry : (x y : Made) (r s : Text) → Fine x → Fine y → entry_text f z o i v x ++ r ≡ entry_text f z o' i w y ++ s → (said_made (arithmetic_of f) x ≡ said_made (arithmetic_of f) y) × (r ≡ s)
    read_entry x y r s h k e =
        let b : Text = codes " (" in
        let n : Text = quoted d (decimal x.number) in
        let n' : Text = quoted d (decimal y.number) in
        let c : Text = made_columns_text d z x.width in
        let c' : Text = made_columns_text d z y.width in
        let X : Text = query_text f z i v x.number x.query ++ (made_keep o d x.number ++ r) in
        let Y : Text = query_text f z i w y.number y.query ++ (made_keep o' d y.number ++ s) in
        let Y' : Text = query_text f z i w x.number y.query ++ (made_keep o' d x.number ++ s) in
        let F : Text = made_fill o d x.number ++ X in
        let G : Text = made_fill o' d y.number ++ Y in
        let both : made_word o d ++ (n ++ (b ++ (c ++ F))) ≡ made_word o' d ++ (n' ++ (b ++ (c' ++ G))) =
        sym (create_assoc (made_word o d) n b c (made_fill o d x.number) (query_text f z i v x.number x.query) (made_keep o d x.number) r) ∙ e
        ∙ create_assoc (made_word o' d) n' b c' (made_fill o' d y.number) (query_text f z i w y.number y.query) (made_keep o' d y.number) s in
        let whole : made_word o d ++ (n ++ (b ++ (c ++ F))) ≡ made_word o d ++ (n' ++ (b ++ (c' ++ G))) =
        both ∙ ap (λ (w : Text). w ++ (n' ++ (b ++ (c' ++ G)))) (word_same o o' d alike) in
        let name : (decimal x.number ≡ decimal y.number) × (b ++ (c ++ F) ≡ b ++ (c' ++ G)) =
        read_quoted d (decimal x.number) (decimal y.number) (b ++ (c ++ F)) (b ++ (c' ++ G)) (number_in_name x.number h.0) (number_in_name y.number k.0)
        (cancel (made_word o d) (n ++ (b ++ (c ++ F))) (n' ++ (b ++ (c' ++ G))) whole) in
        let number : x.number ≡ y.number = decimal_injective x.number y.number h.0 k.0 name.0 in
        let width : (x.width ≡ y.width) × (F ≡ G) =
        read_made_columns d z x.width y.width F G h.1 k.1 (closes o d x.number X) (closes o' d y.number Y) (cancel b (c ++ F) (c' ++ G) name.1) in
        let filled : made_fill o d x.number ++ X ≡ made_fill o d x.number ++ Y' =
        subst (λ j. F ≡ made_fill o' d j ++ (query_text f z i w j y.query ++ (made_keep o' d j ++ s))) (sym number) width.1
        ∙ ap (λ (w : Text). w ++ Y') (fill_same o o' d x.number alike) in
        let query : (said_query (arithmetic_of f) x.query ≡ said_query (arithmetic_of f) y.query) × (made_keep o d x.number ++ r ≡ made_keep o' d x.number ++ s) =
        read_query f z i named v w x.number h.0 x.query y.query (made_keep o d x.number ++ r) (made_keep o' d x.number ++ s) h.2 k.2 (keeps o d x.number r) (keeps o' d x.number s)
        (cancel (made_fill o d x.number) X Y' filled) in
        (made_same (arithmetic_of f) x y number width.0 query.0, keep_ends o o' d x.number r s alike query.1)

  entry_begins : (o : Making) (v : Widths) (x : Made) (r : Text) → begun o (entry_text f z o i v x ++ r) ≡ true
  entry_begins o v x r =
      let rest : Text = codes " (" ++ (made_columns_text d z x.width ++ (made_fill o d x.number ++ (query_text f z i v x.number x.query ++ made_keep o d x.number))) in
      ap (begun o) (begun_assoc (made_word o d) (quoted d (decimal x.number)) (codes " (") (made_columns_text d z x.width) (made_fill o d x.number) (query_text f z i v x.number x.query) (made_keep o d x.number) r)
      ∙ table_begun o d (decimal x.number) (rest ++ r)

  entry_follows : (o : Making) (v : Widths) (x : Made) (xs : List Made) (r s : Text) → begun o r ≡ false → r ≡ entries_text f z o i v (x ∷ xs) ++ s → ⊥
  entry_follows o v x xs r s n e =
      both_ways (begun o r) (ap (begun o) (e ∙ append_assoc (entry_text f z o i v x) (entries_text f z o i v xs) s) ∙ entry_begins o v x (entries_text f z o i v xs ++ s)) n

  module _ (o o' : Making) (alike : Alike o o') (v w : Widths) where
    pub read_entries : (xs ys : List Made) (r s : Text) → AllByRecursion Fine xs → AllByRecursion Fine ys → begun o r ≡ false → begun o' s ≡ false
        → entries_text f z o i v xs ++ r ≡ entries_text f z o' i w ys ++ s → (map (said_made (arithmetic_of f)) xs ≡ map (said_made (arithmetic_of f)) ys) × (r ≡ s)
    read_entries [] [] r s g g' h k e = (refl, e)
    read_entries [] (y ∷ ys) r s g g' h k e = absurd (entry_follows o' w y ys r s (begun_same o o' r alike ∙ h) e)
    read_entries (x ∷ xs) [] r s g g' h k e = absurd (entry_follows o v x xs s r (sym (begun_same o o' s alike) ∙ k) (sym e))
    read_entries (x ∷ xs) (y ∷ ys) r s g g' h k e =
        let first : (said_made (arithmetic_of f) x ≡ said_made (arithmetic_of f) y) × (entries_text f z o i v xs ++ r ≡ entries_text f z o' i w ys ++ s) =
        read_entry o o' alike v w x y (entries_text f z o i v xs ++ r) (entries_text f z o' i w ys ++ s) g.0 g'.0
        (sym (append_assoc (entry_text f z o i v x) (entries_text f z o i v xs) r) ∙ e ∙ append_assoc (entry_text f z o' i w y) (entries_text f z o' i w ys) s) in
        let rest : (map (said_made (arithmetic_of f)) xs ≡ map (said_made (arithmetic_of f)) ys) × (r ≡ s) = read_entries xs ys r s g.1 g'.1 h k first.1 in
        (ap₂ (λ (v : Made) (vs : List Made). v ∷ vs) first.0 rest.0, rest.1)

-- ---- results

abbrev pub select_text : Dialect → Epochs → List Input → Result → Text
select_text d z i r = codes "SELECT * FROM " ++ (table_text d i r.table ++ (codes " ORDER BY " ++ (numbered place_text (places z r.width) ++ codes ";\n")))

abbrev row_text : Layout → Dialect → Epochs → List Input → Result → Text
row_text l d z i r = result_text l d z i r.width r.table r.name

abbrev pub rows_text : Layout → Dialect → Epochs → List Input → List Result → Text
rows_text l d z i [] = []
rows_text l d z i (r ∷ rs) = row_text l d z i r ++ rows_text l d z i rs

-- the names that stand before the tables
abbrev pub titles : List Result → Text
titles [] = []
titles (r ∷ rs) = title_text r.name ++ titles rs

select_assoc : (o t b n c r : Text) → (o ++ (t ++ (b ++ (n ++ c)))) ++ r ≡ o ++ (t ++ (b ++ (n ++ (c ++ r))))
select_assoc o t b n c r = simp append_assoc

title_assoc : (k x c r : Text) → (k ++ (x ++ c)) ++ r ≡ k ++ (x ++ (c ++ r))
title_assoc k x c r = simp append_assoc

result_same : (x y : Result) → x.name ≡ y.name → x.width ≡ y.width → x.table ≡ y.table → x ≡ y
result_same x y e f g =
    ap (λ (n : Name). record { name = n; width = x.width; table = x.table }) e ∙ ap₂ (λ (w : ℕ) (t : Table). record { name = y.name; width = w; table = t }) f g

read_title : (n m : Name) (r s : Text) → IsName n → IsName m → title_text n ++ r ≡ title_text m ++ s → (n ≡ m) × (r ≡ s)
read_title n m r s h k e =
    let dash : Text = codes "-- " in
    let c : Text = codes "\n" in
    let both : (n ≡ m) × (c ++ r ≡ c ++ s) =
    runs is_name_byte n m (c ++ r) (c ++ s) h.goes_on k.goes_on refl refl (cancel dash (n ++ (c ++ r)) (m ++ (c ++ s)) (sym (title_assoc dash n c r) ∙ e ∙ title_assoc dash m c s)) in
    (both.0, cancel c r s both.1)

-- the same names, and the same tables with as many columns
abbrev pub SameNames : (xs ys : List Result) → Type 0
SameNames [] [] = Unit {0}
SameNames [] (y ∷ ys) = ⊥
SameNames (x ∷ xs) [] = ⊥
SameNames (x ∷ xs) (y ∷ ys) = (x.name ≡ y.name) × SameNames xs ys

abbrev pub SameRows : (xs ys : List Result) → Type 0
SameRows [] [] = Unit {0}
SameRows [] (y ∷ ys) = ⊥
SameRows (x ∷ xs) [] = ⊥
SameRows (x ∷ xs) (y ∷ ys) = (x.table ≡ y.table) × (x.width ≡ y.width) × SameRows xs ys

pub results_same : (xs ys : List Result) → SameNames xs ys → SameRows xs ys → xs ≡ ys
results_same [] [] n r = refl
results_same [] (y ∷ ys) n r = absurd n
results_same (x ∷ xs) [] n r = absurd n
results_same (x ∷ xs) (y ∷ ys) n r =
    ap₂ (λ (v : Result) (vs : List Result). v ∷ vs) (result_same x y n.0 r.1 r.0) (results_same xs ys n.1 r.2)

module _ (f : Form) (z : Epochs) (i : List Input) (named : AreNamed i) where
  abbrev of_form : Dialect
  of_form = dialect_of f

  abbrev pub FineResult : Result → Type 0
  FineResult r = IsName r.name × (places z r.width < 2 ^ 64) × IsThere (length i) r.table

  read_select : (x y : Result) (r s : Text) → FineResult x → FineResult y → select_text of_form z i x ++ r ≡ select_text of_form z i y ++ s → (x.table ≡ y.table) × (x.width ≡ y.width) × (r ≡ s)
  read_select x y r s h k e =
      let o : Text = codes "SELECT * FROM " in
      let b : Text = codes " ORDER BY " in
      let c : Text = codes ";\n" in
      let T : Text = table_text of_form i x.table in
      let U : Text = table_text of_form i y.table in
      let X : Text = numbered place_text (places z x.width) ++ (c ++ r) in
      let Y : Text = numbered place_text (places z y.width) ++ (c ++ s) in
      let whole : o ++ (T ++ (b ++ X)) ≡ o ++ (U ++ (b ++ Y)) =
      sym (select_assoc o T b (numbered place_text (places z x.width)) c r) ∙ e ∙ select_assoc o U b (numbered place_text (places z y.width)) c s in
      let table : (x.table ≡ y.table) × (b ++ X ≡ b ++ Y) = read_table f i named x.table y.table (b ++ X) (b ++ Y) h.2 k.2 (cancel o (T ++ (b ++ X)) (U ++ (b ++ Y)) whole) in
      let width : (x.width ≡ y.width) × (c ++ r ≡ c ++ s) = read_places z x.width y.width (c ++ r) (c ++ s) h.1 k.1 refl refl (cancel b X Y table.1) in
      (table.0, width.0, cancel c r s width.1)

  read_result : (x y : Result) (r s : Text) → FineResult x → FineResult y → row_text Script of_form z i x ++ r ≡ row_text Script of_form z i y ++ s → (x ≡ y) × (r ≡ s)
  read_result x y r s h k e =
      let X : Text = select_text of_form z i x ++ r in
      let Y : Text = select_text of_form z i y ++ s in
      let name : (x.name ≡ y.name) × (X ≡ Y) =
      read_title x.name y.name X Y h.0 k.0
      (sym (append_assoc (title_text x.name) (select_text of_form z i x) r) ∙ e ∙ append_assoc (title_text y.name) (select_text of_form z i y) s) in
      let rest : (x.table ≡ y.table) × (x.width ≡ y.width) × (r ≡ s) = read_select x y r s h k name.1 in
      (result_same x y name.0 rest.1 rest.0, rest.2)

  row_follows : (x : Result) (xs : List Result) (r s : Text) → nat_eq (get_or r 0 0) 45 ≡ false → r ≡ rows_text Script of_form z i (x ∷ xs) ++ s → ⊥
  row_follows x xs r s n e = both_ways (nat_eq (get_or r 0 0) 45) (ap (λ t. nat_eq (get_or t 0 0) 45) e) n

  pub read_results : (xs ys : List Result) (r s : Text) → AllByRecursion FineResult xs → AllByRecursion FineResult ys → nat_eq (get_or r 0 0) 45 ≡ false → nat_eq (get_or s 0 0) 45 ≡ false
      → rows_text Script of_form z i xs ++ r ≡ rows_text Script of_form z i ys ++ s → (xs ≡ ys) × (r ≡ s)
  read_results [] [] r s g g' h k e = (refl, e)
  read_results [] (y ∷ ys) r s g g' h k e = absurd (row_follows y ys r s h e)
  read_results (x ∷ xs) [] r s g g' h k e = absurd (row_follows x xs s r k (sym e))
  read_results (x ∷ xs) (y ∷ ys) r s g g' h k e =
      let first : (x ≡ y) × (rows_text Script of_form z i xs ++ r ≡ rows_text Script of_form z i ys ++ s) =
      read_result x y (rows_text Script of_form z i xs ++ r) (rows_text Script of_form z i ys ++ s) g.0 g'.0
      (sym (append_assoc (row_text Script of_form z i x) (rows_text Script of_form z i xs) r) ∙ e ∙ append_assoc (row_text Script of_form z i y) (rows_text Script of_form z i ys) s) in
      let rest : (xs ≡ ys) × (r ≡ s) = read_results xs ys r s g.1 g'.1 h k first.1 in
      (ap₂ (λ (v : Result) (vs : List Result). v ∷ vs) first.0 rest.0, rest.1)

  title_follows : (x : Result) (xs : List Result) (r s : Text) → nat_eq (get_or r 0 0) 45 ≡ false → r ≡ titles (x ∷ xs) ++ s → ⊥
  title_follows x xs r s n e = both_ways (nat_eq (get_or r 0 0) 45) (ap (λ t. nat_eq (get_or t 0 0) 45) e) n

  pub read_titles : (xs ys : List Result) (r s : Text) → AllByRecursion FineResult xs → AllByRecursion FineResult ys → nat_eq (get_or r 0 0) 45 ≡ false → nat_eq (get_or s 0 0) 45 ≡ false
      → titles xs ++ r ≡ titles ys ++ s → SameNames xs ys × (r ≡ s)
  read_titles [] [] r s g g' h k e = (tt, e)
  read_titles [] (y ∷ ys) r s g g' h k e = absurd (title_follows y ys r s h e)
  read_titles (x ∷ xs) [] r s g g' h k e = absurd (title_follows x xs s r k (sym e))
  read_titles (x ∷ xs) (y ∷ ys) r s g g' h k e =
      let first : (x.name ≡ y.name) × (titles xs ++ r ≡ titles ys ++ s) =
      read_title x.name y.name (titles xs ++ r) (titles ys ++ s) g.0.0 g'.0.0
      (sym (append_assoc (title_text x.name) (titles xs) r) ∙ e ∙ append_assoc (title_text y.name) (titles ys) s) in
      let rest : SameNames xs ys × (r ≡ s) = read_titles xs ys r s g.1 g'.1 h k first.1 in
      ((first.0, rest.0), rest.1)

  select_follows : (x : Result) (xs : List Result) (r s : Text) → nat_eq (get_or r 0 0) 83 ≡ false → r ≡ rows_text Statement of_form z i (x ∷ xs) ++ s → ⊥
  select_follows x xs r s n e = both_ways (nat_eq (get_or r 0 0) 83) (ap (λ t. nat_eq (get_or t 0 0) 83) e) n

  pub read_selects : (xs ys : List Result) (r s : Text) → AllByRecursion FineResult xs → AllByRecursion FineResult ys → nat_eq (get_or r 0 0) 83 ≡ false → nat_eq (get_or s 0 0) 83 ≡ false
      → rows_text Statement of_form z i xs ++ r ≡ rows_text Statement of_form z i ys ++ s → SameRows xs ys
  read_selects [] [] r s g g' h k e = tt
  read_selects [] (y ∷ ys) r s g g' h k e = absurd (select_follows y ys r s h e)
  read_selects (x ∷ xs) [] r s g g' h k e = absurd (select_follows x xs s r k (sym e))
  read_selects (x ∷ xs) (y ∷ ys) r s g g' h k e =
      let first : (x.table ≡ y.table) × (x.width ≡ y.width) × (rows_text Statement of_form z i xs ++ r ≡ rows_text Statement of_form z i ys ++ s) =
      read_select x y (rows_text Statement of_form z i xs ++ r) (rows_text Statement of_form z i ys ++ s) g.0 g'.0
      (sym (append_assoc (row_text Statement of_form z i x) (rows_text Statement of_form z i xs) r) ∙ e ∙ append_assoc (row_text Statement of_form z i y) (rows_text Statement of_form z i ys) s) in
      (first.0, first.1, read_selects xs ys r s g.1 g'.1 h k first.2)

-- ---- what a script's text says

-- the tables that are made, with their queries as they are
abbrev pub entries : Widths → (wanted : List ℕ) → List Query → List Made
entries width wanted [] = []
entries width wanted (q ∷ earlier) =
    cond (is_in (length earlier) wanted)
    (entries width (wanted ++ reads q) earlier ++ record { number = length earlier; width = width (Table.made (length earlier)); query = q } ∷ [])
    (entries width wanted earlier)

map_more : (a : Arithmetic) (xs : List Made) (x : Made) → map (said_made a) (xs ++ x ∷ []) ≡ map (said_made a) xs ++ said_made a x ∷ []
map_more a [] x = refl
map_more a (y ∷ ys) x = ap (λ (zs : List Made). said_made a y ∷ zs) (map_more a ys x)

chosen_said : (a : Arithmetic) (b : Bool) (xs ys : List Made) (us vs : List Made) (x : Made) → us ≡ map (said_made a) xs → vs ≡ map (said_made a) ys
    → cond b (us ++ said_made a x ∷ []) vs ≡ map (said_made a) (cond b (xs ++ x ∷ []) ys)
chosen_said a true xs ys us vs x e f = ap (λ (zs : List Made). zs ++ said_made a x ∷ []) e ∙ sym (map_more a xs x)
chosen_said a false xs ys us vs x e f = f

pub made_are : (a : Arithmetic) (width : Widths) (wanted : List ℕ) (qs : List Query) → made_tables a width wanted qs ≡ map (said_made a) (entries width wanted qs)
made_are a width wanted [] = refl
made_are a width wanted (q ∷ earlier) =
    chosen_said a (is_in (length earlier) wanted) (entries width (wanted ++ reads q) earlier) (entries width wanted earlier)
    (made_tables a width (wanted ++ reads q) earlier) (made_tables a width wanted earlier)
    (record { number = length earlier; width = width (Table.made (length earlier)); query = q }) (made_are a width (wanted ++ reads q) earlier) (made_are a width wanted earlier)

entries_more : (f : Form) (z : Epochs) (o : Making) (i : List Input) (v : Widths) (xs : List Made) (x : Made) → entries_text f z o i v (xs ++ x ∷ []) ≡ entries_text f z o i v xs ++ entry_text f z o i v x
entries_more f z o i v [] x = append-nil (entry_text f z o i v x)
entries_more f z o i v (y ∷ ys) x =
    ap (λ (t : Text). entry_text f z o i v y ++ t) (entries_more f z o i v ys x) ∙ sym (append_assoc (entry_text f z o i v y) (entries_text f z o i v ys) (entry_text f z o i v x))

chosen_text : (f : Form) (z : Epochs) (o : Making) (i : List Input) (v : Widths) (b : Bool) (xs ys : List Made) (t u : Text) (x : Made) → t ≡ entries_text f z o i v xs → u ≡ entries_text f z o i v ys
    → cond b (t ++ entry_text f z o i v x) u ≡ entries_text f z o i v (cond b (xs ++ x ∷ []) ys)
chosen_text f z o i v true xs ys t u x e g = ap (λ (y : Text). y ++ entry_text f z o i v x) e ∙ sym (entries_more f z o i v xs x)
chosen_text f z o i v false xs ys t u x e g = g

pub tables_are : (f : Form) (z : Epochs) (o : Making) (i : List Input) (width : Widths) (wanted : List ℕ) (qs : List Query) → tables_text f z o i width wanted qs ≡ entries_text f z o i width (entries width wanted qs)
tables_are f z o i width wanted [] = refl
tables_are f z o i width wanted (q ∷ earlier) =
    chosen_text f z o i width (is_in (length earlier) wanted) (entries width (wanted ++ reads q) earlier) (entries width wanted earlier)
    (tables_text f z o i width (wanted ++ reads q) earlier) (tables_text f z o i width wanted earlier)
    (record { number = length earlier; width = width (Table.made (length earlier)); query = q }) (tables_are f z o i width (wanted ++ reads q) earlier) (tables_are f z o i width wanted earlier)

pub none_wanted : (width : Widths) (qs : List Query) → entries width [] qs ≡ []
none_wanted width [] = refl
none_wanted width (q ∷ earlier) = none_wanted width earlier

chosen_rows : (l : Layout) (d : Dialect) (z : Epochs) (i : List Input) (b : Bool) (x : Result) (xs : List Result) (t : Text) → t ≡ rows_text l d z i xs
    → cond b (row_text l d z i x) [] ++ t ≡ rows_text l d z i (cond b (x ∷ []) [] ++ xs)
chosen_rows l d z i true x xs t e = ap (λ (u : Text). row_text l d z i x ++ u) e
chosen_rows l d z i false x xs t e = e

pub results_are : (l : Layout) (d : Dialect) (z : Epochs) (i : List Input) (width : Widths) (y : Option Name) (ts : List Table) (os : List Output)
    → results_text l d z i width y ts os ≡ rows_text l d z i (asked_results width y ts os)
results_are l d z i width y [] os = refl
results_are l d z i width y (t ∷ ts) [] = refl
results_are l d z i width y (t ∷ ts) (o ∷ os) =
    chosen_rows l d z i (is_asked y o.name) (record { name = o.name; width = width t; table = t }) (asked_results width y ts os) (results_text l d z i width y ts os) (results_are l d z i width y ts os)

chosen_titles : (b : Bool) (x : Result) (xs : List Result) (t : Text) → t ≡ titles xs → cond b (title_text x.name) [] ++ t ≡ titles (cond b (x ∷ []) [] ++ xs)
chosen_titles true x xs t e = ap (λ (u : Text). title_text x.name ++ u) e
chosen_titles false x xs t e = e

pub names_are : (width : Widths) (y : Option Name) (ts : List Table) (os : List Output) → names_text y ts os ≡ titles (asked_results width y ts os)
names_are width y [] os = refl
names_are width y (t ∷ ts) [] = refl
names_are width y (t ∷ ts) (o ∷ os) =
    chosen_titles (is_asked y o.name) (record { name = o.name; width = width t; table = t }) (asked_results width y ts os) (names_text y ts os) (names_are width y ts os)
