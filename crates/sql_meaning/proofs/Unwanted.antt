-- Tables that nothing wanted reads can be left out.
use Rattle.std.proofs.Common.{◌≡◌, ℕ, Bool, true, false, cond, nat_eq, ◌||◌, List, [], ◌∷◌, ◌++◌, length, refl, sym, ap, ap₂, ◌∙◌, arith}
use Rattle.std.proofs.lemmas.Bool.Decides.{nat_tests}
use mathlib.Core.Path.{fun_ext}
use Rattle.semantics.specs.Multiset.{Record}
use Rattle.sql_meaning.specs.Script.{Table, Term, Query, Script}
use Rattle.sql_meaning.specs.ScriptMeaning.{Contents, joined_rows, term_rows, found_by, rows_of, with_table, only_given, contents}
use Rattle.sql_meaning.specs.Epochs.{joined_by_epoch, term_rows_by_epoch, rows_by_epoch, contents_by_epoch}
use Rattle.sql_meaning.specs.Wanted.{is_in, number_of, term_reads, reads, contents_of_wanted, IsWanted}

or_true : (a : Bool) → (a || true) ≡ true
or_true true = refl
or_true false = refl

or_left : (a b : Bool) → a ≡ true → (a || b) ≡ true
or_left a b e = rw e refl

in_front : (n : ℕ) (ms ns : List ℕ) → is_in n ms ≡ true → is_in n (ms ++ ns) ≡ true
in_front n [] ns e = absurd cc
in_front n (m ∷ ms) ns e = by (nat_eq m n) e (λ h. in_front n ms ns h)
  where
    by : (b : Bool) → (b || is_in n ms) ≡ true → (is_in n ms ≡ true → is_in n (ms ++ ns) ≡ true) → (b || is_in n (ms ++ ns)) ≡ true
    by true h f = refl
    by false h f = f h

in_back : (n : ℕ) (ms ns : List ℕ) → is_in n ns ≡ true → is_in n (ms ++ ns) ≡ true
in_back n [] ns e = e
in_back n (m ∷ ms) ns e = by (nat_eq m n) (in_back n ms ns e)
  where
    by : (b : Bool) → is_in n (ms ++ ns) ≡ true → (b || is_in n (ms ++ ns)) ≡ true
    by true h = refl
    by false h = h

same_number : (n : ℕ) → nat_eq n n ≡ true
same_number n = grind (arith, nat_tests)

other_number : (m n : ℕ) → nat_eq m n ≡ true → m ≡ n
other_number m n e = grind (arith, nat_tests)

-- two contents agree on the wanted tables
abbrev Agree : List ℕ → Contents → Contents → Type 0
Agree wanted a b = (t : Table) → IsWanted wanted t → a t ≡ b t

kept : (t : Table) (ms ns : List ℕ) → IsWanted ms t → IsWanted (ms ++ ns) t
kept (Table.given i) ms ns w = tt
kept (Table.made n) ms ns w = in_front n ms ns w

own : (t : Table) → IsWanted (number_of t) t
own (Table.given i) = tt
own (Table.made n) = or_left (nat_eq n n) false (same_number n)

more : (t : Table) (ms ns : List ℕ) → IsWanted ns t → IsWanted (ms ++ ns) t
more (Table.given i) ms ns w = tt
more (Table.made n) ms ns w = in_back n ms ns w

front : (t : Table) (ms : List ℕ) → IsWanted (ms ++ number_of t) t
front t ms = more t ms (number_of t) (own t)

first_of_two : (t u : Table) (ms : List ℕ) → IsWanted (ms ++ (number_of t ++ number_of u)) t
first_of_two t u ms = more t ms (number_of t ++ number_of u) (kept t (number_of t) (number_of u) (own t))

second_of_two : (t u : Table) (ms : List ℕ) → IsWanted (ms ++ (number_of t ++ number_of u)) u
second_of_two t u ms = more u ms (number_of t ++ number_of u) (more u (number_of t) (number_of u) (own u))

-- the rows of a recursive term depend only on the tables that it reads
left_agree : (ms : List ℕ) (t : Table) (a b : Contents) → Agree (ms ++ number_of t) a b → Agree ms a b × (a t ≡ b t)
left_agree ms t a b h = ((λ u w. h u (kept u ms (number_of t) w)), h t (more t ms (number_of t) (own t)))

right_agree : (t : Table) (ms : List ℕ) (a b : Contents) → Agree (number_of t ++ ms) a b → (a t ≡ b t) × Agree ms a b
right_agree t ms a b h = (h t (kept t (number_of t) ms (own t)), (λ u w. h u (more u (number_of t) ms w)))

behind : (ms ns : List ℕ) (a b : Contents) → Agree (ms ++ ns) a b → Agree ns a b
behind ms ns a b h = λ u w. h u (more u ms ns w)

term_agree : (m : Term) (a b : Contents) → Agree (term_reads m) a b → (xs : List Record) → term_rows m a xs ≡ term_rows m b xs
term_agree Term.latest a b h xs = refl
term_agree (Term.select es m) a b h xs = ap (λ ys. term_rows (Term.select es Term.latest) a ys) (term_agree m a b h xs)
term_agree (Term.select_where m c) a b h xs = ap (λ ys. term_rows (Term.select_where Term.latest c) a ys) (term_agree m a b h xs)
term_agree (Term.join_left m t ps) a b h xs = let k = left_agree (term_reads m) t a b h in ap₂ (joined_rows ps) (term_agree m a b k.0 xs) k.1
term_agree (Term.join_right t m ps) a b h xs = let k = right_agree t (term_reads m) a b h in ap₂ (joined_rows ps) k.0 (term_agree m a b k.1 xs)

term_by_epoch_agree : (m : Term) (a b : Contents) → Agree (term_reads m) a b → (xs : List Record) → term_rows_by_epoch m a xs ≡ term_rows_by_epoch m b xs
term_by_epoch_agree Term.latest a b h xs = refl
term_by_epoch_agree (Term.select es m) a b h xs = ap (λ ys. term_rows_by_epoch (Term.select es Term.latest) a ys) (term_by_epoch_agree m a b h xs)
term_by_epoch_agree (Term.select_where m c) a b h xs = ap (λ ys. term_rows_by_epoch (Term.select_where Term.latest c) a ys) (term_by_epoch_agree m a b h xs)
term_by_epoch_agree (Term.join_left m t ps) a b h xs = let k = left_agree (term_reads m) t a b h in ap₂ (joined_by_epoch ps) (term_by_epoch_agree m a b k.0 xs) k.1
term_by_epoch_agree (Term.join_right t m ps) a b h xs = let k = right_agree t (term_reads m) a b h in ap₂ (joined_by_epoch ps) k.0 (term_by_epoch_agree m a b k.1 xs)

-- the rows of a query depend only on the tables that it reads
rows_agree : (q : Query) (ms : List ℕ) (a b : Contents) → Agree (ms ++ reads q) a b → rows_of q a ≡ rows_of q b
unfolding rows_of
rows_agree (Query.select es t) ms a b h = ap (λ xs. rows_of (Query.select es t) (λ u. xs)) (h t (front t ms))
rows_agree (Query.select_where t c) ms a b h = ap (λ xs. rows_of (Query.select_where t c) (λ u. xs)) (h t (front t ms))
rows_agree (Query.select_join t u ps) ms a b h = rw (h t (first_of_two t u ms), h u (second_of_two t u ms)) refl
rows_agree (Query.select_group ks as' t) ms a b h = ap (λ xs. rows_of (Query.select_group ks as' t) (λ u. xs)) (h t (front t ms))
rows_agree (Query.select_distinct t) ms a b h = ap (λ xs. rows_of (Query.select_distinct t) (λ u. xs)) (h t (front t ms))
rows_agree (Query.union_all t u) ms a b h = rw (h t (first_of_two t u ms), h u (second_of_two t u ms)) refl
rows_agree (Query.except t u) ms a b h = rw (h t (first_of_two t u ms), h u (second_of_two t u ms)) refl
rows_agree (Query.intersect t u) ms a b h = rw (h t (first_of_two t u ms), h u (second_of_two t u ms)) refl
rows_agree (Query.recursive n t m) ms a b h =
    let k = right_agree t (term_reads m) a b (behind ms (number_of t ++ term_reads m) a b h) in
    ap₂ (λ f xs. (found_by f n xs).all) (fun_ext (term_agree m a b k.1)) k.0

with_agree : (n : ℕ) (xs ys : List Record) (wanted : List ℕ) (a b : Contents) → xs ≡ ys → Agree wanted a b → Agree wanted (with_table n xs a) (with_table n ys b)
with_agree n xs ys wanted a b e h (Table.given i) w = h (Table.given i) tt
with_agree n xs ys wanted a b e h (Table.made m) w = ap₂ (λ us vs. cond (nat_eq m n) us vs) e (h (Table.made m) w)

-- what is read by no one is as before
kept_out : (n : ℕ) (ys : List Record) (wanted : List ℕ) (a b : Contents) → is_in n wanted ≡ false → Agree wanted a b → Agree wanted a (with_table n ys b)
kept_out n ys wanted a b f h (Table.given i) w = h (Table.given i) tt
kept_out n ys wanted a b f h (Table.made m) w = by (nat_eq m n) refl
  where
    by : (c : Bool) → nat_eq m n ≡ c → a (Table.made m) ≡ cond c ys (b (Table.made m))
    by true e = (let same : m ≡ n = other_number m n e in let bad : true ≡ false = sym w ∙ ap (λ k. is_in k wanted) same ∙ f in absurd cc)
    by false e = h (Table.made m) w

-- the same of a script of all epochs
rows_by_epoch_agree : (q : Query) (ms : List ℕ) (a b : Contents) → Agree (ms ++ reads q) a b → rows_by_epoch q a ≡ rows_by_epoch q b
unfolding rows_by_epoch
rows_by_epoch_agree (Query.select es t) ms a b h = ap (λ xs. rows_by_epoch (Query.select es t) (λ u. xs)) (h t (front t ms))
rows_by_epoch_agree (Query.select_where t c) ms a b h = ap (λ xs. rows_by_epoch (Query.select_where t c) (λ u. xs)) (h t (front t ms))
rows_by_epoch_agree (Query.select_join t u ps) ms a b h = rw (h t (first_of_two t u ms), h u (second_of_two t u ms)) refl
rows_by_epoch_agree (Query.select_group ks as' t) ms a b h = ap (λ xs. rows_by_epoch (Query.select_group ks as' t) (λ u. xs)) (h t (front t ms))
rows_by_epoch_agree (Query.select_distinct t) ms a b h = rows_agree (Query.select_distinct t) ms a b h
rows_by_epoch_agree (Query.union_all t u) ms a b h = rows_agree (Query.union_all t u) ms a b h
rows_by_epoch_agree (Query.except t u) ms a b h = rows_agree (Query.except t u) ms a b h
rows_by_epoch_agree (Query.intersect t u) ms a b h = rows_agree (Query.intersect t u) ms a b h
rows_by_epoch_agree (Query.recursive n t m) ms a b h =
    let k = right_agree t (term_reads m) a b (behind ms (number_of t ++ term_reads m) a b h) in
    ap₂ (λ f xs. (found_by f n xs).all) (fun_ext (term_by_epoch_agree m a b k.1)) k.0

-- what each table holds if all are made, by the rows of each query, which depend only on the tables that it reads
module _ (rows : Query → Contents → List Record) (reading : (q : Query) (ms : List ℕ) (a b : Contents) → Agree (ms ++ reads q) a b → rows q a ≡ rows q b) (tables : List (List Record)) (all : List Query → Contents) (none : all [] ≡ only_given tables)
    (more_made : (q : Query) (earlier : List Query) → all (q ∷ earlier) ≡ with_table (length earlier) (rows q (all earlier)) (all earlier))
  where
    abbrev some : List ℕ → List Query → Contents
    some wanted qs = contents_of_wanted rows wanted qs tables

    agree : (wanted : List ℕ) (qs : List Query) → Agree wanted (some wanted qs) (all qs)
    agree wanted [] = λ t w. ap (λ (holds : Contents). holds t) (sym none)
    agree wanted (q ∷ earlier) = λ t w. by (agree (wanted ++ reads q) earlier) (agree wanted earlier) (is_in (length earlier) wanted) refl t w ∙ ap (λ (holds : Contents). holds t) (sym (more_made q earlier))
      where
        by : Agree (wanted ++ reads q) (some (wanted ++ reads q) earlier) (all earlier) → Agree wanted (some wanted earlier) (all earlier) → (c : Bool) → is_in (length earlier) wanted ≡ c → Agree wanted
            (cond c (with_table (length earlier) (rows q (some (wanted ++ reads q) earlier)) (some (wanted ++ reads q) earlier)) (some wanted earlier)) (with_table (length earlier) (rows q (all earlier)) (all earlier))
        by below same true e =
            with_agree (length earlier) (rows q (some (wanted ++ reads q) earlier)) (rows q (all earlier)) wanted (some (wanted ++ reads q) earlier) (all earlier) (reading q wanted _ _ below)
            (λ t w. below t (kept t wanted (reads q) w))
        by below same false e = kept_out (length earlier) (rows q (all earlier)) wanted (some wanted earlier) (all earlier) e same

pub unwanted : (wanted : List ℕ) (s : Script) (tables : List (List Record)) (t : Table) → IsWanted wanted t → contents_of_wanted rows_of wanted s.tables tables t ≡ contents s.tables tables t
unwanted wanted s tables t w = agree rows_of rows_agree tables (λ qs. contents qs tables) refl (λ q earlier. refl) wanted s.tables t w

pub unwanted_by_epoch : (wanted : List ℕ) (s : Script) (tables : List (List Record)) (t : Table) → IsWanted wanted t → contents_of_wanted rows_by_epoch wanted s.tables tables t ≡ contents_by_epoch s.tables tables t
unwanted_by_epoch wanted s tables t w = agree rows_by_epoch rows_by_epoch_agree tables (λ qs. contents_by_epoch qs tables) refl (λ q earlier. refl) wanted s.tables t w
