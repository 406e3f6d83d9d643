-- Numbered lists of columns and of places read back.
use Rattle.std.proofs.Common.{◌≡◌, ℕ, zero, suc, ◌+◌, ◌<◌, ◌^◌, List, [], ◌∷◌, ◌++◌, map, length, refl, sym, ap, ◌∙◌, get_or, append_assoc, append-nil, length-append, arith, codes}
use Rattle.std.specs.List.{AllByRecursion}
use Rattle.record_core.specs.Names.{is_digit}
use Rattle.sql.specs.Epochs.{declared_epoch, made_epoch, places}
use Rattle.sql.specs.Text.{column_text, continued, joined, numbered, made_column_text, made_columns_text, place_text, declared_text, declared_columns_text}
use Rattle.sql.specs.declared.form.Dialect.{Dialect}
use Rattle.sql.specs.declared.form.Dialect.TheVariants.{Postgres, Sqlite, Spark}
use Rattle.sql.specs.declared.form.Epochs.{Epochs}
use Rattle.sql.specs.declared.form.Epochs.TheVariants as epochs
use Rattle.sql_reading.proofs.PrefixWords.{Text, cancel, read_decimal, decimal_first, both_ways}
use Rattle.sql_reading.proofs.ListsReadBack.{Follows, Semicolon, first_differs, ends_followed, read_column, read_joined}

abbrev comma : Text
comma = codes ", "

abbrev upto : ℕ → List ℕ
upto zero = []
upto (suc n) = upto n ++ (n ∷ [])

more_assoc : (o c x y : Text) → o ++ (c ++ (x ++ y)) ≡ (o ++ (c ++ x)) ++ y
more_assoc o c x y = simp append_assoc

continued_more : (f : ℕ → Text) (xs : List ℕ) (x : ℕ) → continued comma (map f (xs ++ x ∷ [])) ≡ continued comma (map f xs) ++ (comma ++ f x)
continued_more f [] x = ap (λ (t : Text). comma ++ t) (append-nil (f x))
continued_more f (y ∷ ys) x = ap (λ (t : Text). comma ++ (f y ++ t)) (continued_more f ys x) ∙ more_assoc comma (f y) (continued comma (map f ys)) (comma ++ f x)

two_assoc : (a o b : Text) → a ++ (o ++ (b ++ [])) ≡ (a ++ []) ++ (o ++ b)
two_assoc a o b = simp append-nil

joined_more : (f : ℕ → Text) (xs : List ℕ) (z x : ℕ) → joined comma (map f ((xs ++ z ∷ []) ++ x ∷ [])) ≡ joined comma (map f (xs ++ z ∷ [])) ++ (comma ++ f x)
joined_more f [] z x = two_assoc (f z) comma (f x)
joined_more f (y ∷ ys) z x =
    ap (λ (t : Text). f y ++ t) (continued_more f (ys ++ z ∷ []) x) ∙ sym (append_assoc (f y) (continued comma (map f (ys ++ z ∷ []))) (comma ++ f x))

numbered_is : (f : ℕ → Text) (n : ℕ) → numbered f n ≡ joined comma (map f (upto n))
numbered_is f zero = refl
numbered_is f (suc zero) = sym (append-nil (f 0))
numbered_is f (suc (suc n)) = ap (λ (t : Text). t ++ (comma ++ f (suc n))) (numbered_is f (suc n)) ∙ sym (joined_more f (upto n) n (suc n))

all_more : (P : ℕ → Type 0) (xs : List ℕ) (x : ℕ) → AllByRecursion P xs → P x → AllByRecursion P (xs ++ x ∷ [])
all_more P [] x h k = (k, tt)
all_more P (y ∷ ys) x h k = (h.0, all_more P ys x h.1 k)

all_upto : (P : ℕ → Type 0) → ((c : ℕ) → suc c < 2 ^ 64 → P c) → (n : ℕ) → n < 2 ^ 64 → AllByRecursion P (upto n)
all_upto P f zero h = tt
all_upto P f (suc n) h = all_more P (upto n) n (all_upto P f n (omega arith)) (f n h)

upto_length : (n : ℕ) → length (upto n) ≡ n
upto_length zero = refl
upto_length (suc n) = omega (arith, length-append (upto n) (n ∷ []), upto_length n)

pub read_numbered : (f : ℕ → Text) (P : ℕ → Type 0) (Last : Text → Type 0)
    → ((xs ys : List ℕ) (r s : Text) → AllByRecursion P xs → AllByRecursion P ys → Last r → Last s → joined comma (map f xs) ++ r ≡ joined comma (map f ys) ++ s → (xs ≡ ys) × (r ≡ s))
    → ((c : ℕ) → suc c < 2 ^ 64 → P c) → (m n : ℕ) (r s : Text) → m < 2 ^ 64 → n < 2 ^ 64 → Last r → Last s → numbered f m ++ r ≡ numbered f n ++ s → (m ≡ n) × (r ≡ s)
read_numbered f P Last reads fits m n r s h k l l' e =
    let both : (upto m ≡ upto n) × (r ≡ s) =
    reads (upto m) (upto n) r s (all_upto P fits m h) (all_upto P fits n k) l l'
    (ap (λ (t : Text). t ++ r) (sym (numbered_is f m)) ∙ e ∙ ap (λ (t : Text). t ++ s) (numbered_is f n)) in
    (sym (upto_length m) ∙ ap (λ (xs : List ℕ). length xs) both.0 ∙ upto_length n, both.1)

-- a bracket comes
abbrev pub Close : Text → Type 0
Close t = get_or t 0 0 ≡ 41

abbrev Small : ℕ → Type 0
Small c = c < 2 ^ 64

small_below : (c : ℕ) → suc c < 2 ^ 64 → Small c
small_below c h = omega arith

no_comma : (r t : Text) → Close r → r ≡ comma ++ t → ⊥
no_comma r t h e = first_differs r (comma ++ t) 41 h e refl

-- ---- columns of a table that is made

check_assoc : (c k e r : Text) → (c ++ (k ++ (c ++ e))) ++ r ≡ c ++ (k ++ (c ++ (e ++ r)))
check_assoc c k e r = simp append_assoc

read_checked : (c d : ℕ) (r s : Text) → Small c → Small d → made_column_text Sqlite c ++ r ≡ made_column_text Sqlite d ++ s → (c ≡ d) × (r ≡ s)
read_checked c d r s f g e =
    let k : Text = codes " CHECK (typeof(" in
    let o : Text = codes ") = 'integer')" in
    let t : Text = column_text c ++ (o ++ r) in
    let u : Text = column_text d ++ (o ++ s) in
    let first : (c ≡ d) × (k ++ t ≡ k ++ u) = read_column c d (k ++ t) (k ++ u) f g refl refl (sym (check_assoc (column_text c) k o r) ∙ e ∙ check_assoc (column_text d) k o s) in
    let second : (c ≡ d) × (o ++ r ≡ o ++ s) = read_column c d (o ++ r) (o ++ s) f g refl refl (cancel k t u first.1) in
    (first.0, cancel o r s second.1)

read_made_column : (a : Dialect) (c d : ℕ) (r s : Text) → Small c → Small d → Follows r → Follows s → made_column_text a c ++ r ≡ made_column_text a d ++ s → (c ≡ d) × (r ≡ s)
read_made_column Postgres c d r s f g h k e = read_column c d r s f g (ends_followed r h) (ends_followed s k) e
read_made_column Sqlite c d r s f g h k e = read_checked c d r s f g e
read_made_column Spark c d r s f g h k e = read_column c d r s f g (ends_followed r h) (ends_followed s k) e

no_column : (a : Dialect) (x : ℕ) (r t : Text) → Small x → Close r → r ≡ made_column_text a x ++ t → ⊥
no_column Postgres x r t f h e = first_differs r (made_column_text Postgres x ++ t) 41 h e refl
no_column Sqlite x r t f h e = first_differs r (made_column_text Sqlite x ++ t) 41 h e refl
no_column Spark x r t f h e = first_differs r (made_column_text Spark x ++ t) 41 h e refl

read_numbered_made : (a : Dialect) (m n : ℕ) (r s : Text) → m < 2 ^ 64 → n < 2 ^ 64 → Close r → Close s → numbered (made_column_text a) m ++ r ≡ numbered (made_column_text a) n ++ s → (m ≡ n) × (r ≡ s)
read_numbered_made a = read_numbered (made_column_text a) Small Close
    (read_joined (made_column_text a) Small comma Follows Close (read_made_column a) (λ r h. Follows.close h) (λ r. Follows.comma refl) no_comma (no_column a)) small_below

-- columns after the epoch
after_epoch : (k a b r s : Text) → (k ++ a) ++ r ≡ (k ++ b) ++ s → a ++ r ≡ b ++ s
after_epoch k a b r s e = cancel k (a ++ r) (b ++ s) (sym (append_assoc k a r) ∙ e ∙ append_assoc k b s)

pub read_made_columns : (a : Dialect) (o : Epochs) (m n : ℕ) (r s : Text) → m < 2 ^ 64 → n < 2 ^ 64 → Close r → Close s → made_columns_text a o m ++ r ≡ made_columns_text a o n ++ s → (m ≡ n) × (r ≡ s)
read_made_columns a o m n r s h k l l' e =
    read_numbered_made a m n r s h k l l' (after_epoch (made_epoch o a) (numbered (made_column_text a) m) (numbered (made_column_text a) n) r s e)

-- ---- columns of a given table

declared_assoc : (c w r : Text) → (c ++ w) ++ r ≡ c ++ (w ++ r)
declared_assoc c w r = append_assoc c w r

read_declared : (c d : ℕ) (r s : Text) → Small c → Small d → Follows r → Follows s → declared_text c ++ r ≡ declared_text d ++ s → (c ≡ d) × (r ≡ s)
read_declared c d r s f g h k e =
    let w : Text = codes " BIGINT NOT NULL" in
    let both : (c ≡ d) × (w ++ r ≡ w ++ s) = read_column c d (w ++ r) (w ++ s) f g refl refl (sym (declared_assoc (column_text c) w r) ∙ e ∙ declared_assoc (column_text d) w s) in
    (both.0, cancel w r s both.1)

no_declared : (x : ℕ) (r t : Text) → Small x → Close r → r ≡ declared_text x ++ t → ⊥
no_declared x r t f h e = first_differs r (declared_text x ++ t) 41 h e refl

read_numbered_declared : (m n : ℕ) (r s : Text) → m < 2 ^ 64 → n < 2 ^ 64 → Close r → Close s → numbered declared_text m ++ r ≡ numbered declared_text n ++ s → (m ≡ n) × (r ≡ s)
read_numbered_declared = read_numbered declared_text Small Close
    (read_joined declared_text Small comma Follows Close read_declared (λ r h. Follows.close h) (λ r. Follows.comma refl) no_comma no_declared) small_below

pub read_declared_columns : (o : Epochs) (m n : ℕ) (r s : Text) → m < 2 ^ 64 → n < 2 ^ 64 → Close r → Close s → declared_columns_text o m ++ r ≡ declared_columns_text o n ++ s → (m ≡ n) × (r ≡ s)
read_declared_columns o m n r s h k l l' e =
    read_numbered_declared m n r s h k l l' (after_epoch (declared_epoch o) (numbered declared_text m) (numbered declared_text n) r s e)

-- ---- places to sort by

abbrev Placed : ℕ → Type 0
Placed c = c + 1 < 2 ^ 64

read_place : (c d : ℕ) (r s : Text) → Placed c → Placed d → Follows r → Follows s → place_text c ++ r ≡ place_text d ++ s → (c ≡ d) × (r ≡ s)
read_place c d r s f g h k e =
    let both : (c + 1 ≡ d + 1) × (r ≡ s) = read_decimal (c + 1) (d + 1) r s f g (ends_followed r h) (ends_followed s k) e in
    (omega (arith, both.0), both.1)

no_place : (x : ℕ) (r t : Text) → Placed x → Semicolon r → r ≡ place_text x ++ t → ⊥
no_place x r t f h e = both_ways (is_digit 59) (sym (ap is_digit h) ∙ ap (λ u. is_digit (get_or u 0 0)) e ∙ decimal_first (x + 1) t f) refl

no_comma_placed : (r t : Text) → Semicolon r → r ≡ comma ++ t → ⊥
no_comma_placed r t h e = first_differs r (comma ++ t) 59 h e refl

read_numbered_places : (m n : ℕ) (r s : Text) → m < 2 ^ 64 → n < 2 ^ 64 → Semicolon r → Semicolon s → numbered place_text m ++ r ≡ numbered place_text n ++ s → (m ≡ n) × (r ≡ s)
read_numbered_places = read_numbered place_text Placed Semicolon
    (read_joined place_text Placed comma Follows Semicolon read_place (λ r h. Follows.semicolon h) (λ r. Follows.comma refl) no_comma_placed no_place) (λ c h. omega (arith, h))

places_same : (o : Epochs) (m n : ℕ) → places o m ≡ places o n → m ≡ n
places_same epochs.One m n e = e
places_same epochs.Every m n e = omega (arith, e)

pub read_places : (o : Epochs) (m n : ℕ) (r s : Text) → places o m < 2 ^ 64 → places o n < 2 ^ 64 → Semicolon r → Semicolon s → numbered place_text (places o m) ++ r ≡ numbered place_text (places o n) ++ s
    → (m ≡ n) × (r ≡ s)
read_places o m n r s h k l l' e =
    let both : (places o m ≡ places o n) × (r ≡ s) = read_numbered_places (places o m) (places o n) r s h k l l' e in
    (places_same o m n both.0, both.1)
