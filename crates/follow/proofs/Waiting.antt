-- Lists of places that are added to and emptied one after another.
use Rattle.std.proofs.Common.{◌≡◌, ◌<◌, ◌≤◌, ◌⊎◌, ◌+◌, ◌∙◌, ℕ, zero, suc, List, [], ◌∷◌, ◌++◌, length, map, take, refl, sym, ap, arith, inl, inr, slice_index_or}
use Rattle.std.proofs.lemmas.Option.{slice_get_read}
use Rattle.std.specs.Prelude.{◌==◌, Bool, cond, slice_set}
use Rattle.std.proofs.lemmas.Bool.{cases_lt}
use Rattle.std.proofs.lemmas.Bool.Decides.{eqb_tells}
use Rattle.std.proofs.lemmas.List.{get_or_default, get_or-map, get_or-set_other, get_or-set_same, get_or_past, length-map, take_all}
use Rattle.rows.specs.FlatRows.{RowList}
use Rattle.record_core.specs.Inputs.{input_of}
use Rattle.record_core.specs.declared.input.DeclaredInput.{DeclaredInput}
use Rattle.semantics.specs.Multiset.{Record}
use Rattle.semantics.specs.Query.{Input}
use Rattle.semantics.specs.Typing.{IsArity}
use Rattle.expr_tree.proofs.Copies.{seen-push}
use Rattle.follow.specs.Steps.{HaveArities}
use Rattle.follow.specs.Scenes.{no_rows}

-- no place has a row
abbrev pub AreEmpty : List RowList → Type 0
AreEmpty xs = (i : ℕ) → (slice_index_or xs i no_rows).rows ≡ []

pub empty_push : (xs : List RowList) (x : RowList) → AreEmpty xs → x.rows ≡ [] → AreEmpty (xs ++ x ∷ [])
empty_push [] x none e zero = e
empty_push [] x none e (suc i) = refl
empty_push (y ∷ xs) x none e zero = none zero
empty_push (y ∷ xs) x none e (suc i) = empty_push xs x (λ k. none (suc k)) e i

-- every place has 0
abbrev pub AreZero : List ℕ → Type 0
AreZero xs = (k : ℕ) → slice_index_or xs k 0 ≡ 0

pub zero_push : (xs : List ℕ) (x : ℕ) → AreZero xs → x ≡ 0 → AreZero (xs ++ x ∷ [])
zero_push [] x none e zero = e
zero_push [] x none e (suc i) = refl
zero_push (y ∷ xs) x none e zero = none zero
zero_push (y ∷ xs) x none e (suc i) = zero_push xs x (λ k. none (suc k)) e i

-- the places below n have 0
abbrev pub AreZeroBelow : List ℕ → (n : ℕ) → Type 0
AreZeroBelow xs n = (k : ℕ) → k < n → slice_index_or xs k 0 ≡ 0

pub zero_more : (xs : List ℕ) (n : ℕ) → AreZeroBelow xs n → n < length xs → AreZeroBelow (slice_set xs n 0) (n + 1)
zero_more xs n below lt k less = elim (eqb_tells k n) [
  | inl same ↦ ap (λ (j : ℕ). slice_index_or (slice_set xs n 0) j 0) same.1 ∙ get_or-set_same xs n 0 0 lt
  | inr other ↦ get_or-set_other xs n k 0 0 other.1 ∙ below k (omega (arith, less, other.1))
]

pub zero_next : (xs : List ℕ) (n : ℕ) → AreZeroBelow xs n → slice_index_or xs n 0 ≡ 0 → AreZeroBelow xs (n + 1)
zero_next xs n below here k less = elim (eqb_tells k n) [
  | inl same ↦ ap (λ (j : ℕ). slice_index_or xs j 0) same.1 ∙ here
  | inr other ↦ below k (omega (arith, less, other.1))
]

pub zero_all : (xs : List ℕ) (n : ℕ) → AreZeroBelow xs n → length xs ≤ n → AreZero xs
zero_all xs n below le k = cases_here (cases_lt k n)
  where
    cases_here : (k < n) ⊎ (n ≤ k) → slice_index_or xs k 0 ≡ 0
    cases_here (inl lt) = below k lt
    cases_here (inr ge) = get_or_past xs k 0 (omega (arith, le, ge))

-- ---- a list of rows in the place of another

pub at_place : (xs : List RowList) (n : ℕ) (x : RowList) → x ≡ slice_index_or xs n x → n < length xs → x ≡ slice_index_or xs n no_rows
at_place xs n x is lt = is ∙ get_or_default xs n x no_rows lt

pub set_arities : (xs : List RowList) (n : ℕ) (x : RowList) → x.arity ≡ (slice_index_or xs n no_rows).arity → map (λ (r : RowList). r.arity) (slice_set xs n x) ≡ map (λ (r : RowList). r.arity) xs
set_arities [] n x same = refl
set_arities (y ∷ xs) zero x same = ap (λ (k : ℕ). k ∷ map (λ (r : RowList). r.arity) xs) same
set_arities (y ∷ xs) (suc n) x same = ap (λ (ks : List ℕ). y.arity ∷ ks) (set_arities xs n x same)

pub set_rows : (xs : List RowList) (n : ℕ) (x : RowList) (i : ℕ) → n < length xs → (slice_index_or (slice_set xs n x) i no_rows).rows ≡ cond (i == n) x.rows (slice_index_or xs i no_rows).rows
set_rows xs n x i lt =
    let old = (slice_index_or xs i no_rows).rows in
    elim (eqb_tells i n) [
      | inl same ↦ ap (λ (j : ℕ). (slice_index_or (slice_set xs n x) j no_rows).rows) same.1 ∙ ap (λ (r : RowList). r.rows) (get_or-set_same xs n x no_rows lt) ∙ ap (λ (t : Bool). cond t x.rows old) (sym same.0)
      | inr other ↦ ap (λ (r : RowList). r.rows) (get_or-set_other xs n i x no_rows other.1) ∙ ap (λ (t : Bool). cond t x.rows old) (sym other.0)
    ]

-- one more row, if it is the place
pub one_more : (xs : List RowList) (n i : ℕ) (x : RowList) (row : Record) → x.rows ≡ (slice_index_or xs n no_rows).rows ++ row ∷ []
    → cond (i == n) x.rows (slice_index_or xs i no_rows).rows ≡ cond (i == n) ((slice_index_or xs i no_rows).rows ++ row ∷ []) (slice_index_or xs i no_rows).rows
one_more xs n i x row more =
    let old = (slice_index_or xs i no_rows).rows in
    elim (eqb_tells i n) [
      | inl same ↦ ap (λ (t : Bool). cond t x.rows old) same.0 ∙ more ∙ ap (λ (j : ℕ). (slice_index_or xs j no_rows).rows ++ row ∷ []) (sym same.1) ∙ ap (λ (t : Bool). cond t (old ++ row ∷ []) old) (sym same.0)
      | inr other ↦ ap (λ (t : Bool). cond t x.rows old) other.0 ∙ ap (λ (t : Bool). cond t (old ++ row ∷ []) old) (sym other.0)
    ]

-- ---- declared inputs

pub declared_arity : (inputs : List DeclaredInput) (i : ℕ) (x : DeclaredInput) → HaveArities (map input_of inputs) → i < length inputs → x ≡ slice_index_or inputs i x → IsArity x.arity
declared_arity inputs i x have lt is = have i (input_of x) (slice_get_read (map input_of inputs) (length inputs) i (input_of x) (sym (length-map inputs input_of)) lt (ap input_of is ∙ sym (get_or-map input_of inputs i x (input_of x) lt)))

-- one more list of rows, of the arity of the next input
pub fits_push : (xs : List RowList) (x : RowList) (inputs : List DeclaredInput) (y : DeclaredInput) (i : ℕ) → map (λ (r : RowList). r.arity) xs ≡ map (λ (j : DeclaredInput). j.arity) (take i inputs) → x.arity ≡ y.arity → i < length inputs → y ≡ slice_index_or inputs i y
    → map (λ (r : RowList). r.arity) (xs ++ x ∷ []) ≡ map (λ (j : DeclaredInput). j.arity) (take (i + 1) inputs)
fits_push xs x inputs y i fits same lt is = seen-push (λ (r : RowList). r.arity) (λ (j : DeclaredInput). j.arity) xs (xs ++ x ∷ []) inputs inputs x y i refl fits same refl lt is

same_arities : (inputs : List DeclaredInput) → map (λ (j : DeclaredInput). j.arity) inputs ≡ map (λ (j : Input). j.arity) (map input_of inputs)
same_arities [] = refl
same_arities (x ∷ xs) = ap (λ (ks : List ℕ). x.arity ∷ ks) (same_arities xs)

pub fits_all : (xs : List RowList) (inputs : List DeclaredInput) (n : ℕ) → map (λ (r : RowList). r.arity) xs ≡ map (λ (j : DeclaredInput). j.arity) (take n inputs) → length inputs ≤ n → map (λ (r : RowList). r.arity) xs ≡ map (λ (j : Input). j.arity) (map input_of inputs)
fits_all xs inputs n fits le = fits ∙ ap (λ (is : List DeclaredInput). map (λ (j : DeclaredInput). j.arity) is) (take_all n inputs le) ∙ same_arities inputs
