-- Files of which one is refused have no input text.
use Rattle.std.proofs.Common.{◌≡◌, ◌≢◌, ◌+◌, ◌∷◌, ◌∙◌, ◌||◌, ◌<◌, ℕ, ℤ, pos, negsuc, zero, suc, List, [], Bool, true, false, get_or, length, map, slice_get, Some, refl, sym, ap, subst, arith, inl, inr}
use Rattle.std.specs.List.{AllByRecursion, list_any}
use Rattle.std.proofs.lemmas.Bool.{cases_Bool}
use Rattle.csv_cells.specs.Cells.{Stands, plain}
use Rattle.csv_cells.specs.Texts.{text_at}
use Rattle.csv_cells.specs.declared.column.Column.{Column}
use Rattle.csv_cells.specs.declared.column.Empty.{Empty}
use Rattle.csv_cells.specs.declared.column.Empty.TheVariants.{Refused, Kept, Number}
use Rattle.csv_cells.specs.declared.column.Kind.{Kind}
use Rattle.csv_cells.specs.declared.column.Kind.TheVariants as kind
use Rattle.schema.specs.Schemas.{IsColumn, IsEmptyOf, IsEpochsOf, IsSchema, IsTable, said}
use Rattle.schema.specs.declared.tables.Epochs.{Epochs}
use Rattle.schema.specs.declared.tables.Epochs.TheVariants.{One, By, Every}
use Rattle.schema.specs.declared.tables.Schema.{Schema}
use Rattle.schema.specs.declared.tables.Table.{Table}
use Rattle.tables.specs.Inputs.{AreJoined, IsEncodedFile, IsInput, IsRefusedFile, has_own}
use Rattle.csv_answers.specs.declared.refusal.Fault.{Fault}
use Rattle.csv_answers.specs.declared.refusal.TableRefusal.TheVariants.{At}
use Rattle.tables.proofs.NoLines.{AreReadable, HasOrder, no-lines}

-- no text has a number in an empty dictionary
no-text : (z : ℤ) (cell : List ℕ) → text_at [] z ≡ Some cell → ⊥
no-text (pos n) cell e = cc e
no-text (negsuc n) cell e = cc e

-- a right column is readable
column-readable : (k : Kind) (e : Empty) → IsEmptyOf k e → (n : ℤ) → k ≡ kind.Text → e ≢ Number n
column-readable k Refused h n is same = cc same
column-readable k Kept h n is same = cc same
column-readable k (Number m) h n is same = no-text m h.1.0 (subst (λ (t : Kind). Stands t [] m h.1.0) is h.1.1.1)

columns-readable : (columns : List Column) → AllByRecursion IsColumn columns → AreReadable columns
columns-readable [] h i below = absurd (omega arith)
columns-readable (c ∷ columns) h zero below = column-readable c.kind c.empty h.0.1
columns-readable (c ∷ columns) h (suc i) below = columns-readable columns h.1 i (omega (arith, below))

-- a table of a right schema is right
right-table : (tables : List Table) (i : ℕ) (table : Table) → AllByRecursion IsTable (map said tables) → slice_get tables i ≡ Some table → IsTable (said table)
right-table [] i table h at = cc at
right-table (t ∷ tables) zero table h at = let same : t ≡ table = cc at in subst (λ (x : Table). IsTable (said x)) same h.0
right-table (t ∷ tables) (suc i) table h at = right-table tables i table h.1 at

-- its epochs have an order
has-order : (columns : List Column) (epochs : Epochs) → IsEpochsOf columns epochs → HasOrder columns epochs
has-order columns One h place is = cc is
has-order columns Every h place is = cc is
has-order columns (By p) h place is = let same : p ≡ place = cc is in subst (λ (k : ℕ). (k < length columns) × ((get_or columns k plain).kind ≢ kind.Text)) same h

-- each table of those that are joined has its lines
joined-at : (own : Bool) (shared : List ℕ) (files texts : List (List ℕ)) (place i at : ℕ) (tables : List Table) (table : Table) (lines : List ℕ) → at ≡ place + i
    → AreJoined own shared files texts place tables lines → slice_get tables i ≡ Some table → has_own table.epochs ≡ own → (first : List ℕ) × IsEncodedFile table shared (get_or files at []) texts first
unfolding AreJoined
joined-at own shared files texts place i at [] table lines sum h here is = cc here
joined-at own shared files texts place zero at (t ∷ tables) table lines sum (first, rest, inl part, more, whole) here is =
    let same : t ≡ table = cc here in
    let same_place : place ≡ at = omega (arith, sum) in
    (first, subst (λ (k : ℕ). IsEncodedFile table shared (get_or files k []) texts first) same_place (subst (λ (x : Table). IsEncodedFile x shared (get_or files place []) texts first) same part.1))
joined-at own shared files texts place zero at (t ∷ tables) table lines sum (first, rest, inr part, more, whole) here is =
    let same : t ≡ table = cc here in
    absurd (part.0 (ap (λ (x : Table). has_own x.epochs) same ∙ is))
joined-at own shared files texts place (suc i) at (t ∷ tables) table lines sum (first, rest, part, more, whole) here is =
    joined-at own shared files texts (suc place) i at tables table rest (omega (arith, sum)) more here is

either : (a b : Bool) → b ≡ true → (a || b) ≡ true
either true b e = refl
either false b e = e

one-own : (tables : List Table) (i : ℕ) (table : Table) → slice_get tables i ≡ Some table → has_own table.epochs ≡ true → list_any (λ (t : Table). has_own t.epochs) tables ≡ true
one-own [] i table here is = cc here
one-own (t ∷ tables) zero table here is =
    let same : t ≡ table = cc here in
    let own : has_own t.epochs ≡ true = ap (λ (x : Table). has_own x.epochs) same ∙ is in
    rw own refl
one-own (t ∷ tables) (suc i) table here is = either (has_own t.epochs) (list_any (λ (t : Table). has_own t.epochs) tables) (one-own tables i table here is)

found : (own : Bool) (shared : List ℕ) (files texts others : List (List ℕ)) (tables : List Table) (lines : List ℕ) (file : ℕ) (table : Table) (fault : Fault) (line : ℕ) → AreReadable table.columns.items
    → HasOrder table.columns.items table.epochs → slice_get tables file ≡ Some table → IsRefusedFile table (get_or files file []) texts (At fault line)
    → AreJoined own shared files others 0 tables lines → has_own table.epochs ≡ own → ⊥
found own shared files texts others tables lines file table fault line ok order here refused joined is =
    let at = joined-at own shared files others 0 file file tables table lines (omega arith) joined here is in
    no-lines table shared (get_or files file []) texts others at.0 fault line ok order refused at.1

true-false : (b : Bool) → b ≡ true → b ≡ false → ⊥
true-false b e f = let g : true ≡ false = sym e ∙ f in cc g

pub no-input : (schema : Schema) (files texts others : List (List ℕ)) (out : List ℕ) (file : ℕ) (table : Table) (fault : Fault) (line : ℕ) → IsSchema schema
    → slice_get schema.inputs.items file ≡ Some table → IsRefusedFile table (get_or files file []) texts (At fault line) → IsInput schema files others out → ⊥
no-input schema files texts others out file table fault line right here refused (shared, joined, outs) =
    let tables : List Table = schema.inputs.items in
    let is = right-table tables file table right.inputs.0 here in
    let ok = columns-readable table.columns.items is.columns in
    let order = has-order table.columns.items table.epochs is.epochs in
    elim (cases_Bool (has_own table.epochs)) [
      | inl own ↦ elim outs [
        | inl some ↦ found true shared files texts others tables out file table fault line ok order here refused some.1 own
        | inr none ↦ true-false _ (one-own tables file table here own) none.0
      ]
      | inr not_own ↦ found false [] files texts others tables shared file table fault line ok order here refused joined not_own
    ]
