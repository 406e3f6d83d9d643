-- The text of a schema, part by part.
use Rattle.std.proofs.Common.{◌≡◌, ◌≤◌, ◌<◌, ◌+◌, ℕ, List, [], ◌∷◌, ◌++◌, length, drop, get_or, map, refl, sym, ◌∙◌, ap}
use Rattle.std.proofs.lemmas.List.{drop_more, get_or-map, length-map}
use Rattle.std.proofs.Math.ListN.{drop_of_length-le}
use Rattle.csv_cells.specs.declared.column.Column.{Column}
use Rattle.schema.specs.declared.tables.Table.{Table}
use Rattle.schema.specs.declared.tables.Constant.{Constant}
use Rattle.schema.specs.Text.{AreColumnsText, AreTablesText, IsColumnText, IsTableText, constant_text, constants_text}

-- the items from a place on are the one there, and those after it
item-more : {X : Type 0} (xs : List X) (i : ℕ) (x : X) → i < length xs → x ≡ get_or xs i x → drop i xs ≡ x ∷ drop (i + 1) xs
item-more xs i x below is = drop_more xs i x below ∙ ap (λ y. y ∷ drop (i + 1) xs) (sym is)

-- a table's text comes before those of the tables that are left
pub tables-more : (word : List ℕ) (tables : List Table) (i : ℕ) (item : Table) (first rest : List ℕ) → i < length tables → item
    ≡ get_or tables i item → IsTableText word item first
    → AreTablesText word (drop (i + 1) tables) rest → AreTablesText word (drop i tables) (first ++ rest)
unfolding AreTablesText
tables-more word tables i item first rest below is here more = rw (item-more tables i item below is) (first, rest, here, more, refl)

pub tables-none : (word : List ℕ) (tables : List Table) (i : ℕ) → length tables ≤ i → AreTablesText word (drop i tables) []
unfolding AreTablesText
tables-none word tables i past = rw (drop_of_length-le tables past) refl

-- the same of columns, each with its name
pub name-more : {K : Type 0} (v : K → List ℕ) (names : List K) (i : ℕ) (item : K) (name : List ℕ) → i < length names → item
    ≡ get_or names i item → name ≡ v item
    → drop i (map v names) ≡ name ∷ drop (i + 1) (map v names)
name-more v names i item name below is same = drop_more (map v names) i [] (rw (length-map names v) below)
    ∙ ap (λ t. t ∷ drop (i + 1) (map v names)) (get_or-map v names i item [] below ∙ ap v (sym is) ∙ sym same)

pub names-none : {K : Type 0} (v : K → List ℕ) (names : List K) (i : ℕ) → length names ≤ i → drop i (map v names) ≡ []
names-none v names i past = drop_of_length-le (map v names) (rw (length-map names v) past)

pub columns-more : (names : List (List ℕ)) (columns : List Column) (i : ℕ) (name : List ℕ) (d : Column) (first rest : List ℕ) → drop i names
    ≡ name ∷ drop (i + 1) names → i < length columns
    → IsColumnText name (get_or columns i d) first → AreColumnsText (drop (i + 1) names) (drop (i + 1) columns) rest
    → AreColumnsText (drop i names) (drop i columns) (first ++ rest)
unfolding AreColumnsText
columns-more names columns i name d first rest named below here more = rw (named, drop_more columns i d below) (first, rest, here, more, refl)

pub columns-none : (names : List (List ℕ)) (columns : List Column) (i : ℕ) → drop i names ≡ [] → length columns ≤ i
    → AreColumnsText (drop i names) (drop i columns) []
unfolding AreColumnsText
columns-none names columns i none past = rw (none, drop_of_length-le columns past) refl

-- the same of constants
pub constants-more : (constants : List Constant) (i : ℕ) (item : Constant) → i < length constants → item ≡ get_or constants i item
    → constants_text (drop i constants) ≡ constant_text item ++ constants_text (drop (i + 1) constants)
unfolding constants_text
constants-more constants i item below is = rw (item-more constants i item below is) refl

pub constants-none : (constants : List Constant) (i : ℕ) → length constants ≤ i → constants_text (drop i constants) ≡ []
unfolding constants_text
constants-none constants i past = rw (drop_of_length-le constants past) refl
