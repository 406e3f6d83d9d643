-- What a schema's next line adds keeps it right.
use Rattle.std.proofs.Common.{◌≡◌, ◌≢◌, ◌≤◌, ◌<◌, ◌+◌, ◌||◌, subst, Bool, true, false, ℕ, List, [], ◌∷◌, ◌++◌, length, map, refl, sym, ◌∙◌, ap, arith}
use Rattle.std.specs.List.{AllByRecursion, list_any}
use Rattle.std.specs.Str.{bytes_eq}
use Rattle.std.proofs.lemmas.Bool.{both_ways}
use Rattle.std.proofs.lemmas.List.{length_push, map_push}
use Rattle.std.proofs.lemmas.Slice.Eq.{bytes_eq-Decides}
use Rattle.csv_cells.specs.declared.column.Column.{Column}
use Rattle.schema_lines.specs.Lines.{IsPart}
use Rattle.schema_lines.specs.Words.{IsColumn, IsHeader, IsName, Lacks}
use Rattle.schema.specs.Schemas.{AreConstants, AreDifferent, AreTables, IsEpochsOf, IsTable, Said, is_by, said, said_constant}
use Rattle.schema.specs.Drafts.{IsNew, IsOpenTable}
use Rattle.schema.specs.declared.tables.Epochs.{Epochs}
use Rattle.schema.specs.declared.tables.Epochs.TheVariants.{One, By, Every}
use Rattle.schema.specs.declared.tables.Constant.{Constant}
use Rattle.schema.specs.declared.tables.Table.{Table}
use Rattle.schema_lines.proofs.Each.{each-append, each-left, each-right}

-- a part of a line has no line feed
pub part-lacks : (byte : ℕ) (part text : List ℕ) → IsPart part text → Lacks byte text → Lacks byte part
part-lacks byte part text (before, after, is) lacks =
    let L : List ℕ → Type 0 = λ t. Lacks byte t in
    each-left (λ b. b ≢ byte) part after (each-right (λ b. b ≢ byte) before (part ++ after) (subst L is lacks))

-- a new name is unlike those before it
pub different-push : (names : List (List ℕ)) (name : List ℕ) → AreDifferent names → IsNew name names → AreDifferent (names ++ name ∷ [])
different-push [] name so new = (tt, tt)
different-push (n ∷ ns) name so new = (each-append (λ m. m ≢ n) ns (name ∷ []) so.0 (new.0, tt), different-push ns name so.1 new.1)

or-left : (a b : Bool) → (a || b) ≡ false → a ≡ false
or-left false b e = refl
or-left true b e = cc e

or-right : (a b : Bool) → (a || b) ≡ false → b ≡ false
or-right false b e = e
or-right true b e = cc e

unlike : (name n : List ℕ) → bytes_eq n name ≡ false → name ≢ n
unlike name n e = λ same. both_ways (bytes_eq n name) e ((bytes_eq-Decides n name).1 (sym same))

pub new-header : {X : Type 0} (f : X → List ℕ) (name : List ℕ) (xs : List X) → list_any (λ x. bytes_eq (f x) name) xs ≡ false → IsNew name (map f xs)
new-header f name [] e = tt
new-header f name (x ∷ xs) e = (unlike name (f x) (or-left _ _ e), new-header f name xs (or-right _ _ e))

pub new-table : (name : List ℕ) (tables : List Table) → list_any (λ t. bytes_eq t.name.items name) tables ≡ false
    → IsNew name (map (λ t. t.name) (map said tables))
new-table name [] e = tt
new-table name (t ∷ ts) e = (unlike name t.name.items (or-left _ _ e), new-table name ts (or-right _ _ e))

pub new-constant : (name text : List ℕ) (constants : List Constant)
    → list_any (λ c. bytes_eq c.name.items name || bytes_eq c.text.items text) constants ≡ false
    → IsNew name (map (λ c. c.0) (map said_constant constants)) × IsNew text (map (λ c. c.1) (map said_constant constants))
new-constant name text [] e = (tt, tt)
new-constant name text (c ∷ cs) e =
    let here : (bytes_eq c.name.items name || bytes_eq c.text.items text) ≡ false = or-left _ _ e in
    let rest = new-constant name text cs (or-right _ _ e) in
    ((unlike name c.name.items (or-left _ _ here), rest.0), (unlike text c.text.items (or-right _ _ here), rest.1))

-- one more table
pub tables-push : (all : List Said) (t : Said) → AreTables all → IsTable t → IsNew t.name (map (λ u. u.name) all) → AreTables (all ++ t ∷ [])
tables-push all t so right new =
    (each-append IsTable all (t ∷ []) so.0 (right, tt), rw (map_push (λ u. u.name) all t) (different-push (map (λ u. u.name) all) t.name so.1 new))

pub tables-more : (tables others : List Table) (table : Table) → others ≡ tables ++ table ∷ [] → AreTables (map said tables)
    → IsTable (said table) → IsNew table.name.items (map (λ t. t.name) (map said tables)) → AreTables (map said others)
tables-more tables others table is so right new =
    let whole : map said others ≡ map said tables ++ said table ∷ [] = ap (map said) is ∙ map_push said tables table in
    subst AreTables (sym whole) (tables-push (map said tables) (said table) so right new)

-- its epochs aren't said, as of each before it
pub ones-more : (tables others : List Table) (table : Table) → others ≡ tables ++ table ∷ []
    → AllByRecursion (λ t. t.epochs ≡ One) (map said tables) → table.epochs ≡ One → AllByRecursion (λ t. t.epochs ≡ One) (map said others)
ones-more tables others table is so one =
    let whole : map said others ≡ map said tables ++ said table ∷ [] = ap (map said) is ∙ map_push said tables table in
    let P : List Said → Type 0 = λ all. AllByRecursion (λ t. t.epochs ≡ One) all in
    subst P (sym whole) (each-append (λ t. t.epochs ≡ One) (map said tables) (said table ∷ []) so (one, tt))

-- one more constant
pub constants-push : (all : List (List ℕ × List ℕ)) (name text : List ℕ) → AreConstants all → IsName name → Lacks 10 text
    → IsNew name (map (λ c. c.0) all) → IsNew text (map (λ c. c.1) all) → AreConstants (all ++ (name, text) ∷ [])
constants-push all name text so named lacks new unlike =
    let pair : List ℕ × List ℕ = (name, text) in (
      each-append (λ c. IsName c.0 × Lacks 10 c.1) all (pair ∷ []) so.0 ((named, lacks), tt),
      rw (map_push (λ c. c.0) all pair) (different-push (map (λ c. c.0) all) name so.1 new),
      rw (map_push (λ c. c.1) all pair) (different-push (map (λ c. c.1) all) text so.2 unlike),
    )

pair-same : (a b c d : List ℕ) → a ≡ c → b ≡ d → (let p : List ℕ × List ℕ = (a, b) in p) ≡ (let q : List ℕ × List ℕ = (c, d) in q)
pair-same a b c d e f = rw (e, f) refl

pub constants-more : (constants others : List Constant) (constant : Constant) (name text : List ℕ) → others ≡ constants ++ constant ∷ []
    → constant.name.items ≡ name → constant.text.items ≡ text → AreConstants (map said_constant constants)
    → IsName name → Lacks 10 text → IsNew name (map (λ c. c.0) (map said_constant constants))
    → IsNew text (map (λ c. c.1) (map said_constant constants)) → AreConstants (map said_constant others)
constants-more constants others constant name text is named texted so right lacks new unlike =
    let all = map said_constant constants in
    let whole = ap (map said_constant) is ∙ map_push said_constant constants constant
    ∙ ap (λ p. all ++ p ∷ []) (pair-same constant.name.items constant.text.items name text named texted) in
    subst AreConstants (sym whole) (constants-push all name text so right lacks new unlike)

-- one more column
pub headers-more : {V : Type 0} (f : V → List ℕ) (headers others : List V) (header : V) (name : List ℕ) → others ≡ headers ++ header ∷ []
    → f header ≡ name → map f others ≡ map f headers ++ name ∷ []
headers-more f headers others header name is same = ap (map f) is ∙ map_push f headers header ∙ ap (λ n. map f headers ++ n ∷ []) same

wider : (t : Said) (name : List ℕ) (column : Column) → IsOpenTable t → IsHeader name → IsColumn column → length t.columns < 16 → IsNew name t.names
    → IsOpenTable (record { name = t.name; epochs = t.epochs; names = t.names ++ name ∷ []; columns = t.columns ++ column ∷ [] })
wider t name column so header right few new = record {
  named = so.named;
  few = omega (arith, length_push t.columns column);
  counted = length_push t.names name ∙ ap (λ n. n + 1) so.counted ∙ sym (length_push t.columns column);
  headers = each-append IsHeader t.names (name ∷ []) so.headers (header, tt);
  different = different-push t.names name so.different new;
  columns = each-append IsColumn t.columns (column ∷ []) so.columns (right, tt);
  epochs = so.epochs;
}

pub column-more : (t : Said) (name : List ℕ) (column : Column) (names : List (List ℕ)) (columns : List Column) → names ≡ t.names ++ name ∷ []
    → columns ≡ t.columns ++ column ∷ []
    → IsOpenTable t → IsHeader name → IsColumn column → length t.columns < 16 → IsNew name t.names
    → IsOpenTable (record { name = t.name; epochs = t.epochs; names = names; columns = columns })
column-more t name column names columns e f so header right few new = rw (e, f) (wider t name column so header right few new)

pub not-empty : (name : List ℕ) → 0 < length name → name ≢ []
not-empty [] filled = λ e. absurd (omega arith)
not-empty (b ∷ bs) filled = λ e. cc e

-- a table that begins
pub fresh : (name : List ℕ) (epochs : Epochs) → IsName name → is_by epochs ≡ false
    → IsOpenTable (record { name = name; epochs = epochs; names = []; columns = [] })
fresh name epochs named unsaid = record {
  named = named;
  few = omega arith;
  counted = refl;
  headers = tt;
  different = tt;
  columns = tt;
  epochs = unsaid;
}

-- a table that ends
pub unnamed : (columns : List Column) (epochs : Epochs) → is_by epochs ≡ false → IsEpochsOf columns epochs
unnamed columns One e = tt
unnamed columns (By place) e = cc e
unnamed columns Every e = tt

pub ended : (t : Said) (epochs : Epochs) → IsOpenTable t → 1 ≤ length t.columns → IsEpochsOf t.columns epochs
    → IsTable (record { name = t.name; epochs = epochs; names = t.names; columns = t.columns })
ended t epochs so some fit = record {
  named = so.named;
  some = some;
  few = so.few;
  counted = so.counted;
  headers = so.headers;
  different = so.different;
  columns = so.columns;
  epochs = fit;
}
