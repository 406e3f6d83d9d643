-- What a column's line says after its two spaces.
use Rattle.std.proofs.Common.{◌≡◌, ◌≢◌, ◌⊎◌, inl, inr, ℕ, List, [], ◌∷◌, ◌++◌, codes, refl, sym, ◌∙◌, ap, subst, arith}
use Rattle.std.proofs.lemmas.List.{append-nil, append_assoc}
use Rattle.csv_cells.specs.declared.column.Kind.{Kind}
use Rattle.csv_cells.specs.declared.column.Empty.{Empty}
use Rattle.csv_cells.specs.declared.column.Empty.TheVariants.{Refused, Kept, Number}
use Rattle.csv_cells.specs.declared.column.Column.{Column}
use Rattle.schema_lines.specs.Lines.{IsColumnWords, IsValue}
use Rattle.schema_lines.specs.Words.{IsColumn, IsEmptyOf, IsEmptyText, IsHeader, Lacks, kind_text}
use Rattle.schema_lines.proofs.CellBytes.{cell-lacks, kind-lacks}
use Rattle.schema_lines.proofs.Spelled.{last-same, lacks-none}

-- either no value comes, or one without a space
EmptyCase : Kind → Empty → List ℕ → Type 0
EmptyCase kind empty rest = ((empty ≡ Refused) × (rest ≡ []))
    ⊎ ((value : List ℕ) × (rest ≡ codes " or " ++ value) × IsValue kind empty value × Lacks 32 value)

empty-case : (kind : Kind) (empty : Empty) (rest : List ℕ) → IsEmptyOf kind empty → IsEmptyText empty kind rest → EmptyCase kind empty rest
unfolding EmptyCase
empty-case kind Refused rest right is = inl (refl, is)
empty-case kind Kept rest right is = inr (codes "\"\"", is.1, (is.0, refl), ((λ e. absurd (omega arith)), ((λ e. absurd (omega arith)), tt)))
empty-case kind (Number n) rest right (cell, stands, is) = inr (cell, is, stands, cell-lacks 32 kind n cell (omega arith) right.0 stands.1)

-- the parts around the last space: the name and the kind, or the value behind ` or`
pub ColumnCase : List ℕ → Column → List ℕ → List ℕ → Type 0
ColumnCase name column front last = ((column.empty ≡ Refused) × (front ≡ name) × (last ≡ kind_text column.kind))
    ⊎ ((front ≡ (name ++ 32 ∷ kind_text column.kind) ++ codes " or") × IsValue column.kind column.empty last)

value-front : (name kind value : List ℕ) → name ++ 32 ∷ (kind ++ (codes " or " ++ value)) ≡ ((name ++ 32 ∷ kind) ++ codes " or") ++ 32 ∷ value
value-front name kind value =
    let first : name ++ (32 ∷ kind) ++ (codes " or " ++ value) ≡ name ++ ((32 ∷ kind) ++ (codes " or " ++ value)) =
    append_assoc name (32 ∷ kind) (codes " or " ++ value) in
    sym first ∙ sym (append_assoc (name ++ 32 ∷ kind) (codes " or") (32 ∷ value))

pub column-case : (name : List ℕ) (column : Column) (words front last : List ℕ) → IsColumn column → IsColumnWords name column words → words
    ≡ front ++ 32 ∷ last → Lacks 32 last → ColumnCase name column front last
unfolding ColumnCase EmptyCase
column-case name column words front last right (rest, empty, is) cut lacks = elim (empty-case column.kind column.empty rest right.1 empty) [
  | inl none ↦
      let plain : name ++ 32 ∷ kind_text column.kind ≡ front ++ 32 ∷ last =
      ap (λ t. name ++ 32 ∷ t) (sym (append-nil (kind_text column.kind)) ∙ ap (λ r. kind_text column.kind ++ r) (sym none.1)) ∙ sym is ∙ cut in
      let same = last-same 32 name (kind_text column.kind) front last plain (kind-lacks 32 column.kind (omega arith) right.0) lacks in
      inl (none.0, sym same.0, sym same.1)
  | inr (value, text, stands, low) ↦
      let K = kind_text column.kind in
      let whole : ((name ++ 32 ∷ K) ++ codes " or") ++ 32 ∷ value ≡ front ++ 32 ∷ last = sym (value-front name K value)
      ∙ ap (λ r. name ++ 32 ∷ (K ++ r)) (sym text) ∙ sym is ∙ cut in
      let same = last-same 32 ((name ++ 32 ∷ K) ++ codes " or") value front last whole low lacks in
      let V : List ℕ → Type 0 = λ v. IsValue column.kind column.empty v in
      inr (sym same.0, subst V same.1 stands)
]

-- there is a space
pub column-space : (name : List ℕ) (column : Column) (words : List ℕ) → IsColumnWords name column words → Lacks 32 words → ⊥
column-space name column words (rest, empty, is) lacks =
    let L : List ℕ → Type 0 = λ t. Lacks 32 t in
    lacks-none 32 name (kind_text column.kind ++ rest) (subst L is lacks)

-- no ` or` is before the last space
pub column-plain : (name : List ℕ) (column : Column) (front last : List ℕ) → ColumnCase name column front last
    → ((before : List ℕ) → front ≢ before ++ codes " or") → (front ≡ name) × (last ≡ kind_text column.kind) × (column.empty ≡ Refused)
unfolding ColumnCase
column-plain name column front last (inl plain) none = (plain.1, plain.2, plain.0)
column-plain name column front last (inr valued) none = absurd (none (name ++ 32 ∷ kind_text column.kind) valued.0)

-- ` or` is there, with the name and the kind before it
pub column-valued : (name : List ℕ) (column : Column) (front last before : List ℕ) → ColumnCase name column front last → IsHeader name → front
    ≡ before ++ codes " or" → (front ≡ (name ++ 32 ∷ kind_text column.kind) ++ codes " or") × IsValue column.kind column.empty last
unfolding ColumnCase
column-valued name column front last before (inl plain) header is = absurd (header.2 before (sym plain.1 ∙ is))
column-valued name column front last before (inr valued) header is = valued
