-- A right line has no line feed inside, and what it says decides it.
use Rattle.std.proofs.Common.{◌≡◌, ◌≢◌, ◌==◌, not, true, ℕ, List, [], ◌∷◌, ◌++◌, codes, refl, sym, ◌∙◌, ap, arith}
use Rattle.std.specs.List.{list_all}
use Rattle.std.proofs.lemmas.Bool.{eq-eqb}
use Rattle.csv_cells.proofs.Rows.{stands-once}
use Rattle.csv_cells.specs.declared.column.Column.{Column}
use Rattle.csv_cells.specs.declared.column.Empty.{Empty}
use Rattle.csv_cells.specs.declared.column.Empty.TheVariants.{Refused, Kept, Number}
use Rattle.csv_cells.specs.declared.column.Kind.{Kind}
use Rattle.schema_lines.specs.Lines.{Epoched, Event, IsEpoched, IsLine, IsProper, at_once, by_name}
use Rattle.schema_lines.specs.Lines.{in_each, begins_input, begins_output, has_column, has_constant, epoched_text}
use Rattle.schema_lines.specs.Words.{IsEmptyOf, IsEmptyText, IsName, Lacks, kind_text}
use Rattle.schema_lines.proofs.CellBytes.{cell-lacks, kind-lacks}
use Rattle.schema_lines.proofs.Each.{each-append}
use Rattle.schema_lines.proofs.Spelled.{along, and-left, and-right, spelled-lacks}

apart : (b byte : ℕ) → not (b == byte) ≡ true → b ≢ byte
apart b byte e = λ same. let t : (b == byte) ≡ true = eq-eqb b byte same in cc (rw t at e)

lacks-by : (byte : ℕ) (text : List ℕ) → list_all (λ b. not (b == byte)) text ≡ true → Lacks byte text
lacks-by byte [] e = tt
lacks-by byte (b ∷ bs) e = (apart b byte (and-left _ _ e), lacks-by byte bs (and-right _ _ e))

joined : (a b : List ℕ) → Lacks 10 a → Lacks 10 b → Lacks 10 (a ++ b)
joined a b l m = each-append (λ c. c ≢ 10) a b l m

epoched-lacks : (epochs : Epoched) → IsEpoched epochs → Lacks 10 (epoched_text epochs)
epoched-lacks at_once right = tt
epoched-lacks (by_name name) right = joined (codes " by ") name (lacks-by 10 (codes " by ") refl) right
epoched-lacks in_each right = lacks-by 10 (codes " every epoch") refl

empty-lacks : (kind : Kind) (empty : Empty) (rest : List ℕ) → IsEmptyOf kind empty → IsEmptyText empty kind rest → Lacks 10 rest
empty-lacks kind Refused rest right is = along 10 _ _ (sym is) tt
empty-lacks kind Kept rest right is = along 10 _ _ (sym is.1) (lacks-by 10 (codes " or \"\"") refl)
empty-lacks kind (Number n) rest right (cell, stands, is) =
    along 10 _ _ (sym is) (joined (codes " or ") cell (lacks-by 10 (codes " or ") refl) (cell-lacks 10 kind n cell (omega arith) right.0 stands.1))

name-lacks : (name : List ℕ) → IsName name → Lacks 10 name
name-lacks name named = spelled-lacks 10 name refl named.1

pub line-lacks : (event : Event) (line : List ℕ) → IsProper event → IsLine event line → Lacks 10 line
line-lacks (begins_input name epochs) line right is =
    along 10 _ _ (sym is) (joined (codes "input ") (name ++ epoched_text epochs) (lacks-by 10 (codes "input ") refl)
    (joined name (epoched_text epochs) (name-lacks name right.0) (epoched-lacks epochs right.1)))
line-lacks (begins_output name) line right is =
    along 10 _ _ (sym is) (joined (codes "output ") name (lacks-by 10 (codes "output ") refl) (name-lacks name right))
line-lacks (has_column name c) line right (words, (rest, empty, is), whole) =
    let end = joined (kind_text c.kind) rest (kind-lacks 10 c.kind (omega arith) right.1.0) (empty-lacks c.kind c.empty rest right.1.1 empty) in
    let all = joined name (codes " " ++ (kind_text c.kind ++ rest)) right.0.1
    (joined (codes " ") (kind_text c.kind ++ rest) (lacks-by 10 (codes " ") refl) end) in
    along 10 _ _ (sym whole) (joined (codes "  ") words (lacks-by 10 (codes "  ") refl) (along 10 _ _ (sym is) all))
line-lacks (has_constant name value) line right is =
    let end = joined value (codes "\"") right.1 (lacks-by 10 (codes "\"") refl) in
    let all = joined name (codes " = \"" ++ (value ++ codes "\"")) (name-lacks name right.0)
    (joined (codes " = \"") (value ++ codes "\"") (lacks-by 10 (codes " = \"") refl) end) in
    along 10 _ _ (sym is) (joined (codes "constant ") (name ++ (codes " = \"" ++ (value ++ codes "\""))) (lacks-by 10 (codes "constant ") refl) all)

-- what a line says decides it
empty-same : (kind : Kind) (empty : Empty) (a b : List ℕ) → IsEmptyText empty kind a → IsEmptyText empty kind b → a ≡ b
empty-same kind Refused a b e f = e ∙ sym f
empty-same kind Kept a b e f = e.1 ∙ sym f.1
empty-same kind (Number n) a b (cell, stands, is) (cell', stands', is') =
    is ∙ ap (λ c. codes " or " ++ c) (stands-once (record { kind = kind; empty = Refused }) [] n cell cell' stands stands') ∙ sym is'

pub line-same : (event : Event) (a b : List ℕ) → IsLine event a → IsLine event b → a ≡ b
line-same (begins_input name epochs) a b e f = e ∙ sym f
line-same (begins_output name) a b e f = e ∙ sym f
line-same (has_column name c) a b (words, (rest, empty, is), e) (words', (rest', empty', is'), f) =
    e ∙ ap (λ w. codes "  " ++ w) (is ∙ ap (λ r. name ++ (codes " " ++ (kind_text c.kind ++ r)))
    (empty-same c.kind c.empty rest rest' empty empty') ∙ sym is') ∙ sym f
line-same (has_constant name value) a b e f = e ∙ sym f
