-- What a line says, from what stands after its first word.
use Rattle.std.proofs.Common.{◌≡◌, ◌≢◌, nat_eq, ℕ, ℤ, List, [], ◌∷◌, ◌++◌, Option, Some, None, Result, Ok, Err, IfOk, IfSome}
use Rattle.std.proofs.Common.{true, false, codes, length, take, drop, ◌-◌, ◌+◌, refl, sym, ◌∙◌, ap, subst, arith, FitsSigned, w64}
use Rattle.std.specs.Borrow.{Bor}
use Rattle.std.specs.Cmp.Lexicographic.{pointwise}
use Rattle.std.proofs.lemmas.Bool.Decides.{Decides-eqb}
use Rattle.std.proofs.lemmas.List.{append-nil, append_assoc, append_cancel_left}
use Rattle.std.proofs.lemmas.Slice.Eq.{strip_prefix_is, strip_suffix_is}
use Rattle.csv_cells.specs.Cells.{StandsAs}
use Rattle.csv_cells.specs.declared.column.Kind.{Kind}
use Rattle.csv_cells.specs.declared.column.Kind.TheVariants.{Int, Decimal, Date, Time, Text}
use Rattle.csv_cells.specs.declared.column.Empty.{Empty}
use Rattle.csv_cells.specs.declared.column.Empty.TheVariants.{Refused, Kept, Number}
use Rattle.csv_cells.specs.declared.column.Column.{Column}
use Rattle.schema_lines.specs.Lines.{Epoched, Event, IsColumnWords, IsLine, IsPart, IsProper, IsSaid, IsValue, Reads}
use Rattle.schema_lines.specs.Lines.{at_once, by_name, in_each, begins_input, begins_output, has_column, has_constant, epoched_text, event_of}
use Rattle.schema_lines.specs.Words.{IsColumn, IsEmptyOf, IsHeader, IsName, Lacks}
use Rattle.schema_lines.specs.declared.lines.Line.{Line}
use Rattle.schema_lines.specs.declared.lines.LineError.{LineError}
use Rattle.schema_lines.proofs.Spelled.{along, cons-head, first-same, lacks-none, spelled-lacks}

name-lacks : (name : List ℕ) → IsName name → Lacks 32 name
name-lacks name named = spelled-lacks 32 name refl named.1

-- what is before a space that isn't there
pub name-first : (name rest text : List ℕ) → text ≡ name ++ 32 ∷ rest → Lacks 32 text → ⊥
name-first name rest text is lacks = lacks-none 32 name rest (along 32 text (name ++ 32 ∷ rest) is lacks)

-- the name is what is before the first space
pub name-same : (name rest text before after : List ℕ) → IsName name → text ≡ name ++ 32 ∷ rest → text ≡ before ++ 32 ∷ after
    → Lacks 32 before → (before ≡ name) × (after ≡ rest)
name-same name rest text before after named is cut lacks = first-same 32 before after name rest (sym cut ∙ is) lacks (name-lacks name named)

-- an input whose line has no space after the name, and one with a space
pub input-none : (rest name : List ℕ) (epochs : Epoched) → Lacks 32 rest → rest ≡ name ++ epoched_text epochs → begins_input rest at_once
    ≡ begins_input name epochs
input-none rest name at_once lacks is = ap (λ n. begins_input n at_once) (is ∙ append-nil name)
input-none rest name (by_name b) lacks is = absurd (name-first name (codes "by " ++ b) rest is lacks)
input-none rest name in_each lacks is = absurd (name-first name (codes "every epoch") rest is lacks)

pub input-some : (rest name before after : List ℕ) (epochs : Epoched) → IsName name → rest ≡ name ++ epoched_text epochs → rest ≡ before ++ 32
    ∷ after → Lacks 32 before → (before ≡ name) × (32 ∷ after ≡ epoched_text epochs)
input-some rest name before after at_once named is cut lacks =
    absurd (name-first before after name (sym (append-nil name) ∙ sym is ∙ cut) (name-lacks name named))
input-some rest name before after (by_name b) named is cut lacks =
    let same = name-same name (codes "by " ++ b) rest before after named is cut lacks in (same.0, ap (λ t. 32 ∷ t) same.1)
input-some rest name before after in_each named is cut lacks =
    let same = name-same name (codes "every epoch") rest before after named is cut lacks in (same.0, ap (λ t. 32 ∷ t) same.1)

-- what `strip_prefix`, `strip_suffix` and `ends_with` say
pub prefix-none : (s p rest : List ℕ) → pointwise nat_eq (take (length p) s) p ≡ false → s ≡ p ++ rest → ⊥
prefix-none s p rest h is = strip_prefix_is Decides-eqb s p None h rest is

pub prefix-some : (s p : List ℕ) (x : Bor (List ℕ)) → (pointwise nat_eq (take (length p) s) p ≡ true) × (x.now ≡ drop (length p) s)
    × (length x.now + length p ≡ length s) → s ≡ p ++ x.now
prefix-some s p x h = strip_prefix_is Decides-eqb s p (Some x) h

pub suffix-none : (s p front : List ℕ) → pointwise nat_eq (drop (length s - length p) s) p ≡ false → s ≡ front ++ p → ⊥
suffix-none s p front h is = strip_suffix_is Decides-eqb s p None h front is

pub suffix-some : (s p : List ℕ) (x : Bor (List ℕ)) → (pointwise nat_eq (drop (length s - length p) s) p ≡ true)
    × (x.now ≡ take (length s - length p) s) × (length x.now + length p ≡ length s) → s ≡ x.now ++ p
suffix-some s p x h = strip_suffix_is Decides-eqb s p (Some x) h

-- a part of a part
pub part-wider : (part words before text : List ℕ) → text ≡ before ++ words → IsPart part words → IsPart part text
part-wider part words before text is (front, back, parted) =
    (before ++ front, back, is ∙ ap (λ w. before ++ w) parted ∙ sym (append_assoc before front (part ++ back)))

pub said-wider : (words before text : List ℕ) (event : Event) → text ≡ before ++ words → IsSaid words event → IsSaid text event
said-wider words before text (begins_input name epochs) is so = tt
said-wider words before text (begins_output name) is so = tt
said-wider words before text (has_column name c) is so = (part-wider name words before text is so.0, so.1, so.2)
said-wider words before text (has_constant name value) is so = part-wider value words before text is so

pub said-wider-ok : (words before text : List ℕ) (r : Result Line LineError) → text ≡ before ++ words
    → IfOk r (λ l. IsSaid words (event_of l)) → IfOk r (λ l. IsSaid text (event_of l))
said-wider-ok words before text (Ok l) is so = said-wider words before text (event_of l) is so
said-wider-ok words before text (Err e) is so = tt

-- a line that begins with two spaces is a column's
pub line-column : (event : Event) (text words : List ℕ) (r : Result Line LineError) → text ≡ codes "  " ++ words
    → ((name : List ℕ) (c : Column) → IsHeader name → IsColumn c → IsColumnWords name c words → Reads (has_column name c) r) → IsProper event
    → IsLine event text → Reads event r
line-column (begins_input name epochs) text words r begins read proper is = absurd (let e = cons-head 32 105 _ _ (sym begins ∙ is) in omega arith)
line-column (begins_output name) text words r begins read proper is = absurd (let e = cons-head 32 111 _ _ (sym begins ∙ is) in omega arith)
line-column (has_column name c) text words r begins read proper (others, so, is) =
    let same : others ≡ words = append_cancel_left (codes "  ") others words (sym is ∙ begins) in
    let W : List ℕ → Type 0 = λ w. IsColumnWords name c w in
    read name c proper.0 proper.1 (subst W same so)
line-column (has_constant name value) text words r begins read proper is = absurd (let e = cons-head 32 99 _ _ (sym begins ∙ is) in omega arith)

-- the dictionary doesn't matter to a column that isn't of texts
pub stands-plain : (kind : Kind) (texts others : List (List ℕ)) (n : ℤ) (cell : List ℕ) → kind ≢ Text
    → StandsAs (record { kind = kind; empty = Refused }) texts n cell → StandsAs (record { kind = kind; empty = Refused }) others n cell
stands-plain Int texts others n cell plain is = is
stands-plain (Decimal places) texts others n cell plain is = is
stands-plain Date texts others n cell plain is = is
stands-plain Time texts others n cell plain is = is
stands-plain Text texts others n cell plain is = absurd (plain refl)

pub found-plain : {E : Type 0} (kind : Kind) (texts : List (List ℕ)) (cell : List ℕ) (r : Result (Option ℤ) E) → kind ≢ Text
    → IfOk r (λ o. IfSome o (λ n. StandsAs (record { kind = kind; empty = Refused }) texts n cell))
    → IfOk r (λ o. IfSome o (λ n. StandsAs (record { kind = kind; empty = Refused }) [] n cell))
found-plain kind texts cell (Ok (Some n)) plain is = stands-plain kind texts [] n cell plain is
found-plain kind texts cell (Ok None) plain is = tt
found-plain kind texts cell (Err e) plain is = tt

pub only-plain : {E : Type 0} (kind : Kind) (texts : List (List ℕ)) (cell : List ℕ) (r : Result (Option ℤ) E) → kind ≢ Text
    → IfOk r (λ o. (n : ℤ) → FitsSigned w64 n → StandsAs (record { kind = kind; empty = Refused }) texts n cell → o ≡ Some n)
    → IfOk r (λ o. (n : ℤ) → FitsSigned w64 n → StandsAs (record { kind = kind; empty = Refused }) [] n cell → o ≡ Some n)
only-plain kind texts cell (Ok o) plain is = λ n fits stands. is n fits (stands-plain kind [] texts n cell plain stands)
only-plain kind texts cell (Err e) plain is = tt

once : (z n : ℤ) → Some z ≡ Some n → z ≡ n
once z n e = cc e

-- the value of an empty cell
pub value-number : (kind : Kind) (empty : Empty) (z : ℤ) (value : List ℕ) → kind ≢ Text
    → ((n : ℤ) → FitsSigned w64 n → StandsAs (record { kind = kind; empty = Refused }) [] n value → Some z ≡ Some n)
    → IsEmptyOf kind empty → IsValue kind empty value → Number z ≡ empty
value-number kind Refused z value plain only right is = absurd is
value-number kind Kept z value plain only right is = absurd (plain right)
value-number kind (Number n) z value plain only right is = ap Number (once z n (only n right.0 is))

pub value-none : (kind : Kind) (empty : Empty) (value : List ℕ) → kind ≢ Text
    → ((n : ℤ) → FitsSigned w64 n → StandsAs (record { kind = kind; empty = Refused }) [] n value → (let o : Option ℤ = None in o) ≡ Some n)
    → IsEmptyOf kind empty → IsValue kind empty value → ⊥
value-none kind Refused value plain only right is = is
value-none kind Kept value plain only right is = plain right
value-none kind (Number n) value plain only right is = let e = only n right.0 is in cc e
