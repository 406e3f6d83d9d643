-- A file that is refused has no lines.
use Rattle.std.proofs.Common.{◌≡◌, ◌≢◌, ◌<◌, ◌++◌, ◌∷◌, ◌∙◌, ◌⊎◌, ℕ, ℤ, List, [], length, get_or, pos, Option, Some, None, option_map, FitsSigned, w64, refl, sym, ap, ap₂, subst, inl, inr}
use Rattle.csv.specs.Machine.{Read, next_record}
use Rattle.csv.specs.Reading.{Reached, default_config, strip_bom}
use Rattle.csv.specs.declared.parser.State.{State}
use Rattle.csv_cells.specs.Cells.{IsNumbered, Spells, Stands, StandsWith, plain}
use Rattle.csv_cells.specs.Encoded.{SpellsAll}
use Rattle.csv_cells.specs.declared.column.Column.{Column}
use Rattle.csv_cells.specs.declared.column.Empty.{Empty}
use Rattle.csv_cells.specs.declared.column.Empty.TheVariants.{Refused, Kept, Number}
use Rattle.csv_cells.specs.declared.column.Kind.{Kind}
use Rattle.csv_cells.specs.declared.column.Kind.TheVariants as kind
use Rattle.csv_cells.proofs.OneNumber.{one-number}
use Rattle.csv_strict.proofs.Runs.{not-strict}
use Rattle.schema.specs.Text.{names_of}
use Rattle.schema.specs.declared.tables.Epochs.{Epochs}
use Rattle.schema.specs.declared.tables.Epochs.TheVariants.{By}
use Rattle.schema.specs.declared.tables.Table.{Table}
use Rattle.tables.specs.Inputs.{IsEncodedFile, IsRefusedFile}
use Rattle.tables.specs.Tables.{AreInOrder, HasHeader, IsLate, IsRecordFault, IsUnderHeader}
use Rattle.csv_answers.specs.declared.refusal.Fault.{Fault}
use Rattle.csv_answers.specs.declared.refusal.Fault.TheVariants.{Text, Header, Length, Cell, Order, Dictionary, Answer}
use Rattle.csv_answers.specs.declared.refusal.TableRefusal.TheVariants.{At}
use Rattle.tables.proofs.Again.{once}

-- as in every schema that was read: no number is what an empty cell of a column of texts stands for
abbrev pub IsReadable : Column → Type 0
IsReadable column = (n : ℤ) → column.kind ≡ kind.Text → column.empty ≢ Number n

abbrev pub AreReadable : List Column → Type 0
AreReadable columns = (i : ℕ) → i < length columns → IsReadable (get_or columns i plain)

-- all records of a text that begins with some
all-begin : (s : State) (xs : List ℕ) (front : List (List (List ℕ))) (cells : List (List ℕ)) (s2 : State) (ys : List ℕ) (all : List (List (List ℕ))) (s3 : State) (zs : List ℕ)
    → Reached default_config s xs (front ++ cells ∷ []) s2 ys → Reached default_config s xs all s3 zs → next_record default_config s3 [] [] zs ≡ None
    → (more : List (List (List ℕ))) × (all ≡ front ++ cells ∷ more)
unfolding Reached
all-begin s xs [] cells s2 ys [] s3 zs b a none = let e : None ≡ Some b.0 = sym (rw (← a.0, ← a.1) at none) ∙ b.1 in absurd (cc e)
all-begin s xs (f ∷ front) cells s2 ys [] s3 zs b a none = let e : None ≡ Some b.0 = sym (rw (← a.0, ← a.1) at none) ∙ b.1 in absurd (cc e)
all-begin s xs [] cells s2 ys (r ∷ all) s3 zs b a none =
    let same : a.0 ≡ b.0 = once a.0 b.0 (sym a.1 ∙ b.1) in
    (all, ap (λ (c : List (List ℕ)). c ∷ all) (a.2 ∙ ap (λ (p : Read). p.0) same ∙ sym b.2))
all-begin s xs (f ∷ front) cells s2 ys (r ∷ all) s3 zs b a none =
    let same : a.0 ≡ b.0 = once a.0 b.0 (sym a.1 ∙ b.1) in
    let first : r ≡ f = a.2 ∙ ap (λ (p : Read). p.0) same ∙ sym b.2 in
    let more = all-begin b.0.1 b.0.2 front cells s2 ys all s3 zs b.3 (subst (λ (p : Read). Reached default_config p.1 p.2 all s3 zs) same a.3) none in
    (more.0, ap₂ (λ (x : List (List ℕ)) (xs : List (List (List ℕ))). x ∷ xs) first more.1)

-- the header row is the first record
has-header : (names : List (List ℕ)) (text : List ℕ) (rows : List (List (List ℕ))) → IsUnderHeader names text rows → HasHeader names text
unfolding Reached
has-header names text rows read = ap (λ (o : Option Read). option_map (λ (p : Read). p.0) o) read.2.1 ∙ ap Some (sym read.2.2)

-- each record has its numbers
spelled-at : (columns : List Column) (texts : List (List ℕ)) (front : List (List (List ℕ))) (cells : List (List ℕ)) (more : List (List (List ℕ))) (numbers : List (List ℤ))
    → SpellsAll columns texts (front ++ cells ∷ more) numbers → (zs : List ℤ) × Spells columns texts cells zs
unfolding SpellsAll
spelled-at columns texts [] cells more [] h = absurd h
spelled-at columns texts [] cells more (n ∷ numbers) h = (n, h.0)
spelled-at columns texts (f ∷ front) cells more [] h = absurd h
spelled-at columns texts (f ∷ front) cells more (n ∷ numbers) h = spelled-at columns texts front cells more numbers h.1

with-other : (e : Empty) (k : Kind) (texts others : List (List ℕ)) (z : ℤ) (cell : List ℕ) → (Stands k others z cell → Stands k texts z cell) → StandsWith e k others z cell → StandsWith e k texts z cell
with-other Refused k texts others z cell f s = (s.0, f s.1)
with-other Kept k texts others z cell f s = f s
with-other (Number n) k texts others z cell f (inl s) = inl s
with-other (Number n) k texts others z cell f (inr s) = inr (s.0, s.1, f s.2)

none-some : (z : ℤ) → ◌≡◌ {A = Option ℤ} None (Some z) → ⊥
none-some z e = cc e

-- a cell with no number has none by another dictionary either
never : (e : Empty) (k : Kind) (texts others : List (List ℕ)) (cell : List ℕ) (z : ℤ) → IsReadable (record { kind = k; empty = e })
    → ((y : ℤ) → FitsSigned w64 y → StandsWith e k texts y cell → ◌≡◌ {A = Option ℤ} None (Some y)) → (IsNumbered k texts cell ⊎ ((cell ≡ []) × (e ≡ Refused)))
    → FitsSigned w64 z → StandsWith e k others z cell → ⊥
never Refused k texts others cell z ok only (inr w) fits s = s.0 w.0
never Kept k texts others cell z ok only (inr w) fits s = let no : Kept ≡ Refused = w.1 in cc no
never (Number n) k texts others cell z ok only (inr w) fits s = let no : Number n ≡ Refused = w.1 in cc no
never e kind.Int texts others cell z ok only (inl w) fits s = none-some z (only z fits (with-other e kind.Int texts others z cell (λ t. t) s))
never e (kind.Decimal places) texts others cell z ok only (inl w) fits s = none-some z (only z fits (with-other e (kind.Decimal places) texts others z cell (λ t. t) s))
never e kind.Date texts others cell z ok only (inl w) fits s = none-some z (only z fits (with-other e kind.Date texts others z cell (λ t. t) s))
never e kind.Time texts others cell z ok only (inl w) fits s = none-some z (only z fits (with-other e kind.Time texts others z cell (λ t. t) s))
never Refused kind.Text texts others cell z ok only (inl w) fits s = none-some w.0 (only w.0 w.1 (s.0, w.2))
never Kept kind.Text texts others cell z ok only (inl w) fits s = none-some w.0 (only w.0 w.1 w.2)
never (Number n) kind.Text texts others cell z ok only (inl w) fits s = ok n refl refl

-- the column of the epochs is there, and isn't of texts
abbrev pub HasOrder : List Column → Epochs → Type 0
HasOrder columns epochs = (place : ℕ) → epochs ≡ By place → (place < length columns) × ((get_or columns place plain).kind ≢ kind.Text)

-- by whatever dictionary, a record has one epoch
one-epoch : (columns : List Column) (place : ℕ) (texts others : List (List ℕ)) (cells : List (List ℕ)) (zs ys : List ℤ) → HasOrder columns (By place) → Spells columns texts cells zs → Spells columns others cells ys
    → Some (get_or ys place (pos 0)) ≡ Some (get_or zs place (pos 0))
one-epoch columns place texts others cells zs ys ok s t =
    let (below, kind) = ok place refl in
    ap Some (one-number (get_or columns place plain) others texts _ _ (get_or cells place []) kind (t.fit place below) (s.fit place below) (t.stands place below) (s.stands place below))

-- records that are in order by one dictionary are so by another
in-order : (columns : List Column) (place : ℕ) (texts others : List (List ℕ)) (last : Option ℤ) (rows : List (List (List ℕ))) (numbers : List (List ℤ)) (cells : List (List ℕ)) (zs : List ℤ) (more : List (List (List ℕ))) (ys : List (List ℤ))
    → HasOrder columns (By place) → SpellsAll columns texts rows numbers → Spells columns texts cells zs → SpellsAll columns others (rows ++ cells ∷ more) ys → AreInOrder (By place) last ys → AreInOrder (By place) last (numbers ++ zs ∷ [])
unfolding SpellsAll AreInOrder
in-order columns place texts others last [] [] cells zs more [] ok a s b o = absurd b
in-order columns place texts others last [] [] cells zs more (y ∷ ys) ok a s b o = (subst (λ (e : Option ℤ). IsLate last e → ⊥) (one-epoch columns place texts others cells zs y ok s b.0) o.0, tt)
in-order columns place texts others last [] (n ∷ numbers) cells zs more ys ok a s b o = absurd a
in-order columns place texts others last (r ∷ rows) [] cells zs more ys ok a s b o = absurd a
in-order columns place texts others last (r ∷ rows) (n ∷ numbers) cells zs more [] ok a s b o = absurd b
in-order columns place texts others last (r ∷ rows) (n ∷ numbers) cells zs more (y ∷ ys) ok a s b o =
    let same = one-epoch columns place texts others r n y ok a.0 b.0 in (
      subst (λ (e : Option ℤ). IsLate last e → ⊥) same o.0,
      in-order columns place texts others _ rows numbers cells zs more ys ok a.1 s b.1 (subst (λ (e : Option ℤ). AreInOrder (By place) e ys) same o.1),
    )

-- the records before one that is refused, and all records by another dictionary
record Around (columns : List Column) (epochs : Epochs) (texts others : List (List ℕ)) (cells : List (List ℕ)) (numbers : List (List ℤ)) : Type 0 where
  pub rows : List (List (List ℕ))
  pub more : List (List (List ℕ))
  pub all : List (List ℤ)
  pub spelled : SpellsAll columns texts rows numbers
  pub others_spelled : SpellsAll columns others (rows ++ cells ∷ more) all
  pub ordered : AreInOrder epochs None all

no-record : (columns : List Column) (epochs : Epochs) (texts others : List (List ℕ)) (before : List (List ℤ)) (cells : List (List ℕ)) (fault : Fault)
    → AreReadable columns → HasOrder columns epochs → Around columns epochs texts others cells before → IsRecordFault columns epochs texts None before cells fault → (zs : List ℤ) → Spells columns others cells zs → ⊥
no-record columns epochs texts others before cells Length ok order around why zs s = why s.wide
no-record columns epochs texts others before cells (Cell i) ok order around why zs s =
    let column : Column = get_or columns i plain in
    let none = why.2 in
    never column.empty column.kind texts others (get_or cells i []) (get_or zs i (pos 0)) (ok i why.1) none.0 none.1 (s.fit i why.1) (s.stands i why.1)
no-record columns epochs texts others before cells (Order i) ok order around why zs s =
    let is = why.0 in
    let kept = in-order columns i texts others None around.rows before cells why.1 around.more around.all (subst (HasOrder columns) is order) around.spelled why.2 around.others_spelled (subst (λ (e : Epochs). AreInOrder e None around.all) is around.ordered) in
    why.3 (subst (λ (e : Epochs). AreInOrder e None (before ++ why.1 ∷ [])) (sym is) kept)
no-record columns epochs texts others before cells (Text t) ok order around why zs s = why
no-record columns epochs texts others before cells Header ok order around why zs s = why
no-record columns epochs texts others before cells Dictionary ok order around why zs s = why
no-record columns epochs texts others before cells Answer ok order around why zs s = why

pub no-lines : (table : Table) (shared file : List ℕ) (texts others : List (List ℕ)) (lines : List ℕ) (fault : Fault) (line : ℕ) → AreReadable table.columns.items → HasOrder table.columns.items table.epochs
    → IsRefusedFile table file texts (At fault line) → IsEncodedFile table shared file others lines → ⊥
no-lines table shared file texts others lines fault line ok order (inl r) h = not-strict (strip_bom file) (record { fault = r.0; line = line }) r.2 h.strict
no-lines table shared file texts others lines fault line ok order (inr (strict, inl r)) h = r.1 (has-header (names_of table) file h.encoded.rows h.encoded.read)
no-lines table shared file texts others lines fault line ok order (inr (strict, inr r)) h =
    let read = h.encoded.read in
    let all = all-begin _ _ (names_of table ∷ r.rows) r.cells r.read.0 r.read.1 (names_of table ∷ h.encoded.rows) read.0 read.1 r.read.2 read.2 read.3 in
    let rows : h.encoded.rows ≡ r.rows ++ r.cells ∷ all.0 = let e = all.1 in cc e in
    let spelled = subst (λ (rs : List (List (List ℕ))). SpellsAll table.columns.items others rs h.encoded.numbers) rows h.encoded.spelled in
    let at = spelled-at table.columns.items others r.rows r.cells all.0 h.encoded.numbers spelled in
    let around : Around table.columns.items table.epochs texts others r.cells r.numbers = record {
      rows = r.rows;
      more = all.0;
      all = h.encoded.numbers;
      spelled = r.spelled;
      others_spelled = spelled;
      ordered = subst (λ (e : Epochs). AreInOrder e None h.encoded.numbers) h.epochs h.encoded.ordered;
    } in
    no-record table.columns.items table.epochs texts others r.numbers r.cells fault ok order around r.why at.0 at.1
