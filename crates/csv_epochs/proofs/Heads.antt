-- A header row, and a byte order mark that may stand before it.
use Rattle.std.proofs.Common.{◌≡◌, ◌≢◌, ◌++◌, ◌<◌, ◌≤◌, ℕ, List, [], ◌∷◌, Some, refl, sym, arith, length, inl, inr}
use Rattle.std.proofs.lemmas.Bool.{cases_Bool}
use Rattle.csv.specs.Reading.{is_bom, strip_bom}
use Rattle.csv_strict.specs.Strict.{next_state, run}
use Rattle.csv_strict.specs.declared.state.State.{State}
use Rattle.csv_strict.specs.declared.state.State.TheVariants.{Record, Bare}
use Rattle.csv_epochs.specs.Cells.{read}
use Rattle.csv_epochs.specs.Epochs.{IsHeader}
use Rattle.csv_epochs.proofs.Marks.{no-mark}

abbrev pub mark : List ℕ
mark = 239 ∷ 187 ∷ 191 ∷ []

-- a text of fewer than three bytes has no mark
pub short : (h : List ℕ) → length h < 3 → strip_bom h ≡ h
unfolding strip_bom
short [] s = refl
short (a ∷ []) s = refl
short (a ∷ b ∷ []) s = refl
short (a ∷ b ∷ c ∷ rest) s = absurd (omega arith)

-- the bytes behind the first three
pub long : (h x : List ℕ) → 3 ≤ length h → strip_bom (h ++ x) ≡ strip_bom h ++ x
unfolding strip_bom
long [] x s = absurd (omega arith)
long (a ∷ []) x s = absurd (omega arith)
long (a ∷ b ∷ []) x s = absurd (omega arith)
long (a ∷ b ∷ c ∷ rest) x s = elim (cases_Bool (is_bom a b c)) [
  | inl hit ↦ rw hit refl
  | inr other ↦ rw other refl
]

-- the mark's bytes may come one after another
pub goes : (h : List ℕ) (b : ℕ) (rest more : List ℕ) (s : State) → length h < 3 → h ++ (b ∷ rest) ≡ 239 ∷ 187 ∷ 191 ∷ more → run (Some Record) h ≡ Some s
    → next_state s b ≡ Some Bare
unfolding run
goes [] b rest more s short e r =
    let x : b ≡ 239 = cc e in
    let t : s ≡ Record = cc r in
    rw (x, t) refl
goes (a ∷ []) b rest more s short e r =
    let x : b ≡ 187 = cc e in
    let y : a ≡ 239 = cc e in
    let q : run (next_state Record 239) [] ≡ Some s = rw y at r in
    let t : s ≡ Bare = cc q in
    rw (x, t) refl
goes (a ∷ d ∷ []) b rest more s short e r =
    let x : b ≡ 191 = cc e in
    let y : a ≡ 239 = cc e in
    let z : d ≡ 187 = cc e in
    let q : run (next_state Bare 187) [] ≡ Some s = rw (y, z) at r in
    let t : s ≡ Bare = cc q in
    rw (x, t) refl
goes (a ∷ d ∷ g ∷ h) b rest more s short e r = absurd (omega arith)

-- where another byte comes than one of the mark, there is none
pub unmarked : (h : List ℕ) (b : ℕ) (rest : List ℕ) (s : State) → length h < 3 → run (Some Record) h ≡ Some s → next_state s b ≢ Some Bare
    → strip_bom (h ++ (b ∷ rest)) ≡ h ++ (b ∷ rest)
unmarked h b rest s few r other = sym (no-mark (h ++ (b ∷ rest)) (λ more e. other (goes h b rest more s few e r)))

-- a header row that has ended keeps its mark apart from what comes behind
pub head-strip : (column : ℕ) (h x : List ℕ) → IsHeader column h → strip_bom (h ++ x) ≡ strip_bom h ++ x
unfolding strip_bom run read
head-strip column [] x head = let e : [] ≡ head.name ∷ [] = head.one in cc e
head-strip column (a ∷ []) x head =
    sym (no-mark (a ∷ x) (λ more e.
    let y : a ≡ 239 = cc e in
    let ends : run (next_state Record a) [] ≡ Some Record = head.ends in
    let q : Some Bare ≡ Some Record = rw y at ends in
    cc q))
head-strip column (a ∷ b ∷ []) x head =
    sym (no-mark (a ∷ b ∷ x) (λ more e.
    let y : a ≡ 239 = cc e in
    let z : b ≡ 187 = cc e in
    let ends : run (next_state Record a) (b ∷ []) ≡ Some Record = head.ends in
    let q : Some Bare ≡ Some Record = rw (y, z) at ends in
    cc q))
head-strip column (a ∷ b ∷ c ∷ rest) x head = long (a ∷ b ∷ c ∷ rest) x (omega arith)
