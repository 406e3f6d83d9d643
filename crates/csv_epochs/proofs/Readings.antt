-- Records that are read byte by byte.
use Rattle.std.proofs.Common.{◌≡◌, ◌≢◌, ◌++◌, ◌∙◌, ◌+◌, ◌<◌, ◌≤◌, ℕ, List, [], ◌∷◌, Option, Some, None, refl, sym, ap, subst, arith, length, take, drop, get_or, append_assoc, length-append, add-one}
use Rattle.std.specs.Prelude.{⊤, option_map}
use Rattle.std.proofs.Math.Seq.{take-suc}
use Rattle.std.proofs.lemmas.List.{append-nil, take-append-drop}
use Rattle.csv.specs.Reading.{strip_bom}
use Rattle.csv_strict.specs.Strict.{next_state, run}
use Rattle.csv_strict.specs.declared.state.State.{State}
use Rattle.csv_strict.specs.declared.state.State.TheVariants.{Record, Field, Bare, Quoted, Quote, Return}
use Rattle.csv_epochs.specs.Cells.{Reading, after, cells, cells_of, last_cell, reach, read, read_all}
use Rattle.csv_epochs.specs.Places.{cell_at}
use Rattle.csv_epochs.specs.declared.place.Place.{Place}

none-read : (column : ℕ) (ys : List ℕ) → read column None ys ≡ None
unfolding read
none-read column [] = refl
none-read column (y ∷ ys) = refl

-- one part after the other
pub read-append : (column : ℕ) (o : Option Reading) (xs ys : List ℕ) → read column o (xs ++ ys) ≡ read column (read column o xs) ys
unfolding read
read-append column None [] ys = refl
read-append column None (x ∷ xs) ys = sym (none-read column ys)
read-append column (Some r) [] ys = refl
read-append column (Some r) (x ∷ xs) ys = read-append column (option_map (reach column r x) (next_state r.state x)) xs ys

pub no-byte : (column : ℕ) (o : Option Reading) → read column o [] ≡ o
unfolding read
no-byte column None = refl
no-byte column (Some r) = refl

pub one-byte : (column : ℕ) (r : Reading) (b : ℕ) → read column (Some r) (b ∷ []) ≡ option_map (reach column r b) (next_state r.state b)
unfolding read
one-byte column r b = no-byte column (option_map (reach column r b) (next_state r.state b))

-- one more byte of a piece
pub read-next : (column : ℕ) (o : Option Reading) (piece : List ℕ) (i : ℕ) (r : Reading) → i < length piece → read column o (take i piece) ≡ Some r
    → read column o (take (i + 1) piece) ≡ option_map (reach column r (get_or piece i 0)) (next_state r.state (get_or piece i 0))
read-next column o piece i r below e =
    let cut : take (i + 1) piece ≡ take i piece ++ (get_or piece i 0 ∷ []) = rw (add-one i) (take-suc piece i 0 below) in
    rw cut (read-append column o (take i piece) (get_or piece i 0 ∷ []) ∙ (rw e (one-byte column r (get_or piece i 0))))

-- no byte of a header row yet
pub none-yet : (column : ℕ) (header : List ℕ) (r : Reading) (k : ℕ) → header ≡ [] → r ≡ after column [] → k ≡ column → read_all k (strip_bom header) ≡ Some r
unfolding strip_bom
none-yet column header r k empty new same = rw (same, empty, new) (no-byte column (Some (after column [])))

-- it stops at a byte that may not come
pub read-stuck : (column : ℕ) (o : Option Reading) (piece : List ℕ) (i : ℕ) (r : Reading) → i < length piece → read column o (take i piece) ≡ Some r
    → next_state r.state (get_or piece i 0) ≡ None → read column o piece ≡ None
read-stuck column o piece i r below e stuck =
    let stopped : read column o (take (i + 1) piece) ≡ None = rw stuck at (read-next column o piece i r below e) in
    let parts : piece ≡ take (i + 1) piece ++ drop (i + 1) piece = sym (take-append-drop (i + 1) piece) in
    ap (λ (xs : List ℕ). read column o xs) parts ∙ (read-append column o (take (i + 1) piece) (drop (i + 1) piece) ∙ (rw stopped (none-read column (drop (i + 1) piece))))

-- a record ends
pub row-ends : (column : ℕ) (o : Option Reading) (piece : List ℕ) (i : ℕ) (state : State) (place : Place) (cell : List ℕ) (next : State) → i < length piece
    → read column o (take i piece) ≡ Some (record { state = state; place = place; cell = cell; cells = [] }) → next_state state (get_or piece i 0) ≡ Some next → next ≡ Record
    → read column o (take (i + 1) piece) ≡ Some (after column (cell_at place cell ∷ []))
row-ends column o piece i state place cell next below e ends is =
    let r : Reading = record { state = state; place = place; cell = cell; cells = [] } in
    read-next column o piece i r below e ∙ ap (λ (t : Option State). option_map (reach column r (get_or piece i 0)) t) (ends ∙ ap (λ (t : State). Some t) is)

-- a record goes on
pub row-moves : (column : ℕ) (o : Option Reading) (piece : List ℕ) (i : ℕ) (r new : Reading) (next : State) → i < length piece
    → read column o (take i piece) ≡ Some r → next_state r.state (get_or piece i 0) ≡ Some next → new ≡ reach column r (get_or piece i 0) next
    → read column o (take (i + 1) piece) ≡ Some new
row-moves column o piece i r new next below e goes is =
    read-next column o piece i r below e ∙ (ap (λ (t : Option State). option_map (reach column r (get_or piece i 0)) t) goes ∙ ap (λ (t : Reading). Some t) (sym is))

-- the state of what was read
abbrev pub state_in : Option Reading → Option State
state_in None = None
state_in (Some r) = Some r.state

reach-state : (column : ℕ) (r : Reading) (b : ℕ) (s : State) → (reach column r b s).state ≡ s
reach-state column r b Record = refl
reach-state column r b Field = refl
reach-state column r b Bare = refl
reach-state column r b Quoted = refl
reach-state column r b Quote = refl
reach-state column r b Return = refl

reached-state : (column : ℕ) (r : Reading) (b : ℕ) (t : Option State) → state_in (option_map (reach column r b) t) ≡ t
reached-state column r b None = refl
reached-state column r b (Some s) = ap (λ (t : State). Some t) (reach-state column r b s)

-- reading goes from state to state as the grammar says
pub read-run : (column : ℕ) (o : Option Reading) (bytes : List ℕ) → state_in (read column o bytes) ≡ run (state_in o) bytes
unfolding read run
read-run column None [] = refl
read-run column None (b ∷ bs) = refl
read-run column (Some r) [] = refl
read-run column (Some r) (b ∷ bs) = read-run column (option_map (reach column r b) (next_state r.state b)) bs ∙ ap (λ (t : Option State). run t bs) (reached-state column r b (next_state r.state b))

-- the same, behind other records
abbrev pub put : List (Option (List ℕ)) → Reading → Reading
put found r = record { state = r.state; place = r.place; cell = r.cell; cells = found ++ r.cells }

reach-put : (column : ℕ) (found : List (Option (List ℕ))) (r : Reading) (b : ℕ) (s : State) → reach column (put found r) b s ≡ put found (reach column r b s)
reach-put column found r b Record = ap (λ (cs : List (Option (List ℕ))). after column cs) (append_assoc found r.cells (cell_at r.place r.cell ∷ []))
reach-put column found r b Field = refl
reach-put column found r b Bare = refl
reach-put column found r b Quoted = refl
reach-put column found r b Quote = refl
reach-put column found r b Return = refl

reached-put : (column : ℕ) (found : List (Option (List ℕ))) (r : Reading) (b : ℕ) (t : Option State)
    → option_map (reach column (put found r) b) t ≡ option_map (put found) (option_map (reach column r b) t)
reached-put column found r b None = refl
reached-put column found r b (Some s) = ap (λ (t : Reading). Some t) (reach-put column found r b s)

read-put : (column : ℕ) (found : List (Option (List ℕ))) (o : Option Reading) (bytes : List ℕ)
    → read column (option_map (put found) o) bytes ≡ option_map (put found) (read column o bytes)
unfolding read
read-put column found None [] = refl
read-put column found None (b ∷ bs) = refl
read-put column found (Some r) [] = refl
read-put column found (Some r) (b ∷ bs) =
    ap (λ (t : Option Reading). read column t bs) (reached-put column found r b (next_state r.state b)) ∙ read-put column found (option_map (reach column r b) (next_state r.state b)) bs

-- where a record has ended, the next one begins
abbrev IsFresh : (column : ℕ) → Option Reading → Type 0
IsFresh column None = ⊤
IsFresh column (Some r) = r.state ≡ Record → r ≡ after column r.cells

reach-fresh : (column : ℕ) (r : Reading) (b : ℕ) (t : Option State) → IsFresh column (option_map (reach column r b) t)
reach-fresh column r b None = tt
reach-fresh column r b (Some Record) = λ e. refl
reach-fresh column r b (Some Field) = λ e. cc e
reach-fresh column r b (Some Bare) = λ e. cc e
reach-fresh column r b (Some Quoted) = λ e. cc e
reach-fresh column r b (Some Quote) = λ e. cc e
reach-fresh column r b (Some Return) = λ e. cc e

read-fresh : (column : ℕ) (o : Option Reading) (bytes : List ℕ) → IsFresh column o → IsFresh column (read column o bytes)
unfolding read
read-fresh column None [] f = tt
read-fresh column None (b ∷ bs) f = tt
read-fresh column (Some r) [] f = f
read-fresh column (Some r) (b ∷ bs) f = read-fresh column (option_map (reach column r b) (next_state r.state b)) bs (reach-fresh column r b (next_state r.state b))

fresh-end : (column : ℕ) (o : Option Reading) → IsFresh column o → state_in o ≡ Some Record → o ≡ Some (after column (cells_of o))
fresh-end column None f e = cc e
fresh-end column (Some r) f e =
    let s : r.state ≡ Record = cc e in
    let same : r ≡ after column r.cells = f s in
    let none : last_cell r.state (cell_at r.place r.cell) ≡ [] = ap (λ (t : State). last_cell t (cell_at r.place r.cell)) s in
    let found : r.cells ≡ cells_of (Some r) = sym (ap (λ (cs : List (Option (List ℕ))). r.cells ++ cs) none ∙ append-nil r.cells) in
    ap (λ (t : Reading). Some t) (same ∙ ap (λ (cs : List (Option (List ℕ))). after column cs) found)

-- after whole records the next one begins
pub whole-read : (column : ℕ) (bytes : List ℕ) → run (Some Record) bytes ≡ Some Record → read_all column bytes ≡ Some (after column (cells column bytes))
whole-read column bytes e =
    fresh-end column (read_all column bytes) (read-fresh column (Some (after column [])) bytes (λ s. refl)) (read-run column (Some (after column [])) bytes ∙ e)

cells-put : (found : List (Option (List ℕ))) (r : Reading) → cells_of (Some (put found r)) ≡ found ++ cells_of (Some r)
cells-put found r = append_assoc found r.cells (last_cell r.state (cell_at r.place r.cell))

cells-behind : (found : List (Option (List ℕ))) (o : Option Reading) (s : State) → state_in o ≡ Some s → cells_of (option_map (put found) o) ≡ found ++ cells_of o
cells-behind found None s e = cc e
cells-behind found (Some r) s e = cells-put found r

-- the cells of whole records, and of more behind them
pub cells-append : (column : ℕ) (xs ys : List ℕ) (s : State) → run (Some Record) xs ≡ Some Record → run (Some Record) ys ≡ Some s
    → cells column (xs ++ ys) ≡ cells column xs ++ cells column ys
cells-append column xs ys s whole more =
    let found : List (Option (List ℕ)) = cells column xs in
    let first : read_all column xs ≡ Some (after column found) = whole-read column xs whole in
    let nil : found ++ [] ≡ found = append-nil found in
    let begins : Some (after column found) ≡ option_map (put found) (Some (after column [])) = ap (λ (cs : List (Option (List ℕ))). Some (after column cs)) (sym nil) in
    let all : read_all column (xs ++ ys) ≡ option_map (put found) (read_all column ys) =
    read-append column (Some (after column [])) xs ys ∙ (ap (λ (o : Option Reading). read column o ys) (first ∙ begins) ∙ read-put column found (Some (after column [])) ys) in
    ap cells_of all ∙ cells-behind found (read_all column ys) s (read-run column (Some (after column [])) ys ∙ more)

-- each record that ends is one more cell
abbrev Grows : Reading → Option Reading → Type 0
Grows r None = ⊤
Grows r (Some new) = (length r.cells ≤ length new.cells) × (new.state ≡ Record → length r.cells < length new.cells)

reach-grows : (column : ℕ) (r : Reading) (b : ℕ) (t : Option State) → Grows r (option_map (reach column r b) t)
reach-grows column r b None = tt
reach-grows column r b (Some Record) =
    (omega (arith, length-append r.cells (cell_at r.place r.cell ∷ [])), λ e. omega (arith, length-append r.cells (cell_at r.place r.cell ∷ [])))
reach-grows column r b (Some Field) = (omega arith, λ e. cc e)
reach-grows column r b (Some Bare) = (omega arith, λ e. cc e)
reach-grows column r b (Some Quoted) = (omega arith, λ e. cc e)
reach-grows column r b (Some Quote) = (omega arith, λ e. cc e)
reach-grows column r b (Some Return) = (omega arith, λ e. cc e)

grows-from : (r q : Reading) (o : Option Reading) → length r.cells ≤ length q.cells → Grows q o → Grows r o
grows-from r q None le g = tt
grows-from r q (Some new) le g = (omega (arith, le, g.0), λ e. omega (arith, le, g.1 e))

read-grows : (column : ℕ) (r : Reading) (o : Option Reading) (bytes : List ℕ) → Grows r o → Grows r (read column o bytes)
unfolding read
read-grows column r None [] g = tt
read-grows column r None (b ∷ bs) g = tt
read-grows column r (Some q) [] g = g
read-grows column r (Some q) (b ∷ bs) g =
    read-grows column r (option_map (reach column q b) (next_state q.state b)) bs
    (grows-from r q (option_map (reach column q b) (next_state q.state b)) g.0 (reach-grows column q b (next_state q.state b)))

first-grows : (column : ℕ) (r : Reading) (b : ℕ) (bs : List ℕ) → Grows r (read column (Some r) (b ∷ bs))
unfolding read
first-grows column r b bs = read-grows column r (option_map (reach column r b) (next_state r.state b)) bs (reach-grows column r b (next_state r.state b))

-- in the midst of a record its cell is the last one
last-one : (s : State) (cell : Option (List ℕ)) → s ≢ Record → last_cell s cell ≡ cell ∷ []
last-one Record cell other = absurd (other refl)
last-one Field cell other = refl
last-one Bare cell other = refl
last-one Quoted cell other = refl
last-one Quote cell other = refl
last-one Return cell other = refl

pub cells-amid : (column : ℕ) (bytes : List ℕ) (state : State) (place : Place) (cell : List ℕ) → 0 < length bytes
    → read_all column bytes ≡ Some (record { state = state; place = place; cell = cell; cells = [] }) → cells column bytes ≡ cell_at place cell ∷ []
cells-amid column [] state place cell some e = absurd (omega arith)
cells-amid column (b ∷ bs) state place cell some e =
    let r : Reading = record { state = state; place = place; cell = cell; cells = [] } in
    let g : Grows (after column []) (Some r) = subst (λ (o : Option Reading). Grows (after column []) o) e (first-grows column (after column []) b bs) in
    let amid : state ≢ Record = λ s. let bad : 0 < 0 = g.1 s in omega (arith, bad) in
    ap cells_of e ∙ last-one state (cell_at place cell) amid
