-- A header row that grows.
use Rattle.std.proofs.Common.{◌≡◌, ◌≢◌, ◌++◌, ◌∙◌, ◌<◌, ◌≤◌, ℕ, List, [], ◌∷◌, Option, Some, None, refl, sym, ap, arith, length, length-append, inl, inr, take, zero, suc}
use Rattle.std.proofs.lemmas.Bool.{cases_lt}
use Rattle.std.proofs.lemmas.List.{length-take-le}
use Rattle.csv.specs.Reading.{strip_bom}
use Rattle.csv_strict.specs.Strict.{next_state, run}
use Rattle.csv_strict.specs.declared.state.State.{State}
use Rattle.csv_strict.specs.declared.state.State.TheVariants.{Record, Bare}
use Rattle.csv_strict.proofs.Runs.{run-append}
use Rattle.csv_epochs.specs.Cells.{Reading, after, read, read_all}
use Rattle.csv_epochs.specs.Epochs.{IsHeader}
use Rattle.csv_epochs.proofs.Heads.{goes, long, mark, short, unmarked}
use Rattle.csv_epochs.proofs.Marks.{no-mark}
use Rattle.csv_epochs.proofs.Readings.{no-byte, read-run, state_in}
use Rattle.csv_epochs.proofs.Taking.{state-behind, tail-cells, tail-ends, tail-more}

-- the byte that comes next to at most two others is one
abbrev pub IsPart : (header part : List ℕ) → Type 0
IsPart header part = (1 ≤ length part) × (length header < 3 → length part ≡ 1)

exact : (h x more : List ℕ) → length h < 3 → length x ≡ 1 → h ++ x ≡ 239 ∷ 187 ∷ 191 ∷ more → h ++ x ≡ mark
exact h x [] few one e = e
exact h x (m ∷ more) few one e = absurd (omega (arith, length-append h x, ap length e))

-- more of a header row that isn't the mark
strip-grows : (h x : List ℕ) → IsPart h x → h ++ x ≢ mark → strip_bom (h ++ x) ≡ strip_bom h ++ x
strip-grows h x part other = elim (cases_lt (length h) 3) [
  | inl few ↦
      sym (no-mark (h ++ x) (λ more e. other (exact h x more few (part.1 few) e))) ∙ ap (λ (t : List ℕ). t ++ x) (sym (short h few))
  | inr many ↦ long h x many
]

-- what was read of fewer than three bytes
few-state : (column : ℕ) (h : List ℕ) (r : Reading) → length h < 3 → read_all column (strip_bom h) ≡ Some r → run (Some Record) h ≡ Some r.state
few-state column h r few e = ap (λ (t : List ℕ). run (Some Record) t) (sym (short h few)) ∙ state-behind column (strip_bom h) r e

empty-run : (o : Option State) → run o [] ≡ o
unfolding run
empty-run None = refl
empty-run (Some s) = refl

one-state : (column : ℕ) (r : Reading) (b : ℕ) (o : Option Reading) → read column (Some r) (b ∷ []) ≡ o → next_state r.state b ≡ state_in o
unfolding run
one-state column r b None e =
    let k : run (next_state r.state b) [] ≡ None = sym (read-run column (Some r) (b ∷ [])) ∙ ap state_in e in
    sym (empty-run (next_state r.state b)) ∙ k
one-state column r b (Some s) e =
    let k : run (next_state r.state b) [] ≡ Some s.state = sym (read-run column (Some r) (b ∷ [])) ∙ ap state_in e in
    sym (empty-run (next_state r.state b)) ∙ k

-- the row doesn't end in the mark
not-mark : (column : ℕ) (h x : List ℕ) (r : Reading) (cell : Option (List ℕ)) → IsPart h x → read_all column (strip_bom h) ≡ Some r
    → read column (Some r) x ≡ Some (after column (cell ∷ [])) → h ++ x ≢ mark
not-mark column h [] r cell part e ends is = absurd (omega (arith, part.0))
not-mark column h (b ∷ []) r cell part e ends is =
    let few : length h < 3 = omega (arith, length-append h (b ∷ []), ap length is) in
    let bare : next_state r.state b ≡ Some Bare = goes h b [] [] r.state few is (few-state column h r few e) in
    let record_ends : next_state r.state b ≡ Some Record = one-state column r b (Some (after column (cell ∷ []))) ends in
    let both : Some Bare ≡ Some Record = sym bare ∙ record_ends in
    cc both
not-mark column h (b ∷ c ∷ x) r cell part e ends is =
    let few : length h < 3 = omega (arith, length-append h (b ∷ c ∷ x), ap length is) in
    absurd (omega (arith, part.1 few))

-- the row ends
pub header-ends : (column : ℕ) (h x : List ℕ) (r : Reading) (cell : Option (List ℕ)) → IsPart h x → read_all column (strip_bom h) ≡ Some r
    → read column (Some r) x ≡ Some (after column (cell ∷ [])) → IsHeader column (h ++ x)
header-ends column h x r cell part e ends =
    let grows : strip_bom (h ++ x) ≡ strip_bom h ++ x = strip-grows h x part (not-mark column h x r cell part e ends) in
    let all : read_all column (strip_bom (h ++ x)) ≡ Some (after column (cell ∷ [])) =
    ap (λ (t : List ℕ). read_all column t) grows ∙ tail-more column (strip_bom h) x r (Some (after column (cell ∷ []))) e ends in
    record { ends = tail-ends column (strip_bom (h ++ x)) cell all; name = cell; one = tail-cells column (strip_bom (h ++ x)) cell all }

-- the row goes on
pub header-more : (column : ℕ) (h x : List ℕ) (r new : Reading) → IsPart h x → h ++ x ≢ mark → read_all column (strip_bom h) ≡ Some r
    → read column (Some r) x ≡ Some new → read_all column (strip_bom (h ++ x)) ≡ Some new
header-more column h x r new part other e more =
    ap (λ (t : List ℕ). read_all column t) (strip-grows h x part other) ∙ tail-more column (strip_bom h) x r (Some new) e more

-- behind the mark the row begins
pub header-marked : (column : ℕ) (h : List ℕ) (r : Reading) → h ≡ mark → r ≡ after column [] → read_all column (strip_bom h) ≡ Some r
unfolding strip_bom
header-marked column h r is new = rw (is, new) (no-byte column (Some (after column [])))

none-run : (ys : List ℕ) → run None ys ≡ None
unfolding run
none-run [] = refl
none-run (y ∷ ys) = refl

stuck-few : (column : ℕ) (h : List ℕ) (b : ℕ) (rest : List ℕ) (r : Reading) → length h < 3 → read_all column (strip_bom h) ≡ Some r
    → next_state r.state b ≡ None → run (Some Record) (strip_bom (h ++ (b ∷ rest))) ≡ None
unfolding run
stuck-few column h b rest r few e stuck =
    let s : run (Some Record) h ≡ Some r.state = few-state column h r few e in
    let plain : strip_bom (h ++ (b ∷ rest)) ≡ h ++ (b ∷ rest) =
    unmarked h b rest r.state few s (λ bare. let both : None ≡ Some Bare = sym stuck ∙ bare in cc both) in
    ap (λ (t : List ℕ). run (Some Record) t) plain ∙ (run-append (Some Record) h (b ∷ rest)
    ∙ (ap (λ (o : Option State). run o (b ∷ rest)) s ∙ (ap (λ (o : Option State). run o rest) stuck ∙ none-run rest)))

-- the row may not go on
pub header-stuck : (column : ℕ) (h piece part : List ℕ) (r : Reading) → 0 < length piece → (length h < 3 → part ≡ take 1 piece) → (3 ≤ length h → part ≡ piece)
    → read_all column (strip_bom h) ≡ Some r → read column (Some r) part ≡ None → run (Some Record) (strip_bom (h ++ piece)) ≡ None
header-stuck column h [] part r some one all e stuck = absurd (omega arith)
header-stuck column h (b ∷ rest) part r some one all e stuck = elim (cases_lt (length h) 3) [
  | inl few ↦
      let s : read column (Some r) (b ∷ []) ≡ None = ap (λ (t : List ℕ). read column (Some r) t) (sym (one few)) ∙ stuck in
      stuck-few column h b rest r few e (one-state column r b None s)
  | inr many ↦
      let s : read column (Some r) (b ∷ rest) ≡ None = ap (λ (t : List ℕ). read column (Some r) t) (sym (all many)) ∙ stuck in
      ap (λ (t : List ℕ). run (Some Record) t) (long h (b ∷ rest) many) ∙ (run-append (Some Record) (strip_bom h) (b ∷ rest)
      ∙ (ap (λ (o : Option State). run o (b ∷ rest)) (state-behind column (strip_bom h) r e) ∙ (sym (read-run column (Some r) (b ∷ rest)) ∙ ap state_in s)))
]

one-most : (piece : List ℕ) → length (take 1 piece) ≤ 1
one-most [] = omega arith
one-most (b ∷ piece) = omega arith

-- a front of the part that is read at once
pub front-part : (h piece part : List ℕ) (count : ℕ) → (length h < 3 → part ≡ take 1 piece) → (3 ≤ length h → part ≡ piece) → 1 ≤ count → count ≤ length part
    → IsPart h (take count part)
front-part h piece part count few more one within =
    let long : length (take count part) ≡ count = length-take-le count part within in (
      omega arith,
      λ short.
          let most : length (take 1 piece) ≤ 1 = one-most piece in
          let same : length part ≡ length (take 1 piece) = ap length (few short) in
          omega arith,
    )

few-front : (piece : List ℕ) (count : ℕ) → 1 ≤ count → count ≤ length (take 1 piece) → take count piece ≡ take count (take 1 piece)
few-front [] count one within = absurd (omega arith)
few-front (b ∷ piece) zero one within = absurd (omega arith)
few-front (b ∷ piece) (suc zero) one within = refl
few-front (b ∷ piece) (suc (suc count)) one within = absurd (omega arith)

pub front-same : (h piece part : List ℕ) (count : ℕ) → (length h < 3 → part ≡ take 1 piece) → (3 ≤ length h → part ≡ piece) → 1 ≤ count → count ≤ length part
    → take count piece ≡ take count part
front-same h piece part count few more one within = elim (cases_lt (length h) 3) [
  | inl short ↦
      let e : part ≡ take 1 piece = few short in
      let w : count ≤ length (take 1 piece) = rw e at within in
      few-front piece count one w ∙ ap (λ (t : List ℕ). take count t) (sym e)
  | inr many ↦ ap (λ (t : List ℕ). take count t) (sym (more many))
]

-- the whole of it
pub whole-part : (h piece part : List ℕ) → 0 < length piece → (length h < 3 → part ≡ take 1 piece) → (3 ≤ length h → part ≡ piece) → IsPart h part
whole-part h [] part some few more = absurd (omega arith)
whole-part h (b ∷ piece) part some few more = elim (cases_lt (length h) 3) [
  | inl short ↦ rw (few short) (omega arith, λ s. refl)
  | inr many ↦ rw (more many) (omega arith, λ s. absurd (omega arith))
]
