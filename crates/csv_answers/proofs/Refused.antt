-- An answer that is refused has no rows.
use Rattle.std.proofs.Common.{◌≡◌, ◌++◌, ◌∷◌, ◌∙◌, ◌+◌, ◌-◌, ◌<◌, ◌≤◌, ◌==◌, ◌↔◌, drop, get_or, take, take-append-drop, length-drop, ℕ, List, [], Bool, true, false, IsTrue, length, refl, sym, ap, ap₂, subst, arith, inl, inr}
use Rattle.std.specs.Prelude.{◌&&◌, ◌||◌, codes}
use Rattle.std.proofs.lemmas.List.{append-nil, append_assoc, append_cancel_left}
use Rattle.schema.specs.declared.tables.Table.{Table}
use Rattle.csv_answers.specs.Answers.{Adds, AreDecoded, AreLines, AreRows, Begins, HasCells, IsEpoch, IsFaultyFrom, IsFirstFault, IsOfRecord, IsOutput, IsWhole, MayBegin, Where, outside}
use Rattle.csv.proofs.WriteFacts.{slice-run}
use Rattle.std.specs.List.{list_any}
use Rattle.csv_answers.proofs.Cut.{Free, cut-from, cut-once, not-cut}

same-test : (a b : Bool) (P : Type 0) → (IsTrue a ↔ P) → (IsTrue b ↔ P) → a ≡ b
same-test true true P p q = refl
same-test false false P p q = refl
same-test true false P p q = sym (q.1 (p.0 refl))
same-test false true P p q = p.1 (q.0 refl)

same-place : (a b : Where) → a.label ≡ b.label → a.asked ≡ b.asked → a.named ≡ b.named → a.found ≡ b.found → a ≡ b
same-place a b e f g h = λ i. record { label = e i; asked = f i; named = g i; found = h i }

pub apart : (a b : List ℕ) → codes "epoch " ++ a ≡ codes "output " ++ b → ⊥
apart a b e =
    let first : 101 ≡ 111 = ap (λ (t : List ℕ). get_or t 0 0) e in
    absurd (omega (arith, first))

-- the place after a line that begins an epoch or an output
begins-once : (name : List ℕ) (with_epochs : Bool) (line : List ℕ) (old new next : Where) → Begins name with_epochs line old new → Begins name with_epochs line old next → new ≡ next
begins-once name with_epochs line old new next (inl a) (inl b) =
    let asked : new.asked ≡ next.asked = same-test new.asked next.asked (name ≡ codes "out") a.2 b.2 in
    same-place new next (append_cancel_left (codes "epoch ") new.label next.label (sym a.0.0 ∙ b.0.0)) asked (a.3 ∙ sym b.3) (a.4 ∙ asked ∙ sym b.4)
begins-once name with_epochs line old new next (inl a) (inr b) = let e : codes "epoch " ++ new.label ≡ codes "output " ++ b.0 = sym a.0.0 ∙ b.1 in absurd (apart new.label b.0 e)
begins-once name with_epochs line old new next (inr a) (inl b) = let e : codes "epoch " ++ next.label ≡ codes "output " ++ a.0 = sym b.0.0 ∙ a.1 in absurd (apart next.label a.0 e)
begins-once name with_epochs line old new next (inr a) (inr b) =
    let other : a.0 ≡ b.0 = append_cancel_left (codes "output ") a.0 b.0 (sym a.1 ∙ b.1) in
    let asked : new.asked ≡ next.asked = same-test new.asked next.asked (b.0 ≡ name) (rw other at a.4) b.4 in
    same-place new next (a.3 ∙ sym b.3) asked (a.5 ∙ sym b.5) (a.6 ∙ ap (λ (k : Bool). k || (old.named && old.found)) asked ∙ sym b.6)

begins-record : (name : List ℕ) (with_epochs : Bool) (line : List ℕ) (old new : Where) → Begins name with_epochs line old new → IsOfRecord line → ⊥
begins-record name with_epochs line old new (inl a) r = r.0 new.label a.0
begins-record name with_epochs line old new (inr a) r = r.1 a.0 a.1

-- the place after a line
adds-once : (table : Table) (with_epochs : Bool) (texts : List (List ℕ)) (line : List ℕ) (old new next : Where) (rows more : List (List (List ℕ)))
    → Adds table with_epochs texts old line rows new → Adds table with_epochs texts old line more next → new ≡ next
adds-once table with_epochs texts line old new next rows more (inl a) (inl b) = begins-once table.name.items with_epochs line old new next a.0 b.0
adds-once table with_epochs texts line old new next rows more (inl a) (inr b) = absurd (begins-record table.name.items with_epochs line old new a.0 b.0)
adds-once table with_epochs texts line old new next rows more (inr a) (inl b) = absurd (begins-record table.name.items with_epochs line old next b.0 a.0)
adds-once table with_epochs texts line old new next rows more (inr a) (inr b) = a.2 ∙ sym b.2

some-line : (l rest more : List ℕ) → (l ++ 10 ∷ rest) ++ more ≡ [] → ⊥
some-line [] rest more e = cc e
some-line (b ∷ l) rest more e = cc e

nothing-after : (front rest : List ℕ) → front ≡ [] → front ++ rest ≡ [] → rest ≡ []
nothing-after front rest e f = rw e at f

stuck : (table : Table) (with_epochs : Bool) (texts : List (List ℕ)) (front rest : List ℕ) (lines all : List (List ℕ)) (old here last : Where) (rows more : List (List (List ℕ)))
    → AreLines front lines → AreRows table with_epochs texts old lines rows here → IsFaultyFrom table with_epochs texts here rest
    → AreLines (front ++ rest) all → AreRows table with_epochs texts old all more last → IsWhole last → ⊥
unfolding AreLines AreRows
stuck table with_epochs texts front rest [] [] old here last rows more l r (inl f) m s w = f.1 (rw (r.1 ∙ sym s.1) w)
stuck table with_epochs texts front rest [] [] old here last rows more l r (inr f) m s w = f.0 (nothing-after front rest l m)
stuck table with_epochs texts front rest [] (a ∷ all) old here last rows more l r (inl f) m s w =
    let text : rest ≡ a ++ 10 ∷ m.0 = rw l at m.1 in
    some-line a m.0 [] (append-nil _ ∙ sym text ∙ f.0)
stuck table with_epochs texts front rest [] (a ∷ all) old here last rows more l r (inr f) m s w =
    let at : here ≡ old = r.1 in
    let text : rest ≡ a ++ 10 ∷ m.0 = rw l at m.1 in
    f.1 a m.0 s.0 s.2 text m.2 (rw at s.3)
stuck table with_epochs texts front rest (b ∷ lines) [] old here last rows more l r f m s w = some-line b l.0 rest (ap (λ (t : List ℕ). t ++ rest) (sym l.1) ∙ m)
stuck table with_epochs texts front rest (b ∷ lines) (a ∷ all) old here last rows more l r f m s w =
    let whole : b ++ 10 ∷ (l.0 ++ rest) ≡ a ++ 10 ∷ m.0 = sym (append_assoc b (10 ∷ l.0) rest) ∙ ap (λ (t : List ℕ). t ++ rest) (sym l.1) ∙ m.1 in
    let cut = cut-once 10 b a (l.0 ++ rest) m.0 l.2 m.2 whole in
    let first : Adds table with_epochs texts old b r.0 r.2 = r.3 in
    let second : Adds table with_epochs texts old b s.0 s.2 = rw (← cut.0) at s.3 in
    let place : r.2 ≡ s.2 = adds-once table with_epochs texts b old r.2 s.2 r.0 s.0 first second in
    stuck table with_epochs texts l.0 rest lines all r.2 here last r.1 s.1 l.3 r.4 f (subst (λ (t : List ℕ). AreLines t all) (sym cut.1) m.3)
    (subst (λ (w : Where). AreRows table with_epochs texts w all s.1 last) (sym place) s.4) w

pub refused-answer : (table : Table) (with_epochs : Bool) (texts : List (List ℕ)) (answer : List ℕ) (rows : List (List (List ℕ))) (line : ℕ)
    → IsFirstFault table with_epochs texts answer line → AreDecoded table with_epochs texts answer rows → ⊥
refused-answer table with_epochs texts answer rows line f d =
    stuck table with_epochs texts f.front f.rest f.lines d.lines outside f.here d.last f.rows rows f.before f.decoded f.faulty (rw f.cut at d.cut) d.decoded d.whole

-- a line of a record of the output that is asked for has cells
pub no-cells : (table : Table) (with_epochs : Bool) (texts : List (List ℕ)) (old next : Where) (line : List ℕ) (more : List (List (List ℕ)))
    → IsOfRecord line → old.asked ≡ true → ((cells : List (List ℕ)) → HasCells table.columns.items texts line cells → ⊥) → Adds table with_epochs texts old line more next → ⊥
no-cells table with_epochs texts old next line more r asked none (inl a) = begins-record table.name.items with_epochs line old next a.0 r
no-cells table with_epochs texts old next line more r asked none (inr (a, begun, b, inl c)) = let e : true ≡ false = sym asked ∙ c.0 in cc e
no-cells table with_epochs texts old next line more r asked none (inr (a, begun, b, inr c)) = none c.1.0 c.1.1

-- a line before the first epoch is no record
pub no-epoch : (table : Table) (with_epochs : Bool) (texts : List (List ℕ)) (old next : Where) (line : List ℕ) (more : List (List (List ℕ)))
    → IsOfRecord line → old.label ≡ [] → Adds table with_epochs texts old line more next → ⊥
no-epoch table with_epochs texts old next line more r none (inl a) = begins-record table.name.items with_epochs line old next a.0 r
no-epoch table with_epochs texts old next line more r none (inr a) = a.1 none

-- nor one that begins nothing where it may
pub no-head : (table : Table) (with_epochs : Bool) (texts : List (List ℕ)) (old : Where) (line : List ℕ) (more : List (List (List ℕ))) (next : Where)
    → ((other : Where) → Begins table.name.items with_epochs line old other → ⊥) → (IsOfRecord line → ⊥) → Adds table with_epochs texts old line more next → ⊥
no-head table with_epochs texts old line more next none head (inl a) = none next a.0
no-head table with_epochs texts old line more next none head (inr a) = head a.0

pub epoch-refused : (name : List ℕ) (with_epochs : Bool) (line label : List ℕ) (old next : Where) → IsEpoch line label → (MayBegin with_epochs old → ⊥) → Begins name with_epochs line old next → ⊥
epoch-refused name with_epochs line label old next is none (inl a) = none a.1
epoch-refused name with_epochs line label old next is none (inr a) = apart label a.0 (sym is.0 ∙ a.1)

pub output-refused : (name : List ℕ) (with_epochs : Bool) (line other : List ℕ) (old next : Where) → IsOutput line other → old.label ≡ [] → Begins name with_epochs line old next → ⊥
output-refused name with_epochs line other old next is none (inl a) = apart next.label other (sym a.0.0 ∙ is)
output-refused name with_epochs line other old next is none (inr a) = a.2 none

-- a line that adds nothing is the first fault
pub first-fault : (table : Table) (with_epochs : Bool) (texts : List (List ℕ)) (answer : List ℕ) (b e line : ℕ) (lines : List (List ℕ)) (rows : List (List (List ℕ))) (here : Where)
    → b ≤ e → e < length answer → get_or answer e 0 ≡ 10 → Free 10 (drop b (take e answer)) → AreLines (take b answer) lines → AreRows table with_epochs texts outside lines rows here → line ≡ length lines
    → ((more : List (List (List ℕ))) (next : Where) → Adds table with_epochs texts here (take (e - b) (drop b answer)) more next → ⊥) → IsFirstFault table with_epochs texts answer (line + 1)
first-fault table with_epochs texts answer b e line lines rows here le lt at free lined read counted none =
    let text : List ℕ = take (e - b) (drop b answer) in
    let own : Free 10 text = ap (list_any (λ c. c == 10)) (slice-run answer b e le) ∙ free in
    let from : drop b answer ≡ text ++ 10 ∷ drop (e + 1) answer = rw at at (cut-from answer b e b le lt refl) in
    record {
      front = take b answer;
      rest = drop b answer;
      cut = sym (take-append-drop b answer);
      lines = lines;
      before = lined;
      rows = rows;
      here = here;
      decoded = read;
      counted = omega (arith, counted);
      faulty = inr (
        λ empty. some-line text (drop (e + 1) answer) [] (append-nil _ ∙ sym from ∙ empty),
        λ l rest more next same clear adds.
            none more next (subst (λ (t : List ℕ). Adds table with_epochs texts here t more next) (cut-once 10 l text rest (drop (e + 1) answer) clear own (sym same ∙ from)).0 adds),
      );
    }

-- and so is what no line feed ends
pub last-fault : (table : Table) (with_epochs : Bool) (texts : List (List ℕ)) (answer : List ℕ) (b line : ℕ) (lines : List (List ℕ)) (rows : List (List (List ℕ))) (here : Where)
    → b < length answer → Free 10 (drop b answer) → AreLines (take b answer) lines → AreRows table with_epochs texts outside lines rows here → line ≡ length lines
    → IsFirstFault table with_epochs texts answer (line + 1)
last-fault table with_epochs texts answer b line lines rows here lt free lined read counted = record {
  front = take b answer;
  rest = drop b answer;
  cut = sym (take-append-drop b answer);
  lines = lines;
  before = lined;
  rows = rows;
  here = here;
  decoded = read;
  counted = omega (arith, counted);
  faulty = inr (
    λ empty. let short : length (drop b answer) ≡ 0 = ap length empty in absurd (omega (arith, length-drop b answer, lt)),
    λ l rest more next same clear adds. not-cut 10 (drop b answer) l rest free same,
  );
}

-- and the end, where an epoch lacks the output
pub end-fault : (table : Table) (with_epochs : Bool) (texts : List (List ℕ)) (answer : List ℕ) (line : ℕ) (lines : List (List ℕ)) (rows : List (List (List ℕ))) (here : Where)
    → AreLines answer lines → AreRows table with_epochs texts outside lines rows here → line ≡ length lines → (IsWhole here → ⊥) → IsFirstFault table with_epochs texts answer (line + 1)
end-fault table with_epochs texts answer line lines rows here lined read counted lacks = record {
  front = answer;
  rest = [];
  cut = sym (append-nil answer);
  lines = lines;
  before = lined;
  rows = rows;
  here = here;
  decoded = read;
  counted = omega (arith, counted);
  faulty = inl (refl, lacks);
}
