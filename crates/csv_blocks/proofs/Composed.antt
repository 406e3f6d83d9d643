-- Records that are read from a text block by block.
use Rattle.std.proofs.Common.{◌≡◌, ◌==◌, ◌++◌, ◌∙◌, ℕ, List, [], ◌∷◌, Bool, true, false, Option, Some, None, refl, sym, ap, subst, inl, inr}
use Rattle.std.specs.Prelude.{◌⊎◌, ⊤}
use Rattle.std.proofs.lemmas.Bool.{cases_Bool, eqb-true}
use Rattle.csv.specs.Machine.{Read, ends_at_end, field_after, fields_after, is_end, next_record, step}
use Rattle.csv.specs.Reading.{AreRecords, Reached, default_config, strip_bom}
use Rattle.csv.specs.declared.parser.State as csv
use Rattle.csv.specs.declared.parser.State.TheVariants as st
use Rattle.csv_strict.specs.Strict.{next_state, run}
use Rattle.csv_strict.specs.declared.state.State.{State}
use Rattle.csv_strict.specs.declared.state.State.TheVariants.{Record, Field, Bare, Quoted, Quote, Return}
use Rattle.csv_strict.proofs.Runs.{run-append}

-- the reader's state where a text that may come is in this one
abbrev machine_state : State → csv.State
machine_state Record = st.StartRecord
machine_state Field = st.StartField
machine_state Bare = st.InField
machine_state Quoted = st.InQuoted
machine_state Quote = st.AfterQuote
machine_state Return = st.AfterCr

-- nothing of a record was read
abbrev is_between : State → Bool
is_between Record = true
is_between Field = false
is_between Bare = false
is_between Quoted = false
is_between Quote = false
is_between Return = true

-- the next record, from a state and what was read of it
abbrev next_from : State → List (List ℕ) → List ℕ → List ℕ → Option Read
next_from q fields field xs = next_record default_config (machine_state q) fields field xs

-- the next record from its first byte
abbrev next_in : List ℕ → Option Read
next_in xs = next_record default_config st.StartRecord [] [] xs

-- these are the first records of a text
abbrev pub Begins : List ℕ → List (List (List ℕ)) → Type 0
Begins text rows = (s : csv.State) × (rest : List ℕ) × Reached default_config st.StartRecord text rows s rest

-- the four bytes that mean something, and the others
by-byte : (P : Type 0) (b : ℕ) → (b ≡ 34 → P) → (b ≡ 44 → P) → (b ≡ 13 → P) → (b ≡ 10 → P)
    → ((b == 34) ≡ false → (b == 44) ≡ false → (b == 13) ≡ false → (b == 10) ≡ false → P) → P
by-byte P b quote comma return feed other = elim (cases_Bool (b == 34)) [
  | inl e ↦ quote (eqb-true b 34 e)
  | inr q ↦ elim (cases_Bool (b == 44)) [
    | inl e ↦ comma (eqb-true b 44 e)
    | inr c ↦ elim (cases_Bool (b == 13)) [
      | inl e ↦ return (eqb-true b 13 e)
      | inr r ↦ elim (cases_Bool (b == 10)) [
        | inl e ↦ feed (eqb-true b 10 e)
        | inr f ↦ other q c r f
      ]
    ]
  ]
]

-- the reader goes to the state that the grammar goes to, and a record ends where nothing of the next one was read
abbrev Goes : State → ℕ → Option State → Type 0
Goes q b None = ⊤
Goes q b (Some t) =
    ((step default_config (machine_state q) b).0 ≡ machine_state t) × (is_end (step default_config (machine_state q) b).1 ≡ is_between t)

goes-record : (b : ℕ) → Goes Record b (next_state Record b)
goes-record b = by-byte (Goes Record b (next_state Record b)) b
    (λ e. rw e (refl, refl)) (λ e. rw e (refl, refl)) (λ e. rw e tt) (λ e. rw e tt) (λ q c r f. rw (q, c, r, f) (rw (step, q, c, r, f) (refl, refl)))

goes-inside : (s : State) (b : ℕ) → is_between s ≡ false → Goes s b (next_state s b)
goes-inside Record b i = cc i
goes-inside Field b i = by-byte (Goes Field b (next_state Field b)) b
    (λ e. rw e (refl, refl)) (λ e. rw e (refl, refl)) (λ e. rw e (refl, refl)) (λ e. rw e (refl, refl)) (λ q c r f. rw (q, c, r, f) (rw (step, q, c, r, f) (refl, refl)))
goes-inside Bare b i = by-byte (Goes Bare b (next_state Bare b)) b
    (λ e. rw e tt) (λ e. rw e (refl, refl)) (λ e. rw e (refl, refl)) (λ e. rw e (refl, refl)) (λ q c r f. rw (q, c, r, f) (rw (step, c, r, f) (refl, refl)))
goes-inside Quoted b i = elim (cases_Bool (b == 34)) [
  | inl e ↦ rw e (rw (step, e) (refl, refl))
  | inr e ↦ rw e (rw (step, e) (refl, refl))
]
goes-inside Quote b i = by-byte (Goes Quote b (next_state Quote b)) b
    (λ e. rw e (refl, refl)) (λ e. rw e (refl, refl)) (λ e. rw e (refl, refl)) (λ e. rw e (refl, refl)) (λ q c r f. rw (q, c, r, f) tt)
goes-inside Return b i = cc i

-- where the bytes behind may come, there is a state before them
some-state : (o : Option State) (bs : List ℕ) (last : State) → run o bs ≡ Some last → (t : State) × (o ≡ Some t)
unfolding run
some-state None [] last e = cc e
some-state None (b ∷ bs) last e = cc e
some-state (Some t) bs last e = (t, refl)

-- the record ends in these bytes, whatever comes behind them, and then whole records are left
record Ended (q : State) (fields : List (List ℕ)) (field xs ys : List ℕ) : Type 0 where
  read : Read
  next : State
  found : next_from q fields field xs ≡ Some read
  longer : next_from q fields field (xs ++ ys) ≡ Some (read.0, read.1, read.2 ++ ys)
  state : read.1 ≡ machine_state next
  between : is_between next ≡ true
  left : run (Some next) read.2 ≡ Some Record

-- one byte of a record
ended-byte : (q t : State) (fields : List (List ℕ)) (field : List ℕ) (b : ℕ) (bs ys : List ℕ) → Goes q b (Some t) → run (Some t) bs ≡ Some Record
    → (is_between t ≡ false → (more : List (List ℕ)) (at : List ℕ) → Ended t more at bs ys) → Ended q fields field (b ∷ bs) ys
unfolding next_record
ended-byte q t fields field b bs ys goes left later =
    let act = (step default_config (machine_state q) b).1 in
    elim (cases_Bool (is_between t)) [
      | inl ends ↦
          let done : is_end (step default_config (machine_state q) b).1 ≡ true = goes.1 ∙ ends in
          record {
            read = (fields_after act fields field, (step default_config (machine_state q) b).0, bs);
            next = t;
            found = rw done refl;
            longer = rw done refl;
            state = goes.0;
            between = ends;
            left = left;
          }
      | inr goes_on ↦
          let on : is_end (step default_config (machine_state q) b).1 ≡ false = goes.1 ∙ goes_on in
          let h : Ended t (fields_after act fields field) (field_after act b field) bs ys = later goes_on (fields_after act fields field) (field_after act b field) in
          record {
            read = h.read;
            next = h.next;
            found = rw (on, goes.0) h.found;
            longer = rw (on, goes.0) h.longer;
            state = h.state;
            between = h.between;
            left = h.left;
          }
    ]

-- in the midst of a record
ended : (q : State) (fields : List (List ℕ)) (field xs ys : List ℕ) → is_between q ≡ false → run (Some q) xs ≡ Some Record → Ended q fields field xs ys
unfolding run
ended q fields field [] ys inside e =
    let same : q ≡ Record = cc e in
    let both : true ≡ false = rw same at inside in
    cc both
ended q fields field (b ∷ bs) ys inside e =
    let t = some-state (next_state q b) bs Record e in
    let left : run (Some t.0) bs ≡ Some Record = subst (λ (o : Option State). run o bs ≡ Some Record) t.1 e in
    ended-byte q t.0 fields field b bs ys (subst (λ (o : Option State). Goes q b o) t.1 (goes-inside q b inside)) left
    (λ inside more at. ended t.0 more at bs ys inside left)

-- there is no record in these bytes, and what comes behind them reads as if they weren't there
abbrev IsPassed : State → List ℕ → List ℕ → Type 0
IsPassed q xs ys = (next_from q [] [] xs ≡ None) × (next_from q [] [] (xs ++ ys) ≡ next_in ys)

-- at the start of a record
from-record : (xs ys : List ℕ) → run (Some Record) xs ≡ Some Record → Ended Record [] [] xs ys ⊎ IsPassed Record xs ys
unfolding run next_record
from-record [] ys e = inr (refl, refl)
from-record (b ∷ bs) ys e =
    let t = some-state (next_state Record b) bs Record e in
    let left : run (Some t.0) bs ≡ Some Record = subst (λ (o : Option State). run o bs ≡ Some Record) t.1 e in
    inl (ended-byte Record t.0 [] [] b bs ys (subst (λ (o : Option State). Goes Record b o) t.1 (goes-record b)) left
    (λ inside more at. ended t.0 more at bs ys inside left))

-- after a CR comes an LF
feed-next : (b : ℕ) (t : State) → next_state Return b ≡ Some t → (b ≡ 10) × (t ≡ Record)
feed-next b t e = elim (cases_Bool (b == 10)) [
  | inl feed ↦
      let some : Some Record ≡ Some t = rw feed at e in
      (eqb-true b 10 feed, cc some)
  | inr other ↦
      let none : None ≡ Some t = rw other at e in
      cc none
]

-- an LF after a CR reads as if it weren't there
ended-feed : (bs ys : List ℕ) → Ended Record [] [] bs ys → Ended Return [] [] (10 ∷ bs) ys
unfolding next_record
ended-feed bs ys h =
    record { read = h.read; next = h.next; found = h.found; longer = h.longer; state = h.state; between = h.between; left = h.left }

passed-feed : (bs ys : List ℕ) → IsPassed Record bs ys → IsPassed Return (10 ∷ bs) ys
unfolding next_record
passed-feed bs ys h = (h.0, h.1)

-- after a CR
from-return : (xs ys : List ℕ) → run (Some Return) xs ≡ Some Record → Ended Return [] [] xs ys ⊎ IsPassed Return xs ys
unfolding run
from-return [] ys e = cc e
from-return (b ∷ bs) ys e =
    let t = some-state (next_state Return b) bs Record e in
    let feed = feed-next b t.0 t.1 in
    let start : next_state Return b ≡ Some Record = t.1 ∙ ap (λ (s : State). Some s) feed.1 in
    let left : run (Some Record) bs ≡ Some Record = subst (λ (o : Option State). run o bs ≡ Some Record) start e in
    rw feed.0 (elim (from-record bs ys left) [
      | inl h ↦ inl (ended-feed bs ys h)
      | inr h ↦ inr (passed-feed bs ys h)
    ])

-- between two records
from-between : (q : State) (xs ys : List ℕ) → is_between q ≡ true → run (Some q) xs ≡ Some Record → Ended q [] [] xs ys ⊎ IsPassed q xs ys
from-between Record xs ys i e = from-record xs ys e
from-between Field xs ys i e = cc i
from-between Bare xs ys i e = cc i
from-between Quoted xs ys i e = cc i
from-between Quote xs ys i e = cc i
from-between Return xs ys i e = from-return xs ys e

-- where there is a record, and where there is none
from-found : (q : State) (xs ys : List ℕ) (p : Read) → is_between q ≡ true → run (Some q) xs ≡ Some Record → next_from q [] [] xs ≡ Some p
    → (h : Ended q [] [] xs ys) × (p ≡ h.read)
from-found q xs ys p i e found = elim (from-between q xs ys i e) [
  | inl h ↦
      let same : Some p ≡ Some h.read = sym found ∙ h.found in
      (h, cc same)
  | inr h ↦
      let both : None ≡ Some p = sym h.0 ∙ found in
      cc both
]

from-none : (q : State) (xs ys : List ℕ) → is_between q ≡ true → run (Some q) xs ≡ Some Record → next_from q [] [] xs ≡ None
    → next_from q [] [] (xs ++ ys) ≡ next_in ys
from-none q xs ys i e none = elim (from-between q xs ys i e) [
  | inl h ↦
      let both : None ≡ Some h.read = sym none ∙ h.found in
      cc both
  | inr h ↦ h.1
]

-- these are the first records of a text from a state, and P holds of the one behind them
abbrev ReadTo : (Option Read → Type 0) → csv.State → List ℕ → List (List (List ℕ)) → Type 0
ReadTo P s xs rows =
    (s2 : csv.State) × (rest : List ℕ) × Reached default_config s xs rows s2 rest × P (next_record default_config s2 [] [] rest)

-- where the next record is the same, all are
read-same : (P : Option Read → Type 0) (a b : csv.State) (xs ys : List ℕ) (rows : List (List (List ℕ)))
    → next_record default_config a [] [] xs ≡ next_record default_config b [] [] ys → ReadTo P b ys rows → ReadTo P a xs rows
unfolding Reached
read-same P a b xs ys [] e h = (a, xs, (refl, refl), rw (e, h.2.0, h.2.1) h.3)
read-same P a b xs ys (r ∷ rs) e h = (h.0, h.1, (h.2.0, e ∙ h.2.1, h.2.2, h.2.3), h.3)

-- one more record in front
read-one : (P : Option Read → Type 0) (q : State) (xs ys : List ℕ) (h : Ended q [] [] xs ys) (r : List (List ℕ)) (rows : List (List (List ℕ))) → r ≡ h.read.0
    → ReadTo P (machine_state h.next) (h.read.2 ++ ys) rows → ReadTo P (machine_state q) (xs ++ ys) (r ∷ rows)
unfolding Reached
read-one P q xs ys h r rows same t =
    (t.0, t.1, ((h.read.0, h.read.1, h.read.2 ++ ys), h.longer, same, rw h.state t.2), t.3)

-- all records of a block, and then those behind it
read-on : (P : Option Read → Type 0) (q : State) (xs ys : List ℕ) (rows more : List (List (List ℕ))) → is_between q ≡ true → run (Some q) xs ≡ Some Record
    → AreRecords default_config (machine_state q) xs rows → ReadTo P st.StartRecord ys more → ReadTo P (machine_state q) (xs ++ ys) (rows ++ more)
unfolding Reached
read-on P q xs ys [] more i e a m =
    let none : next_from q [] [] xs ≡ None = rw (a.2.0, a.2.1) a.3 in
    read-same P (machine_state q) st.StartRecord (xs ++ ys) ys more (from-none q xs ys i e none) m
read-on P q xs ys (r ∷ rs) more i e a m =
    let h = from-found q xs ys a.2.0 i e a.2.1 in
    let first : r ≡ h.0.read.0 = a.2.2 ∙ ap (λ (p : Read). p.0) h.1 in
    let state : a.2.0.1 ≡ machine_state h.0.next = ap (λ (p : Read). p.1) h.1 ∙ h.0.state in
    let left : a.2.0.2 ≡ h.0.read.2 = ap (λ (p : Read). p.2) h.1 in
    let later : AreRecords default_config (machine_state h.0.next) h.0.read.2 rs = (a.0, a.1, rw (← state, ← left) a.2.3, a.3) in
    read-one P q xs ys h.0 r (rs ++ more) first (read-on P h.0.next h.0.read.2 ys rs more h.0.between h.0.left later m)

-- the records of a block, and then those behind it, are those of both
pub records-on : (xs ys : List ℕ) (rows more : List (List (List ℕ))) → run (Some Record) xs ≡ Some Record
    → AreRecords default_config st.StartRecord xs rows → AreRecords default_config st.StartRecord ys more
    → AreRecords default_config st.StartRecord (xs ++ ys) (rows ++ more)
records-on xs ys rows more e a m = read-on (λ o. o ≡ None) Record xs ys rows more refl e a m

-- the same of the first records behind it
pub begins-on : (xs ys : List ℕ) (rows more : List (List (List ℕ))) → run (Some Record) xs ≡ Some Record
    → AreRecords default_config st.StartRecord xs rows → Begins ys more → Begins (xs ++ ys) (rows ++ more)
begins-on xs ys rows more e a m =
    let h = read-on (λ o. ⊤) Record xs ys rows more refl e a (m.0, m.1, m.2, tt) in
    (h.0, h.1, h.2)

-- the first records of a block are first whatever comes behind it
longer-from : (q : State) (xs ys : List ℕ) (rows : List (List (List ℕ))) → is_between q ≡ true → run (Some q) xs ≡ Some Record
    → ReadTo (λ o. ⊤) (machine_state q) xs rows → ReadTo (λ o. ⊤) (machine_state q) (xs ++ ys) rows
unfolding Reached
longer-from q xs ys [] i e a = (machine_state q, xs ++ ys, (refl, refl), tt)
longer-from q xs ys (r ∷ rs) i e a =
    let h = from-found q xs ys a.2.0 i e a.2.1 in
    let first : r ≡ h.0.read.0 = a.2.2 ∙ ap (λ (p : Read). p.0) h.1 in
    let state : a.2.0.1 ≡ machine_state h.0.next = ap (λ (p : Read). p.1) h.1 ∙ h.0.state in
    let left : a.2.0.2 ≡ h.0.read.2 = ap (λ (p : Read). p.2) h.1 in
    read-one (λ o. ⊤) q xs ys h.0 r rs first
    (longer-from h.0.next h.0.read.2 ys rs h.0.between h.0.left (a.0, a.1, rw (← state, ← left) a.2.3, tt))

pub begins-longer : (xs ys : List ℕ) (rows : List (List (List ℕ))) → run (Some Record) xs ≡ Some Record → Begins xs rows → Begins (xs ++ ys) rows
begins-longer xs ys rows e b =
    let h = longer-from Record xs ys rows refl e (b.0, b.1, b.2, tt) in
    (h.0, h.1, h.2)

-- and so is the first one
pub first-longer : (xs ys : List ℕ) → run (Some Record) xs ≡ Some Record → (p : Read) → next_record default_config st.StartRecord [] [] xs ≡ Some p
    → (s : csv.State) × (rest : List ℕ) × (next_record default_config st.StartRecord [] [] (xs ++ ys) ≡ Some (p.0, s, rest))
first-longer xs ys e p found =
    let h = from-found Record xs ys p refl e found in
    (h.0.read.1, h.0.read.2 ++ ys, h.0.longer ∙ ap (λ (first : Read). Some (first.0, h.0.read.1, h.0.read.2 ++ ys)) (sym h.1))

-- the end of the text ends a record that has begun
ends-inside : (q : State) → is_between q ≡ false → ends_at_end (machine_state q) ≡ true
ends-inside Record i = cc i
ends-inside Field i = refl
ends-inside Bare i = refl
ends-inside Quoted i = refl
ends-inside Quote i = refl
ends-inside Return i = cc i

-- a byte ends a record, or the bytes behind it go on in one
byte-some : (q t : State) (fields : List (List ℕ)) (field : List ℕ) (b : ℕ) (bs : List ℕ) → Goes q b (Some t)
    → (is_between t ≡ false → (more : List (List ℕ)) (at : List ℕ) → next_from t more at bs ≡ None → ⊥) → next_from q fields field (b ∷ bs) ≡ None → ⊥
unfolding next_record
byte-some q t fields field b bs goes later none =
    let act = (step default_config (machine_state q) b).1 in
    elim (cases_Bool (is_between t)) [
      | inl ends ↦
          let done : is_end (step default_config (machine_state q) b).1 ≡ true = goes.1 ∙ ends in
          let both : Some (fields_after act fields field, (step default_config (machine_state q) b).0, bs) ≡ None = rw done at none in
          cc both
      | inr goes_on ↦
          let on : is_end (step default_config (machine_state q) b).1 ≡ false = goes.1 ∙ goes_on in
          later goes_on (fields_after act fields field) (field_after act b field) (rw (on, goes.0) at none)
    ]

-- in the midst of a record
inside-some : (q : State) (fields : List (List ℕ)) (field xs : List ℕ) (last : State) → is_between q ≡ false → run (Some q) xs ≡ Some last
    → next_from q fields field xs ≡ None → ⊥
unfolding run next_record
inside-some q fields field [] last inside e none =
    let both : Some (fields ++ (field ∷ []), st.StartRecord, []) ≡ None = rw (ends-inside q inside) at none in
    cc both
inside-some q fields field (b ∷ bs) last inside e none =
    let t = some-state (next_state q b) bs last e in
    let left : run (Some t.0) bs ≡ Some last = subst (λ (o : Option State). run o bs ≡ Some last) t.1 e in
    byte-some q t.0 fields field b bs (subst (λ (o : Option State). Goes q b o) t.1 (goes-inside q b inside))
    (λ i more at. inside-some t.0 more at bs last i left) none

-- where a text that may come isn't empty, there is a record
pub some-record : (xs : List ℕ) (last : State) → run (Some Record) xs ≡ Some last → (xs ≡ [] → ⊥)
    → next_record default_config st.StartRecord [] [] xs ≡ None → ⊥
unfolding run
some-record [] last e some none = some refl
some-record (b ∷ bs) last e some none =
    let t = some-state (next_state Record b) bs last e in
    let left : run (Some t.0) bs ≡ Some last = subst (λ (o : Option State). run o bs ≡ Some last) t.1 e in
    byte-some Record t.0 [] [] b bs (subst (λ (o : Option State). Goes Record b o) t.1 (goes-record b))
    (λ i more at. inside-some t.0 more at bs last i left) none

-- an LF in front reads as if it weren't there
pub feed-first : (ys : List ℕ) → next_record default_config st.StartRecord [] [] (10 ∷ ys) ≡ next_record default_config st.StartRecord [] [] ys
unfolding next_record
feed-first ys = refl

pub feed-records : (ys : List ℕ) (rows : List (List (List ℕ))) → AreRecords default_config st.StartRecord (10 ∷ ys) rows
    → AreRecords default_config st.StartRecord ys rows
feed-records ys rows a = read-same (λ o. o ≡ None) st.StartRecord st.StartRecord ys (10 ∷ ys) rows (sym (feed-first ys)) a

pub feed-begins : (ys : List ℕ) (rows : List (List (List ℕ))) → Begins (10 ∷ ys) rows → Begins ys rows
feed-begins ys rows b =
    let h = read-same (λ o. ⊤) st.StartRecord st.StartRecord ys (10 ∷ ys) rows (sym (feed-first ys)) (b.0, b.1, b.2, tt) in
    (h.0, h.1, h.2)

pub feed-strip : (ys : List ℕ) → strip_bom (10 ∷ ys) ≡ 10 ∷ ys
unfolding strip_bom
feed-strip [] = refl
feed-strip (b ∷ []) = refl
feed-strip (b ∷ c ∷ rest) = refl

-- behind whole records the bytes may come that may begin a text
pub run-on : (xs ys : List ℕ) → run (Some Record) xs ≡ Some Record → run (Some Record) (xs ++ ys) ≡ run (Some Record) ys
run-on xs ys e = run-append (Some Record) xs ys ∙ ap (λ (o : Option State). run o ys) e
