-- Epochs that are answered and written one after another.
use Rattle.std.proofs.Common.{◌≡◌, ◌≢◌, ◌++◌, ◌∙◌, ◌+◌, ℕ, zero, suc, true, List, [], ◌∷◌, Option, length, take, refl, sym, ap, append_assoc, inl, inr, subst, arith}
use Rattle.std.specs.Io.KnownBytes.{Appends}
use Rattle.std.proofs.lemmas.List.{append-nil, length-append}
use Rattle.std.proofs.Math.Seq.{take-append-add}
use Rattle.collector.specs.WrittenBytes.{AppendsFront}
use Rattle.collector.proofs.Writes.{Appends-then}
use Rattle.csv_epochs.specs.declared.epoch.Epoch.{Epoch}
use Rattle.schema.specs.declared.tables.Table.{Table}
use Rattle.tables.specs.Answers.{header_of}
use Rattle.tables.specs.Files.{csv_text}
use Rattle.table_queries.specs.declared.fault.RunFault.{RunFault}
use Rattle.table_epochs.specs.Followed.{AreAnswered, Followed, IsAnswered, IsStart, Reached, WritesFirst, csv_file}
use Rattle.table_epochs.specs.Going.{BreaksOff, HasBroken, HasWritten, WritesEpoch, WritesRows, bytes_for}

behind : (front all some rest : List ℕ) → all ≡ some ++ rest → front ++ all ≡ (front ++ some) ++ rest
behind front all some rest is = ap (λ (t : List ℕ). front ++ t) is ∙ sym (append_assoc front some rest)

-- the text of rows, and then that of more
pub csv-append : (rows more : List (List (List ℕ))) → csv_text (rows ++ more) ≡ csv_text rows ++ csv_text more
unfolding csv_text
csv-append [] more = refl
csv-append (row ∷ rows) more = behind _ (csv_text (rows ++ more)) (csv_text rows) (csv_text more) (csv-append rows more)

-- more rows come under those that are there
pub file-append : (table : Table) (rows more : List (List (List ℕ))) → csv_file table (rows ++ more) ≡ csv_file table rows ++ csv_text more
file-append table rows more = csv-append (header_of table true ∷ rows) more

-- one more epoch
pub answered-push : (f : Followed) (old between new : Reached) (epochs : List Epoch) (epoch : Epoch) (rows more : List (List (List ℕ)))
    → AreAnswered f old between epochs rows → IsAnswered f between new epoch more → AreAnswered f old new (epochs ++ epoch ∷ []) (rows ++ more)
unfolding AreAnswered
answered-push f old between new [] epoch rows more (same, none) is = (
  new,
  more,
  [],
  subst (λ (r : Reached). IsAnswered f r new epoch more) same is,
  (refl, refl),
  ap
      (λ (rs : List (List (List ℕ))). rs ++ more) none ∙ sym (append-nil more),
)
answered-push f old between new (e ∷ epochs) epoch rows more (next, first, rest, one, others, all) is = (
  next,
  first,
  rest ++ more,
  one,
  answered-push f next between new epochs epoch rest more others is,
  ap (λ (rs : List (List (List ℕ))). rs ++ more) all ∙ append_assoc first rest more,
)

-- no epoch yet
pub answered-none : (f : Followed) (r : Reached) → AreAnswered f r r [] []
unfolding AreAnswered
answered-none f r = (refl, refl)

no-rows : (f : Followed) (old new : Reached) (rows : List (List (List ℕ))) → AreAnswered f old new [] rows → rows ≡ []
unfolding AreAnswered
no-rows f old new rows a = a.1

not-moved : (f : Followed) (old new : Reached) (rows : List (List (List ℕ))) → AreAnswered f old new [] rows → new ≡ old
unfolding AreAnswered
not-moved f old new rows a = a.0

answered-count : (f : Followed) (old new : Reached) (epochs : List Epoch) (rows : List (List (List ℕ))) → AreAnswered f old new epochs rows
    → new.count ≡ length epochs + old.count
unfolding AreAnswered
answered-count f old new [] rows (same, none) = let count : new.count ≡ old.count = ap (λ (r : Reached). r.count) same in omega (arith, count)
answered-count f old new (e ∷ epochs) rows (next, first, rest, one, others, all) =
    let more : new.count ≡ length epochs + next.count = answered-count f next new epochs rest others in
    let here : next.count ≡ suc old.count = one.counted in
    omega (arith, more, here)

pub bytes-first : (n : ℕ) (table : Table) (rows : List (List (List ℕ))) → n ≡ 0 → bytes_for n table rows ≡ csv_file table rows
bytes-first zero table rows e = refl
bytes-first (suc n) table rows e = let bad : suc n ≡ 0 = e in cc bad

bytes-later : (n k : ℕ) (table : Table) (rows : List (List (List ℕ))) → n ≡ suc k → bytes_for n table rows ≡ csv_text rows
bytes-later zero k table rows e = let bad : 0 ≡ suc k = e in cc bad
bytes-later (suc n) k table rows e = refl

pub bytes-rest : (n : ℕ) (table : Table) (rows : List (List (List ℕ))) → n ≢ 0 → bytes_for n table rows ≡ csv_text rows
bytes-rest zero table rows other = absurd (other refl)
bytes-rest (suc n) table rows other = refl

-- the bytes are known as far as before
same-appends : (a b c : Option (List ℕ)) (bytes : List ℕ) → b ≡ a → Appends b c bytes → Appends a c bytes
same-appends a b c bytes e w = subst (λ (o : Option (List ℕ)). Appends o c bytes) e w

-- the rows of one more epoch are written
rows-push : (f : Followed) (start now : Reached) (epochs : List Epoch) (epoch : Epoch) (rows more : List (List (List ℕ))) (a b c : Option (List ℕ))
    → IsStart start → AreAnswered f start now epochs rows → WritesRows f.table epochs rows a b → Appends b c (bytes_for now.count f.table more)
    → WritesRows f.table (epochs ++ epoch ∷ []) (rows ++ more) a c
rows-push f start now [] epoch rows more a b c s done w next =
    let count : now.count ≡ 0 = ap (λ (r : Reached). r.count) (not-moved f start now rows done) ∙ s.count in
    let file : bytes_for now.count f.table more ≡ csv_file f.table (rows ++ more) =
    bytes-first now.count f.table more count ∙ ap (λ (rs : List (List (List ℕ))). csv_file f.table (rs ++ more))
    (sym (no-rows f start now rows done)) in
    subst (Appends a c) file (same-appends a b c (bytes_for now.count f.table more) w next)
rows-push f start now (e ∷ epochs) epoch rows more a b c s done w next =
    let count : now.count ≡ suc (length epochs) = omega (arith, answered-count f start now (e ∷ epochs) rows done, s.count) in
    let all : csv_file f.table rows ++ bytes_for now.count f.table more ≡ csv_file f.table (rows ++ more) =
    ap (λ (t : List ℕ). csv_file f.table rows ++ t) (bytes-later now.count (length epochs) f.table more count) ∙ sym
    (file-append f.table rows more) in
    subst (Appends a c) all (Appends-then a b c (csv_file f.table rows) (bytes_for now.count f.table more) w next)

pub written-push : (f : Followed) (start now next : Reached) (epochs : List Epoch) (epoch : Epoch) (a b c : Option (List ℕ))
    → IsStart start → HasWritten f start now epochs a b → WritesEpoch f now next epoch b c → HasWritten f start next (epochs ++ epoch ∷ []) a c
written-push f start now next epochs epoch a b c s h (rows, is, w) = record {
  rows = h.rows ++ rows;
  answered = answered-push f start now next epochs epoch h.rows rows h.answered is;
  written = rows-push f start now epochs epoch h.rows rows a b c s h.answered h.written w;
}

-- a beginning of more bytes comes behind bytes
front-then : (a b c : Option (List ℕ)) (xs ys : List ℕ) → Appends a b xs → AppendsFront b c ys → AppendsFront a c (xs ++ ys)
front-then a b c xs ys p (n, le, q) = (
  length xs + n,
  omega (arith, length-append xs ys, le),
  subst (Appends a c) (sym (take-append-add xs ys n))
      (Appends-then a b c xs (take n ys) p q),
)

front-push : (f : Followed) (start now : Reached) (epochs : List Epoch) (rows more : List (List (List ℕ))) (a b c : Option (List ℕ))
    → IsStart start → AreAnswered f start now epochs rows → WritesRows f.table epochs rows a b → AppendsFront b c (bytes_for now.count f.table more)
    → AppendsFront a c (csv_file f.table (rows ++ more))
front-push f start now [] rows more a b c s done w next =
    let count : now.count ≡ 0 = ap (λ (r : Reached). r.count) (not-moved f start now rows done) ∙ s.count in
    let file : bytes_for now.count f.table more ≡ csv_file f.table (rows ++ more) =
    bytes-first now.count f.table more count ∙ ap (λ (rs : List (List (List ℕ))). csv_file f.table (rs ++ more))
    (sym (no-rows f start now rows done)) in
    subst (AppendsFront a c) file (subst (λ (o : Option (List ℕ)). AppendsFront o c (bytes_for now.count f.table more)) w next)
front-push f start now (e ∷ epochs) rows more a b c s done w next =
    let count : now.count ≡ suc (length epochs) = omega (arith, answered-count f start now (e ∷ epochs) rows done, s.count) in
    let all : csv_file f.table rows ++ bytes_for now.count f.table more ≡ csv_file f.table (rows ++ more) =
    ap (λ (t : List ℕ). csv_file f.table rows ++ t) (bytes-later now.count (length epochs) f.table more count) ∙ sym
    (file-append f.table rows more) in
    subst (AppendsFront a c) all (front-then a b c (csv_file f.table rows) (bytes_for now.count f.table more) w next)

-- the writer failed in one more epoch
pub broken-push : (f : Followed) (start now : Reached) (epochs : List Epoch) (epoch : Epoch) (a b c : Option (List ℕ)) (fault : RunFault)
    → IsStart start → HasWritten f start now epochs a b → BreaksOff f now epoch b c fault → HasBroken f start (epochs ++ epoch ∷ []) a c fault
broken-push f start now epochs epoch a b c fault s h (is, (next, rows, one, w)) = record {
  end = next;
  rows = h.rows ++ rows;
  answered = answered-push f start now next epochs epoch h.rows rows h.answered one;
  written = inr (inr (is, front-push f start now epochs h.rows rows a b c s h.answered h.written w));
}

first-rows : (table : Table) (fault : RunFault) (epochs : List Epoch) (rows : List (List (List ℕ))) (a b : Option (List ℕ))
    → WritesRows table epochs rows a b
    → WritesFirst table fault epochs rows a b
first-rows table fault [] rows a b w = inl (refl, w)
first-rows table fault (e ∷ epochs) rows a b w = inr (inl w)

-- nothing more was written
pub broken-here : (f : Followed) (start now : Reached) (epochs : List Epoch) (a b : Option (List ℕ)) (fault : RunFault)
    → HasWritten f start now epochs a b
    → HasBroken f start epochs a b fault
broken-here f start now epochs a b fault h =
    record { end = now; rows = h.rows; answered = h.answered; written = first-rows f.table fault epochs h.rows a b h.written }

-- the header row alone comes where there was no epoch
pub whole-file : (f : Followed) (start now : Reached) (epochs : List Epoch) (a b c : Option (List ℕ)) → IsStart start →
    (h : HasWritten f start now epochs a b)
    → (now.count ≡ 0 → Appends b c (csv_text (header_of f.table true ∷ []))) → (now.count ≢ 0 → c ≡ b) → Appends a c (csv_file f.table h.rows)
whole-file f start now [] a b c s h none some =
    let count : now.count ≡ 0 = ap (λ (r : Reached). r.count) (not-moved f start now h.rows h.answered) ∙ s.count in
    subst (λ (rs : List (List (List ℕ))). Appends a c (csv_file f.table rs)) (sym (no-rows f start now h.rows h.answered))
    (same-appends a b c (csv_text (header_of f.table true ∷ [])) h.written (none count))
whole-file f start now (e ∷ epochs) a b c s h none some =
    let count : now.count ≡ suc (length epochs) = omega (arith, answered-count f start now (e ∷ epochs) h.rows h.answered, s.count) in
    let not : now.count ≢ 0 = λ z. let bad : suc (length epochs) ≡ 0 = sym count ∙ z in cc bad in
    subst (λ (o : Option (List ℕ)). Appends a o (csv_file f.table h.rows)) (sym (some not)) h.written

-- a beginning of it where the writer failed
pub front-file : (f : Followed) (start now : Reached) (epochs : List Epoch) (a b c : Option (List ℕ)) → IsStart start →
    (h : HasWritten f start now epochs a b)
    → now.count ≡ 0 → AppendsFront b c (csv_text (header_of f.table true ∷ [])) → AppendsFront a c (csv_file f.table h.rows)
front-file f start now [] a b c s h none w =
    subst (λ (rs : List (List (List ℕ))). AppendsFront a c (csv_file f.table rs)) (sym (no-rows f start now h.rows h.answered))
    (subst (λ (o : Option (List ℕ)). AppendsFront o c (csv_text (header_of f.table true ∷ []))) h.written w)
front-file f start now (e ∷ epochs) a b c s h none w =
    let count : now.count ≡ suc (length epochs) = omega (arith, answered-count f start now (e ∷ epochs) h.rows h.answered, s.count) in
    let bad : suc (length epochs) ≡ 0 = sym count ∙ none in cc bad
