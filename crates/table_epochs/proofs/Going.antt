-- A text of which some was taken, and what was written of it.
use Rattle.std.proofs.Common.{◌≡◌, ◌≢◌, ◌<◌, ◌++◌, ◌∙◌, ℕ, suc, true, List, [], ◌∷◌, Option, None, Some, drop, get_or, length, take, refl, sym, ap, append_assoc, inl, inr, subst}
use Rattle.std.specs.Prelude.{◌⊎◌}
use Rattle.std.specs.Io.KnownBytes.{Appends, Consumes, IsAtEnd}
use Rattle.std.proofs.lemmas.List.{append-nil, take-append-drop}
use Rattle.std.proofs.Math.Seq.{take-suc}
use Rattle.collector.specs.WrittenBytes.{AppendsFront}
use Rattle.csv_epochs.specs.Cells.{cells, read}
use Rattle.csv_epochs.specs.Epochs.{AreEpochs, AreOne, HandsOut, Held, IsHeader, Takes, cell_of, lines, plus}
use Rattle.csv_epochs.specs.Taken.{AreEpochsOf, AreFirst, AreFirstOf, IsTaken}
use Rattle.csv_epochs.specs.declared.epoch.Epoch.{Epoch}
use Rattle.csv_epochs.proofs.TakenOn.{first-none, taken-all, taken-more, taken-on, taken-out, taken-part}
use Rattle.table_commands.specs.Read.{IsKnownAs}
use Rattle.table_faults.specs.declared.fault.Fault.TheVariants.{Write}
use Rattle.table_queries.specs.declared.fault.RunFault.{RunFault}
use Rattle.table_queries.specs.declared.fault.RunFault.TheVariants.{Tables}
use Rattle.tables.specs.Answers.{header_of}
use Rattle.tables.specs.Files.{csv_text}
use Rattle.table_epochs.specs.Followed.{BeginsAs, Followed, FollowsAll, FollowsPart, IsStart, Reached}
use Rattle.table_epochs.specs.Going.{BreaksIn, BreaksOff, HasBroken, HasTaken, HasWritten, IsGoing, WritesEpoch}
use Rattle.table_epochs.proofs.Answered.{answered-none, broken-here, broken-push, front-file, whole-file, written-push}

-- what was written at a fault, of the first epochs of a text
pub part-of : (f : Followed) (start : Reached) (text : List ℕ) (epochs : List Epoch) (fault : RunFault) (a b : Option (List ℕ))
    → AreFirstOf f.column text epochs
    → IsStart start → HasBroken f start epochs a b fault → FollowsPart f text fault a b
part-of f start text epochs fault a b split s h =
    record { epochs = epochs; split = split; start = start; is_start = s; end = h.end; rows = h.rows; answered = h.answered; written = h.written }

-- at a fault in which nothing was written
pub going-part : (f : Followed) (start now : Reached) (held : Held) (text left : List ℕ) (a b : Option (List ℕ)) (fault : RunFault) → IsStart start
    → IsGoing f start now held text left a b → FollowsPart f text fault a b
going-part f start now held text left a b fault s g =
    part-of f start text g.epochs fault a b (subst (λ (c : ℕ). AreFirstOf c text g.epochs) g.column (taken-part held text left g.epochs g.taken)) s
    (broken-here f start now g.epochs a b fault g.written)

-- an epoch is handed out, and the writer failed in its rows
pub going-broken : (f : Followed) (start now : Reached) (old new : Held) (text left behind : List ℕ) (epoch : Epoch) (a b c : Option (List ℕ))
    (fault : RunFault) → IsStart start
    → IsGoing f start now old text left a b → HandsOut old new left epoch behind → BreaksOff f now epoch b c fault → FollowsPart f text fault a c
going-broken f start now old new text left behind epoch a b c fault s g out w =
    part-of f start text (g.epochs ++ epoch ∷ []) fault a c
    (subst (λ (n : ℕ). AreFirstOf n text (g.epochs ++ epoch ∷ [])) (out.goes_on.0 ∙ g.column)
    (taken-part new text behind (g.epochs ++ epoch ∷ []) (taken-out old new text left behind g.epochs epoch g.taken out))) s
    (broken-push f start now g.epochs epoch a b c fault s g.written w)

-- an epoch is handed out, and its rows are written
pub going-out : (f : Followed) (start now next : Reached) (old new : Held) (text left behind : List ℕ) (epoch : Epoch) (a b c : Option (List ℕ))
    → IsStart start
    → IsGoing f start now old text left a b → HandsOut old new left epoch behind → WritesEpoch f now next epoch b c
    → IsGoing f start next new text behind a c
going-out f start now next old new text left behind epoch a b c s g out w = record {
  column = out.goes_on.0 ∙ g.column;
  epochs = g.epochs ++ epoch ∷ [];
  taken = taken-out old new text left behind g.epochs epoch g.taken out;
  written = written-push f start now next g.epochs epoch a b c s g.written w;
}

-- the rest of a piece is taken
pub going-on : (f : Followed) (start now : Reached) (old new : Held) (text left : List ℕ) (a b : Option (List ℕ))
    → IsGoing f start now old text left a b → Takes old new left
    → IsGoing f start now new text [] a b
going-on f start now old new text left a b g t = record {
  column = t.goes_on.0 ∙ g.column;
  epochs = g.epochs;
  taken = taken-on old new text left g.epochs g.taken t;
  written = g.written;
}

-- the next piece comes
pub going-more : (f : Followed) (start now : Reached) (held : Held) (text piece : List ℕ) (a b : Option (List ℕ))
    → IsGoing f start now held text [] a b
    → IsGoing f start now held (text ++ piece) piece a b
going-more f start now held text piece a b g =
    record { column = g.column; epochs = g.epochs; taken = taken-more held text piece g.epochs g.taken; written = g.written }

-- nothing was taken
pub going-none : (f : Followed) (start : Reached) (held : Held) (a : Option (List ℕ)) → held.column ≡ f.column → IsTaken held [] [] []
    → IsGoing f start start held [] [] a a
going-none f start held a column taken =
    record { column = column; epochs = []; taken = taken; written = record { rows = []; answered = answered-none f start; written = refl } }

-- the first of all epochs
first-front : (column : ℕ) (header : List ℕ) (before : ℕ) (bytes : List ℕ) (front back : List Epoch) → AreEpochs column header before bytes
    (front ++ back)
    → (after : ℕ) × (behind : List ℕ) × AreFirst column header before bytes front after behind
unfolding AreFirst
first-front column header before bytes [] back e = (before, bytes, first-none column header before bytes)
first-front column header before bytes (x ∷ front) back (body, rest, cut, is, ends, differs, more) =
    let (after, behind, first) = first-front column header (plus before (lines body)) rest front back more in
    (after, behind, (body, rest, cut, is, ends, differs, first))

one-none : (o : Option (List ℕ)) → AreOne o [] → ⊥
one-none None e = let bad : ◌≡◌ {A = List (Option (List ℕ))} [] (None ∷ []) = e in cc bad
one-none (Some c) h = h.0 refl

nil-left : (xs ys : List ℕ) → [] ≡ xs ++ ys → xs ≡ []
nil-left [] ys e = refl
nil-left (x ∷ xs) ys e = let bad : [] ≡ x ∷ (xs ++ ys) = e in cc bad

-- no bytes have no epoch
no-epoch : (column : ℕ) (header : List ℕ) (before : ℕ) (epochs : List Epoch) → AreEpochs column header before [] epochs → epochs ≡ []
unfolding read
no-epoch column header before [] e = refl
no-epoch column header before (x ∷ more) (body, rest, cut, is, ends, differs, others) =
    absurd (one-none (cell_of x) (subst (λ (b : List ℕ). AreOne (cell_of x) (cells column b)) (nil-left body rest cut) is.one))

front-none : (front back : List Epoch) → front ++ back ≡ [] → front ≡ []
front-none [] back e = refl
front-none (x ∷ front) back e = let bad : x ∷ (front ++ back) ≡ [] = e in cc bad

header-or-none : (column : ℕ) (header : List ℕ) (records : List ℕ) (front back : List Epoch) → AreEpochs column header 0 records (front ++ back)
    → (IsHeader column header ⊎ (records ≡ [])) → (IsHeader column header ⊎ (front ≡ []))
header-or-none column header records front back e (inl is) = inl is
header-or-none column header records front back e (inr none) =
    inr (front-none front back (no-epoch column header 0 (front ++ back)
    (subst (λ (bs : List ℕ). AreEpochs column header 0 bs (front ++ back)) none e)))

pub epochs-front : (column : ℕ) (text header : List ℕ) (front back : List Epoch) → AreEpochsOf column text header (front ++ back)
    → AreFirstOf column text front
epochs-front column text header front back e =
    let (after, behind, first) = first-front column header 0 e.records front back e.split in
    record {
      header = header;
      records = e.records;
      cut = e.cut;
      is_header = header-or-none column header e.records front back e.split e.is_header;
      after = after;
      behind = behind;
      first = first;
    }

-- at the end of the text the epochs that are left are written
pub going-all : (f : Followed) (start now next : Reached) (held : Held) (text : List ℕ) (last : List Epoch) (a b c : Option (List ℕ))
    → (g : IsGoing f start now held text [] a b) → (IsHeader held.column held.header ⊎ (held.bytes ≡ []))
    → AreEpochs held.column held.header held.before held.bytes last
    → HasWritten f start next (g.epochs ++ last) a c → HasTaken f start next text held.header a c
going-all f start now next held text last a b c g whole e h = record {
  epochs = g.epochs ++ last;
  split = subst (λ (n : ℕ). AreEpochsOf n text held.header (g.epochs ++ last)) g.column (taken-all held text g.epochs last g.taken whole e);
  written = h;
}

-- a fault in one of them
pub going-last : (f : Followed) (start now : Reached) (held : Held) (text : List ℕ) (last : List Epoch) (a b c : Option (List ℕ)) (fault : RunFault)
    → IsStart start
    → (g : IsGoing f start now held text [] a b) → (IsHeader held.column held.header ⊎ (held.bytes ≡ []))
    → AreEpochs held.column held.header held.before held.bytes last
    → BreaksIn f start g.epochs last a c fault → FollowsPart f text fault a c
going-last f start now held text last a b c fault s g whole e (front, back, cut, h) =
    let all : AreEpochsOf held.column text held.header (g.epochs ++ last) = taken-all held text g.epochs last g.taken whole e in
    let epochs : g.epochs ++ last ≡ (g.epochs ++ front) ++ back = ap (λ (es : List Epoch). g.epochs ++ es) cut ∙ sym
    (append_assoc g.epochs front back) in
    let first : AreFirstOf held.column text (g.epochs ++ front) =
    epochs-front held.column text held.header (g.epochs ++ front) back
    (subst (λ (es : List Epoch). AreEpochsOf held.column text held.header es) epochs all) in
    part-of f start text (g.epochs ++ front) fault a c (subst (λ (n : ℕ). AreFirstOf n text (g.epochs ++ front)) g.column first) s h

-- a fault behind the last epoch
pub taken-broken : (f : Followed) (start now : Reached) (text header : List ℕ) (a b : Option (List ℕ)) (fault : RunFault) → IsStart start
    → HasTaken f start now text header a b → FollowsPart f text fault a b
taken-broken f start now text header a b fault s h =
    part-of f start text h.epochs fault a b (epochs-front f.column text header h.epochs []
    (subst (λ (es : List Epoch). AreEpochsOf f.column text header es) (sym (append-nil h.epochs)) h.split)) s
    (broken-here f start now h.epochs a b fault h.written)

-- the writer failed in the header row that is alone
pub taken-front : (f : Followed) (start now : Reached) (text header : List ℕ) (a b c : Option (List ℕ)) (fault : RunFault) → IsStart start
    → HasTaken f start now text header a b → now.count ≡ 0 → fault ≡ Tables Write → AppendsFront b c (csv_text (header_of f.table true ∷ []))
    → FollowsPart f text fault a c
taken-front f start now text header a b c fault s h none is w = record {
  epochs = h.epochs;
  split = epochs-front f.column text header h.epochs [] (subst (λ (es : List Epoch). AreEpochsOf f.column text header es)
      (sym (append-nil h.epochs)) h.split);
  start = start;
  is_start = s;
  end = now;
  rows = h.written.rows;
  answered = h.written.answered;
  written = inr (inr (is, front-file f start now h.epochs a b c s h.written none w));
}

-- all was written
pub taken-whole : (f : Followed) (start now : Reached) (text header : List ℕ) (a b c : Option (List ℕ)) → IsStart start
    → HasTaken f start now text header a b
    → (now.count ≡ 0 → Appends b c (csv_text (header_of f.table true ∷ []))) → (now.count ≢ 0 → c ≡ b) → FollowsAll f start text a c
taken-whole f start now text header a b c s h none some = record {
  header = header;
  epochs = h.epochs;
  split = h.split;
  is_start = s;
  end = now;
  rows = h.written.rows;
  answered = h.written.answered;
  written = whole-file f start now h.epochs a b c s h.written none some;
}

-- a fault behind all that was followed
pub all-part : (f : Followed) (start : Reached) (text : List ℕ) (a b : Option (List ℕ)) (fault : RunFault) → FollowsAll f start text a b
    → FollowsPart f text fault a b
all-part f start text a b fault h = record {
  epochs = h.epochs;
  split = epochs-front f.column text h.header h.epochs [] (subst (λ (es : List Epoch). AreEpochsOf f.column text h.header es)
      (sym (append-nil h.epochs)) h.split);
  start = start;
  is_start = h.is_start;
  end = h.end;
  rows = h.rows;
  answered = h.answered;
  written = inr (inl h.written);
}

-- nothing was read
pub none-part : (f : Followed) (start : Reached) (a : Option (List ℕ)) (fault : RunFault) → IsStart start → FollowsPart f [] fault a a
none-part f start a fault s = record {
  epochs = [];
  split = record { header = []; records = []; cut = refl; is_header = inr refl; after = 0; behind = []; first = first-none f.column [] 0 [] };
  start = start;
  is_start = s;
  end = start;
  rows = [];
  answered = answered-none f start;
  written = inl (refl, refl);
}

-- ---- What was read.

pub Consumes-then : (a b c : Option (List ℕ)) (xs ys : List ℕ) → Consumes a b xs → Consumes b c ys → Consumes a c (xs ++ ys)
Consumes-then None b c xs ys p q = tt
Consumes-then (Some s) None c xs ys p q = absurd p
Consumes-then (Some s) (Some t) None xs ys p q = absurd q
Consumes-then (Some s) (Some t) (Some u) xs ys p q = p ∙ (ap (λ (v : List ℕ). xs ++ v) q ∙ sym (append_assoc xs ys u))

pub Consumes-none : (a : Option (List ℕ)) → Consumes a a []
Consumes-none None = tt
Consumes-none (Some s) = refl

pub consumed-begins : (a b : Option (List ℕ)) (xs : List ℕ) → Consumes a b xs → BeginsAs a xs
consumed-begins None b xs p = tt
consumed-begins (Some s) None xs p = absurd p
consumed-begins (Some s) (Some t) xs p = (t, p)

pub consumed-all : (a b : Option (List ℕ)) (xs : List ℕ) → Consumes a b xs → IsAtEnd b → IsKnownAs a xs
consumed-all None b xs p e = tt
consumed-all (Some s) None xs p e = absurd p
consumed-all (Some s) (Some t) xs p e = sym (p ∙ (ap (λ (v : List ℕ). xs ++ v) e ∙ append-nil xs))

pub known-begins : (a : Option (List ℕ)) (xs : List ℕ) → IsKnownAs a xs → BeginsAs a xs
known-begins None xs h = tt
known-begins (Some s) xs h = ([], sym h ∙ sym (append-nil xs))

-- a fault in an epoch that is handed out
pub going-fault : (f : Followed) (start now : Reached) (old new : Held) (text left behind : List ℕ) (epoch : Epoch) (a b c : Option (List ℕ))
    (fault : RunFault) → IsStart start
    → IsGoing f start now old text left a b → HandsOut old new left epoch behind → ((c ≡ b) ⊎ BreaksOff f now epoch b c fault)
    → FollowsPart f text fault a c
going-fault f start now old new text left behind epoch a b c fault s g out (inl same) =
    subst (FollowsPart f text fault a) (sym same) (going-part f start now old text left a b fault s g)
going-fault f start now old new text left behind epoch a b c fault s g out
    (inr w) = going-broken f start now old new text left behind epoch a b c fault s g out w

-- a fault in one of some epochs, behind others that were written
pub last-fault : (f : Followed) (start now : Reached) (done yielded : List Epoch) (epoch : Epoch) (back all : List Epoch) (a b c : Option (List ℕ))
    (fault : RunFault) → IsStart start
    → all ≡ (yielded ++ epoch ∷ []) ++ back → HasWritten f start now (done ++ yielded) a b → ((c ≡ b) ⊎ BreaksOff f now epoch b c fault)
    → BreaksIn f start done all a c fault
last-fault f start now done yielded epoch back all a b c fault s cut h (inl same) = (
  yielded,
  epoch ∷ back,
  cut ∙ append_assoc yielded (epoch ∷ []) back,
  subst (λ (o : Option (List ℕ)). HasBroken f start (done ++ yielded) a o fault) (sym same) (broken-here f start now (done ++ yielded) a b fault h),
)
last-fault f start now done yielded epoch back all a b c fault s cut h (inr w) = (
  yielded ++ epoch ∷ [],
  back,
  cut,
  subst (λ (es : List Epoch). HasBroken f start es a c fault) (append_assoc done yielded (epoch ∷ []))
      (broken-push f start now (done ++ yielded) epoch a b c fault s h w),
)

-- the epochs of a list so far, and one more
pub up-to : (all some : List Epoch) (epoch : Epoch) → some ≡ take (length some) all → length some < length all → epoch ≡ get_or all
    (length some) epoch
    → all ≡ (some ++ epoch ∷ []) ++ drop (suc (length some)) all
up-to all some epoch so lt is =
    let n : ℕ = length some in
    let more : take (suc n) all ≡ some ++ epoch ∷ [] = take-suc all n epoch lt ∙
    (ap (λ (x : Epoch). take n all ++ x ∷ []) (sym is) ∙ ap (λ (t : List Epoch). t ++ epoch ∷ []) (sym so)) in
    sym (take-append-drop (suc n) all) ∙ ap (λ (t : List Epoch). t ++ drop (suc n) all) more

pub begins-none : (a : Option (List ℕ)) → BeginsAs a []
begins-none None = tt
begins-none (Some s) = (s, refl)
