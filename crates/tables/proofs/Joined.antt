-- The lines of tables, one table's after another's, as the dictionary grows.
use Rattle.std.proofs.Common.{◌≡◌, ◌≢◌, ◌⊎◌, ◌≤◌, ◌<◌, ◌||◌, ◌++◌, ◌∙◌, ◌+◌, ℕ, zero, suc, List, [], ◌∷◌, Bool, true, false, Option, length, get_or, map, set, take, refl, sym, ap, subst, arith, inl, inr}
use Rattle.std.specs.List.{list_any}
use Rattle.std.proofs.lemmas.Bool.{true≢false}
use Rattle.std.proofs.lemmas.List.{append-nil, append_assoc, get_or-set_other, get_or-set_same, length-take, take_more}
use Rattle.csv_cells.specs.Texts.{Grows, IsAdded}
use Rattle.csv_cells.proofs.Rows.{added-grows, grown-twice}
use Rattle.schema.specs.declared.tables.Constant.{Constant}
use Rattle.schema.specs.declared.tables.Schema.{Schema}
use Rattle.schema.specs.declared.tables.Table.{Table}
use Rattle.tables.proofs.Faulty.{all-kept}
use Rattle.tables.specs.Inputs.{AreAdded, AreFiles, AreJoined, AreNew, Completes, IsEncodedFile, IsFileFault, IsInput, IsInputFault, IsKnownAs, IsPart, IsRefusedInput, NeedsNoFile, has_own, held}
use Rattle.csv_answers.specs.declared.refusal.TableRefusal.{TableRefusal}
use Rattle.csv_answers.specs.declared.refusal.TableRefusal.TheVariants.{At, NoMemory}
use Rattle.tables.specs.declared.refusal.EncodeFault.{EncodeFault}
use Rattle.tables.specs.declared.refusal.FileFault.TheVariants.{Refused}

file-kept : (table : Table) (shared file : List ℕ) (old more : List (List ℕ)) (lines : List ℕ) → IsEncodedFile table shared file old lines → IsEncodedFile table shared file (old ++ more) lines
file-kept table shared file old more lines h = record {
  strict = h.strict;
  target = h.target;
  epochs = h.epochs;
  named = h.named;
  joined = h.joined;
  encoded = record {
    rows = h.encoded.rows;
    numbers = h.encoded.numbers;
    read = h.encoded.read;
    spelled = all-kept table.columns.items old more h.encoded.rows h.encoded.numbers h.encoded.spelled;
    ordered = h.encoded.ordered;
    written = h.encoded.written;
  };
}

part-kept : (own : Bool) (table : Table) (shared file : List ℕ) (old more : List (List ℕ)) (lines : List ℕ) → IsPart own table shared file old lines → IsPart own table shared file (old ++ more) lines
part-kept own table shared file old more lines (inl h) = inl (h.0, file-kept table shared file old more lines h.1)
part-kept own table shared file old more lines (inr h) = inr h

pub joined-kept : (own : Bool) (shared : List ℕ) (files old more : List (List ℕ)) (place : ℕ) (tables : List Table) (lines : List ℕ)
    → AreJoined own shared files old place tables lines → AreJoined own shared files (old ++ more) place tables lines
unfolding AreJoined
joined-kept own shared files old more place [] lines h = h
joined-kept own shared files old more place (table ∷ tables) lines h =
    (h.0, h.1, part-kept own table shared (get_or files place []) old more h.0 h.2, joined-kept own shared files old more (suc place) tables h.1 h.3, h.4)

pub none-joined : (own : Bool) (shared : List ℕ) (files texts : List (List ℕ)) (place : ℕ) → AreJoined own shared files texts place [] []
unfolding AreJoined
none-joined own shared files texts place = refl

pub joined-push : (own : Bool) (shared : List ℕ) (files texts : List (List ℕ)) (place at : ℕ) (tables : List Table) (table : Table) (lines last : List ℕ) → at ≡ place + length tables
    → AreJoined own shared files texts place tables lines → IsPart own table shared (get_or files at []) texts last → AreJoined own shared files texts place (tables ++ table ∷ []) (lines ++ last)
unfolding AreJoined
joined-push own shared files texts place at [] table lines last e h part =
    let same : at ≡ place = omega (arith, e) in
    (last, [], rw same at part, refl, ap (λ (t : List ℕ). t ++ last) h ∙ sym (append-nil last))
joined-push own shared files texts place at (t ∷ tables) table lines last e h part =
    (h.0, h.1 ++ last, h.2, joined-push own shared files texts (suc place) at tables table h.1 last (omega (arith, e)) h.3 part, ap (λ (l : List ℕ). l ++ last) h.4 ∙ append_assoc h.0 h.1 last)

other : (x : Bool) → (x ≡ false → ⊥) → (x ≡ true → ⊥) → ⊥
other true f t = t refl
other false f t = f refl

none-first : (x y : Bool) → (x || y) ≡ false → x ≡ false
none-first true y e = cc e
none-first false y e = refl

none-more : (x y : Bool) → (x || y) ≡ false → y ≡ false
none-more true y e = cc e
none-more false y e = e

both-known : (known : ℕ → Option (List ℕ)) (first a b : List (List ℕ)) (place : ℕ) (table : Table)
    → ((has_own table.epochs ≡ false) × IsKnownAs (known place) (get_or a place [])) ⊎ ((has_own table.epochs ≢ false) × (get_or a place [] ≡ get_or first place []))
    → ((has_own table.epochs ≡ true) × IsKnownAs (known place) (get_or b place [])) ⊎ ((has_own table.epochs ≢ true) × (get_or b place [] ≡ get_or a place []))
    → IsKnownAs (known place) (get_or b place [])
both-known known first a b place table h (inl k) = k.1
both-known known first a b place table (inl h) (inr k) = subst (IsKnownAs (known place)) (sym k.1) h.1
both-known known first a b place table (inr h) (inr k) = absurd (other (has_own table.epochs) h.0 k.0)

other-part : (shared : List ℕ) (known : ℕ → Option (List ℕ)) (a b texts : List (List ℕ)) (place : ℕ) (table : Table) (lines : List ℕ)
    → ((has_own table.epochs ≡ true) × IsKnownAs (known place) (get_or b place [])) ⊎ ((has_own table.epochs ≢ true) × (get_or b place [] ≡ get_or a place []))
    → IsPart false table shared (get_or a place []) texts lines → IsPart false table shared (get_or b place []) texts lines
other-part shared known a b texts place table lines k (inr h) = inr h
other-part shared known a b texts place table lines (inl k) (inl h) = absurd (true≢false (sym k.0 ∙ h.0))
other-part shared known a b texts place table lines (inr k) (inl h) = inl (rw k.1 h)

-- other files, which are the same where these tables have theirs
pub joined-same : (own : Bool) (shared : List ℕ) (a b texts : List (List ℕ)) (place : ℕ) (tables : List Table) (lines : List ℕ) → ((i : ℕ) → i < place + length tables → get_or a i [] ≡ get_or b i [])
    → AreJoined own shared a texts place tables lines → AreJoined own shared b texts place tables lines
unfolding AreJoined
joined-same own shared a b texts place [] lines same h = h
joined-same own shared a b texts place (table ∷ tables) lines same h =
    (h.0, h.1, subst (λ (f : List ℕ). IsPart own table shared f texts h.0) (same place (omega arith)) h.2, joined-same own shared a b texts (suc place) tables h.1 (λ i below. same i (omega (arith, below))) h.3, h.4)

pub completes-same : (own : Bool) (known : ℕ → Option (List ℕ)) (old a b : List (List ℕ)) (place : ℕ) (tables : List Table) → ((i : ℕ) → i < place + length tables → get_or a i [] ≡ get_or b i [])
    → Completes own known old a place tables → Completes own known old b place tables
unfolding Completes
completes-same own known old a b place [] same h = tt
completes-same own known old a b place (table ∷ tables) same h = (
  subst (λ (f : List ℕ). ((has_own table.epochs ≡ own) × IsKnownAs (known place) f) ⊎ ((has_own table.epochs ≢ own) × (f ≡ get_or old place []))) (same place (omega arith)) h.0,
  completes-same own known old a b (suc place) tables (λ i below. same i (omega (arith, below))) h.1,
)

pub none-completes : (own : Bool) (known : ℕ → Option (List ℕ)) (old new : List (List ℕ)) (place : ℕ) → Completes own known old new place []
unfolding Completes
none-completes own known old new place = tt

pub completes-push : (own : Bool) (known : ℕ → Option (List ℕ)) (old new : List (List ℕ)) (place at : ℕ) (tables : List Table) (table : Table) → at ≡ place + length tables
    → Completes own known old new place tables → ((has_own table.epochs ≡ own) × IsKnownAs (known at) (get_or new at [])) ⊎ ((has_own table.epochs ≢ own) × (get_or new at [] ≡ get_or old at []))
    → Completes own known old new place (tables ++ table ∷ [])
unfolding Completes
completes-push own known old new place at [] table e h one = let same : at ≡ place = omega (arith, e) in (rw same at one, tt)
completes-push own known old new place at (t ∷ tables) table e h one = (h.0, completes-push own known old new (suc place) at tables table (omega (arith, e)) h.1 one)

-- those with epochs of their own after the others
pub both-complete : (known : ℕ → Option (List ℕ)) (first a b : List (List ℕ)) (place : ℕ) (tables : List Table) → Completes false known first a place tables → Completes true known a b place tables
    → AreFiles known b place tables
unfolding Completes AreFiles
both-complete known first a b place [] h k = tt
both-complete known first a b place (table ∷ tables) h k = (both-known known first a b place table h.0 k.0, both-complete known first a b (suc place) tables h.1 k.1)

-- none has epochs of its own
pub one-completes : (known : ℕ → Option (List ℕ)) (old new : List (List ℕ)) (place : ℕ) (tables : List Table) → list_any (λ (table : Table). has_own table.epochs) tables ≡ false
    → Completes false known old new place tables → AreFiles known new place tables
unfolding Completes AreFiles
one-completes known old new place [] none h = tt
one-completes known old new place (table ∷ tables) none (inl one, more) = (one.1, one-completes known old new (suc place) tables (none-more (has_own table.epochs) (list_any (λ (t : Table). has_own t.epochs) tables) none) more)
one-completes known old new place (table ∷ tables) none (inr one, more) = absurd (one.0 (none-first (has_own table.epochs) (list_any (λ (t : Table). has_own t.epochs) tables) none))

pub others-joined : (shared : List ℕ) (known : ℕ → Option (List ℕ)) (a b texts : List (List ℕ)) (place : ℕ) (tables : List Table) (lines : List ℕ) → Completes true known a b place tables
    → AreJoined false shared a texts place tables lines → AreJoined false shared b texts place tables lines
unfolding Completes AreJoined
others-joined shared known a b texts place [] lines k h = h
others-joined shared known a b texts place (table ∷ tables) lines k h =
    (h.0, h.1, other-part shared known a b texts place table h.0 k.0 h.2, others-joined shared known a b texts (suc place) tables h.1 k.1 h.3, h.4)

-- no constant, and one more
pub none-added : (texts : List (List ℕ)) → AreAdded [] texts texts
unfolding AreAdded
none-added texts = refl

pub added-push : (constants : List Constant) (constant : Constant) (old mid new : List (List ℕ)) → AreAdded constants old mid → IsAdded constant.text.items mid new → AreAdded (constants ++ constant ∷ []) old new
unfolding AreAdded
added-push [] constant old mid new same added = (new, rw same at added, refl)
added-push (c ∷ constants) constant old mid new h added = (h.0, h.1, added-push constants constant h.0 mid new h.2 added)

pub constants-grow : (constants : List Constant) (old new : List (List ℕ)) → AreAdded constants old new → Grows old new
unfolding AreAdded
constants-grow [] old new same = ([], same ∙ sym (append-nil old))
constants-grow (c ∷ constants) old new h = grown-twice old h.0 new (added-grows c.text.items old h.0 h.1) (constants-grow constants h.0 new h.2)

new-added : (constants : List Constant) (old new : List (List ℕ)) → AreNew old constants → AreAdded constants old new → new ≡ old ++ map (λ constant. constant.text.items) constants
unfolding AreAdded AreNew
new-added [] old new fresh same = same ∙ sym (append-nil old)
new-added (c ∷ constants) old new fresh (next, inl there, rest) = absurd (fresh.0 there.0)
new-added (c ∷ constants) old new fresh (next, inr added, rest) =
    let mid : next ≡ old ++ c.text.items ∷ [] = added.1 in
    new-added constants (old ++ c.text.items ∷ []) new fresh.1 (subst (λ (t : List (List ℕ)). AreAdded constants t new) mid rest)
    ∙ append_assoc old (c.text.items ∷ []) (map (λ constant. constant.text.items) constants)

-- texts that differ are at their places
pub constants-first : (constants : List Constant) (texts : List (List ℕ)) → AreNew [] constants → AreAdded constants [] texts → texts ≡ map (λ constant. constant.text.items) constants
constants-first constants texts fresh added = new-added constants [] texts fresh added

-- the fault of files in memory
pub held-refused : (tables : List Table) (files texts : List (List ℕ)) (f : EncodeFault) (r : TableRefusal) → f.fault ≡ Refused r → IsInputFault tables (held files) texts f
    → IsRefusedInput tables files texts (record { file = f.file; refusal = r })
held-refused tables files texts f r is (inl (table, at, why)) =
    let (file, known, refused) = subst (IsFileFault table (held files f.file) texts) is why in
    inl (table, at, rw known at refused)
held-refused tables files texts f NoMemory is (inr none) = inr refl
held-refused tables files texts f (At fault line) is (inr none) = let no : NeedsNoFile (Refused (At fault line)) = rw is at none in absurd no

-- one more table, which isn't one of those
pub skip-completes : (own : Bool) (known : ℕ → Option (List ℕ)) (old new : List (List ℕ)) (n : ℕ) (tables : List Table) (table : Table) → n < length tables → get_or tables n table ≡ table
    → has_own table.epochs ≢ own → get_or new n [] ≡ get_or old n [] → Completes own known old new 0 (take n tables) → Completes own known old new 0 (take (n + 1) tables)
skip-completes own known old new n tables table lt at not same h =
    let more : take n tables ++ table ∷ [] ≡ take (n + 1) tables = sym (rw at at (take_more tables n table lt)) in
    subst (λ (t : List Table). Completes own known old new 0 t) more (completes-push own known old new 0 n (take n tables) table (omega (arith, length-take n tables, lt)) h (inr (not, same)))

pub skip-joined : (own : Bool) (shared : List ℕ) (files texts : List (List ℕ)) (n : ℕ) (tables : List Table) (table : Table) (lines : List ℕ) → n < length tables → get_or tables n table ≡ table
    → has_own table.epochs ≢ own → AreJoined own shared files texts 0 (take n tables) lines → AreJoined own shared files texts 0 (take (n + 1) tables) lines
skip-joined own shared files texts n tables table lines lt at not h =
    let more : take n tables ++ table ∷ [] ≡ take (n + 1) tables = sym (rw at at (take_more tables n table lt)) in
    let pushed = joined-push own shared files texts 0 n (take n tables) table lines [] (omega (arith, length-take n tables, lt)) h (inr (not, refl)) in
    subst (λ (t : List Table). AreJoined own shared files texts 0 t lines) more (subst (λ (l : List ℕ). AreJoined own shared files texts 0 (take n tables ++ table ∷ []) l) (append-nil lines) pushed)

-- one more of those, with its file
others-kept : (files : List (List ℕ)) (n : ℕ) (file : List ℕ) (tables : List Table) → n < length tables → (i : ℕ) → i < 0 + length (take n tables) → get_or files i [] ≡ get_or (set files n file) i []
others-kept files n file tables lt i below = sym (get_or-set_other files n i file [] (λ e. absurd (omega (arith, length-take n tables, lt, below, e))))

pub add-completes : (own : Bool) (known : ℕ → Option (List ℕ)) (old new : List (List ℕ)) (n : ℕ) (file : List ℕ) (tables : List Table) (table : Table) → n < length tables → n < length new → get_or tables n table ≡ table
    → has_own table.epochs ≡ own → IsKnownAs (known n) file → Completes own known old new 0 (take n tables) → Completes own known old (set new n file) 0 (take (n + 1) tables)
add-completes own known old new n file tables table lt within at is known_as h =
    let more : take n tables ++ table ∷ [] ≡ take (n + 1) tables = sym (rw at at (take_more tables n table lt)) in
    let same = completes-same own known old new (set new n file) 0 (take n tables) (others-kept new n file tables lt) h in
    let one : IsKnownAs (known n) (get_or (set new n file) n []) = rw (get_or-set_same new n file [] within) known_as in
    subst (λ (t : List Table). Completes own known old (set new n file) 0 t) more
    (completes-push own known old (set new n file) 0 n (take n tables) table (omega (arith, length-take n tables, lt)) same (inl (is, one)))

pub add-joined : (own : Bool) (shared : List ℕ) (files old grown : List (List ℕ)) (n : ℕ) (file : List ℕ) (tables : List Table) (table : Table) (lines more : List ℕ) → n < length tables → n < length files
    → get_or tables n table ≡ table → has_own table.epochs ≡ own → IsEncodedFile table shared file (old ++ grown) more
    → AreJoined own shared files old 0 (take n tables) lines → AreJoined own shared (set files n file) (old ++ grown) 0 (take (n + 1) tables) (lines ++ more)
add-joined own shared files old grown n file tables table lines more lt within at is encoded h =
    let all : take n tables ++ table ∷ [] ≡ take (n + 1) tables = sym (rw at at (take_more tables n table lt)) in
    let kept = joined-kept own shared files old grown 0 (take n tables) lines h in
    let same = joined-same own shared files (set files n file) (old ++ grown) 0 (take n tables) lines (others-kept files n file tables lt) kept in
    let one : IsPart own table shared (get_or (set files n file) n []) (old ++ grown) more = rw (get_or-set_same files n file [] within) (inl (is, encoded)) in
    subst (λ (t : List Table). AreJoined own shared (set files n file) (old ++ grown) 0 t (lines ++ more)) all
    (joined-push own shared (set files n file) (old ++ grown) 0 n (take n tables) table lines more (omega (arith, length-take n tables, lt)) same one)

here-or-later : (a i : ℕ) → a ≤ i → (a ≡ i) ⊎ (suc a ≤ i)
here-or-later zero zero h = inl refl
here-or-later zero (suc i) h = inr (omega arith)
here-or-later (suc a) zero h = absurd (omega (arith, h))
here-or-later (suc a) (suc i) h = elim (here-or-later a i (omega (arith, h))) [
  | inl e ↦ inl (ap suc e)
  | inr more ↦ inr (omega (arith, more))
]

-- files in memory, as they are known
held-same : (files texts : List (List ℕ)) (place : ℕ) (tables : List Table) → AreFiles (held files) texts place tables → (i : ℕ) → place ≤ i → i < place + length tables → get_or texts i [] ≡ get_or files i []
unfolding AreFiles
held-same files texts place [] h i from below = absurd (omega (arith, from, below))
held-same files texts place (table ∷ tables) h i from below = elim (here-or-later place i from) [
  | inl e ↦ subst (λ (n : ℕ). get_or texts n [] ≡ get_or files n []) e h.0
  | inr later ↦ held-same files texts (suc place) tables h.1 i later (omega (arith, below))
]

pub held-input : (schema : Schema) (files texts dictionary : List (List ℕ)) (out : List ℕ) → AreFiles (held files) texts 0 schema.inputs.items → IsInput schema texts dictionary out → IsInput schema files dictionary out
held-input schema files texts dictionary out known (shared, first, inl (some, own)) = (
  shared,
  joined-same false [] texts files dictionary 0 schema.inputs.items shared (λ i below. held-same files texts 0 schema.inputs.items known i (omega arith) below) first,
  inl (some, joined-same true shared texts files dictionary 0 schema.inputs.items out (λ i below. held-same files texts 0 schema.inputs.items known i (omega arith) below) own),
)
held-input schema files texts dictionary out known (shared, first, inr one) = (
  shared,
  joined-same false [] texts files dictionary 0 schema.inputs.items shared (λ i below. held-same files texts 0 schema.inputs.items known i (omega arith) below) first,
  inr one,
)

-- no files
pub blanks : List Table → List (List ℕ)
blanks [] = []
blanks (table ∷ tables) = [] ∷ blanks tables

pub blank-length : (tables : List Table) → length (blanks tables) ≡ length tables
unfolding blanks
blank-length [] = refl
blank-length (table ∷ tables) = ap suc (blank-length tables)
