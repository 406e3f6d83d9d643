-- What RFC 4180 writes, the reader of `csv` reads.
use Rattle.std.proofs.Common.{◌≡◌, ◌==◌, ◌||◌, ◌++◌, ◌∷◌, ◌∙◌, ◌<◌, [], ℕ, List, length, get_or, arith, Bool, Some, refl, sym, ap, true, false, inl, inr}
use Rattle.std.specs.List.{list_any}
use Rattle.std.specs.Prelude.{◌&&◌}
use Rattle.std.proofs.lemmas.Bool.{cases_Bool, eqb-true}
use Rattle.std.proofs.lemmas.List.{append-nil, append_assoc}
use Rattle.csv.specs.Machine.{next_record}
use Rattle.csv.specs.Reading.{default_config, AreRecords, Reached}
use Rattle.csv.specs.declared.parser.State.{State}
use Rattle.csv.specs.Writing.{default_writer, escaped, needs_byte}
use Rattle.csv.proofs.RoundTrip.{plain-run, quoted-run, after-quote-same, start-same, record-same}
use Rattle.csv.specs.declared.parser.State.TheVariants as st
use Rattle.csv_cells.specs.Rfc4180.{IsFieldText, IsRecordText, IsRowsText, doubled, is_special}

-- between quotes, the RFC's text is the writer's
pub doubled-escaped : (field : List ℕ) → doubled field ≡ escaped default_writer field
unfolding doubled escaped
doubled-escaped [] = refl
doubled-escaped (b ∷ bs) = elim (cases_Bool (b == 34)) [
  | inl e ↦ rw (e, doubled-escaped bs) (ap (λ x. 34 ∷ x ∷ escaped default_writer bs) (sym (eqb-true b 34 e)))
  | inr e ↦ rw (e, doubled-escaped bs) refl
]

no-mark : (a q r n x : Bool) → (a || q || r || n) ≡ false → (a || q || (r || n) || (false && x) || false) ≡ false
no-mark true q r n x e = cc e
no-mark false true r n x e = cc e
no-mark false false true n x e = cc e
no-mark false false false true x e = cc e
no-mark false false false false x e = refl

no-quote : (a q r n : Bool) → (a || q || r || n) ≡ false → q ≡ false
no-quote true q r n e = cc e
no-quote false true r n e = cc e
no-quote false false r n e = refl

or-left : (a b : Bool) → (a || b) ≡ false → a ≡ false
or-left false b e = refl
or-left true b e = cc e

or-right : (a b : Bool) → (a || b) ≡ false → b ≡ false
or-right false b e = e
or-right true b e = cc e

no-marks : (bs : List ℕ) → list_any is_special bs ≡ false → list_any (needs_byte default_writer) bs ≡ false
no-marks [] e = refl
no-marks (b ∷ bs) e =
    let here : needs_byte default_writer b ≡ false = no-mark (b == 44) (b == 34) (b == 13) (b == 10) (b == 92) (or-left _ _ e) in
    rw here (no-marks bs (or-right _ _ e))

-- a field of the grammar, with what comes after it, which starts with no quote
pub field-read : (fields : List (List ℕ)) (text field : List ℕ) (c : ℕ) (tail : List ℕ) → (c == 34) ≡ false → IsFieldText text field
    → next_record default_config st.StartField fields [] (text ++ (c ∷ tail)) ≡ next_record default_config st.InField fields field (c ∷ tail)
unfolding next_record
field-read fields text field c tail n (inr between) =
    let whole : text ++ (c ∷ tail) ≡ 34 ∷ (escaped default_writer field ++ (34 ∷ c ∷ tail)) = rw (between, doubled-escaped field) (ap (λ (t : List ℕ). 34 ∷ t) (append_assoc (escaped default_writer field) (34 ∷ []) (c ∷ tail))) in
    rw whole (quoted-run fields [] field (c ∷ tail) ∙ after-quote-same fields field c tail n)
field-read fields text [] c tail n (inl bare) = rw bare.0 (start-same fields [] c tail n)
field-read fields text (b ∷ bs) c tail n (inl bare) =
    let q : (b == 34) ≡ false = no-quote (b == 44) (b == 34) (b == 13) (b == 10) (or-left _ _ bare.1) in
    rw bare.0 (start-same fields [] b (bs ++ (c ∷ tail)) q ∙ plain-run fields [] (b ∷ bs) (c ∷ tail) (no-marks (b ∷ bs) bare.1))

-- all but the last of the fields, and the last
unfoldable pub before-last : List ℕ → List (List ℕ) → List (List ℕ)
before-last f [] = []
before-last f (g ∷ gs) = f ∷ before-last g gs

unfoldable pub last-of : List ℕ → List (List ℕ) → List ℕ
last-of f [] = f
last-of f (g ∷ gs) = last-of g gs

comma-ends : (fields : List (List ℕ)) (x u : List ℕ)
    → next_record default_config st.InField fields x (44 ∷ u) ≡ next_record default_config st.StartField (fields ++ (x ∷ [])) [] u
unfolding next_record
comma-ends fields x u = refl

-- a record of the grammar, with what comes after it, which starts with no quote
pub record-read : (fields : List (List ℕ)) (text f : List ℕ) (fs : List (List ℕ)) (c : ℕ) (tail : List ℕ) → (c == 34) ≡ false → IsRecordText text (f ∷ fs)
    → next_record default_config st.StartField fields [] (text ++ (c ∷ tail)) ≡ next_record default_config st.InField (fields ++ before-last f fs) (last-of f fs) (c ∷ tail)
unfolding IsRecordText before-last last-of
record-read fields text f [] c tail n h = rw (append-nil fields) (field-read fields text f c tail n h)
record-read fields text f (g ∷ gs) c tail n h =
    let (first, rest, whole, one, more) = h in
    let cut : text ++ (c ∷ tail) ≡ first ++ (44 ∷ (rest ++ (c ∷ tail))) = ap (λ (t : List ℕ). t ++ (c ∷ tail)) whole ∙ append_assoc first (44 ∷ rest) (c ∷ tail) in
    rw cut (field-read fields first f 44 (rest ++ (c ∷ tail)) refl one ∙ comma-ends fields f (rest ++ (c ∷ tail)) ∙ record-read (fields ++ (f ∷ [])) rest g gs c tail n more
    ∙ ap (λ (t : List (List ℕ)). next_record default_config st.InField t (last-of g gs) (c ∷ tail)) (append_assoc fields (f ∷ []) (before-last g gs)))

-- and the line's end: LF, or CR, after which the reader passes an LF over
pub line-feed-ends : (fields : List (List ℕ)) (x tail : List ℕ) → next_record default_config st.InField fields x (10 ∷ tail) ≡ Some (fields ++ (x ∷ []), st.StartRecord, tail)
unfolding next_record
line-feed-ends fields x tail = refl

pub return-ends : (fields : List (List ℕ)) (x tail : List ℕ) → next_record default_config st.InField fields x (13 ∷ tail) ≡ Some (fields ++ (x ∷ []), st.AfterCr, tail)
unfolding next_record
return-ends fields x tail = refl

pub line-feed-passed : (tail : List ℕ) → next_record default_config st.AfterCr [] [] (10 ∷ tail) ≡ next_record default_config st.StartRecord [] [] tail
unfolding next_record
line-feed-passed tail = refl

-- a byte that ends no line
abbrev Safe : ℕ → Type 0
Safe b = ((b == 13) ≡ false) × ((b == 10) ≡ false)

no-end : (a q r n : Bool) → (a || q || r || n) ≡ false → (r ≡ false) × (n ≡ false)
no-end true q r n e = cc e
no-end false true r n e = cc e
no-end false false true n e = cc e
no-end false false false true e = cc e
no-end false false false false e = (refl, refl)

field-safe : (text field : List ℕ) → IsFieldText text field → Safe (get_or text 0 0)
field-safe text field (inr between) = rw between (refl, refl)
field-safe text [] (inl bare) = rw bare.0 (refl, refl)
field-safe text (b ∷ bs) (inl bare) = rw bare.0 (no-end (b == 44) (b == 34) (b == 13) (b == 10) (or-left _ _ bare.1))

joined-safe : (first f rest : List ℕ) → IsFieldText first f → Safe (get_or (first ++ (44 ∷ rest)) 0 0)
joined-safe [] f rest one = (refl, refl)
joined-safe (x ∷ xs) f rest one = field-safe (x ∷ xs) f one

record-safe : (text f : List ℕ) (fs : List (List ℕ)) → IsRecordText text (f ∷ fs) → Safe (get_or text 0 0)
unfolding IsRecordText
record-safe text f [] h = field-safe text f h
record-safe text f (g ∷ gs) h = let (first, rest, whole, one, more) = h in rw whole (joined-safe first f rest one)

-- a line with a byte starts as a field does
line-starts : (text tail : List ℕ) → 0 < length text → Safe (get_or text 0 0)
    → next_record default_config st.StartRecord [] [] (text ++ tail) ≡ next_record default_config st.StartField [] [] (text ++ tail)
line-starts [] tail some safe = absurd (omega arith)
line-starts (b ∷ bs) tail some safe = record-same [] [] b (bs ++ tail) safe.0 safe.1

all-fields : (f : List ℕ) (fs : List (List ℕ)) → before-last f fs ++ (last-of f fs ∷ []) ≡ f ∷ fs
unfolding before-last last-of
all-fields f [] = refl
all-fields f (g ∷ gs) = ap (λ (t : List (List ℕ)). f ∷ t) (all-fields g gs)

-- a field and a record at the end of the text
field-last : (fields : List (List ℕ)) (text field : List ℕ) → IsFieldText text field → next_record default_config st.StartField fields [] text ≡ Some (fields ++ (field ∷ []), st.StartRecord, [])
unfolding next_record
field-last fields text field (inr between) = rw (between, doubled-escaped field) (quoted-run fields [] field [])
field-last fields text [] (inl bare) = rw bare.0 refl
field-last fields text (b ∷ bs) (inl bare) =
    let q : (b == 34) ≡ false = no-quote (b == 44) (b == 34) (b == 13) (b == 10) (or-left _ _ bare.1) in
    let run = plain-run fields [] (b ∷ bs) [] (no-marks (b ∷ bs) bare.1) in
    rw bare.0 (start-same fields [] b bs q ∙ (rw (append-nil bs) at run))

record-last : (fields : List (List ℕ)) (text f : List ℕ) (fs : List (List ℕ)) → IsRecordText text (f ∷ fs) → next_record default_config st.StartField fields [] text ≡ Some (fields ++ (f ∷ fs), st.StartRecord, [])
unfolding IsRecordText
record-last fields text f [] h = field-last fields text f h
record-last fields text f (g ∷ gs) h =
    let (first, rest, whole, one, more) = h in
    rw whole (field-read fields first f 44 rest refl one ∙ comma-ends fields f rest ∙ record-last (fields ++ (f ∷ [])) rest g gs more
    ∙ ap (λ (t : List (List ℕ)). Some (t, st.StartRecord, [])) (append_assoc fields (f ∷ []) (g ∷ gs)))

line-ends : (text f : List ℕ) (fs : List (List ℕ)) (tail : List ℕ) → 0 < length text → IsRecordText text (f ∷ fs)
    → next_record default_config st.StartRecord [] [] (text ++ (10 ∷ tail)) ≡ Some (f ∷ fs, st.StartRecord, tail)
line-ends text f fs tail some h = line-starts text (10 ∷ tail) some (record-safe text f fs h) ∙ record-read [] text f fs 10 tail refl h ∙ line-feed-ends (before-last f fs) (last-of f fs) tail
    ∙ ap (λ (t : List (List ℕ)). Some (t, st.StartRecord, tail)) (all-fields f fs)

return-line-ends : (text f : List ℕ) (fs : List (List ℕ)) (tail : List ℕ) → 0 < length text → IsRecordText text (f ∷ fs)
    → next_record default_config st.StartRecord [] [] (text ++ (13 ∷ tail)) ≡ Some (f ∷ fs, st.AfterCr, tail)
return-line-ends text f fs tail some h = line-starts text (13 ∷ tail) some (record-safe text f fs h) ∙ record-read [] text f fs 13 tail refl h ∙ return-ends (before-last f fs) (last-of f fs) tail
    ∙ ap (λ (t : List (List ℕ)). Some (t, st.AfterCr, tail)) (all-fields f fs)

-- a line feed after a return is passed over
after-return : (rest : List ℕ) (rows : List (List (List ℕ))) → AreRecords default_config st.StartRecord rest rows → AreRecords default_config st.AfterCr (10 ∷ rest) rows
unfolding Reached
after-return rest [] (s2, ys, (es, ey), none) = (st.AfterCr, 10 ∷ rest, (refl, refl), line-feed-passed rest ∙ rw (es, ey) none)
after-return rest (r ∷ rs) (s2, ys, (p, e, q, more), none) = (s2, ys, (p, line-feed-passed rest ∙ e, q, more), none)

one-more : (s t : State) (text rest : List ℕ) (row : List (List ℕ)) (rows : List (List (List ℕ))) → next_record default_config s [] [] text ≡ Some (row, t, rest)
    → AreRecords default_config t rest rows → AreRecords default_config s text (row ∷ rows)
unfolding Reached
one-more s t text rest row rows e (s2, ys, reached, none) = (s2, ys, ((row, t, rest), e, refl, reached), none)

-- RFC 4180: what the grammar says of a text, the reader reads
pub rows-read : (text : List ℕ) (rows : List (List (List ℕ))) → IsRowsText text rows → AreRecords default_config st.StartRecord text rows
unfolding IsRowsText IsRecordText Reached next_record
rows-read text [] empty = (st.StartRecord, [], (refl, empty), refl)
rows-read text ([] ∷ rows) (line, end, rest, whole, some, cells, ends, more) = absurd cells
rows-read text ((f ∷ fs) ∷ rows) (line, end, rest, whole, some, cells, inl (inl crlf), more) =
    rw (whole, crlf) (one-more st.StartRecord st.AfterCr (line ++ (13 ∷ 10 ∷ rest)) (10 ∷ rest) (f ∷ fs) rows (return-line-ends line f fs (10 ∷ rest) some cells) (after-return rest rows (rows-read rest rows more)))
rows-read text ((f ∷ fs) ∷ rows) (line, end, rest, whole, some, cells, inl (inr lf), more) =
    rw (whole, lf) (one-more st.StartRecord st.StartRecord (line ++ (10 ∷ rest)) rest (f ∷ fs) rows (line-ends line f fs rest some cells) (rows-read rest rows more))
rows-read text ((f ∷ fs) ∷ rows) (line, end, rest, whole, some, cells, inr (none, nothing), more) =
    let last : next_record default_config st.StartRecord [] [] (line ++ []) ≡ Some (f ∷ fs, st.StartRecord, []) = line-starts line [] some (record-safe line f fs cells) ∙ (rw (append-nil line) (record-last [] line f fs cells)) in
    rw (whole, none, nothing) (one-more st.StartRecord st.StartRecord (line ++ []) [] (f ∷ fs) rows last (rows-read [] rows (rw nothing at more)))
