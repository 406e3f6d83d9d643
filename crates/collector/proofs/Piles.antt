-- Records in batches, and one more of them.
use Rattle.std.specs.List.{filter}
use Rattle.std.proofs.lemmas.List.Elements.{filter-append}
use Rattle.std.proofs.Common.{Bool, ◌≡◌, ◌≢◌, ◌<◌, ◌+◌, ◌∙◌, ℕ, zero, suc, ℤ, List, [], ◌∷◌, ◌++◌, length, map, take, refl, sym, ap, arith, append_assoc, get_or, set, inl, inr}
use Rattle.std.specs.Prelude.{◌==◌, if◌then◌else◌}
use Rattle.std.proofs.lemmas.Bool.Decides.{eqb_tells}
use Rattle.std.proofs.lemmas.List.{append-nil, map_push, take_more}
use Rattle.rows.specs.FlatRows.{RowList, joined}
use Rattle.rows.proofs.Joined.{joined_behind}
use Rattle.collector.specs.Piles.{piled, with_open}

abbrev pub Records : Type 0
Records = List (List ℤ)

pub piled_push : (lists : List RowList) (rows : RowList) → piled (lists ++ rows ∷ []) ≡ piled lists ++ rows.rows
piled_push lists rows = ap joined (map_push (λ (r : RowList). r.rows) lists rows) ∙ joined_behind (map (λ (r : RowList). r.rows) lists) rows.rows

pub with_none : (xs : List Records) → with_open xs [] ≡ xs
with_none [] = refl
with_none (x ∷ []) = ap (λ (r : Records). r ∷ []) (append-nil x)
with_none (x ∷ y ∷ xs) = ap (λ (r : List Records). x ∷ r) (with_none (y ∷ xs))

-- rows that were kept apart are appended to the last epoch
pub sealed : {V : Type 0} (f : V → Records) (vs : List V) (n : ℕ) (old new : V) (rows : Records) → n + 1 ≡ length vs → old ≡ get_or vs n old → f new ≡ f old ++ rows → map f (set vs n new) ≡ with_open (map f vs) rows
sealed f [] n old new rows e is gains = absurd (omega (arith, e))
sealed f (v ∷ []) zero old new rows e is gains = ap (λ (r : Records). r ∷ []) (gains ∙ ap (λ w. f w ++ rows) is)
sealed f (v ∷ []) (suc n) old new rows e is gains = absurd (omega (arith, e))
sealed f (v ∷ w ∷ vs) zero old new rows e is gains = absurd (omega (arith, e))
sealed f (v ∷ w ∷ vs) (suc n) old new rows e is gains = ap (λ (r : List Records). f v ∷ r) (sealed f (w ∷ vs) n old new rows (omega (arith, e)) is gains)

pub opened_len : (xs : List Records) (rows : Records) → length (with_open xs rows) ≡ length xs
opened_len [] rows = refl
opened_len (x ∷ []) rows = refl
opened_len (x ∷ y ∷ xs) rows = ap suc (opened_len (y ∷ xs) rows)

opened_last : (xs : List Records) (rows : Records) (k : ℕ) → k + 1 ≡ length xs → get_or (with_open xs rows) k [] ≡ get_or xs k [] ++ rows
opened_last [] rows k e = absurd (omega (arith, e))
opened_last (x ∷ []) rows zero e = refl
opened_last (x ∷ []) rows (suc k) e = absurd (omega (arith, e))
opened_last (x ∷ y ∷ xs) rows zero e = absurd (omega (arith, e))
opened_last (x ∷ y ∷ xs) rows (suc k) e = opened_last (y ∷ xs) rows k (omega (arith, e))

opened_other : (xs : List Records) (rows : Records) (k : ℕ) → k + 1 ≢ length xs → get_or (with_open xs rows) k [] ≡ get_or xs k []
opened_other [] rows k e = refl
opened_other (x ∷ []) rows zero e = absurd (e (omega arith))
opened_other (x ∷ []) rows (suc k) e = refl
opened_other (x ∷ y ∷ xs) rows zero e = refl
opened_other (x ∷ y ∷ xs) rows (suc k) e = opened_other (y ∷ xs) rows k (λ f. e (omega (arith, f)))

with_more : (xs : List Records) (rows more : Records) → with_open xs (rows ++ more) ≡ with_open (with_open xs rows) more
with_more [] rows more = refl
with_more (x ∷ []) rows more = ap (λ (r : Records). r ∷ []) (sym (append_assoc x rows more))
with_more (x ∷ y ∷ []) rows more = ap (λ (r : List Records). x ∷ r) (with_more (y ∷ []) rows more)
with_more (x ∷ y ∷ z ∷ xs) rows more = ap (λ (r : List Records). x ∷ r) (with_more (y ∷ z ∷ xs) rows more)

-- one more row is kept apart
pub row_more : (xs : List Records) (rows : Records) (row : List ℤ) (old new : List Records) → old ≡ with_open xs rows → new ≡ with_open xs (rows ++ row ∷ []) → (k : ℕ) → get_or new k [] ≡ (if k + 1 == length old then get_or old k [] ++ row ∷ [] else get_or old k [])
row_more xs rows row old new e f k =
    let g : new ≡ with_open old (row ∷ []) = f ∙ with_more xs rows (row ∷ []) ∙ ap (λ (ys : List Records). with_open ys (row ∷ [])) (sym e) in
    elim (eqb_tells (k + 1) (length old)) [
      | inl same ↦ rw same.0 (ap (λ (ys : List Records). get_or ys k []) g ∙ opened_last old (row ∷ []) k same.1)
      | inr other ↦ rw other.0 (ap (λ (ys : List Records). get_or ys k []) g ∙ opened_other old (row ∷ []) k other.1)
    ]

-- an epoch begins, after the rows kept apart were appended to the last one
pub begun : {V : Type 0} (f : V → Records) (vs pushed : List V) (v : V) (last : Records) (now : List Records) → pushed ≡ vs ++ v ∷ [] → f v ≡ [] → last ≡ [] → map f vs ≡ now → with_open (map f pushed) last ≡ now ++ [] ∷ []
begun f vs pushed v last now e none apart was =
    ap (with_open (map f pushed)) apart ∙ with_none (map f pushed) ∙ ap (map f) e ∙ map_push f vs v ∙ ap (λ (r : Records). map f vs ++ r ∷ []) none ∙ ap (λ (rs : List Records). rs ++ [] ∷ []) was

-- one more batch
pub batch_more : (bs : List Records) (i : ℕ) (d : Records) → i < length bs → joined (take (i + 1) bs) ≡ joined (take i bs) ++ get_or bs i d
batch_more bs i d lt = ap joined (take_more bs i d lt) ∙ joined_behind (take i bs) (get_or bs i d)

-- the same of the records that pass a test
pub batch_taken : (p : List ℤ → Bool) (bs : List Records) (i : ℕ) (item all new : Records) → i < length bs → item ≡ get_or bs i item → all ≡ filter p (joined (take i bs)) → new ≡ all ++ filter p item → new ≡ filter p (joined (take (i + 1) bs))
batch_taken p bs i item all new lt is so_far e =
    e ∙ ap (λ (rs : Records). rs ++ filter p item) so_far ∙ sym (filter-append p (joined (take i bs)) item) ∙ ap (filter p) (ap (λ (b : Records). joined (take i bs) ++ b) is ∙ sym (batch_more bs i item lt))

-- the first batches of one list are those of the other
pub front_more : (bs : List Records) (i : ℕ) (item other : Records) (all rest after : List Records) → i < length bs → item ≡ get_or bs i item → rest ≡ other ∷ after → item ≡ other → all ≡ take i bs ++ rest → all ≡ take (i + 1) bs ++ after
front_more bs i item other all rest after lt is parts same so_far =
    so_far ∙ ap (λ (r : List Records). take i bs ++ r) (parts ∙ ap (λ (x : Records). x ∷ after) (sym same ∙ is)) ∙ sym (append_assoc (take i bs) (get_or bs i item ∷ []) after) ∙ ap (λ (r : List Records). r ++ after) (sym (take_more bs i item lt))
