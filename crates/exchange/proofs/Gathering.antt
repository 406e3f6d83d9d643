-- Parts gathered into parcels.
use Rattle.std.proofs.Common.{◌≡◌, ◌≢◌, ℕ, zero, suc, ◌+◌, ◌<◌, ◌≤◌, ◌==◌, true, false, cond, List, [], ◌∷◌, ◌++◌, length, filter, flat_map, refl, sym, ap, ap₂, subst, ◌∙◌, arith, take, Some, None, append_assoc, append-nil, ◌⊎◌, inl, inr}
use Rattle.std.specs.Prelude.{slice_index_or}
use Rattle.std.proofs.lemmas.Bool.Decides.{eqb_tells}
use Rattle.std.proofs.Math.Seq.{take-suc}
use Rattle.std.proofs.lemmas.List.{take_all, length-take-le}
use Rattle.std.proofs.lemmas.Grind.{flat_map-append}
use Rattle.semantics.specs.Meaning.{project}
use Rattle.semantics.specs.Multiset.{Record, ◌≈◌, end_to_end}
use Rattle.semantics.proofs.RoutedParts.{parts_sum, home_below}
use Rattle.rows.specs.Counts.{Run, RunList, repeated, expanded, no_run, rows_of, runs, AreRuns}
use Rattle.rows.specs.Indexes.{AreDifferent}
use Rattle.rows.proofs.Keeping.{expanded_filter, row_kept, different_kept}
use Rattle.exchange.specs.declared.routing.Routing.{Routing}
use Rattle.exchange.specs.declared.routing.Routing.TheVariants.{ByKey, ByRecord, Stay}
use Rattle.exchange.specs.declared.splitting.Parcel.{Parcel}
use Rattle.exchange.specs.Homes.{home_of}
use Rattle.exchange.specs.Parts.{parcel, parcels, no_rows, IsSpread, gathered}

-- ---- all records go to one worker

goes_all : (home : Record → ℕ) (w : ℕ) (records : List Record) → ((k : ℕ) → k < length records → home (slice_index_or records k []) ≡ w) → filter (λ r. home r == w) records ≡ records
goes_all home w [] h = refl
goes_all home w (r ∷ records) h = go (eqb_tells (home r) w) (goes_all home w records (λ k l. h (suc k) (omega (arith, l))))
  where
    go : ((home r == w) ≡ true) × (home r ≡ w) ⊎ ((home r == w) ≡ false) × (home r ≢ w) → filter (λ r. home r == w) records ≡ records → filter (λ r. home r == w) (r ∷ records) ≡ r ∷ records
    go (inl (e, q)) i = ap (λ b. cond b (r ∷ filter (λ r. home r == w) records) (filter (λ r. home r == w) records)) e ∙ ap (λ l. r ∷ l) i
    go (inr (e, q)) i = absurd (q (h 0 (omega arith)))

goes_none : (home : Record → ℕ) (w v : ℕ) (records : List Record) → w ≢ v → ((k : ℕ) → k < length records → home (slice_index_or records k []) ≡ w) → filter (λ r. home r == v) records ≡ []
goes_none home w v [] apart h = refl
goes_none home w v (r ∷ records) apart h = go (eqb_tells (home r) v) (goes_none home w v records apart (λ k l. h (suc k) (omega (arith, l))))
  where
    go : ((home r == v) ≡ true) × (home r ≡ v) ⊎ ((home r == v) ≡ false) × (home r ≢ v) → filter (λ r. home r == v) records ≡ [] → filter (λ r. home r == v) (r ∷ records) ≡ []
    go (inl (e, q)) i = absurd (apart (sym (h 0 (omega arith)) ∙ q))
    go (inr (e, q)) i = ap (λ b. cond b (r ∷ filter (λ r. home r == v) records) (filter (λ r. home r == v) records)) e ∙ i

none_below : (home : Record → ℕ) (w n : ℕ) (records : List Record) → n ≤ w → ((k : ℕ) → k < length records → home (slice_index_or records k []) ≡ w) → parcels home records n ≡ []
none_below home w zero records l h = refl
none_below home w (suc n) records l h = ap₂ (λ a b. a ++ parcel n b) (none_below home w n records (omega (arith, l)) h) (goes_none home w n records (below l) h)
  where
    below : suc n ≤ w → w ≢ n
    below l e = omega (arith, l, e)

full_parcel : (w : ℕ) (records : List Record) → 0 < length records → parcel w records ≡ record { worker = w; batch = records } ∷ []
full_parcel w [] h = absurd (omega (arith, h))
full_parcel w (r ∷ records) h = refl

-- there is one parcel then
pub all_to_one : (home : Record → ℕ) (w n : ℕ) (records : List Record) → w < n → 0 < length records → ((k : ℕ) → k < length records → home (slice_index_or records k []) ≡ w) → parcels home records n ≡ record { worker = w; batch = records } ∷ []
all_to_one home w zero records l some h = absurd (omega (arith, l))
all_to_one home w (suc n) records l some h = go (eqb_tells w n) (λ q. all_to_one home w n records (above q) some h)
  where
    above : w ≢ n → w < n
    above f = omega (arith, l, f)

    go : ((w == n) ≡ true) × (w ≡ n) ⊎ ((w == n) ≡ false) × (w ≢ n) → (w ≢ n → parcels home records n ≡ record { worker = w; batch = records } ∷ []) → parcels home records (suc n) ≡ record { worker = w; batch = records } ∷ []
    go (inl (e, q)) i =
        ap₂ (λ a b. a ++ parcel n b) (none_below home w n records (omega (arith, q)) h) (ap (λ v. filter (λ r. home r == v) records) (sym q) ∙ goes_all home w records h)
        ∙ ap (λ v. parcel v records) (sym q) ∙ full_parcel w records some
    go (inr (e, q)) i =
        ap₂ (λ a b. a ++ parcel n b) (i q) (goes_none home w n records q h)
        ∙ append-nil (record { worker = w; batch = records } ∷ [])

-- ---- runs

at_repeated : (P : Record → Type 0) (n : ℕ) (r : Record) (xs : List Record) (k : ℕ) → P r → ((j : ℕ) → j < length xs → P (slice_index_or xs j [])) → k < length (repeated n r ++ xs) → P (slice_index_or (repeated n r ++ xs) k [])
at_repeated P zero r xs k p h l = h k l
at_repeated P (suc n) r xs zero p h l = p
at_repeated P (suc n) r xs (suc k) p h l = at_repeated P n r xs k p h (omega (arith, l))

pub all_expanded : (P : Record → Type 0) (cs : List Run) → ((k : ℕ) → k < length cs → P (slice_index_or cs k no_run).row) → (k : ℕ) → k < length (expanded cs) → P (slice_index_or (expanded cs) k [])
all_expanded P [] h k l = absurd (omega (arith, l))
all_expanded P (c ∷ cs) h k l = at_repeated P c.count c.row (expanded cs) k (h 0 (omega arith)) (all_expanded P cs (λ j m. h (suc j) (omega (arith, m)))) l

-- ---- a list for each worker

gathered_more : (w : ℕ) (parts : List RunList) (part : RunList) → gathered w (parts ++ part ∷ []) ≡ gathered w parts ++ parcel (w + length parts) (expanded part.runs)
gathered_more w [] part = append-nil (parcel w (expanded part.runs)) ∙ ap (λ v. parcel v (expanded part.runs)) none
  where
    none : w ≡ w + 0
    none = omega arith
gathered_more w (p ∷ parts) part =
    ap (λ l. parcel w (expanded p.runs) ++ l) (gathered_more (suc w) parts part)
    ∙ sym (append_assoc (parcel w (expanded p.runs)) (gathered (suc w) parts) (parcel (suc w + length parts) (expanded part.runs)))
    ∙ ap (λ v. (parcel w (expanded p.runs) ++ gathered (suc w) parts) ++ parcel v (expanded part.runs)) shift
  where
    shift : suc w + length parts ≡ w + suc (length parts)
    shift = omega arith

pub gathered_next : (parts : List RunList) (part : RunList) (w : ℕ) → w ≡ length parts → gathered 0 (parts ++ part ∷ []) ≡ gathered 0 parts ++ parcel w (expanded part.runs)
gathered_next parts part w e = gathered_more 0 parts part ∙ ap (λ v. gathered 0 parts ++ parcel v (expanded part.runs)) there
  where
    there : 0 + length parts ≡ w
    there = omega (arith, e)

module _ (home : Record → ℕ) (a : ℕ) (all : List Run) (n : ℕ) (parts : List RunList) (spread : IsSpread home a all n parts) where
  first_gathered : (m : ℕ) → m ≤ n → gathered 0 (take m parts) ≡ parcels home (expanded all) m
  first_gathered zero l = refl
  first_gathered (suc m) l =
      let within : m < length parts = omega (arith, l, spread.each) in
      ap (gathered 0) (take-suc parts m (no_rows a) within)
      ∙ gathered_more 0 (take m parts) (slice_index_or parts m (no_rows a))
      ∙ ap₂ (λ xs v. xs ++ parcel v (expanded (slice_index_or parts m (no_rows a)).runs)) (first_gathered m (omega (arith, l))) (at_end m within)
      ∙ ap (λ (p : RunList). parcels home (expanded all) m ++ parcel m (expanded p.runs)) (spread.at m (omega (arith, l)))
      ∙ ap (λ l. parcels home (expanded all) m ++ parcel m l) (expanded_filter (λ r. home r == m) all)
    where
      at_end : (m : ℕ) → m < length parts → 0 + length (take m parts) ≡ m
      at_end m l = omega (arith, length-take-le m parts (omega (arith, l)))

  pub all_gathered : gathered 0 parts ≡ parcels home (expanded all) n
  all_gathered = ap (gathered 0) (sym (take_all n parts (omega (arith, spread.each)))) ∙ first_gathered n (omega arith)

-- ---- the parts sum to the batch

from_parcel : (w : ℕ) (records : List Record) → flat_map (λ (p : Parcel). p.batch) (parcel w records) ≡ records
from_parcel w [] = refl
from_parcel w (r ∷ records) = append-nil (r ∷ records)

from_parcels : (home : Record → ℕ) (records : List Record) (n : ℕ) → flat_map (λ (p : Parcel). p.batch) (parcels home records n) ≡ end_to_end (λ w. filter (λ r. home r == w) records) n
from_parcels home records zero = refl
from_parcels home records (suc n) =
    flat_map-append (λ (p : Parcel). p.batch) (parcels home records n) (parcel n (filter (λ r. home r == n) records))
    ∙ ap₂ (λ xs ys. xs ++ ys) (from_parcels home records n) (from_parcel n (filter (λ r. home r == n) records))

pub home_there : (routing : Routing) (workers sender : ℕ) (r : Record) → sender < workers → home_of routing workers sender r < workers
home_there (ByKey columns) workers sender r l = home_below (Some (project columns.items)) false workers sender r l
home_there ByRecord workers sender r l = home_below None true workers sender r l
home_there Stay workers sender r l = home_below None false workers sender r l

pub parcels_sum : (routing : Routing) (workers sender : ℕ) (records : List Record) (list : List Parcel) → sender < workers → list ≡ parcels (home_of routing workers sender) records workers → records ≈ flat_map (λ (p : Parcel). p.batch) list
parcels_sum routing workers sender records list l e =
    subst (λ (xs : List Record). records ≈ xs) (sym (ap (flat_map (λ (p : Parcel). p.batch)) e ∙ from_parcels (home_of routing workers sender) records workers))
    (parts_sum (home_of routing workers sender) workers records (λ r. home_there routing workers sender r l))

-- ---- runs, divided into parts

-- one parcel, of what a batch has for the worker
pub put_one : (w : ℕ) (b : List Record) (cs : List Run) (old new : List Parcel) → 0 < length (runs b) → b ≡ expanded cs → new ≡ old ++ record { worker = w; batch = b } ∷ [] → new ≡ old ++ parcel w (expanded cs)
put_one w [] cs old new h e f = absurd (omega (arith, h))
put_one w (r ∷ records) cs old new h e f = f ∙ ap (λ l. old ++ parcel w l) e

pub spread_different : (home : Record → ℕ) (a : ℕ) (all : List Run) (n : ℕ) (parts : List RunList) → AreRuns all → IsSpread home a all n parts → (k : ℕ) (d : RunList) → k < length parts → AreDifferent (rows_of (slice_index_or parts k d).runs)
spread_different home a all n parts h spread k d l =
    subst (λ (p : RunList). AreDifferent (rows_of p.runs)) (sym (beyond parts k d (no_rows a) l ∙ spread.at k (omega (arith, l, spread.each))))
    (subst AreDifferent (sym (row_kept (λ r. home r == k) all)) (different_kept (λ r. home r == k) (rows_of all) h.different))
  where
    beyond : (parts : List RunList) (k : ℕ) (d e : RunList) → k < length parts → slice_index_or parts k d ≡ slice_index_or parts k e
    beyond [] k d e l = absurd (omega (arith, l))
    beyond (p ∷ parts) zero d e l = refl
    beyond (p ∷ parts) (suc k) d e l = beyond parts k d e (omega (arith, l))
