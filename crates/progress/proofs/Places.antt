-- Times by location as a multiset of pointstamps.
use Rattle.std.proofs.Common.{◌≡◌, ◌≢◌, ◌⊎◌, inl, inr, ℕ, zero, suc, ◌+◌, ◌≤◌, ◌<◌, Bool, true, false, cond, eqb, List, [], ◌∷◌, ◌++◌, length, Some, slice_get, slice_set, slice_index_or, refl, sym, ap, subst, ◌∙◌, arith}
use Rattle.std.specs.Prelude.{map, remove}
use Rattle.std.proofs.lemmas.Bool.Decides.{eqb_tells}
use Rattle.std.proofs.lemmas.Option.{same_Some}
use Rattle.semantics.specs.Graph.{Graph, edge_count}
use Rattle.semantics.specs.Time.{Time, same_time}
use Rattle.semantics.specs.Could.{Location, Pointstamp, IsTimeAt}
use Rattle.semantics.proofs.Cases.{either_above_zero, below_or_last}
use Rattle.machine.specs.Active.{one_if_same, same_location}
use Rattle.graph.specs.Locations.{location_of}
use Rattle.graph.specs.declared.location.Location.{Location as Declared}
use Rattle.progress.specs.TimeCounts.{TimeCounts, count, Adds, IsNone}
use Rattle.progress.specs.Content.{IsClear, bag_at, times_at}
use Rattle.machine.proofs.Active.{one_is}
use Rattle.progress.proofs.Contents.{all_more, all_less}
use Rattle.progress.specs.Kept.{Among, HasSome, stamp, IsKept, IsClearAt, AddsOne, IsIn, IsChangedAt}

pub no_bag : (i : ℕ) → slice_index_or {A = TimeCounts} [] i [] ≡ []
no_bag zero = refl
no_bag (suc i) = refl

pub no_bag_more : (xs : List TimeCounts) → ((i : ℕ) → slice_index_or xs i [] ≡ []) → (i : ℕ) → slice_index_or (xs ++ ([] ∷ [])) i [] ≡ []
no_bag_more [] h zero = refl
no_bag_more [] h (suc i) = no_bag i
no_bag_more (x ∷ xs) h zero = h zero
no_bag_more (x ∷ xs) h (suc i) = no_bag_more xs (λ k. h (suc k)) i

pub none_at : (es vs : List TimeCounts) → ((i : ℕ) → slice_index_or es i [] ≡ []) → ((i : ℕ) → slice_index_or vs i [] ≡ []) → (q : Pointstamp) → times_at es vs q ≡ 0
none_at es vs a b q = go q.location
  where
    go : (l : Location) → count (bag_at es vs l) q.time ≡ 0
    go (Location.edge e) = ap (λ (b : TimeCounts). count b q.time) (a e)
    go (Location.vertex v) = ap (λ (b : TimeCounts). count b q.time) (b v)

pub kept_empty : (g : Graph) (es vs : List TimeCounts) (ls : List Location) → length es ≡ edge_count g → length vs ≡ length g → ((i : ℕ) → slice_index_or es i [] ≡ []) → ((i : ℕ) → slice_index_or vs i [] ≡ []) → IsKept g es vs ls
kept_empty g es vs ls a b c d = record {
  edges_long = a;
  vertices_long = b;
  known = λ q h. absurd (let e = none_at es vs c d q in omega arith);
  where_active = λ q h. absurd (let e = none_at es vs c d q in omega arith);
}

-- ---- one tree changes

at_edge : (old new vs : List TimeCounts) (e : ℕ) (t : Time) → IsChangedAt old new e → Adds (slice_index_or old e []) (slice_index_or new e []) t 1 → AddsOne (times_at old vs) (times_at new vs) (stamp (Location.edge e) t)
at_edge old new vs e t c a q = go q.location
  where
    go : (l : Location) → count (bag_at new vs l) q.time ≡ cond (same_location l (Location.edge e)) (cond (same_time q.time t) 1 0) 0 + count (bag_at old vs l) q.time
    go (Location.vertex v) = omega arith
    go (Location.edge d) = here (eqb_tells d e)
      where
        here : ((eqb d e ≡ true) × (d ≡ e)) ⊎ ((eqb d e ≡ false) × (d ≢ e)) → count (slice_index_or new d []) q.time ≡ cond (eqb d e) (cond (same_time q.time t) 1 0) 0 + count (slice_index_or old d []) q.time
        here (inl (x, y)) = rw x (subst (λ (i : ℕ). count (slice_index_or new i []) q.time ≡ cond (same_time q.time t) 1 0 + count (slice_index_or old i []) q.time) (sym y) (a q.time))
        here (inr (x, y)) = rw x (let e = ap (λ (b : TimeCounts). count b q.time) (c.others d y) in omega arith)

at_vertex : (es old new : List TimeCounts) (v : ℕ) (t : Time) → IsChangedAt old new v → Adds (slice_index_or old v []) (slice_index_or new v []) t 1 → AddsOne (times_at es old) (times_at es new) (stamp (Location.vertex v) t)
at_vertex es old new v t c a q = go q.location
  where
    go : (l : Location) → count (bag_at es new l) q.time ≡ cond (same_location l (Location.vertex v)) (cond (same_time q.time t) 1 0) 0 + count (bag_at es old l) q.time
    go (Location.edge e) = omega arith
    go (Location.vertex d) = here (eqb_tells d v)
      where
        here : ((eqb d v ≡ true) × (d ≡ v)) ⊎ ((eqb d v ≡ false) × (d ≢ v)) → count (slice_index_or new d []) q.time ≡ cond (eqb d v) (cond (same_time q.time t) 1 0) 0 + count (slice_index_or old d []) q.time
        here (inl (x, y)) = rw x (subst (λ (i : ℕ). count (slice_index_or new i []) q.time ≡ cond (same_time q.time t) 1 0 + count (slice_index_or old i []) q.time) (sym y) (a q.time))
        here (inr (x, y)) = rw x (let e = ap (λ (b : TimeCounts). count b q.time) (c.others d y) in omega arith)

-- an edge's pointstamp is added or removed
pub edge_adds : (old new vs : List TimeCounts) (e : ℕ) (p : Pointstamp) → Location.edge e ≡ p.location → IsChangedAt old new e → Adds (slice_index_or old e []) (slice_index_or new e []) p.time 1 → AddsOne (times_at old vs) (times_at new vs) p
edge_adds old new vs e p q c a = subst (λ (l : Location). AddsOne (times_at old vs) (times_at new vs) (stamp l p.time)) q (at_edge old new vs e p.time c a)

pub vertex_adds : (es old new : List TimeCounts) (v : ℕ) (p : Pointstamp) → Location.vertex v ≡ p.location → IsChangedAt old new v → Adds (slice_index_or old v []) (slice_index_or new v []) p.time 1 → AddsOne (times_at es old) (times_at es new) p
vertex_adds es old new v p q c a = subst (λ (l : Location). AddsOne (times_at es old) (times_at es new) (stamp l p.time)) q (at_vertex es old new v p.time c a)

pub edge_takes : (old new vs : List TimeCounts) (e : ℕ) (p : Pointstamp) → Location.edge e ≡ p.location → IsChangedAt old new e → Adds (slice_index_or new e []) (slice_index_or old e []) p.time 1 → AddsOne (times_at new vs) (times_at old vs) p
edge_takes old new vs e p q c a = edge_adds new old vs e p q (record { long = sym c.long; others = λ i n. sym (c.others i n) }) a

pub vertex_takes : (es old new : List TimeCounts) (v : ℕ) (p : Pointstamp) → Location.vertex v ≡ p.location → IsChangedAt old new v → Adds (slice_index_or new v []) (slice_index_or old v []) p.time 1 → AddsOne (times_at es new) (times_at es old) p
vertex_takes es old new v p q c a = vertex_adds es new old v p q (record { long = sym c.long; others = λ i n. sym (c.others i n) }) a

-- one place is written
pub changed_set : (old : List TimeCounts) (n : ℕ) (b : TimeCounts) → IsChangedAt old (slice_set old n b) n
changed_set old n b = record { long = long old n; others = others old n }
  where
    long : (xs : List TimeCounts) (n : ℕ) → length (slice_set xs n b) ≡ length xs
    long [] n = refl
    long (x ∷ xs) zero = refl
    long (x ∷ xs) (suc n) = ap suc (long xs n)

    others : (xs : List TimeCounts) (n i : ℕ) → (i ≡ n → ⊥) → slice_index_or (slice_set xs n b) i [] ≡ slice_index_or xs i []
    others [] n i h = refl
    others (x ∷ xs) zero zero h = absurd (h refl)
    others (x ∷ xs) zero (suc i) h = refl
    others (x ∷ xs) (suc n) zero h = refl
    others (x ∷ xs) (suc n) (suc i) h = others xs n i (λ e. h (ap suc e))

pub got_set : (old : List TimeCounts) (n : ℕ) (b : TimeCounts) → n < length old → slice_index_or (slice_set old n b) n [] ≡ b
got_set [] n b h = absurd (omega arith)
got_set (x ∷ xs) zero b h = refl
got_set (x ∷ xs) (suc n) b h = got_set xs n b (omega arith)

-- ---- the list of locations

map-append : (xs : List Declared) (y : Declared) → map location_of (xs ++ (y ∷ [])) ≡ map location_of xs ++ (location_of y ∷ [])
map-append [] y = refl
map-append (x ∷ xs) y = ap (λ (l : List Location). location_of x ∷ l) (map-append xs y)

get_push : (xs : List Location) (y l : Location) (i : ℕ) → slice_get xs i ≡ Some l → slice_get (xs ++ (y ∷ [])) i ≡ Some l
get_push [] y l zero h = absurd (let e = h in cc)
get_push [] y l (suc i) h = absurd (let e = h in cc)
get_push (x ∷ xs) y l zero h = h
get_push (x ∷ xs) y l (suc i) h = get_push xs y l i h

get_last : (xs : List Location) (y : Location) → slice_get (xs ++ (y ∷ [])) (length xs) ≡ Some y
get_last [] y = refl
get_last (x ∷ xs) y = get_last xs y

pub among_push : (xs : List Declared) (y : Declared) (l : Location) → Among (map location_of xs) l → Among (map location_of (xs ++ (y ∷ []))) l
among_push xs y l a = (a.0, ap (λ (ls : List Location). slice_get ls a.0) (map-append xs y) ∙ get_push (map location_of xs) (location_of y) l a.0 a.1)

pub among_last : (xs : List Declared) (y : Declared) → Among (map location_of (xs ++ (y ∷ []))) (location_of y)
among_last xs y = (length (map location_of xs), ap (λ (ls : List Location). slice_get ls (length (map location_of xs))) (map-append xs y) ∙ get_last (map location_of xs) (location_of y))

same_place : (a b : Location) → Some a ≡ Some b → a ≡ b
same_place a b e = cc

pub among_removed : (xs : List Declared) (i : ℕ) (m l : Location) → slice_get (map location_of xs) i ≡ Some m → (l ≡ m → ⊥) → Among (map location_of xs) l → Among (map location_of (remove xs i)) l
among_removed xs i m l h d a = go xs i a.0 h a.1
  where
    go : (xs : List Declared) (i j : ℕ) → slice_get (map location_of xs) i ≡ Some m → slice_get (map location_of xs) j ≡ Some l → Among (map location_of (remove xs i)) l
    go [] i j h k = absurd (never i h)
      where
        never : (i : ℕ) → slice_get [] i ≡ Some m → ⊥
        never zero h = cc
        never (suc i) h = cc
    go (x ∷ xs) zero zero h k = absurd (d (same_place l m (sym k ∙ h)))
    go (x ∷ xs) zero (suc j) h k = (j, k)
    go (x ∷ xs) (suc i) zero h k = (zero, k)
    go (x ∷ xs) (suc i) (suc j) h k = let r = go xs i j h k in (suc r.0, r.1)

-- ---- what is kept

pub kept_in : (g : Graph) (es vs : List TimeCounts) (p : Pointstamp) → length es ≡ edge_count g → length vs ≡ length g → IsTimeAt g p.location p.time → IsIn (length es) (length vs) p.location
kept_in g es vs p a b f = go p.location f
  where
    go : (l : Location) → IsTimeAt g l p.time → IsIn (length es) (length vs) l
    go (Location.edge e) f = let k = f.0 in omega arith
    go (Location.vertex v) f = let k = f.0 in omega arith

pub kept_added : (g : Graph) (es vs es' vs' : List TimeCounts) (ls ls' : List Location) (p : Pointstamp) (fresh : Bool) → IsKept g es vs ls → IsTimeAt g p.location p.time → AddsOne (times_at es vs) (times_at es' vs') p → length es' ≡ length es → length vs' ≡ length vs
    → (fresh ≡ true → Among ls' p.location) → (fresh ≡ false → HasSome (bag_at es vs p.location)) → ((l : Location) → Among ls l → Among ls' l) → IsKept g es' vs' ls'
kept_added g es vs es' vs' ls ls' p fresh k f a m n listed some still = record {
  edges_long = m ∙ k.edges_long;
  vertices_long = n ∙ k.vertices_long;
  known = all_more g (times_at es vs) (times_at es' vs') p k.known f a;
  where_active = λ q h. go q (either_above_zero (one_if_same q p) (times_at es vs q) (subst (λ i. 0 < i) (a q) h));
}
  where
    there : (b : Bool) → fresh ≡ b → Among ls' p.location
    there true e = listed e
    there false e = let s = some e in still p.location (k.where_active (stamp p.location s.0) s.1)

    go : (q : Pointstamp) → (0 < one_if_same q p) ⊎ (0 < times_at es vs q) → Among ls' q.location
    go q (inl x) = subst (λ (r : Pointstamp). Among ls' r.location) (sym (one_is q p x)) (there fresh refl)
    go q (inr x) = still q.location (k.where_active q x)

pub kept_taken : (g : Graph) (es vs es' vs' : List TimeCounts) (ls ls' : List Location) (p : Pointstamp) (empty : Bool) → IsKept g es vs ls → AddsOne (times_at es' vs') (times_at es vs) p → length es' ≡ length es → length vs' ≡ length vs
    → (empty ≡ true → IsNone (bag_at es' vs' p.location)) → ((l : Location) → (empty ≡ true → l ≡ p.location → ⊥) → Among ls l → Among ls' l) → IsKept g es' vs' ls'
kept_taken g es vs es' vs' ls ls' p empty k a m n none still = record {
  edges_long = m ∙ k.edges_long;
  vertices_long = n ∙ k.vertices_long;
  known = all_less g (times_at es vs) (times_at es' vs') p k.known a;
  where_active = λ q h. still q.location (λ e x. gone q h (none e) x) (k.where_active q (let i = a q in omega arith));
}
  where
    gone : (q : Pointstamp) → 0 < times_at es' vs' q → IsNone (bag_at es' vs' p.location) → q.location ≡ p.location → ⊥
    gone q h z x = let i = subst (λ (l : Location). count (bag_at es' vs' l) q.time ≡ 0) (sym x) (z q.time) in absurd (omega arith)

-- ---- scans of the listed locations

abbrev pub ClearAmong : Graph → (es vs : List TimeCounts) → List Location → Pointstamp → Bool → ℕ → Type 0
ClearAmong g es vs ls p other n = (i : ℕ) (l : Location) → i < n → slice_get ls i ≡ Some l → IsClearAt g (bag_at es vs l) l p other

pub get_mapped : (xs : List Declared) (i : ℕ) (x : Declared) → slice_get xs i ≡ Some x → slice_get (map location_of xs) i ≡ Some (location_of x)
get_mapped [] zero x h = absurd (let e = h in cc)
get_mapped [] (suc i) x h = absurd (let e = h in cc)
get_mapped (y ∷ xs) zero x h = ap (λ (z : Declared). Some (location_of z)) (same_Some y x h)
get_mapped (y ∷ xs) (suc i) x h = get_mapped xs i x h

pub clear_more_at : (g : Graph) (es vs : List TimeCounts) (xs : List Declared) (x : Location) (p : Pointstamp) (other : Bool) (n : ℕ) → ClearAmong g es vs (map location_of xs) p other n → slice_get (map location_of xs) n ≡ Some x → IsClearAt g (bag_at es vs x) x p other → ClearAmong g es vs (map location_of xs) p other (n + 1)
clear_more_at g es vs xs x p other n before h c i l m k = go (below_or_last i n m)
  where
    go : (i < n) ⊎ (i ≡ n) → IsClearAt g (bag_at es vs l) l p other
    go (inl a) = before i l a k
    go (inr a) =
        let e : x ≡ l = same_place x l (sym h ∙ ap (slice_get (map location_of xs)) (sym a) ∙ k) in
        subst (λ (z : Location). IsClearAt g (bag_at es vs z) z p other) e c

get_below : (xs : List Declared) (i : ℕ) (l : Location) → slice_get (map location_of xs) i ≡ Some l → i < length xs
get_below [] zero l h = absurd (let e = h in cc)
get_below [] (suc i) l h = absurd (let e = h in cc)
get_below (y ∷ xs) zero l h = omega arith
get_below (y ∷ xs) (suc i) l h = let k = get_below xs i l h in omega arith

pub all_clear_at : (g : Graph) (es vs : List TimeCounts) (xs : List Declared) (p : Pointstamp) (other : Bool) (n : ℕ) → IsKept g es vs (map location_of xs) → length xs ≤ n → ClearAmong g es vs (map location_of xs) p other n → IsClear g (times_at es vs) p other
all_clear_at g es vs xs p other n k l clear q h d c =
    let a = k.where_active q h in
    clear a.0 q.location (let b = get_below xs a.0 q.location a.1 in omega arith) a.1 q.time h d c
