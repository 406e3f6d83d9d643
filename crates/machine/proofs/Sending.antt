-- What is sent, cut into messages for the workers.
use Rattle.std.proofs.Common.{◌≡◌, ◌≢◌, ◌≤◌, ◌<◌, ℕ, zero, suc, ◌+◌, Bool, true, false, cond, ◌==◌, eqb, List, [], ◌∷◌, ◌++◌, ◌⊎◌, inl, inr, refl, sym, ap, ◌∙◌, subst, arith, slice_get, remove, Some, filter}
use Rattle.std.proofs.lemmas.Bool.Decides.{eqb_tells}
use Rattle.semantics.specs.Multiset.{total, same, Record, count}
use Rattle.semantics.specs.Could.{on_edge, at_vertex}
use Rattle.semantics.specs.Time.{Time, same_time, at_epoch}
use Rattle.semantics.specs.Kinds.{Role}
use Rattle.machine.specs.Network.{Network}
use Rattle.machine.specs.World.{Message}
use Rattle.machine.specs.Active.{sum_below}
use Rattle.machine.specs.Sending.{as_message, parcels}
use Rattle.machine.proofs.Kept.{each}
use Rattle.semantics.proofs.MultisetSums.{total-append}
use Rattle.machine.proofs.Counting.{same_tells, eqb_self, below_same, below_zero, below_changed}
use Rattle.machine.proofs.Kept.{carried, some, GoodMessage}
use Rattle.machine.proofs.Laws.{IsNetwork}

both : (b : Bool) (n : ℕ) → cond b n n ≡ n
both true n = refl
both false n = refl

-- the count of the records that pass a test
pub count-filter : (p : Record → Bool) (r : Record) (xs : List Record) → count r (filter p xs) ≡ cond (p r) (count r xs) 0
count-filter p r [] = sym (both (p r) 0)
count-filter p r (x ∷ xs) = go (p r) (p x) refl refl (same_tells x r) (count-filter p r xs)
  where
    go : (b c : Bool) → p r ≡ b → p x ≡ c → ((same x r ≡ true) × (x ≡ r)) ⊎ ((same x r ≡ false) × (x ≢ r)) → count r (filter p xs) ≡ cond (p r) (count r xs) 0 → count r (filter p (x ∷ xs)) ≡ cond (p r) (count r (x ∷ xs)) 0
    go true true e f s ih = let i = rw e at ih in rw (f, e) (omega arith)
    go true false e f (inl (s, y)) ih = absurd (let z : true ≡ false = sym e ∙ ap p (sym y) ∙ f in cc)
    go true false e f (inr (s, y)) ih = let i = rw e at ih in rw (f, e, s) (omega arith)
    go false true e f (inl (s, y)) ih = absurd (let z : false ≡ true = sym e ∙ ap p (sym y) ∙ f in cc)
    go false true e f (inr (s, y)) ih = let i = rw e at ih in rw (f, e, s) (omega arith)
    go false false e f s ih = let i = rw e at ih in rw (f, e) i

below_cond : (n h c : ℕ) → h < n → sum_below n (λ k. cond (eqb h k) c 0) ≡ c
below_cond n h c l =
    let z : sum_below n (λ k. 0) ≡ 0 = below_zero n (λ k. 0) (λ k lk. refl) in
    let d : sum_below n (λ k. cond (eqb h k) c 0) + 0 ≡ sum_below n (λ k. 0) + cond (eqb h h) c 0 =
    below_changed n h (λ k. 0) (λ k. cond (eqb h k) c 0) l (λ j lj ne. other j (λ e. ne (sym e)) (eqb_tells h j)) in
    let s : cond (eqb h h) c 0 ≡ c = rw (eqb_self h) refl in
    omega arith
  where
    other : (j : ℕ) → h ≢ j → ((eqb h j ≡ true) × (h ≡ j)) ⊎ ((eqb h j ≡ false) × (h ≢ j)) → cond (eqb h j) c 0 ≡ 0
    other j ne (inl (a, b)) = absurd (ne b)
    other j ne (inr (a, b)) = rw a refl

-- every record goes to one worker
pub below_kept : (n : ℕ) (home : Record → ℕ) (r : Record) (xs : List Record) → home r < n → sum_below n (λ k. count r (filter (λ x. home x == k) xs)) ≡ count r xs
below_kept n home r xs l =
    below_same n _ _ (λ k lk. count-filter (λ x. home x == k) r xs) ∙ below_cond n (home r) (count r xs) l

pub total-as_message : (e e' : ℕ) (t u : Time) (r : Record) (records : List Record) → total (carried e t r) (as_message e' u records) ≡ cond (eqb e' e) (cond (same_time u t) (count r records) 0) 0
total-as_message e e' t u r [] = sym (ap (λ n. cond (eqb e' e) n 0) (both (same_time u t) 0) ∙ both (eqb e' e) 0)
total-as_message e e' t u r (x ∷ xs) = omega arith

-- a worker has nothing on an edge beyond the last number
total-parcels_past : (g : Network) (sender v : ℕ) (u : Time) (out : ℕ → List Record) (to e : ℕ) (t : Time) (r : Record) (n : ℕ) → n ≤ e →
    total (carried e t r) (parcels g sender v u out to n) ≡ 0
total-parcels_past g sender v u out to e t r zero l = refl
total-parcels_past g sender v u out to e t r (suc n) l = go (eqb_tells n e) (g.source n == v) refl (total-parcels_past g sender v u out to e t r n (omega arith))
  where
    go : ((eqb n e ≡ true) × (n ≡ e)) ⊎ ((eqb n e ≡ false) × (n ≢ e)) → (b : Bool) → (g.source n == v) ≡ b → total (carried e t r) (parcels g sender v u out to n) ≡ 0 → total (carried e t r) (parcels g sender v u out to (suc n)) ≡ 0
    go (inl (a, b)) c d ih = absurd (omega arith)
    go (inr (a, b)) false d ih = rw d (total-append (carried e t r) (parcels g sender v u out to n) [] ∙ omega arith)
    go (inr (a, b)) true d ih =
        let m = total-as_message e n t u r (filter (λ x. g.home sender n x == to) (out (g.out_port n))) in
        let m' = rw a at m in
        rw d (total-append (carried e t r) (parcels g sender v u out to n) (as_message n u (filter (λ x. g.home sender n x == to) (out (g.out_port n)))) ∙ omega arith)

-- the messages for one worker
pub total-parcels : (g : Network) (sender v : ℕ) (u : Time) (out : ℕ → List Record) (to e : ℕ) (t : Time) (r : Record) (n : ℕ) → e < n →
    total (carried e t r) (parcels g sender v u out to n) ≡ cond (g.source e == v) (cond (same_time u t) (count r (filter (λ x. g.home sender e x == to) (out (g.out_port e)))) 0) 0
total-parcels g sender v u out to e t r zero l = absurd (omega arith)
total-parcels g sender v u out to e t r (suc n) l = go (eqb_tells n e) (g.source n == v) refl (total-parcels g sender v u out to e t r n)
  where
    Here : ℕ → ℕ
    Here e = cond (g.source e == v) (cond (same_time u t) (count r (filter (λ x. g.home sender e x == to) (out (g.out_port e)))) 0) 0

    go : ((eqb n e ≡ true) × (n ≡ e)) ⊎ ((eqb n e ≡ false) × (n ≢ e)) → (b : Bool) → (g.source n == v) ≡ b → (e < n → total (carried e t r) (parcels g sender v u out to n) ≡ Here e) → total (carried e t r) (parcels g sender v u out to (suc n)) ≡ Here e
    go (inl (a, b)) false d ih =
        let p : total (carried e t r) (parcels g sender v u out to n) ≡ 0 = total-parcels_past g sender v u out to e t r n (omega arith) in
        let q : Here n ≡ 0 = rw d refl in
        let s : Here n ≡ Here e = ap Here b in
        rw d (total-append (carried e t r) (parcels g sender v u out to n) [] ∙ omega arith)
    go (inl (a, b)) true d ih =
        let p : total (carried e t r) (parcels g sender v u out to n) ≡ 0 = total-parcels_past g sender v u out to e t r n (omega arith) in
        let m = total-as_message e n t u r (filter (λ x. g.home sender n x == to) (out (g.out_port n))) in
        let m' : total (carried e t r) (as_message n u (filter (λ x. g.home sender n x == to) (out (g.out_port n)))) ≡ cond (same_time u t) (count r (filter (λ x. g.home sender n x == to) (out (g.out_port n)))) 0 = rw a at m in
        let q : Here n ≡ cond (same_time u t) (count r (filter (λ x. g.home sender n x == to) (out (g.out_port n)))) 0 = rw d refl in
        let s : Here n ≡ Here e = ap Here b in
        rw d (total-append (carried e t r) (parcels g sender v u out to n) (as_message n u (filter (λ x. g.home sender n x == to) (out (g.out_port n)))) ∙ omega arith)
    go (inr (a, b)) false d ih =
        let i : total (carried e t r) (parcels g sender v u out to n) ≡ Here e = ih (omega arith) in
        rw d (total-append (carried e t r) (parcels g sender v u out to n) [] ∙ omega arith)
    go (inr (a, b)) true d ih =
        let i : total (carried e t r) (parcels g sender v u out to n) ≡ Here e = ih (omega arith) in
        let m = total-as_message e n t u r (filter (λ x. g.home sender n x == to) (out (g.out_port n))) in
        let m' = rw a at m in
        rw d (total-append (carried e t r) (parcels g sender v u out to n) (as_message n u (filter (λ x. g.home sender n x == to) (out (g.out_port n)))) ∙ omega arith)

-- what is added to an edge's mail is what is added to `sent`
pub sends_all : (g : Network) (law : IsNetwork g) (sender v : ℕ) (u : Time) (out : ℕ → List Record) (e : ℕ) (t : Time) (r : Record) → sender < g.workers → e < g.edges →
    sum_below g.workers (λ to. total (carried e t r) (parcels g sender v u out to g.edges)) ≡ count r (cond (g.source e == v) (cond (same_time u t) (out (g.out_port e)) []) [])
sends_all g law sender v u out e t r ls le =
    below_same g.workers _ _ (λ k lk. total-parcels g sender v u out k e t r g.edges le) ∙ go (g.source e == v) (same_time u t)
  where
    go : (b c : Bool) → sum_below g.workers (λ k. cond b (cond c (count r (filter (λ x. g.home sender e x == k) (out (g.out_port e)))) 0) 0) ≡ count r (cond b (cond c (out (g.out_port e)) []) [])
    go true true = below_kept g.workers (g.home sender e) r (out (g.out_port e)) (law.routed sender e r ls)
    go true false = below_zero g.workers _ (λ k lk. refl)
    go false c = below_zero g.workers _ (λ k lk. refl)

-- lists

pub each-append : {X : Type 0} (P : X → Type 0) (xs ys : List X) → each P xs → each P ys → each P (xs ++ ys)
each-append P [] ys a b = b
each-append P (x ∷ xs) ys a b = (a.0, each-append P xs ys a.1 b)

pub each_at : {X : Type 0} (P : X → Type 0) (xs : List X) (at : ℕ) (x : X) → each P xs → slice_get xs at ≡ Some x → P x
each_at P [] at x a e = absurd cc
each_at P (y ∷ ys) zero x a e = let s : y ≡ x = cc in subst P s a.0
each_at P (y ∷ ys) (suc at) x a e = each_at P ys at x a.1 e

pub each-remove : {X : Type 0} (P : X → Type 0) (xs : List X) (at : ℕ) → each P xs → each P (remove xs at)
each-remove P [] zero a = tt
each-remove P [] (suc at) a = tt
each-remove P (x ∷ xs) zero a = a.1
each-remove P (x ∷ xs) (suc at) a = (a.0, each-remove P xs at a.1)

pub each_more : {X : Type 0} (P Q : X → Type 0) (xs : List X) → ((x : X) → P x → Q x) → each P xs → each Q xs
each_more P Q [] h a = tt
each_more P Q (x ∷ xs) h a = (h x a.0, each_more P Q xs h a.1)

pub slice_get-append : {X : Type 0} (xs ys : List X) (at : ℕ) (x : X) → slice_get (xs ++ ys) at ≡ Some x → (slice_get xs at ≡ Some x) ⊎ ((to : ℕ) × (slice_get ys to ≡ Some x))
slice_get-append [] ys at x e = inr (at, e)
slice_get-append (y ∷ xs) ys zero x e = inl e
slice_get-append (y ∷ xs) ys (suc at) x e = slice_get-append xs ys at x e

pub slice_get-remove : {X : Type 0} (xs : List X) (at k : ℕ) (x : X) → slice_get (remove xs at) k ≡ Some x → (to : ℕ) × (slice_get xs to ≡ Some x)
slice_get-remove [] zero k x e = absurd cc
slice_get-remove [] (suc at) k x e = absurd cc
slice_get-remove (y ∷ xs) zero k x e = (suc k, e)
slice_get-remove (y ∷ xs) (suc at) zero x e = (zero, e)
slice_get-remove (y ∷ xs) (suc at) (suc k) x e = let s : (to : ℕ) × (slice_get xs to ≡ Some x) = slice_get-remove xs at k x e in (suc s.0, s.1)

-- a message of what a vertex sends
pub record Parcel (g : Network) (v : ℕ) (u : Time) (to : ℕ) (m : Message) : Type 0 where
  pub good : GoodMessage g to m
  pub from : g.source m.edge ≡ v
  pub when : m.time ≡ u

eqb_is : (a b : ℕ) → eqb a b ≡ true → a ≡ b
eqb_is a b e = go (eqb_tells a b)
  where
    go : ((eqb a b ≡ true) × (a ≡ b)) ⊎ ((eqb a b ≡ false) × (a ≢ b)) → a ≡ b
    go (inl s) = s.1
    go (inr s) = absurd (let z : true ≡ false = sym e ∙ s.0 in cc)

as_message_parcel : (g : Network) (law : IsNetwork g) (sender v : ℕ) (u : Time) (to e : ℕ) (records : List Record) → e < g.edges → g.source e ≡ v → g.IsPointstamp (on_edge e u) →
    ((r : Record) → 0 < count r records → g.home sender e r ≡ to) → each (Parcel g v u to) (as_message e u records)
as_message_parcel g law sender v u to e [] le s fits home = tt
as_message_parcel g law sender v u to e (x ∷ xs) le s fits home =
    (record { good = (le, omega arith, λ keyed r some other. law.by_key other sender e r keyed ∙ home r some, fits); from = s; when = refl }, tt)

pub parcels_good : (g : Network) (law : IsNetwork g) (sender v : ℕ) (u : Time) (out : ℕ → List Record) (to n : ℕ) → ((e : ℕ) → e < g.edges → g.source e ≡ v → g.IsPointstamp (on_edge e u)) → n ≤ g.edges → each (Parcel g v u to) (parcels g sender v u out to n)
parcels_good g law sender v u out to zero fits l = tt
parcels_good g law sender v u out to (suc n) fits l =
    each-append (Parcel g v u to) (parcels g sender v u out to n) _ (parcels_good g law sender v u out to n fits (omega arith)) (go (eqb_tells (g.source n) v))
  where
    at_home : (r : Record) → 0 < count r (filter (λ x. g.home sender n x == to) (out (g.out_port n))) → (b : Bool) → (g.home sender n r == to) ≡ b → g.home sender n r ≡ to
    at_home r some true e = eqb_is (g.home sender n r) to e
    at_home r some false e = absurd (let c = count-filter (λ x. g.home sender n x == to) r (out (g.out_port n)) in let c' = rw e at c in omega arith)

    go : ((eqb (g.source n) v ≡ true) × (g.source n ≡ v)) ⊎ ((eqb (g.source n) v ≡ false) × (g.source n ≢ v)) → each (Parcel g v u to) (cond (g.source n == v) (as_message n u (filter (λ r. g.home sender n r == to) (out (g.out_port n)))) [])
    go (inl (a, b)) = rw a (as_message_parcel g law sender v u to n _ (omega arith) b (fits n (omega arith) b) (λ r some. at_home r some (g.home sender n r == to) refl))
    go (inr (a, b)) = rw a tt

-- what a vertex sends fits, if its time does
pub fits_sent : (g : Network) (law : IsNetwork g) (v : ℕ) (t : Time) → g.IsPointstamp (at_vertex v t) → (e : ℕ) → e < g.edges → g.source e ≡ v → g.IsPointstamp (on_edge e (g.act v t))
fits_sent g law v t fits e le s = subst (λ (x : ℕ). g.IsPointstamp (on_edge e (g.act x t))) s (law.fits_leave e t le (subst (λ (x : ℕ). g.IsPointstamp (at_vertex x t)) (sym s) fits))

pub fits_fed : (g : Network) (law : IsNetwork g) (i n : ℕ) → g.role i ≡ Role.input → (e : ℕ) → e < g.edges → g.source e ≡ i → g.IsPointstamp (on_edge e (at_epoch n))
fits_fed g law i n s e le is = subst (λ (x : Time). g.IsPointstamp (on_edge e x)) (law.input_act i (at_epoch n) s) (fits_sent g law i (at_epoch n) (law.fits_input i n s) e le is)
