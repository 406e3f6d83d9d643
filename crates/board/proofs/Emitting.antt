-- What is emitted, by epoch.
use Rattle.std.proofs.Common.{◌≡◌, ◌≢◌, ◌⊎◌, inl, inr, ◌<◌, ℕ, zero, suc, ◌==◌, Bool, true, false, cond, List, [], ◌∷◌, ◌++◌, length, refl, sym, ap, ◌∙◌, slice_index_or, slice_set, Option, Some, None, append-nil}
use Rattle.std.proofs.lemmas.Bool.Decides.{eqb_tells}
use Rattle.semantics.specs.Multiset.{Record}
use Rattle.vertices.specs.Outs.{records_of}
use Rattle.rows.specs.FlatRows.{joined}
use Rattle.rows.proofs.Joined.{joined_append}
use Rattle.board.specs.Shown.{EmitsBehind, Epochs, batches_at, emitted_by, records_at}
use Rattle.board.specs.Steps.{more_at, with_emitted}
use Rattle.board.proofs.Places.{index_set_here, index_set_other}

is : ℕ → ℕ → Bool
is zero zero = true
is zero (suc n) = false
is (suc m) zero = false
is (suc m) (suc n) = is m n

is_self : (n : ℕ) → is n n ≡ true
unfolding is
is_self zero = refl
is_self (suc n) = is_self n

is_apart : (m n : ℕ) → m ≢ n → is m n ≡ false
unfolding is
is_apart zero zero ne = absurd (ne refl)
is_apart zero (suc n) ne = refl
is_apart (suc m) zero ne = refl
is_apart (suc m) (suc n) ne = is_apart m n (λ e. ne (ap suc e))

is_eqb : (m n : ℕ) → is m n ≡ (m == n)
is_eqb m n = go (eqb_tells m n)
  where
    go : ((m == n) ≡ true) × (m ≡ n) ⊎ ((m == n) ≡ false) × (m ≢ n) → is m n ≡ (m == n)
    go (inl (t, q)) = ap (λ k. is m k) (sym q) ∙ is_self m ∙ sym t
    go (inr (t, q)) = is_apart m n q ∙ sym t

pub cond_same : {X : Type 0} (b : Bool) (x : X) → cond b x x ≡ x
cond_same true x = refl
cond_same false x = refl

index_nil : (e : ℕ) → slice_index_or {A = List (List Record)} [] e [] ≡ []
index_nil zero = refl
index_nil (suc e) = refl

at_more : (e n : ℕ) (bs : List (List Record)) (es : Epochs) → slice_index_or (more_at e bs es) n [] ≡ slice_index_or es n [] ++ cond (is e n) bs []
unfolding is
at_more zero zero bs [] = refl
at_more zero (suc n) bs [] = rw (index_nil n) refl
at_more zero zero bs (x ∷ xs) = refl
at_more zero (suc n) bs (x ∷ xs) = sym (append-nil _)
at_more (suc e) zero bs [] = refl
at_more (suc e) (suc n) bs [] = at_more e n bs [] ∙ ap (λ l. l ++ cond (is e n) bs []) (index_nil n)
at_more (suc e) zero bs (x ∷ xs) = sym (append-nil _)
at_more (suc e) (suc n) bs (x ∷ xs) = at_more e n bs xs

pub emits_same : (es : List Epochs) → EmitsBehind es es
emits_same es v e = ([], sym (append-nil (batches_at es v e)))

pub emits_with : (v0 e : ℕ) (o : Option (List Record)) (es : List Epochs) → v0 < length es → EmitsBehind es (with_emitted v0 e o es)
emits_with v0 e None es l v n = ([], sym (append-nil (batches_at es v n)))
emits_with v0 e (Some b) es l v n = go (eqb_tells v0 v)
  where
    go : ((v0 == v) ≡ true) × (v0 ≡ v) ⊎ ((v0 == v) ≡ false) × (v0 ≢ v) → (more : List (List Record)) × (batches_at (with_emitted v0 e (Some b) es) v n ≡ batches_at es v n ++ more)
    go (inl (t, q)) =
        let here : emitted_by (slice_set es v0 (more_at e (b ∷ []) (emitted_by es v0))) v ≡ more_at e (b ∷ []) (emitted_by es v) =
        ap (λ u. emitted_by (slice_set es v0 (more_at e (b ∷ []) (emitted_by es v0))) u) (sym q) ∙ index_set_here es v0 (more_at e (b ∷ []) (emitted_by es v0)) [] l ∙ ap (λ u. more_at e (b ∷ []) (emitted_by es u)) q in
        (cond (is e n) (b ∷ []) [], ap (λ x. slice_index_or x n []) here ∙ at_more e n (b ∷ []) (emitted_by es v))
    go (inr (t, q)) =
        let other : emitted_by (slice_set es v0 (more_at e (b ∷ []) (emitted_by es v0))) v ≡ emitted_by es v = index_set_other es v0 v (more_at e (b ∷ []) (emitted_by es v0)) [] (λ z. q (sym z)) in
        ([], ap (λ x. slice_index_or x n []) other ∙ sym (append-nil (batches_at es v n)))

joined_cond : (t : Bool) (b : List Record) → joined (cond t (b ∷ []) []) ≡ cond t b []
joined_cond true b = append-nil b
joined_cond false b = refl

-- the records with one more batch at an epoch
pub records_more : (e : ℕ) (b : List Record) (es : Epochs) (n : ℕ) → records_at (more_at e (b ∷ []) es) n ≡ records_at es n ++ cond (e == n) b []
records_more e b es n =
    ap joined (at_more e n (b ∷ []) es)
    ∙ joined_append (slice_index_or es n []) (cond (is e n) (b ∷ []) [])
    ∙ ap (λ l. records_at es n ++ l) (joined_cond (is e n) b ∙ ap (λ t. cond t b []) (is_eqb e n))

-- the records with one more batch of a vertex, if there is one
pub records_with : (v0 e : ℕ) (o : Option (List Record)) (es : List Epochs) → v0 < length es → (v n : ℕ)
    → records_at (emitted_by (with_emitted v0 e o es) v) n ≡ records_at (emitted_by es v) n ++ cond (v0 == v) (cond (e == n) (records_of o) []) []
records_with v0 e None es l v n = sym (ap (λ x. records_at (emitted_by es v) n ++ cond (v0 == v) x []) (cond_same (e == n) []) ∙ ap (λ x. records_at (emitted_by es v) n ++ x) (cond_same (v0 == v) []) ∙ append-nil (records_at (emitted_by es v) n))
records_with v0 e (Some b) es l v n = go (eqb_tells v0 v)
  where
    go : ((v0 == v) ≡ true) × (v0 ≡ v) ⊎ ((v0 == v) ≡ false) × (v0 ≢ v) → records_at (emitted_by (with_emitted v0 e (Some b) es) v) n ≡ records_at (emitted_by es v) n ++ cond (v0 == v) (cond (e == n) b []) []
    go (inl (t, q)) =
        let here : emitted_by (slice_set es v0 (more_at e (b ∷ []) (emitted_by es v0))) v ≡ more_at e (b ∷ []) (emitted_by es v) =
        ap (λ u. emitted_by (slice_set es v0 (more_at e (b ∷ []) (emitted_by es v0))) u) (sym q) ∙ index_set_here es v0 (more_at e (b ∷ []) (emitted_by es v0)) [] l ∙ ap (λ u. more_at e (b ∷ []) (emitted_by es u)) q in
        ap (λ x. records_at x n) here ∙ records_more e b (emitted_by es v) n ∙ ap (λ c. records_at (emitted_by es v) n ++ cond c (cond (e == n) b []) []) (sym t)
    go (inr (t, q)) =
        let other : emitted_by (slice_set es v0 (more_at e (b ∷ []) (emitted_by es v0))) v ≡ emitted_by es v = index_set_other es v0 v (more_at e (b ∷ []) (emitted_by es v0)) [] (λ z. q (sym z)) in
        ap (λ x. records_at x n) other ∙ sym (append-nil (records_at (emitted_by es v) n)) ∙ ap (λ c. records_at (emitted_by es v) n ++ cond c (cond (e == n) b []) []) (sym t)
