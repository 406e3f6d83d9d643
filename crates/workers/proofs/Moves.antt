-- The steps keep the rule.
use Rattle.std.proofs.Common.{◌≡◌, ℕ, ◌≤◌, List, [], ◌∷◌, ◌++◌, Some, slice_index, slice_set, max, refl, sym, subst, ap, ⊎_elim, ◌∙◌, zero, suc, arith}
use mathlib.Core.Option.{some, some-injective, some-ne-none}
use lib.ListN.{get_elem?}
use Rattle.workers.specs.declared.rule.View.{View}
use Rattle.workers.specs.Rule.{reader, publisher, with_read, Fits, Keeps, Reads, Publishes, Compares}
use Rattle.atomic_table.specs.Table.{State, Me, keeps, Allows, Splits, Joins, opening}
use Rattle.atomic_table.proofs.Lists.{at_set, at_snoc}

abbrev pub Rule : State (Unit {0}) View → Type 0
Rule s = Keeps s.words s.views

-- the publisher, with what another has read
abbrev pub publisher_of : ℕ → ℕ → View
publisher_of n m = record { published = Some n; read = m }

reads_below : (p w i m : ℕ) → m ≤ w → Fits p w i (reader m)
reads_below p w i m l = record { alone = λ k x. absurd (cc); above = λ k x. absurd (cc); below = l }

publishes : (p w i m : ℕ) → i ≡ p → m ≤ w → Fits p w i (publisher_of w m)
publishes p w i m own l = record { alone = λ k x. own; above = λ k x. (let e : w ≡ k = cc in sym e); below = l }

-- the word stays, and the seat has read it
reads_keep : (words : List ℕ) (views : List View) (id n : ℕ) → Keeps words views → get_elem? views id ≡ some (reader n)
    → Keeps (slice_set words 0 (slice_index words 0)) (slice_set views id (reader (slice_index words 0))) × (n ≤ slice_index words 0)
reads_keep [] views id n k at = absurd k
reads_keep (w ∷ ws) views id n k at = (
  (
    k.0,
    λ i v e. ⊎_elim
        (λ h. subst (λ (u : View). Fits k.0 w i u) h.1 (reads_below k.0 w i w (omega arith)))
        (λ h. k.1 i v h.1)
        (at_set views id i (reader w) v e),
  ),
  (k.1 id (reader n) at).below,
)

pub reads : (slots id : ℕ) (me : Me (Unit {0}) View) (n : ℕ) → me ≡ (reader n, []) → Allows Rule slots id me 0 (λ x. x) (Reads me)
reads slots id me n is s k homes at fits =
    let a : get_elem? s.views id ≡ some (reader n) = cc in
    let r = reads_keep s.words s.views id n k a in
    let b : n ≡ me.0.read = ap (λ (m : Me (Unit {0}) View). m.0.read) (sym is) in
    let d : me.1 ≡ [] = ap (λ (m : Me (Unit {0}) View). m.1) is in
    (reader (slice_index s.words 0), keeps, tt, r.0, (omega arith, ap (λ (c : List (ℕ × Unit {0})). (reader (slice_index s.words 0), c)) d))

-- the one publisher writes a word that isn't less; the word was what it had published, and what it had read was at most that
moves_keep : (words : List ℕ) (views : List View) (id n m x : ℕ) → Keeps words views → get_elem? views id ≡ some (publisher_of n m) → slice_index words 0 ≤ x
    → Keeps (slice_set words 0 x) (slice_set views id (publisher x)) × (n ≡ slice_index words 0) × (m ≤ slice_index words 0)
moves_keep [] views id n m x keep at l = absurd keep
moves_keep (w ∷ ws) views id n m x keep at l =
    let own = keep.1 id (publisher_of n m) at in (
      (
        keep.0,
        λ i v e. ⊎_elim
            (λ h. subst (λ (u : View). Fits keep.0 x i u) h.1 (publishes keep.0 x i x (h.0 ∙ own.alone n refl) (omega arith)))
            (λ h. let f = keep.1 i v h.1 in record { alone = f.alone; above = λ k e. absurd (h.0 (f.alone k e ∙ sym (own.alone n refl))); below = let b = f.below in omega (arith, b, l) })
            (at_set views id i (publisher x) v e),
      ),
      own.above n refl,
      own.below,
    )

pub raises : (slots id : ℕ) (me : Me (Unit {0}) View) (n k : ℕ) → me ≡ (publisher n, []) → Allows Rule slots id me 0 (λ x. max x k) (Publishes k me)
raises slots id me n k is s keep homes at fits =
    let a : get_elem? s.views id ≡ some (publisher n) = cc in
    let w = slice_index s.words 0 in
    let r = moves_keep s.words s.views id n n (max w k) keep a (omega arith) in
    let d : me.1 ≡ [] = ap (λ (m : Me (Unit {0}) View). m.1) is in
    (publisher (max w k), keeps, tt, r.0, (ap (λ (m : Me (Unit {0}) View). m.0.published) is ∙ ap Some r.1, ap (λ (c : List (ℕ × Unit {0})). (publisher (max w k), c)) d))

pub compares : (slots id : ℕ) (me : Me (Unit {0}) View) (n m : ℕ) → me ≡ (publisher_of n m, []) → Allows Rule slots id me 0 (λ x. x) (Compares me)
compares slots id me n m is s keep homes at fits =
    let a : get_elem? s.views id ≡ some (publisher_of n m) = cc in
    let w = slice_index s.words 0 in
    let r = moves_keep s.words s.views id n m w keep a (omega arith) in
    let b : m ≡ me.0.read = ap (λ (x : Me (Unit {0}) View). x.0.read) (sym is) in
    let d : me.1 ≡ [] = ap (λ (x : Me (Unit {0}) View). x.1) is in
    let l = r.2 in
    (publisher w, keeps, tt, r.0, (ap (λ (x : Me (Unit {0}) View). x.0.published) is ∙ ap Some r.1, omega (arith, l, b), ap (λ (c : List (ℕ × Unit {0})). (publisher w, c)) d))

-- a new observer has read what another has
enters : (words : List ℕ) (views : List View) (id : ℕ) (v : View) → Keeps words views → get_elem? views id ≡ some v → Keeps words (slice_set views id v ++ reader v.read ∷ [])
enters [] views id v keep at = absurd keep
enters (w ∷ ws) views id v keep at = (
  keep.0,
  λ i u e. ⊎_elim
      (λ h. ⊎_elim
      (λ j. subst (λ (z : View). Fits keep.0 w i z) j.1 (subst (λ (m : ℕ). Fits keep.0 w m v) (sym j.0) (keep.1 id v at)))
      (λ j. keep.1 i u j.1)
      (at_set views id i v u h))
      (λ h. subst (λ (z : View). Fits keep.0 w i z) h (reads_below keep.0 w i v.read (keep.1 id v at).below))
      (at_snoc (slice_set views id v) (reader v.read) u i e),
)

pub splits : (id : ℕ) (v : View) → Splits Rule id v v (reader v.read)
splits id v s keep at = enters s.words s.views id v keep at

-- the publisher takes over what an observer had read
leaves : (words : List ℕ) (views : List View) (id other n m : ℕ) → Keeps words views → get_elem? views id ≡ some (publisher n) → ¬ (other ≡ id)
    → get_elem? (slice_set views id (publisher_of n m)) other ≡ some (reader m) → Keeps words (slice_set (slice_set views id (publisher_of n m)) other (reader 0))
leaves [] views id other n m keep at apart there = absurd keep
leaves (w ∷ ws) views id other n m keep at apart there =
    let own = keep.1 id (publisher n) at in
    let below : m ≤ w = ⊎_elim (λ h. absurd (apart h.0)) (λ h. (keep.1 other (reader m) h.1).below) (at_set views id other (publisher_of n m) (reader m) there) in (
      keep.0,
      λ i v e. ⊎_elim
          (λ h. subst (λ (u : View). Fits keep.0 w i u) h.1 (reads_below keep.0 w i 0 (omega arith)))
          (λ h. ⊎_elim
          (λ j. subst (λ (u : View). Fits keep.0 w i u) j.1 (subst (λ (k : ℕ). Fits keep.0 w i (publisher_of k m)) (sym (own.above n refl)) (publishes keep.0 w i m (j.0 ∙ own.alone n refl) below)))
          (λ j. keep.1 i v j.1)
          (at_set views id i (publisher_of n m) v h.1))
          (at_set (slice_set views id (publisher_of n m)) other i (reader 0) v e),
    )

pub joins : (id : ℕ) (v : View) (other : ℕ) (u : View) (n m : ℕ) → v ≡ publisher n → u ≡ reader m → Joins Rule id v other u (with_read v u) (reader 0)
joins id v other u n m is reads =
    subst (λ (x : View). Joins Rule id x other u (with_read x u) (reader 0)) (sym is)
    (subst (λ (x : View). Joins Rule id (publisher n) other x (with_read (publisher n) x) (reader 0)) (sym reads)
    (λ s keep at apart there. leaves s.words s.views id other n m keep at apart there))

-- the publisher's seat once it knows what an observer had read
pub joined : (me other after : Me (Unit {0}) View) (n m : ℕ) → me ≡ (publisher n, []) → other ≡ (reader m, []) → after ≡ (with_read me.0 other.0, me.1) → after ≡ (publisher_of n m, [])
joined me other after n m is reads e = e ∙ (λ i. (with_read (is i).0 (reads i).0, (is i).1))

pub opens : Rule (opening (0 ∷ []) [] (publisher 0))
opens = (
  0,
  λ i v e. first i v e,
)
  where
    first : (i : ℕ) (v : View) → get_elem? (publisher 0 ∷ []) i ≡ some v → Fits 0 0 i v
    first zero v e = subst (λ (z : View). Fits 0 0 0 z) (some-injective (publisher 0) v e) (publishes 0 0 0 0 refl (omega arith))
    first (suc i) v e = absurd (some-ne-none v (sym e))
