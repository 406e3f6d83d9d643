-- What is known of bodies that are linear in a variable, and of closures that are one recursive table.
use Rattle.std.proofs.Common.{◌≡◌, ℕ, Bool, true, false, cond, not, ◌&&◌, nat_eq, List, refl, sym, ap, ◌∙◌}
use Rattle.std.proofs.lemmas.Bool.{true≢false, and_parts}
use Rattle.semantics.specs.Multiset.{Record, IsAmong}
use Rattle.semantics.specs.FreeNames.{free, has}
use Rattle.semantics.specs.Limits.{max_turns}
use Rattle.semantics.specs.Meaning.{same_name, Names, bind, meaning}
use Rattle.semantics.specs.Query.{Name, Loop, Rel}
use Rattle.semantics.proofs.NamesAmong.{Decides-same_name, has_among}
use Rattle.semantics.proofs.RulesKeepMeaning.{meaning-free}
use Rattle.sql_meaning.specs.Translation.{is_linear, is_recursion}

-- a name that isn't free is none of the free ones
pub not_free : (x : Name) (q : Rel) → has x (free q) ≡ false → (y : Name) → IsAmong y (free q) → same_name x y ≡ false
not_free x q n y h = by (same_name x y) refl
  where
    by : (b : Bool) → same_name x y ≡ b → b ≡ false
    by true e = absurd (true≢false (sym (ap (λ z. has z (free q)) ((Decides-same_name x y).0 e) ∙ has_among y (free q) h) ∙ n))
    by false e = refl

pub is_absent : (x : Name) (q : Rel) → not (has x (free q)) ≡ true → has x (free q) ≡ false
is_absent x q e = by (has x (free q)) e
  where
    by : (b : Bool) → not b ≡ true → b ≡ false
    by true e = sym e
    by false e = refl

-- a relation in which x isn't free means the same whatever x means
pub unbound : (x : Name) (q : Rel) → not (has x (free q)) ≡ true → (xs : List Record) (names : Names) → meaning q names ≡ meaning q (bind x xs names)
unbound x q e xs names = meaning-free q names (bind x xs names) (λ y h. sym (ap (λ b. cond b xs (names y)) (not_free x q (is_absent x q e) y h)))

-- of a join that is linear, one side is, and x isn't free in the other
pub left_linear : (x : Name) (p q : Rel) (e : cond (is_linear x p) (not (has x (free q))) (not (has x (free p)) && is_linear x q) ≡ true) → is_linear x p ≡ true → not (has x (free q)) ≡ true
left_linear x p q e h = sym (ap (λ b. cond b (not (has x (free q))) (not (has x (free p)) && is_linear x q)) h) ∙ e

pub right_linear : (x : Name) (p q : Rel) (e : cond (is_linear x p) (not (has x (free q))) (not (has x (free p)) && is_linear x q) ≡ true) → is_linear x p ≡ false →
    (not (has x (free p)) ≡ true) × (is_linear x q ≡ true)
right_linear x p q e h = and_parts _ _ (sym (ap (λ b. cond b (not (has x (free q))) (not (has x (free p)) && is_linear x q)) h) ∙ e)

-- what is written as one recursive table is a closure with a linear body
pub of_recursion : (recursive : Bool) (n : ℕ) (x : Name) (b : Rel) → is_recursion recursive Loop.closure n x b ≡ true → is_linear x b ≡ true
of_recursion recursive n x b e = (and_parts (nat_eq n max_turns) (is_linear x b) (and_parts recursive (nat_eq n max_turns && is_linear x b) e).1).1
