-- Kinds of a loop that its first turn keeps.
use Rattle.std.proofs.Common.{◌≡◌, Bool, true, false, ◌&&◌, List, [], ◌∷◌, Option, Some, refl, sym, ap, ap₂, subst}
use Rattle.std.proofs.lemmas.Bool.Decides.{Decides-eqb}
use Rattle.kinds.specs.Kinds.{same_quantity}
use Rattle.kinds.specs.Relations.{merged, same_kind, same_kinds, settled}
use Rattle.kinds.specs.declared.kind.Quantity.{Quantity}
use Rattle.kinds.specs.declared.kind.Quantity.TheVariants as quantity
use Rattle.kinds.specs.declared.kind.Kind.{Kind}
use Rattle.kinds.specs.declared.kind.Kind.TheVariants as kind

quantities_are : (a b : Quantity) → same_quantity a b ≡ true → a ≡ b
quantities_are quantity.Whole quantity.Whole e = refl
quantities_are (quantity.Decimal m) (quantity.Decimal n) e = ap quantity.Decimal ((Decides-eqb m n).0 e)
quantities_are quantity.Date quantity.Date e = refl
quantities_are quantity.Time quantity.Time e = refl
quantities_are quantity.Bare quantity.Bare e = refl
quantities_are a b e = absurd (cc)

kinds_are : (k l : Kind) → same_kind k l ≡ true → k ≡ l
kinds_are kind.Text kind.Text e = refl
kinds_are (kind.Number a) (kind.Number b) e = ap kind.Number (quantities_are a b e)
kinds_are kind.Text (kind.Number b) e = absurd (cc)
kinds_are (kind.Number a) kind.Text e = absurd (cc)

both_true : (b c : Bool) → b && c ≡ true → (b ≡ true) × (c ≡ true)
both_true true c e = (refl, e)
both_true false c e = absurd (cc)

lists_are : (ks ls : List Kind) → same_kinds ks ls ≡ true → ks ≡ ls
lists_are [] [] e = refl
lists_are (k ∷ ks) (l ∷ ls) e = let b = both_true (same_kind k l) (same_kinds ks ls) e in ap₂ (λ x xs. x ∷ xs) (kinds_are k l b.0) (lists_are ks ls b.1)
lists_are [] (l ∷ ls) e = absurd (cc)
lists_are (k ∷ ks) [] e = absurd (cc)

same_quantity-refl : (a : Quantity) → same_quantity a a ≡ true
same_quantity-refl quantity.Whole = refl
same_quantity-refl (quantity.Decimal m) = (Decides-eqb m m).1 refl
same_quantity-refl quantity.Date = refl
same_quantity-refl quantity.Time = refl
same_quantity-refl quantity.Bare = refl

same_kind-refl : (k : Kind) → same_kind k k ≡ true
same_kind-refl kind.Text = refl
same_kind-refl (kind.Number a) = same_quantity-refl a

same_kinds-refl : (ks : List Kind) → same_kinds ks ks ≡ true
same_kinds-refl [] = refl
same_kinds-refl (k ∷ ks) = ap₂ (λ b c. b && c) (same_kind-refl k) (same_kinds-refl ks)

-- where the first turn keeps the kinds of the start, they are the loop's
pub kept_at_once : (ks ls ms : List Kind) (f : List Kind → Option (List Kind)) → f ks ≡ Some ls → merged ks ls ≡ Some ms → same_kinds ms ks ≡ true → settled ks f ≡ Some ms
kept_at_once ks ls ms f e h s =
    let is = lists_are ms ks s in
    let again : f ms ≡ Some ls = subst (λ l. f l ≡ Some ls) (sym is) e in
    let wide : merged ms ls ≡ Some ms = subst (λ l. merged l ls ≡ Some ms) (sym is) h in
    rw (e, h, again, wide, same_kinds-refl ms) refl
