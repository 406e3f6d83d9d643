-- Records that are alike: the same but for new numbers of texts. What is computed of fields, on both sides.
use Rattle.std.proofs.Common.{◌≡◌, ℕ, zero, suc, Bool, true, false, not, ◌&&◌, ◌||◌, List, [], ◌∷◌, ◌++◌, map, ℤ, ◌+ℤ◌, ◌-ℤ◌, ◌*ℤ◌, neg_ℤ, Option, Some, None, slice_get, refl, sym, ap, ap₂, subst, ◌∙◌, inl, inr}
use Rattle.std.specs.Prelude.{option_map}
use Rattle.std.specs.Ordering.{int_eq}
use Rattle.std.specs.Int.{int_wrap}
use Rattle.std.proofs.lemmas.Bool.Decides.{Decides-int_eq}
use Rattle.std.proofs.lemmas.Option.{same_Some}
use mir.Syntax.{w64}
use Rattle.semantics.specs.Multiset.{Record, same, IsAmong}
use Rattle.semantics.specs.Meaning.{field, exact, value, compares, holds, project}
use Rattle.semantics.specs.Query.{Scalar, Comparison, Cond}
use Rattle.kinds.specs.declared.kind.Quantity.{Quantity}
use Rattle.kinds.specs.declared.kind.Kind.{Kind}
use Rattle.kinds.specs.declared.kind.Kind.TheVariants as kind
use Rattle.kinds.specs.Kinds.{sum, difference, product, opposite, common, computed, negated, scalar_kind, asks_equality, is_named, is_named_text, may_compare, may_ask}
use Rattle.kinds.specs.Relations.{all_of, merged_kind, merged, same_kind, same_kinds}
use Rattle.kinds.specs.Renaming.{IsRenaming}
use Rattle.kinds.proofs.Found.{map_found, then_found, both_true, same_answer, all_cons}

-- the second number stands for what the first stands for
abbrev pub FieldAlike : (ℤ → ℤ) → Kind → ℤ → ℤ → Type 0
FieldAlike new kind.Text z w = w ≡ new z
FieldAlike new (kind.Number a) z w = w ≡ z

-- field by field
abbrev pub Alike : (ℤ → ℤ) → List Kind → Record → Record → Type 0
Alike new [] [] [] = Unit {0}
Alike new (k ∷ ks) (z ∷ r) (w ∷ s) = FieldAlike new k z w × Alike new ks r s
Alike new ks r s = ⊥

module _ (named : List ℤ) (new : ℤ → ℤ) (renaming : IsRenaming named new) where
  same_texts : (a b : ℤ) → int_eq (new a) (new b) ≡ int_eq a b
  same_texts a b = same_answer (int_eq a b) (int_eq (new a) (new b)) (λ e. (Decides-int_eq (new a) (new b)).1 (ap new ((Decides-int_eq a b).0 e))) (λ e. (Decides-int_eq a b).1 (renaming.different a b ((Decides-int_eq (new a) (new b)).0 e)))

  pub same_fields : (k : Kind) (a b a' b' : ℤ) → FieldAlike new k a a' → FieldAlike new k b b' → int_eq a' b' ≡ int_eq a b
  same_fields kind.Text a b a' b' p q = ap₂ int_eq p q ∙ same_texts a b
  same_fields (kind.Number x) a b a' b' p q = ap₂ int_eq p q

  pub same_alike : (ks : List Kind) (a b a' b' : Record) → Alike new ks a a' → Alike new ks b b' → same a' b' ≡ same a b
  same_alike [] [] [] [] [] p q = refl
  same_alike (k ∷ ks) (x ∷ a) (y ∷ b) (x' ∷ a') (y' ∷ b') p q = ap₂ (λ c d. c && d) (same_fields k x y x' y' p.0 q.0) (same_alike ks a b a' b' p.1 q.1)
  same_alike [] [] [] [] (y' ∷ b') p q = absurd q
  same_alike [] [] (y ∷ b) [] b' p q = absurd q
  same_alike [] [] b (x' ∷ a') b' p q = absurd p
  same_alike [] (x ∷ a) b a' b' p q = absurd p
  same_alike (k ∷ ks) [] b a' b' p q = absurd p
  same_alike (k ∷ ks) (x ∷ a) b [] b' p q = absurd p
  same_alike (k ∷ ks) (x ∷ a) [] (x' ∷ a') b' p q = absurd q
  same_alike (k ∷ ks) (x ∷ a) (y ∷ b) (x' ∷ a') [] p q = absurd q

  pub append_alike : (ks ls : List Kind) (a b a' b' : Record) → Alike new ks a a' → Alike new ls b b' → Alike new (ks ++ ls) (a ++ b) (a' ++ b')
  append_alike [] ls [] b [] b' p q = q
  append_alike (k ∷ ks) ls (x ∷ a) b (x' ∷ a') b' p q = (p.0, append_alike ks ls a b a' b' p.1 q)
  append_alike [] ls [] b (x' ∷ a') b' p q = absurd p
  append_alike [] ls (x ∷ a) b a' b' p q = absurd p
  append_alike (k ∷ ks) ls [] b a' b' p q = absurd p
  append_alike (k ∷ ks) ls (x ∷ a) b [] b' p q = absurd p

  pub field_alike : (ks : List Kind) (c : ℕ) (k : Kind) (r r' : Record) → slice_get ks c ≡ Some k → Alike new ks r r' → FieldAlike new k (field c r) (field c r')
  field_alike [] c k r r' e p = absurd (cc)
  field_alike (l ∷ ks) zero k (x ∷ r) (x' ∷ r') e p = subst (λ m. FieldAlike new m x x') (same_Some l k e) p.0
  field_alike (l ∷ ks) (suc c) k (x ∷ r) (x' ∷ r') e p = field_alike ks c k r r' e p.1
  field_alike (l ∷ ks) c k [] r' e p = absurd p
  field_alike (l ∷ ks) c k (x ∷ r) [] e p = absurd p

  -- a list of fields, each computed alike
  pub all_alike : {X : Type 0} (xs : List X) (kind_of : X → Option Kind) (f f' : X → ℤ) → ((x : X) (k : Kind) → kind_of x ≡ Some k → FieldAlike new k (f x) (f' x)) → (ks : List Kind) → all_of (map kind_of xs) ≡ Some ks → Alike new ks (map f xs) (map f' xs)
  all_alike [] kind_of f f' h ks e = subst (λ l. Alike new l [] []) (same_Some [] ks e) tt
  all_alike (x ∷ xs) kind_of f f' h ks e =
      let c = all_cons (kind_of x) (map kind_of xs) ks e in
      subst (λ l. Alike new l (f x ∷ map f xs) (f' x ∷ map f' xs)) c.4 (h x c.0 c.2, all_alike xs kind_of f f' h c.1 c.3)

  pub project_alike : (ks : List Kind) (cs : List ℕ) (ls : List Kind) (r r' : Record) → all_of (map (slice_get ks) cs) ≡ Some ls → Alike new ks r r' → Alike new ls (project cs r) (project cs r')
  project_alike ks cs ls r r' e p = all_alike cs (slice_get ks) (λ c. field c r) (λ c. field c r') (λ c k h. field_alike ks c k r r' h p) ls e

  -- ---- scalars

  -- both parts of what is computed of numbers are numbers
  parts_found : (f : Quantity → Quantity → Option Quantity) (k l : Option Kind) (m : Kind) → computed f k l ≡ Some m → (a : Quantity) × (b : Quantity) × (c : Quantity) × (k ≡ Some (kind.Number a)) × (l ≡ Some (kind.Number b)) × (m ≡ kind.Number c)
  parts_found f (Some (kind.Number a)) (Some (kind.Number b)) m e = let x = map_found kind.Number (f a b) m e in (a, b, x.0, refl, refl, sym x.2)
  parts_found f None l m e = absurd (cc)
  parts_found f (Some kind.Text) l m e = absurd (cc)
  parts_found f (Some (kind.Number a)) None m e = absurd (cc)
  parts_found f (Some (kind.Number a)) (Some kind.Text) m e = absurd (cc)

  part_found : (k : Option Kind) (m : Kind) → negated k ≡ Some m → (a : Quantity) × (c : Quantity) × (k ≡ Some (kind.Number a)) × (m ≡ kind.Number c)
  part_found (Some (kind.Number a)) m e = let x = map_found kind.Number (opposite a) m e in (a, x.0, refl, sym x.2)
  part_found None m e = absurd (cc)
  part_found (Some kind.Text) m e = absurd (cc)

  exact_alike : (ks : List Kind) (s : Scalar) (a : Quantity) (r r' : Record) → scalar_kind ks s ≡ Some (kind.Number a) → Alike new ks r r' → exact s r' ≡ exact s r
  exact_alike ks (Scalar.column c) a r r' e p = field_alike ks c (kind.Number a) r r' e p
  exact_alike ks (Scalar.literal z) a r r' e p = refl
  exact_alike ks (Scalar.plus s t) a r r' e p =
      let x = parts_found sum (scalar_kind ks s) (scalar_kind ks t) (kind.Number a) e in
      ap₂ (λ u v. u +ℤ v) (exact_alike ks s x.0 r r' x.3 p) (exact_alike ks t x.1 r r' x.4 p)
  exact_alike ks (Scalar.minus s t) a r r' e p =
      let x = parts_found difference (scalar_kind ks s) (scalar_kind ks t) (kind.Number a) e in
      ap₂ (λ u v. u -ℤ v) (exact_alike ks s x.0 r r' x.3 p) (exact_alike ks t x.1 r r' x.4 p)
  exact_alike ks (Scalar.times s t) a r r' e p =
      let x = parts_found product (scalar_kind ks s) (scalar_kind ks t) (kind.Number a) e in
      ap₂ (λ u v. u *ℤ v) (exact_alike ks s x.0 r r' x.3 p) (exact_alike ks t x.1 r r' x.4 p)
  exact_alike ks (Scalar.negation s) a r r' e p =
      let x = part_found (scalar_kind ks s) (kind.Number a) e in
      ap neg_ℤ (exact_alike ks s x.0 r r' x.2 p)

  text_alike : (ks : List Kind) (s : Scalar) (r r' : Record) → scalar_kind ks s ≡ Some kind.Text → Alike new ks r r' → value s r' ≡ new (value s r)
  text_alike ks (Scalar.column c) r r' e p = ap (int_wrap w64) (field_alike ks c kind.Text r r' e p) ∙ renaming.fits (field c r)
  text_alike ks (Scalar.literal z) r r' e p = absurd (cc)
  text_alike ks (Scalar.plus s t) r r' e p = let x = parts_found sum (scalar_kind ks s) (scalar_kind ks t) kind.Text e in absurd (let no = x.5 in cc)
  text_alike ks (Scalar.minus s t) r r' e p = let x = parts_found difference (scalar_kind ks s) (scalar_kind ks t) kind.Text e in absurd (let no = x.5 in cc)
  text_alike ks (Scalar.times s t) r r' e p = let x = parts_found product (scalar_kind ks s) (scalar_kind ks t) kind.Text e in absurd (let no = x.5 in cc)
  text_alike ks (Scalar.negation s) r r' e p = let x = part_found (scalar_kind ks s) kind.Text e in absurd (let no = x.3 in cc)

  pub value_alike : (ks : List Kind) (s : Scalar) (k : Kind) (r r' : Record) → scalar_kind ks s ≡ Some k → Alike new ks r r' → FieldAlike new k (value s r) (value s r')
  value_alike ks s kind.Text r r' e p = text_alike ks s r r' e p
  value_alike ks s (kind.Number a) r r' e p = ap (int_wrap w64) (exact_alike ks s a r r' e p)

  -- ---- conditions

  equality_alike : (c : Comparison) (k : Kind) (v w v' w' : ℤ) → asks_equality c ≡ true → FieldAlike new k v v' → FieldAlike new k w w' → compares c v' w' ≡ compares c v w
  equality_alike Comparison.equal k v w v' w' e p q = same_fields k v w v' w' p q
  equality_alike Comparison.not_equal k v w v' w' e p q = ap not (same_fields k v w v' w' p q)
  equality_alike Comparison.less k v w v' w' e p q = absurd (cc)
  equality_alike Comparison.at_most k v w v' w' e p q = absurd (cc)
  equality_alike Comparison.greater k v w v' w' e p q = absurd (cc)
  equality_alike Comparison.at_least k v w v' w' e p q = absurd (cc)

  among_named : (ns : List ℤ) (z : ℤ) → is_named ns z ≡ true → IsAmong z ns
  among_named [] z e = absurd (cc)
  among_named (n ∷ ns) z e = go (int_eq n z) refl e (among_named ns z)
    where
      go : (b : Bool) → int_eq n z ≡ b → b || is_named ns z ≡ true → (is_named ns z ≡ true → IsAmong z ns) → IsAmong z (n ∷ ns)
      go true k h ih = inl ((Decides-int_eq n z).0 k)
      go false k h ih = inr (ih h)

  -- a number that stands for a named text is alike to itself
  named_alike : (s : Scalar) (r r' : Record) → is_named_text named s ≡ true → value s r' ≡ new (value s r)
  named_alike (Scalar.literal z) r r' e = ap (int_wrap w64) (sym (renaming.named_stay z (among_named named z e))) ∙ renaming.fits z
  named_alike (Scalar.column c) r r' e = absurd (cc)
  named_alike (Scalar.plus s t) r r' e = absurd (cc)
  named_alike (Scalar.minus s t) r r' e = absurd (cc)
  named_alike (Scalar.times s t) r r' e = absurd (cc)
  named_alike (Scalar.negation s) r r' e = absurd (cc)

  compare_alike : (ks : List Kind) (c : Comparison) (s t : Scalar) (k l : Option Kind) → scalar_kind ks s ≡ k → scalar_kind ks t ≡ l → may_compare named c s t k l ≡ true → (r r' : Record) → Alike new ks r r' → compares c (value s r') (value t r') ≡ compares c (value s r) (value t r)
  compare_alike ks c s t (Some kind.Text) (Some kind.Text) e f m r r' p = equality_alike c kind.Text (value s r) (value t r) (value s r') (value t r') m (text_alike ks s r r' e p) (text_alike ks t r r' f p)
  compare_alike ks c s t (Some kind.Text) (Some (kind.Number b)) e f m r r' p =
      let x = both_true (asks_equality c) (is_named_text named t) m in
      equality_alike c kind.Text (value s r) (value t r) (value s r') (value t r') x.0 (text_alike ks s r r' e p) (named_alike t r r' x.1)
  compare_alike ks c s t (Some (kind.Number a)) (Some kind.Text) e f m r r' p =
      let x = both_true (asks_equality c) (is_named_text named s) m in
      equality_alike c kind.Text (value s r) (value t r) (value s r') (value t r') x.0 (named_alike s r r' x.1) (text_alike ks t r r' f p)
  compare_alike ks c s t (Some (kind.Number a)) (Some (kind.Number b)) e f m r r' p =
      ap₂ (compares c) (value_alike ks s (kind.Number a) r r' e p) (value_alike ks t (kind.Number b) r r' f p)
  compare_alike ks c s t None l e f m r r' p = absurd (cc)
  compare_alike ks c s t (Some kind.Text) None e f m r r' p = absurd (cc)
  compare_alike ks c s t (Some (kind.Number a)) None e f m r r' p = absurd (cc)

  pub holds_alike : (ks : List Kind) (c : Cond) → may_ask named ks c ≡ true → (r r' : Record) → Alike new ks r r' → holds c r' ≡ holds c r
  holds_alike ks (Cond.compare c s t) m r r' p = compare_alike ks c s t (scalar_kind ks s) (scalar_kind ks t) refl refl m r r' p
  holds_alike ks (Cond.conjunction c d) m r r' p =
      let x = both_true (may_ask named ks c) (may_ask named ks d) m in
      ap₂ (λ a b. a && b) (holds_alike ks c x.0 r r' p) (holds_alike ks d x.1 r r' p)
  holds_alike ks (Cond.disjunction c d) m r r' p =
      let x = both_true (may_ask named ks c) (may_ask named ks d) m in
      ap₂ (λ a b. a || b) (holds_alike ks c x.0 r r' p) (holds_alike ks d x.1 r r' p)
  holds_alike ks (Cond.negation c) m r r' p = ap not (holds_alike ks c m r r' p)

  -- ---- kinds in common

  pub left_kind : (k l m : Kind) → merged_kind k l ≡ Some m → (z w : ℤ) → FieldAlike new k z w → FieldAlike new m z w
  left_kind kind.Text kind.Text m e z w p = subst (λ n. FieldAlike new n z w) (same_Some kind.Text m e) p
  left_kind (kind.Number a) (kind.Number b) m e z w p = let x = map_found kind.Number (common a b) m e in subst (λ n. FieldAlike new n z w) x.2 p
  left_kind kind.Text (kind.Number b) m e z w p = absurd (cc)
  left_kind (kind.Number a) kind.Text m e z w p = absurd (cc)

  pub right_kind : (k l m : Kind) → merged_kind k l ≡ Some m → (z w : ℤ) → FieldAlike new l z w → FieldAlike new m z w
  right_kind kind.Text kind.Text m e z w p = subst (λ n. FieldAlike new n z w) (same_Some kind.Text m e) p
  right_kind (kind.Number a) (kind.Number b) m e z w p = let x = map_found kind.Number (common a b) m e in subst (λ n. FieldAlike new n z w) x.2 p
  right_kind kind.Text (kind.Number b) m e z w p = absurd (cc)
  right_kind (kind.Number a) kind.Text m e z w p = absurd (cc)

  pub equal_kind : (k l : Kind) → same_kind k l ≡ true → (z w : ℤ) → FieldAlike new k z w → FieldAlike new l z w
  equal_kind kind.Text kind.Text e z w p = p
  equal_kind (kind.Number a) (kind.Number b) e z w p = p
  equal_kind kind.Text (kind.Number b) e z w p = absurd (cc)
  equal_kind (kind.Number a) kind.Text e z w p = absurd (cc)

  pub left_alike : (ks ls ms : List Kind) → merged ks ls ≡ Some ms → (r r' : Record) → Alike new ks r r' → Alike new ms r r'
  left_alike [] [] ms e [] [] p = subst (λ n. Alike new n [] []) (same_Some [] ms e) tt
  left_alike (k ∷ ks) (l ∷ ls) ms e (z ∷ r) (w ∷ s) p =
      let x = then_found (λ m. option_map (λ ns. m ∷ ns) (merged ks ls)) (merged_kind k l) ms e in
      let y = map_found (λ ns. x.0 ∷ ns) (merged ks ls) ms x.2 in
      subst (λ n. Alike new n (z ∷ r) (w ∷ s)) y.2 (left_kind k l x.0 x.1 z w p.0, left_alike ks ls y.0 y.1 r s p.1)
  left_alike [] [] ms e [] (w ∷ s) p = absurd p
  left_alike [] [] ms e (z ∷ r) s p = absurd p
  left_alike [] (l ∷ ls) ms e r s p = absurd (cc)
  left_alike (k ∷ ks) [] ms e r s p = absurd (cc)
  left_alike (k ∷ ks) (l ∷ ls) ms e [] s p = absurd p
  left_alike (k ∷ ks) (l ∷ ls) ms e (z ∷ r) [] p = absurd p

  pub right_alike : (ks ls ms : List Kind) → merged ks ls ≡ Some ms → (r r' : Record) → Alike new ls r r' → Alike new ms r r'
  right_alike [] [] ms e [] [] p = subst (λ n. Alike new n [] []) (same_Some [] ms e) tt
  right_alike (k ∷ ks) (l ∷ ls) ms e (z ∷ r) (w ∷ s) p =
      let x = then_found (λ m. option_map (λ ns. m ∷ ns) (merged ks ls)) (merged_kind k l) ms e in
      let y = map_found (λ ns. x.0 ∷ ns) (merged ks ls) ms x.2 in
      subst (λ n. Alike new n (z ∷ r) (w ∷ s)) y.2 (right_kind k l x.0 x.1 z w p.0, right_alike ks ls y.0 y.1 r s p.1)
  right_alike [] [] ms e [] (w ∷ s) p = absurd p
  right_alike [] [] ms e (z ∷ r) s p = absurd p
  right_alike [] (l ∷ ls) ms e r s p = absurd (cc)
  right_alike (k ∷ ks) [] ms e r s p = absurd (cc)
  right_alike (k ∷ ks) (l ∷ ls) ms e [] s p = absurd p
  right_alike (k ∷ ks) (l ∷ ls) ms e (z ∷ r) [] p = absurd p

  pub equal_alike : (ks ls : List Kind) → same_kinds ks ls ≡ true → (r r' : Record) → Alike new ks r r' → Alike new ls r r'
  equal_alike [] [] e r s p = p
  equal_alike (k ∷ ks) (l ∷ ls) e (z ∷ r) (w ∷ s) p =
      let x = both_true (same_kind k l) (same_kinds ks ls) e in
      (equal_kind k l x.0 z w p.0, equal_alike ks ls x.1 r s p.1)
  equal_alike [] (l ∷ ls) e r s p = absurd (cc)
  equal_alike (k ∷ ks) [] e r s p = absurd (cc)
  equal_alike (k ∷ ks) (l ∷ ls) e [] s p = absurd p
  equal_alike (k ∷ ks) (l ∷ ls) e (z ∷ r) [] p = absurd p
