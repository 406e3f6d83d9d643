-- Texts that are appended one after the other.
use Rattle.std.proofs.Common.{◌≡◌, ℕ, suc, ◌+◌, ◌<◌, ◌≤◌, ℤ, pos, negsuc, Bool, true, List, [], ◌∷◌, ◌++◌, length, take, map, append_assoc, ap, sym, ◌∙◌, codes, get_or, decimal, Result, Ok, Err}
use Rattle.std.specs.List.{flat_map}
use Rattle.std.specs.Prelude.{OnErr}
use Rattle.std.specs.Fmt.{signed_decimal}
use Rattle.std.proofs.lemmas.List.{take_more, take_all, append-nil, map-append}
use Rattle.std.proofs.lemmas.Grind.{flat_map-append}
use Rattle.expr_tree.specs.declared.scalar.Operator.{Operator}
use Rattle.expr_tree.specs.Trees.{ScalarTree}
use Rattle.writer.specs.declared.rank.ScalarRank.TheVariants.{Single}
use Rattle.writer.specs.Pieces.{Piece, text_of, in_round, spaced, comma, listed, Extends}
use Rattle.writer.specs.Scalars as scalar
use Rattle.writer.specs.Scalars.{literal, scalar_pieces, scalar_rank, nowhere}

pub literal_text : (z : ℤ) (o w : List ℕ) → w ≡ o ++ signed_decimal z → w ≡ o ++ text_of (literal z)
literal_text (pos n) o w e = e ∙ ap (λ v. o ++ v) (sym (append-nil (decimal n)))
literal_text (negsuc n) o w e = e ∙ ap (λ v. o ++ v) (sym (ap (λ v. 45 ∷ v) (append-nil (signed_decimal (pos (suc n))))))

pub round_text : (b : Bool) (ps : List Piece) (o m n w : List ℕ) → b ≡ true → m ≡ o ++ codes "(" → n ≡ m ++ text_of ps → w ≡ n ++ codes ")" → w ≡ o ++ text_of (in_round b ps)
round_text b ps o m n w e h i j = rw (j, i, h, e) (simp (append_assoc, flat_map-append))

pub binary_text : (k : Operator) (a b : ScalarTree) (p q : Bool) (o m n w : List ℕ) → p ≡ scalar.is_below (scalar_rank a) (scalar.rank_of k) → q ≡ scalar.is_below (scalar_rank b) (scalar.right_of k) → m ≡ o ++ text_of (in_round p (scalar_pieces a)) → n ≡ m ++ text_of (spaced (scalar.sign_of k)) → w ≡ n ++ text_of (in_round q (scalar_pieces b)) → w ≡ o ++ text_of (scalar_pieces (ScalarTree.binary nowhere k a b))
binary_text k a b p q o m n w f g h i j = rw (j, i, h, f, g) (simp (append_assoc, flat_map-append))

pub negation_text : (a : ScalarTree) (p : Bool) (o m w : List ℕ) → p ≡ scalar.is_below (scalar_rank a) Single → m ≡ o ++ codes "-" → w ≡ m ++ text_of (in_round p (scalar_pieces a)) → w ≡ o ++ text_of (scalar_pieces (ScalarTree.negate nowhere a))
negation_text a p o m w f h j = rw (j, h, f) (simp append_assoc)

pub list_more : {X Y : Type 0} (view : X → Y) (f : Y → List Piece) (xs : List X) (i : ℕ) (x : X) (o m n w : List ℕ) → i < length xs → x ≡ get_or xs i x → m ≡ o ++ text_of (flat_map (λ y. comma ++ f y) (map view (take i xs))) → n ≡ m ++ codes ", " → w ≡ n ++ text_of (f (view x)) → w ≡ o ++ text_of (flat_map (λ y. comma ++ f y) (map view (take (i + 1) xs)))
list_more view f xs i x o m n w lt e h k j =
    let t : take (i + 1) xs ≡ take i xs ++ x ∷ [] = take_more xs i x lt ∙ ap (λ y. take i xs ++ y ∷ []) (sym e) in
    rw (j, k, h, t) (simp (append_assoc, flat_map-append, map-append, append-nil))

pub list_all_text : {X Y : Type 0} (view : X → Y) (f : Y → List Piece) (xs : List X) (x : X) (rest : List X) (i : ℕ) (o m w : List ℕ) → xs ≡ x ∷ rest → length rest ≤ i → m ≡ o ++ text_of (f (view x)) → w ≡ m ++ text_of (flat_map (λ y. comma ++ f y) (map view (take i rest))) → w ≡ o ++ text_of (listed f (map view xs))
list_all_text view f xs x rest i o m w p le h j = rw (p, j, h, take_all i rest le) (simp (append_assoc, flat_map-append))

pub refused : {T E : Type 0} (r : Result T E) (P : Type 0) → P → OnErr r P
refused (Ok x) P p = tt
refused (Err e) P p = p

-- what was appended before a refusal
pub extends_from : (o m w : List ℕ) (z : List ℕ) → m ≡ o ++ z → Extends m w → Extends o w
extends_from o m w z h e = (z ++ e.0, e.1 ∙ rw h (append_assoc o z e.0))

pub refused_after : {T E : Type 0} (r : Result T E) (o k w : List ℕ) (y : List ℕ) → k ≡ o ++ y → Extends k w → OnErr r (Extends o w)
refused_after r o k w y i e = refused r (Extends o w) (extends_from o k w y i e)

pub refused_after_two : {T E : Type 0} (r : Result T E) (o m k w : List ℕ) (x y : List ℕ) → m ≡ o ++ x → k ≡ m ++ y → Extends k w → OnErr r (Extends o w)
refused_after_two r o m k w x y h i e = refused r (Extends o w) (extends_from o m w x h (extends_from m k w y i e))

pub refused_after_three : {T E : Type 0} (r : Result T E) (o m k n w : List ℕ) (x y z : List ℕ) → m ≡ o ++ x → k ≡ m ++ y → n ≡ k ++ z → Extends n w → OnErr r (Extends o w)
refused_after_three r o m k n w x y z h i j e = refused r (Extends o w) (extends_from o m w x h (extends_from m k w y i (extends_from k n w z j e)))

-- the same of values that are shown as they are
pub values_more : {X : Type 0} (f : X → List Piece) (xs : List X) (i : ℕ) (x : X) (o m n w : List ℕ) → i < length xs → x ≡ get_or xs i x → m ≡ o ++ text_of (flat_map (λ y. comma ++ f y) (take i xs)) → n ≡ m ++ codes ", " → w ≡ n ++ text_of (f x) → w ≡ o ++ text_of (flat_map (λ y. comma ++ f y) (take (i + 1) xs))
values_more f xs i x o m n w lt e h k j =
    let t : take (i + 1) xs ≡ take i xs ++ x ∷ [] = take_more xs i x lt ∙ ap (λ y. take i xs ++ y ∷ []) (sym e) in
    rw (j, k, h, t) (simp (append_assoc, flat_map-append, append-nil))

pub values_all_text : {X : Type 0} (f : X → List Piece) (xs : List X) (x : X) (rest : List X) (i : ℕ) (o m w : List ℕ) → xs ≡ x ∷ rest → length rest ≤ i → m ≡ o ++ text_of (f x) → w ≡ m ++ text_of (flat_map (λ y. comma ++ f y) (take i rest)) → w ≡ o ++ text_of (listed f xs)
values_all_text f xs x rest i o m w p le h j = rw (p, j, h, take_all i rest le) (simp (append_assoc, flat_map-append))
