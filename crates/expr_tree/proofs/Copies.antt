-- Lists that are copied item by item.
use Rattle.std.proofs.Common.{◌≡◌, ℕ, ◌+◌, ◌<◌, List, [], ◌∷◌, ◌++◌, length, get_or, map, take}
use Rattle.std.proofs.lemmas.List.{take_more, map-append, map_more}
use Rattle.expr_tree.specs.declared.program.Let.{Let}
use Rattle.expr_tree.specs.declared.program.Output.{Output}
use Rattle.expr_tree.specs.Views.{rel_tree, let_tree, output_tree}

-- one more copy, of the item at index i
pub items-push : {X : Type 0} (xs more ys items : List X) (x y : X) (i : ℕ) → more ≡ xs ++ x ∷ [] → xs ≡ take i items → x ≡ y → ys ≡ items → i < length ys → y ≡ get_or ys i y → more ≡ take (i + 1) items
items-push xs more ys items x y i pushed before copied same within at =
    let a = take_more ys i y within in
    cc

-- one more copy, of the item at index i: what is seen of the copies is what is seen of one more item
pub seen-push : {X Y Z : Type 0} (f : X → Z) (h : Y → Z) (xs more : List X) (ys items : List Y) (x : X) (y : Y) (i : ℕ) → more ≡ xs ++ x ∷ [] → map f xs ≡ map h (take i items) → f x ≡ h y → ys ≡ items → i < length ys → y ≡ get_or ys i y → map f more ≡ map h (take (i + 1) items)
seen-push f h xs more ys items x y i pushed before copied same within at =
    let a = map-append f xs (x ∷ []) in
    let b = map_more h ys i y within in
    cc

-- what is seen of two lets with the same name at the same place, whose relations are seen the same
pub seen-let : {A B : Type 0} (x : Let A) (y : Let B) → x.name_span ≡ y.name_span → x.name ≡ y.name → rel_tree x.relation.value ≡ rel_tree y.relation.value → let_tree x ≡ let_tree y
seen-let x y at name relation = cc

-- what is seen of two outputs with the same keyword and name at the same places, whose relations are seen the same
pub seen-output : {A B : Type 0} (x : Output A) (y : Output B) → x.keyword_span ≡ y.keyword_span → x.name_span ≡ y.name_span → x.name ≡ y.name → rel_tree x.relation.value ≡ rel_tree y.relation.value → output_tree x ≡ output_tree y
seen-output x y keyword at name relation = cc
