-- A name that is new is in no list.
use Rattle.std.proofs.Common.{◌≡◌, ◌≢◌, ◌||◌, Bool, false, ℕ, List, [], ◌∷◌, length, map, refl, sym, inl, inr}
use Rattle.std.specs.List.{list_any}
use Rattle.std.specs.Str.{bytes_eq}
use Rattle.std.proofs.lemmas.Bool.{cases_Bool}
use Rattle.std.proofs.lemmas.Slice.Eq.{bytes_eq-Decides}
use Rattle.schema.specs.Drafts.{IsNew}
use Rattle.schema.specs.Schemas.{said, said_constant}
use Rattle.schema.specs.declared.tables.Constant.{Constant}
use Rattle.schema.specs.declared.tables.Table.{Table}

pub differs : (name n : List ℕ) → name ≢ n → bytes_eq n name ≡ false
differs name n apart = elim (cases_Bool (bytes_eq n name)) [
  | inl e ↦ absurd (apart (sym ((bytes_eq-Decides n name).0 e)))
  | inr e ↦ e
]

neither : (a b : Bool) → a ≡ false → b ≡ false → (a || b) ≡ false
neither a b e f = rw (e, f) refl

pub header-free : {X : Type 0} (f : X → List ℕ) (name : List ℕ) (xs : List X) → IsNew name (map f xs) → list_any (λ x. bytes_eq (f x) name) xs ≡ false
header-free f name [] new = refl
header-free f name (x ∷ xs) (apart, new) = neither _ _ (differs name (f x) apart) (header-free f name xs new)

pub table-free : (name : List ℕ) (tables : List Table) → IsNew name (map (λ t. t.name) (map said tables))
    → list_any (λ t. bytes_eq t.name.items name) tables ≡ false
table-free name [] new = refl
table-free name (t ∷ ts) (apart, new) = neither _ _ (differs name t.name.items apart) (table-free name ts new)

pub constant-free : (name text : List ℕ) (constants : List Constant) → IsNew name (map (λ c. c.0) (map said_constant constants))
    → IsNew text (map (λ c. c.1) (map said_constant constants))
    → list_any (λ c. bytes_eq c.name.items name || bytes_eq c.text.items text) constants ≡ false
constant-free name text [] new unlike = refl
constant-free name text (c ∷ cs) (apart, new) (other, unlike) =
    neither _ _ (neither _ _ (differs name c.name.items apart) (differs text c.text.items other)) (constant-free name text cs new unlike)

-- a list of no tables is of no said ones
pub none-said : {X Y : Type 0} (f : X → Y) (xs : List X) → map f xs ≡ [] → length xs ≡ 0
none-said f [] e = refl
none-said f (x ∷ xs) e = cc e
