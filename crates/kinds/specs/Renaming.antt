-- Other numbers for the same texts.
use Rattle.std.specs.Prelude.{◌≡◌, ℕ, List, [], ◌∷◌, map, ℤ, slice_index_or, length}
use Rattle.std.specs.Int.{int_wrap}
use Rattle.std.specs.List.{AllByRecursion}
use mir.Syntax.{w64}
use Rattle.semantics.specs.Multiset.{Record, IsAmong}
use Rattle.kinds.specs.declared.kind.Kind.{Kind}
use Rattle.kinds.specs.declared.kind.Kind.TheVariants as kind

-- Different texts keep different numbers, those with a name keep their own, and each number within 64 bits stays within them.
pub record IsRenaming (named : List ℤ) (new : ℤ → ℤ) : Type 0 where
  pub different : (a b : ℤ) → new a ≡ new b → a ≡ b
  pub named_stay : (z : ℤ) → IsAmong z named → new z ≡ z
  pub fits : (z : ℤ) → int_wrap w64 (new z) ≡ new (int_wrap w64 z)

-- a field with its text's new number
abbrev pub renamed_field : (ℤ → ℤ) → Kind → ℤ → ℤ
renamed_field new kind.Text z = new z
renamed_field new (kind.Number a) z = z

-- a record with its texts' new numbers
abbrev pub renamed : (ℤ → ℤ) → List Kind → Record → Record
renamed new ks [] = []
renamed new [] (z ∷ r) = z ∷ r
renamed new (k ∷ ks) (z ∷ r) = renamed_field new k z ∷ renamed new ks r

-- the records of each input
abbrev pub renamed_inputs : (ℤ → ℤ) → List (List Kind) → (ℕ → List Record) → ℕ → List Record
renamed_inputs new kinds records i = map (renamed new (slice_index_or kinds i [])) (records i)

-- each record of each input has a field for each of its kinds
abbrev pub HaveKinds : List (List Kind) → (ℕ → List Record) → Type 0
HaveKinds kinds records = (i : ℕ) → AllByRecursion (λ (r : Record). length r ≡ length (slice_index_or kinds i [])) (records i)
