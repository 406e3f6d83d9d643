-- Inputs by their places.
use Rattle.std.proofs.Common.{◌≡◌, ℕ, zero, suc, ◌+◌, ◌-◌, ◌<◌, ◌≤◌, List, [], ◌∷◌, map, length, get_or, take, drop, slice_index_or, sym, ap, ap₂, ◌∙◌, arith}
use Rattle.std.proofs.Math.Seq.{take-length}
use Rattle.expr_tree.specs.Plain.{plain_input}
use Rattle.expr_tree.specs.declared.program.Input as declared_input
use Rattle.sql_meaning.specs.Script.{Table}
use Rattle.sql_meaning.specs.Translation.{Tables, input_tables, stands}
use Rattle.sql.specs.Shown.{Known, names_of, with_entry}
use Rattle.sql.specs.declared.table.Table.TheVariants.{Given}
use Rattle.sql.proofs.Names.{names_bound}

pub split_first : {A : Type 0} → (xs : List A) (y : A) → 1 ≤ length xs → y ≡ get_or xs 0 y → xs ≡ y ∷ take (length xs - 1) (drop 1 xs)
split_first [] y h q = absurd (omega arith)
split_first (x ∷ xs) y h q =
    let n : suc (length xs) - 1 ≡ length xs = omega arith in
    ap₂ (λ a l. a ∷ l) (sym q) (sym (ap (λ k. take k xs) n ∙ take-length xs))

pub at_place : {A B C : Type 0} → (f : A → B) (g : B → C) (xs : List A) (i : ℕ) (d : C) (a : A) → i < length xs → a ≡ get_or xs i a → slice_index_or (map g (map f xs)) i d ≡ g (f a)
at_place f g [] i d a h e = absurd (omega arith)
at_place f g (x ∷ xs) zero d a h e = ap (λ y. g (f y)) (sym e)
at_place f g (x ∷ xs) (suc i) d a h e = at_place f g xs i d a (omega arith) e

-- one input more at the front
pub one_input : (xs rest : List declared_input.Input) (a : declared_input.Input) (i : ℕ) (k new : Known) → xs ≡ a ∷ rest → names_of k ≡ input_tables (map plain_input rest) (i + 1) →
    new ≡ with_entry k (record { name = a.name; table = Given i }) → names_of new ≡ input_tables (map plain_input xs) i
one_input xs rest a i k new e h n =
    let m : i + 1 ≡ suc i = omega arith in
    ap names_of n ∙ names_bound k (record { name = a.name; table = Given i }) ∙ ap (λ (t : Tables). stands a.name (Table.given i) t) (h ∙ ap (λ j. input_tables (map plain_input rest) j) m)
    ∙ sym (ap (λ ys. input_tables (map plain_input ys) i) e)
