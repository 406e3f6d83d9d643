-- The lines of records, one after another.
use Rattle.std.proofs.Common.{◌≡◌, ◌++◌, ◌∙◌, ℕ, ℤ, List, [], ◌∷◌, Option, Some, None, refl, sym, ap}
use Rattle.std.proofs.lemmas.List.{append-nil, append_assoc}
use Rattle.csv_cells.specs.Encoded.{line_text}
use Rattle.schema.specs.declared.tables.Epochs.{Epochs}
use Rattle.schema.specs.declared.tables.Epochs.TheVariants.{One, By, Every}
use Rattle.tables.specs.Blocks.{last_epoch}
use Rattle.tables.specs.Tables.{AreInOrder, IsLate, epoch_of, head_text, rows_text}
use Rattle.tables.specs.declared.records.Target.{Target}

-- the lines of a record
abbrev pub row_text : Target → Option ℤ → List ℤ → List ℕ
row_text target last zs = head_text target.shared.now last (epoch_of target.epochs zs) ++ line_text target.name.now zs

-- one more record
pub rows-push : (target : Target) (last : Option ℤ) (numbers : List (List ℤ)) (zs : List ℤ)
    → rows_text target last (numbers ++ zs ∷ []) ≡ rows_text target last numbers ++ row_text target (last_epoch target last numbers) zs
unfolding rows_text last_epoch
rows-push target last [] zs = append-nil (row_text target last zs)
rows-push target last (n ∷ numbers) zs = ap (λ t. row_text target last n ++ t) (rows-push target (epoch_of target.epochs n) numbers zs)
    ∙ sym (append_assoc (row_text target last n) (rows_text target (epoch_of target.epochs n) numbers) (row_text target (last_epoch target (epoch_of target.epochs n) numbers) zs))

pub last-push : (target : Target) (last : Option ℤ) (numbers : List (List ℤ)) (zs : List ℤ) → last_epoch target last (numbers ++ zs ∷ []) ≡ epoch_of target.epochs zs
unfolding last_epoch
last-push target last [] zs = refl
last-push target last (n ∷ numbers) zs = last-push target (epoch_of target.epochs n) numbers zs

pub no-rows : (target : Target) (last : Option ℤ) → [] ≡ rows_text target last []
unfolding rows_text
no-rows target last = refl

pub no-epoch : (target : Target) (last : Option ℤ) → last ≡ last_epoch target last []
unfolding last_epoch
no-epoch target last = refl

pub none-ordered : (epochs : Epochs) (last : Option ℤ) → AreInOrder epochs last []
unfolding AreInOrder
none-ordered epochs last = tt

-- one more record that isn't late, and one that is
pub order-push : (target : Target) (last : Option ℤ) (numbers : List (List ℤ)) (zs : List ℤ) → AreInOrder target.epochs last numbers
    → (IsLate (last_epoch target last numbers) (epoch_of target.epochs zs) → ⊥) → AreInOrder target.epochs last (numbers ++ zs ∷ [])
unfolding AreInOrder last_epoch
order-push target last [] zs h ok = (ok, tt)
order-push target last (n ∷ numbers) zs h ok = (h.0, order-push target (epoch_of target.epochs n) numbers zs h.1 ok)

pub late-push : (target : Target) (last : Option ℤ) (numbers : List (List ℤ)) (zs : List ℤ) → IsLate (last_epoch target last numbers) (epoch_of target.epochs zs)
    → AreInOrder target.epochs last (numbers ++ zs ∷ []) → ⊥
unfolding AreInOrder last_epoch
late-push target last [] zs late h = h.0 late
late-push target last (n ∷ numbers) zs late h = late-push target (epoch_of target.epochs n) numbers zs late h.1

-- only by a column is a record late
pub late-by : (epochs : Epochs) (last : Option ℤ) (zs : List ℤ) → IsLate last (epoch_of epochs zs) → (i : ℕ) × (epochs ≡ By i)
late-by One None zs late = absurd late
late-by One (Some y) zs late = absurd late
late-by Every None zs late = absurd late
late-by Every (Some y) zs late = absurd late
late-by (By i) last zs late = (i, refl)

pub now-late : (a b x y : Option ℤ) → a ≡ b → x ≡ y → IsLate b y → IsLate a x
now-late a b x y e f late = rw (e, f) late
