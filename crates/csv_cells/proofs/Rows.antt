-- Fields of a list that grows.
use Rattle.std.proofs.Common.{◌≡◌, ◌<◌, ◌+◌, ℕ, ℤ, pos, negsuc, zero, suc, List, [], ◌∷◌, ◌++◌, length, Option, Some, None, refl, sym, ◌∙◌, ap, subst, arith, slice_get, get_or, inl, inr, IfSome, FitsSigned, w64}
use Rattle.std.proofs.lemmas.Bool.{cases_lt}
use Rattle.std.proofs.lemmas.List.{get_or_append_left, ext_get_or}
use Rattle.std.proofs.Math.Seq.{get_or-append_seam}
use Rattle.std.proofs.lemmas.List.{append-nil, append_assoc}
use Rattle.csv.specs.Records.{field_at}
use Rattle.csv.specs.Reading.{Reached, default_config}
use Rattle.text_dictionary.specs.Texts.{Grows, IsAdded}
use Rattle.csv_cells.specs.Cells.{Spells, Stands, StandsAs, StandsWith, plain}
use Rattle.csv_cells.specs.Encoded.{SpellsAll, lines_text, line_text, numbers_text}
use Rattle.scalar_texts.proofs.OneText.{date-once}
use Rattle.text_dictionary.proofs.Places.{get-kept}
use Rattle.std.specs.Fmt.{signed_decimal}
use Rattle.csv_cells.specs.declared.column.Column.{Column}
use Rattle.csv_cells.specs.declared.column.Empty.{Empty}
use Rattle.csv_cells.specs.declared.column.Empty.TheVariants.{Refused, Kept, Number}
use Rattle.csv_cells.specs.declared.column.Kind.{Kind}
use Rattle.csv_cells.specs.declared.column.Kind.TheVariants.{Int, Decimal, Date, Time, Text}

pub field-same : (fs : List (List ℕ)) (j : ℕ) → field_at fs j ≡ slice_get fs j
unfolding field_at
field-same [] j = refl
field-same (f ∷ fs) zero = refl
field-same (f ∷ fs) (suc j) = field-same fs j

-- a number that stands for a text does so under any later dictionary
pub kind-kept : (k : Kind) (old more : List (List ℕ)) (z : ℤ) (f : List ℕ) → Stands k old z f → Stands k (old ++ more) z f
kind-kept Int old more z f h = h
kind-kept (Decimal places) old more z f h = h
kind-kept Date old more z f h = h
kind-kept Time old more z f h = h
kind-kept Text old more (pos n) f h = get-kept old more n f h
kind-kept Text old more (negsuc n) f h = h

with-kept : (e : Empty) (k : Kind) (old more : List (List ℕ)) (z : ℤ) (f : List ℕ) → StandsWith e k old z f → StandsWith e k (old ++ more) z f
with-kept Refused k old more z f h = (h.0, kind-kept k old more z f h.1)
with-kept Kept k old more z f h = kind-kept k old more z f h
with-kept (Number n) k old more z f (inl h) = inl h
with-kept (Number n) k old more z f (inr h) = inr (h.0, h.1, kind-kept k old more z f h.2)

pub cell-kept : (c : Column) (old more : List (List ℕ)) (z : ℤ) (f : List ℕ) → StandsAs c old z f → StandsAs c (old ++ more) z f
cell-kept c old more z f h = with-kept c.empty c.kind old more z f h

pub some-once : (f g : List ℕ) → Some f ≡ Some g → f ≡ g
some-once f g e = cc e

-- in a column a number stands for one text
kind-once : (k : Kind) (texts : List (List ℕ)) (z : ℤ) (f g : List ℕ) → Stands k texts z f → Stands k texts z g → f ≡ g
kind-once Int texts z f g a b = a ∙ sym b
kind-once (Decimal places) texts z f g a b = sym a ∙ b
kind-once Date texts z f g a b = date-once z f g a b
kind-once Time texts z f g a b = some-once f g (sym a ∙ b)
kind-once Text texts z f g a b = some-once f g (sym a ∙ b)

with-once : (e : Empty) (k : Kind) (texts : List (List ℕ)) (z : ℤ) (f g : List ℕ) → StandsWith e k texts z f → StandsWith e k texts z g → f ≡ g
with-once Refused k texts z f g a b = kind-once k texts z f g a.1 b.1
with-once Kept k texts z f g a b = kind-once k texts z f g a b
with-once (Number n) k texts z f g (inl a) (inl b) = a.1 ∙ sym b.1
with-once (Number n) k texts z f g (inl a) (inr b) = absurd (b.0 a.0)
with-once (Number n) k texts z f g (inr a) (inl b) = absurd (a.0 b.0)
with-once (Number n) k texts z f g (inr a) (inr b) = kind-once k texts z f g a.2 b.2

pub stands-once : (c : Column) (texts : List (List ℕ)) (z : ℤ) (f g : List ℕ) → StandsAs c texts z f → StandsAs c texts z g → f ≡ g
stands-once c texts z f g a b = with-once c.empty c.kind texts z f g a b

-- one more cell
pub cells-push : (columns : List Column) (texts : List (List ℕ)) (zs : List ℤ) (fs : List (List ℕ)) (f : List ℕ) (n : ℕ) → length fs ≡ n
    → ((j : ℕ) → j < n → StandsAs (get_or columns j plain) texts (get_or zs j (pos 0)) (get_or fs j []))
    → StandsAs (get_or columns n plain) texts (get_or zs n (pos 0)) f
    → (j : ℕ) → j < n + 1 → StandsAs (get_or columns j plain) texts (get_or zs j (pos 0)) (get_or (fs ++ f ∷ []) j [])
cells-push columns texts zs fs f n same old new j below = elim (cases_lt j n) [
  | inl under ↦
      let read : get_or (fs ++ f ∷ []) j [] ≡ get_or fs j [] = get_or_append_left fs (f ∷ []) [] j (omega (arith, same, under)) in
      rw read (old j under)
  | inr over ↦
      let at : j ≡ length fs = omega (arith, same, below, over) in
      let at_n : n ≡ length fs = omega (arith, same) in
      let it : StandsAs (get_or columns (length fs) plain) texts (get_or zs (length fs) (pos 0)) f = rw at_n at new in
      let read : get_or (fs ++ f ∷ []) (length fs) [] ≡ f = get_or-append_seam fs f [] [] in
      rw (at, read) it
]

-- one more number, after the dictionary grew
pub numbers-push : (columns : List Column) (old more : List (List ℕ)) (zs : List ℤ) (fs : List (List ℕ)) (z : ℤ) (n : ℕ) → length zs ≡ n
    → ((j : ℕ) → j < n → StandsAs (get_or columns j plain) old (get_or zs j (pos 0)) (get_or fs j []))
    → StandsAs (get_or columns n plain) (old ++ more) z (get_or fs n [])
    → (j : ℕ) → j < n + 1 → StandsAs (get_or columns j plain) (old ++ more) (get_or (zs ++ z ∷ []) j (pos 0)) (get_or fs j [])
numbers-push columns old more zs fs z n same known new j below = elim (cases_lt j n) [
  | inl under ↦
      let kept = cell-kept (get_or columns j plain) old more (get_or zs j (pos 0)) (get_or fs j []) (known j under) in
      let read : get_or (zs ++ z ∷ []) j (pos 0) ≡ get_or zs j (pos 0) = get_or_append_left zs (z ∷ []) (pos 0) j (omega (arith, same, under)) in
      rw read kept
  | inr over ↦
      let at : j ≡ length zs = omega (arith, same, below, over) in
      let at_n : n ≡ length zs = omega (arith, same) in
      let it : StandsAs (get_or columns (length zs) plain) (old ++ more) z (get_or fs (length zs) []) = rw at_n at new in
      let read : get_or (zs ++ z ∷ []) (length zs) (pos 0) ≡ z = get_or-append_seam zs z [] (pos 0) in
      rw (at, read) it
]

-- one more number of 64 bits
pub fits-push : (zs : List ℤ) (z : ℤ) (n : ℕ) → length zs ≡ n → ((j : ℕ) → j < n → FitsSigned w64 (get_or zs j (pos 0))) → FitsSigned w64 z
    → (j : ℕ) → j < n + 1 → FitsSigned w64 (get_or (zs ++ z ∷ []) j (pos 0))
fits-push zs z n same old new j below = elim (cases_lt j n) [
  | inl under ↦
      let read : get_or (zs ++ z ∷ []) j (pos 0) ≡ get_or zs j (pos 0) = get_or_append_left zs (z ∷ []) (pos 0) j (omega (arith, same, under)) in
      subst (λ (x : ℤ). FitsSigned w64 x) (sym read) (old j under)
  | inr over ↦
      let at : j ≡ length zs = omega (arith, same, below, over) in
      let read : get_or (zs ++ z ∷ []) j (pos 0) ≡ z = ap (λ (k : ℕ). get_or (zs ++ z ∷ []) k (pos 0)) at ∙ get_or-append_seam zs z [] (pos 0) in
      subst (λ (x : ℤ). FitsSigned w64 x) (sym read) new
]

-- what was added grows
pub added-grows : (text : List ℕ) (old new : List (List ℕ)) → IsAdded text old new → Grows old new
added-grows text old new (inl a) = ([], a.1 ∙ sym (append-nil old))
added-grows text old new (inr a) = (text ∷ [], a.1)

-- growth after growth
pub grown-twice : (a b c : List (List ℕ)) → Grows a b → Grows b c → Grows a c
grown-twice a b c p q = (p.0 ++ q.0, q.1 ∙ ap (λ x. x ++ q.0) p.1 ∙ append_assoc a p.0 q.0)

-- the law: the numbers of a row stand for that row and no other
pub spelled-once : (columns : List Column) (texts fs gs : List (List ℕ)) (zs : List ℤ) → Spells columns texts fs zs → Spells columns texts gs zs → fs ≡ gs
spelled-once columns texts fs gs zs a b = ext_get_or [] fs gs (a.wide ∙ sym b.wide)
    (λ j below. stands-once (get_or columns j plain) texts (get_or zs j (pos 0)) (get_or fs j []) (get_or gs j [])
    (a.stands j (omega (arith, a.wide, below))) (b.stands j (omega (arith, a.wide, below))))

pub if-some : {T : Type 0} (o : Option T) (P Q : T → Type 0) → ((x : T) → P x → Q x) → IfSome o P → IfSome o Q
if-some None P Q f h = h
if-some (Some x) P Q f h = f x h

-- a row that is spelled stays so as the dictionary grows
pub spells-kept : (columns : List Column) (old more fs : List (List ℕ)) (zs : List ℤ) → Spells columns old fs zs → Spells columns (old ++ more) fs zs
spells-kept columns old more fs zs s = record {
  counted = s.counted;
  wide = s.wide;
  fit = s.fit;
  stands = λ j below. cell-kept (get_or columns j plain) old more (get_or zs j (pos 0)) (get_or fs j []) (s.stands j below);
}

-- one more row
pub all-push : (columns : List Column) (old more : List (List ℕ)) (rows : List (List (List ℕ))) (numbers : List (List ℤ)) (fs : List (List ℕ)) (zs : List ℤ)
    → SpellsAll columns old rows numbers → Spells columns (old ++ more) fs zs → SpellsAll columns (old ++ more) (rows ++ fs ∷ []) (numbers ++ zs ∷ [])
unfolding SpellsAll
all-push columns old more [] [] fs zs done new = (new, tt)
all-push columns old more [] (n ∷ numbers) fs zs done new = absurd done
all-push columns old more (r ∷ rows) [] fs zs done new = absurd done
all-push columns old more (r ∷ rows) (n ∷ numbers) fs zs done new = (spells-kept columns old more r n done.0, all-push columns old more rows numbers fs zs done.1 new)

-- one more line
pub lines-push : (name : List ℕ) (numbers : List (List ℤ)) (zs : List ℤ) → lines_text name (numbers ++ zs ∷ []) ≡ lines_text name numbers ++ line_text name zs
unfolding lines_text
lines-push name [] zs = append-nil (line_text name zs)
lines-push name (n ∷ numbers) zs = ap (λ t. line_text name n ++ t) (lines-push name numbers zs) ∙ sym (append_assoc (line_text name n) (lines_text name numbers) (line_text name zs))

-- one more number of a line
pub line-step : (rest : List ℤ) (z : ℤ) (text : List ℕ) → text ++ numbers_text (z ∷ rest) ≡ (text ++ 32 ∷ signed_decimal z) ++ numbers_text rest
unfolding numbers_text
line-step rest z text = sym (append_assoc text (32 ∷ signed_decimal z) (numbers_text rest))

pub line-end : (text : List ℕ) → text ++ numbers_text [] ≡ text ++ 10 ∷ []
unfolding numbers_text
line-end text = refl

-- no rows read yet
pub none-reached : (s : _) (xs : List ℕ) → Reached default_config s xs [] s xs
unfolding Reached
none-reached s xs = (refl, refl)

-- no rows, and no lines
pub none-spelled : (columns : List Column) (texts : List (List ℕ)) → SpellsAll columns texts [] []
unfolding SpellsAll
none-spelled columns texts = tt

pub no-lines : (name : List ℕ) → [] ≡ lines_text name []
unfolding lines_text
no-lines name = refl

-- in a column whose empty cells are a number, only that one stands for an empty cell
pub number-empty : (k : Kind) (texts : List (List ℕ)) (n z : ℤ) (cell : List ℕ) → length cell ≡ 0 → StandsWith (Number n) k texts z cell → n ≡ z
number-empty k texts n z cell empty (inl h) = sym h.0
number-empty k texts n z [] empty (inr h) = absurd (h.1 refl)
number-empty k texts n z (b ∷ bs) empty (inr h) = absurd (omega (arith, empty))

-- a record has a field at each of its places
pub no-field : (fs : List (List ℕ)) (i : ℕ) → i < length fs → slice_get fs i ≡ None → ⊥
no-field [] i below h = omega (arith, below)
no-field (f ∷ fs) zero below h = cc h
no-field (f ∷ fs) (suc i) below h = no-field fs i (omega (arith, below)) h
