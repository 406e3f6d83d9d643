-- A text is read in one way, or refused for one fault.
use Rattle.std.proofs.Common.{◌≡◌, ◌<◌, ◌≤◌, ◌+◌, ◌∙◌, ◌⊎◌, inl, inr, ℕ, suc, ℤ, List, [], ◌∷◌, ◌++◌, length, Option, Some, None, refl, sym, ap, subst, arith, slice_get}
use Rattle.std.proofs.lemmas.Fmt.{signed_decimal_injective}
use Rattle.decimal.proofs.Numbers.{fits_mag}
use Rattle.record_core.specs.Records.{IsRecord}
use Rattle.semantics.specs.Query.{Input}
use Rattle.collector.specs.InputText.{IsInputText, IsRefused, LinesSay, begun_after, epochs_after, records_in}
use Rattle.collector.specs.Lines.{AreNumbers, HasWords, IsFault, IsInput, Item, Says, code_of}
use Rattle.collector.specs.declared.refusal.Fault.{Fault}
use Rattle.collector.specs.declared.refusal.Fault.TheVariants.{Malformed, TooManyEpochs, NoEpoch, Unknown, BadNumber, WrongFields}
use Rattle.collector.specs.declared.refusal.InputRefusal.TheVariants.{At}

below_or : (a b : ℕ) → (a < b) ⊎ (b ≤ a)
below_or a b = grind arith

pub head_same : {X : Type 0} (x y : X) (xs ys : List X) → x ∷ xs ≡ y ∷ ys → x ≡ y
head_same x y xs ys e = cc

pub tail_same : {X : Type 0} (x y : X) (xs ys : List X) → x ∷ xs ≡ y ∷ ys → xs ≡ ys
tail_same x y xs ys e = cc

pub not_empty : {X : Type 0} (xs ys : List X) (x : X) → [] ≡ xs ++ x ∷ ys → ⊥
not_empty [] ys x e = cc
not_empty (y ∷ xs) ys x e = cc

pub some_append : {X : Type 0} (xs ys : List X) (x : X) → 0 < length (xs ++ x ∷ ys)
some_append [] ys x = omega arith
some_append (y ∷ xs) ys x = omega arith

one_numbers : (words : List (List ℕ)) (ys zs : List ℤ) → AreNumbers words ys → AreNumbers words zs → ys ≡ zs
one_numbers [] [] [] g h = refl
one_numbers [] [] (z ∷ zs) g h = absurd h
one_numbers [] (y ∷ ys) zs g h = absurd g
one_numbers (w ∷ ws) [] zs g h = absurd g
one_numbers (w ∷ ws) (y ∷ ys) [] g h = absurd h
one_numbers (w ∷ ws) (y ∷ ys) (z ∷ zs) g h =
    let same : y ≡ z = signed_decimal_injective y z (fits_mag y g.0.0) (fits_mag z h.0.0) (sym g.0.1 ∙ h.0.1) in
    let rest : ys ≡ zs = one_numbers ws ys zs g.1 h.1 in
    cc

one_input : (inputs : List Input) (name : List ℕ) (i j a b : ℕ) → IsInput inputs name i a → IsInput inputs name j b → i ≡ j
one_input inputs name i j a b g h = by (below_or i j) (below_or j i)
  where
    by : (i < j) ⊎ (j ≤ i) → (j < i) ⊎ (i ≤ j) → i ≡ j
    by (inl l) o = absurd (h.first i (record { name = name; arity = a }) l g.there refl)
    by (inr l) (inl m) = absurd (g.first j (record { name = name; arity = b }) m h.there refl)
    by (inr l) (inr m) = omega (arith, l, m)

arity_or : Option Input → ℕ
arity_or None = 0
arity_or (Some i) = i.arity

one_arity : (inputs : List Input) (name : List ℕ) (i j a b : ℕ) → IsInput inputs name i a → IsInput inputs name j b → a ≡ b
unfolding arity_or
one_arity inputs name i j a b g h =
    let same : i ≡ j = one_input inputs name i j a b g h in
    let there : slice_get inputs j ≡ Some (record { name = name; arity = a }) = subst (λ k. slice_get inputs k ≡ Some (record { name = name; arity = a })) same g.there in
    ap arity_or (sym there ∙ h.there)

first_same : (line f g : List ℕ) (r s : List (List ℕ)) → HasWords line f r → HasWords line g s → f ≡ g
first_same line f g r s a b = head_same f g r s (sym a.words ∙ b.words)

rest_same : (line f g : List ℕ) (r s : List (List ℕ)) → HasWords line f r → HasWords line g s → r ≡ s
rest_same line f g r s a b = tail_same f g r s (sym a.words ∙ b.words)

-- a line says at most one item
one_item : (inputs : List Input) (e : ℕ) (line : List ℕ) (x y : Item) → Says inputs e line x → Says inputs e line y → x ≡ y
one_item inputs e line Item.epoch Item.epoch g h = refl
one_item inputs e line Item.epoch (Item.row j ys) g h = absurd (h.2.other g.0)
one_item inputs e line (Item.row i xs) Item.epoch g h = absurd (g.2.other h.0)
one_item inputs e line (Item.row i xs) (Item.row j ys) g h =
    let first : g.0 ≡ h.0 = first_same line g.0 h.0 g.1 h.1 g.2 h.2 in
    let rest : g.1 ≡ h.1 = rest_same line g.0 h.0 g.1 h.1 g.2 h.2 in
    let numbers : xs ≡ ys = one_numbers h.1 xs ys (subst (λ ws. AreNumbers ws xs) rest g.6) h.6 in
    let input : i ≡ j = one_input inputs h.0 i j (length xs) (length ys) (subst (λ n. IsInput inputs n i (length xs)) first g.4) h.4 in
    cc

-- ---- faults

-- a line that says an item has no fault
said_sound : (inputs : List Input) (e : ℕ) (line : List ℕ) (x : Item) (f : Fault) → Says inputs e line x → IsFault inputs e line f → ⊥
said_sound inputs e line Item.epoch TooManyEpochs g h = let a = g.1 in let b = h.1 in omega (arith, a, b)
said_sound inputs e line Item.epoch Malformed g h = h.0 g.0
said_sound inputs e line Item.epoch NoEpoch g h = h.2.other g.0
said_sound inputs e line Item.epoch Unknown g h = h.2.other g.0
said_sound inputs e line Item.epoch BadNumber g h = h.2.other g.0
said_sound inputs e line Item.epoch WrongFields g h = h.2.other g.0
said_sound inputs e line (Item.row i xs) TooManyEpochs g h = g.2.other h.0
said_sound inputs e line (Item.row i xs) Malformed g h = h.1 g.0 g.1 g.2
said_sound inputs e line (Item.row i xs) NoEpoch g h = let a = g.3 in let b = h.3 in omega (arith, a, b)
said_sound inputs e line (Item.row i xs) Unknown g h = h.4.none i (record { name = g.0; arity = length xs }) g.4.there (first_same line g.0 h.0 g.1 h.1 g.2 h.2)
said_sound inputs e line (Item.row i xs) BadNumber g h = h.7 xs (subst (λ ws. AreNumbers ws xs) (rest_same line g.0 h.0 g.1 h.1 g.2 h.2) g.6)
said_sound inputs e line (Item.row i xs) WrongFields g h =
    let first : g.0 ≡ h.0 = first_same line g.0 h.0 g.1 h.1 g.2 h.2 in
    let rest : g.1 ≡ h.1 = rest_same line g.0 h.0 g.1 h.1 g.2 h.2 in
    let numbers : xs ≡ h.7 = one_numbers h.1 xs h.7 (subst (λ ws. AreNumbers ws xs) rest g.6) h.8 in
    let arity : length xs ≡ h.5 = one_arity inputs h.0 i h.4 (length xs) h.5 (subst (λ n. IsInput inputs n i (length xs)) first g.4) h.6 in
    h.9 (sym (ap length numbers) ∙ arity, subst IsRecord numbers g.5)

-- a fault that comes before another excludes it
one_fault : (inputs : List Input) (e : ℕ) (line : List ℕ) (f k : Fault) → IsFault inputs e line f → IsFault inputs e line k → f ≡ k
one_fault inputs e line TooManyEpochs TooManyEpochs g h = refl
one_fault inputs e line TooManyEpochs Malformed g h = absurd (h.0 g.0)
one_fault inputs e line TooManyEpochs NoEpoch g h = absurd (h.2.other g.0)
one_fault inputs e line TooManyEpochs Unknown g h = absurd (h.2.other g.0)
one_fault inputs e line TooManyEpochs BadNumber g h = absurd (h.2.other g.0)
one_fault inputs e line TooManyEpochs WrongFields g h = absurd (h.2.other g.0)
one_fault inputs e line Malformed TooManyEpochs g h = absurd (g.0 h.0)
one_fault inputs e line Malformed Malformed g h = refl
one_fault inputs e line Malformed NoEpoch g h = absurd (g.1 h.0 h.1 h.2)
one_fault inputs e line Malformed Unknown g h = absurd (g.1 h.0 h.1 h.2)
one_fault inputs e line Malformed BadNumber g h = absurd (g.1 h.0 h.1 h.2)
one_fault inputs e line Malformed WrongFields g h = absurd (g.1 h.0 h.1 h.2)
one_fault inputs e line NoEpoch TooManyEpochs g h = absurd (g.2.other h.0)
one_fault inputs e line NoEpoch Malformed g h = absurd (h.1 g.0 g.1 g.2)
one_fault inputs e line NoEpoch NoEpoch g h = refl
one_fault inputs e line NoEpoch Unknown g h = absurd (let a = g.3 in let b = h.3 in omega (arith, a, b))
one_fault inputs e line NoEpoch BadNumber g h = absurd (let a = g.3 in let b = h.3 in omega (arith, a, b))
one_fault inputs e line NoEpoch WrongFields g h = absurd (let a = g.3 in let b = h.3 in omega (arith, a, b))
one_fault inputs e line Unknown TooManyEpochs g h = absurd (g.2.other h.0)
one_fault inputs e line Unknown Malformed g h = absurd (h.1 g.0 g.1 g.2)
one_fault inputs e line Unknown NoEpoch g h = absurd (let a = h.3 in let b = g.3 in omega (arith, a, b))
one_fault inputs e line Unknown Unknown g h = refl
one_fault inputs e line Unknown BadNumber g h = absurd (g.4.none h.4 (record { name = h.0; arity = h.5 }) h.6.there (first_same line h.0 g.0 h.1 g.1 h.2 g.2))
one_fault inputs e line Unknown WrongFields g h = absurd (g.4.none h.4 (record { name = h.0; arity = h.5 }) h.6.there (first_same line h.0 g.0 h.1 g.1 h.2 g.2))
one_fault inputs e line BadNumber TooManyEpochs g h = absurd (g.2.other h.0)
one_fault inputs e line BadNumber Malformed g h = absurd (h.1 g.0 g.1 g.2)
one_fault inputs e line BadNumber NoEpoch g h = absurd (let a = h.3 in let b = g.3 in omega (arith, a, b))
one_fault inputs e line BadNumber Unknown g h = absurd (h.4.none g.4 (record { name = g.0; arity = g.5 }) g.6.there (first_same line g.0 h.0 g.1 h.1 g.2 h.2))
one_fault inputs e line BadNumber BadNumber g h = refl
one_fault inputs e line BadNumber WrongFields g h = absurd (g.7 h.7 (subst (λ ws. AreNumbers ws h.7) (rest_same line h.0 g.0 h.1 g.1 h.2 g.2) h.8))
one_fault inputs e line WrongFields TooManyEpochs g h = absurd (g.2.other h.0)
one_fault inputs e line WrongFields Malformed g h = absurd (h.1 g.0 g.1 g.2)
one_fault inputs e line WrongFields NoEpoch g h = absurd (let a = h.3 in let b = g.3 in omega (arith, a, b))
one_fault inputs e line WrongFields Unknown g h = absurd (h.4.none g.4 (record { name = g.0; arity = g.5 }) g.6.there (first_same line g.0 h.0 g.1 h.1 g.2 h.2))
one_fault inputs e line WrongFields BadNumber g h = absurd (h.7 g.7 (subst (λ ws. AreNumbers ws g.7) (rest_same line g.0 h.0 g.1 h.1 g.2 h.2) g.8))
one_fault inputs e line WrongFields WrongFields g h = refl

-- ---- lines

one_reading : (inputs : List Input) (e : ℕ) (lines : List (List ℕ)) (xs ys : List Item) → LinesSay inputs e lines xs → LinesSay inputs e lines ys → xs ≡ ys
one_reading inputs e [] [] [] g h = refl
one_reading inputs e [] [] (y ∷ ys) g h = absurd h
one_reading inputs e [] (x ∷ xs) ys g h = absurd g
one_reading inputs e (l ∷ ls) [] ys g h = absurd g
one_reading inputs e (l ∷ ls) (x ∷ xs) [] g h = absurd h
one_reading inputs e (l ∷ ls) (x ∷ xs) (y ∷ ys) g h =
    let same : x ≡ y = one_item inputs e l x y g.0 h.0 in
    let rest : xs ≡ ys = one_reading inputs (begun_after e y) ls xs ys (subst (λ i. LinesSay inputs (begun_after e i) ls xs) same g.1) h.1 in
    cc

-- the lines but the last, which is empty
pub front_same : (xs ys : List (List ℕ)) → xs ++ [] ∷ [] ≡ ys ++ [] ∷ [] → xs ≡ ys
front_same [] [] e = refl
front_same [] (y ∷ ys) e = absurd (not_empty ys [] [] (tail_same [] y [] (ys ++ [] ∷ []) e))
front_same (x ∷ xs) [] e = absurd (not_empty xs [] [] (sym (tail_same x [] (xs ++ [] ∷ []) [] e)))
front_same (x ∷ xs) (y ∷ ys) e =
    let first : x ≡ y = head_same x y (xs ++ [] ∷ []) (ys ++ [] ∷ []) e in
    let rest : xs ≡ ys = front_same xs ys (tail_same x y (xs ++ [] ∷ []) (ys ++ [] ∷ []) e) in
    cc

-- a refusal is right about its line, after that many epochs have begun
abbrev Faulty : List Input → ℕ → List ℕ → List (List ℕ) → ℕ → Type 0
Faulty inputs e line rest code = ((code ≡ 43) × (0 < length line) × (rest ≡ [])) ⊎ ((fault : Fault) × (code ≡ code_of fault) × (0 < length rest) × IsFault inputs e line fault)

pub none_after : (rest : List (List ℕ)) → rest ≡ [] → 0 < length rest → ⊥
none_after rest e l = let n : length rest ≡ 0 = ap length e in omega (arith, n, l)

-- if the only line is empty, there are no bytes
pub none_in : (line : List ℕ) (rest : List (List ℕ)) → [] ∷ [] ≡ line ∷ rest → 0 < length line → ⊥
none_in line rest e l = let n : 0 ≡ length line = ap length (head_same [] line [] rest e) in omega (arith, n, l)

one_code : (inputs : List Input) (e : ℕ) (line : List ℕ) (rest : List (List ℕ)) (c d : ℕ) → Faulty inputs e line rest c → Faulty inputs e line rest d → c ≡ d
one_code inputs e line rest c d (inl g) (inl h) = g.0 ∙ sym h.0
one_code inputs e line rest c d (inl g) (inr h) = absurd (none_after rest g.2 h.2)
one_code inputs e line rest c d (inr g) (inl h) = absurd (none_after rest h.2 g.2)
one_code inputs e line rest c d (inr g) (inr h) = g.1 ∙ ap code_of (one_fault inputs e line g.0 h.0 g.3 h.3) ∙ sym h.1

-- a line that says an item and isn't the last isn't faulty
said_faulty : (inputs : List Input) (e : ℕ) (line : List ℕ) (rest : List (List ℕ)) (c : ℕ) (x : Item) → Says inputs e line x → 0 < length rest → Faulty inputs e line rest c → ⊥
said_faulty inputs e line rest c x g l (inl h) = none_after rest h.2 l
said_faulty inputs e line rest c x g l (inr h) = said_sound inputs e line x h.0 g h.3

-- if some lines say items and the next is faulty, that can be seen in one way only
one_stop : (inputs : List Input) (e : ℕ) (bs : List (List ℕ)) (xs : List Item) (k : List ℕ) (r : List (List ℕ)) (c : ℕ) (ds : List (List ℕ)) (ys : List Item) (l : List ℕ) (s : List (List ℕ)) (d : ℕ)
    → LinesSay inputs e bs xs → LinesSay inputs e ds ys → bs ++ k ∷ r ≡ ds ++ l ∷ s → Faulty inputs (epochs_after e xs) k r c → Faulty inputs (epochs_after e ys) l s d → (length bs ≡ length ds) × (c ≡ d)
one_stop inputs e [] [] k r c [] [] l s d g h is f t =
    let line : k ≡ l = head_same k l r s is in
    let rest : r ≡ s = tail_same k l r s is in
    (refl, one_code inputs e l s c d (subst (λ z. Faulty inputs e l z c) rest (subst (λ z. Faulty inputs e z r c) line f)) t)
one_stop inputs e [] [] k r c (b ∷ ds) (y ∷ ys) l s d g h is f t =
    let line : k ≡ b = head_same k b r (ds ++ l ∷ s) is in
    let rest : r ≡ ds ++ l ∷ s = tail_same k b r (ds ++ l ∷ s) is in
    absurd (said_faulty inputs e b r c y h.0 (subst (λ z. 0 < length z) (sym rest) (some_append ds s l)) (subst (λ z. Faulty inputs e z r c) line f))
one_stop inputs e (b ∷ bs) (x ∷ xs) k r c [] [] l s d g h is f t =
    let line : b ≡ l = head_same b l (bs ++ k ∷ r) s is in
    let rest : bs ++ k ∷ r ≡ s = tail_same b l (bs ++ k ∷ r) s is in
    absurd (said_faulty inputs e b s d x g.0 (subst (λ z. 0 < length z) rest (some_append bs r k)) (subst (λ z. Faulty inputs e z s d) (sym line) t))
one_stop inputs e (a ∷ bs) (x ∷ xs) k r c (b ∷ ds) (y ∷ ys) l s d g h is f t =
    let first : a ≡ b = head_same a b (bs ++ k ∷ r) (ds ++ l ∷ s) is in
    let same : x ≡ y = one_item inputs e b x y (subst (λ z. Says inputs e z x) first g.0) h.0 in
    let more = one_stop inputs (begun_after e y) bs xs k r c ds ys l s d (subst (λ i. LinesSay inputs (begun_after e i) bs xs) same g.1) h.1 (tail_same a b (bs ++ k ∷ r) (ds ++ l ∷ s) is) (subst (λ i. Faulty inputs (epochs_after (begun_after e i) xs) k r c) same f) t in
    (ap suc more.0, more.1)
one_stop inputs e [] (x ∷ xs) k r c ds ys l s d g h is f t = absurd g
one_stop inputs e (b ∷ bs) [] k r c ds ys l s d g h is f t = absurd g
one_stop inputs e bs xs k r c [] (y ∷ ys) l s d g h is f t = absurd h
one_stop inputs e bs xs k r c (b ∷ ds) [] l s d g h is f t = absurd h

-- lines that say items, up to the empty one after the last line feed, have no faulty one
none_faulty : (inputs : List Input) (e : ℕ) (ls : List (List ℕ)) (xs : List Item) (bs : List (List ℕ)) (ys : List Item) (k : List ℕ) (r : List (List ℕ)) (c : ℕ)
    → LinesSay inputs e ls xs → LinesSay inputs e bs ys → ls ++ [] ∷ [] ≡ bs ++ k ∷ r → Faulty inputs (epochs_after e ys) k r c → ⊥
none_faulty inputs e [] [] [] [] k r c g h is (inl f) = none_in k r is f.1
none_faulty inputs e [] [] [] [] k r c g h is (inr f) = none_after r (sym (tail_same [] k [] r is)) f.2
none_faulty inputs e [] [] (b ∷ bs) (y ∷ ys) k r c g h is f = not_empty bs r k (tail_same [] b [] (bs ++ k ∷ r) is)
none_faulty inputs e (l ∷ ls) (x ∷ xs) [] [] k r c g h is f =
    let line : l ≡ k = head_same l k (ls ++ [] ∷ []) r is in
    let rest : ls ++ [] ∷ [] ≡ r = tail_same l k (ls ++ [] ∷ []) r is in
    said_faulty inputs e l r c x g.0 (subst (λ z. 0 < length z) rest (some_append ls [] [])) (subst (λ z. Faulty inputs e z r c) (sym line) f)
none_faulty inputs e (l ∷ ls) (x ∷ xs) (b ∷ bs) (y ∷ ys) k r c g h is f =
    let first : l ≡ b = head_same l b (ls ++ [] ∷ []) (bs ++ k ∷ r) is in
    let same : x ≡ y = one_item inputs e b x y (subst (λ z. Says inputs e z x) first g.0) h.0 in
    none_faulty inputs (begun_after e y) ls xs bs ys k r c (subst (λ i. LinesSay inputs (begun_after e i) ls xs) same g.1) h.1 (tail_same l b (ls ++ [] ∷ []) (bs ++ k ∷ r) is) f
none_faulty inputs e [] (x ∷ xs) bs ys k r c g h is f = absurd g
none_faulty inputs e (l ∷ ls) [] bs ys k r c g h is f = absurd g
none_faulty inputs e ls xs [] (y ∷ ys) k r c g h is f = absurd h
none_faulty inputs e ls xs (b ∷ bs) [] k r c g h is f = absurd h

-- ---- texts

pub one_text : (inputs : List Input) (text : List ℕ) (m n : ℕ) (r s : ℕ → ℕ → List (List ℤ)) → IsInputText inputs text m r → IsInputText inputs text n s → (m ≡ n) × ((epoch input : ℕ) → r epoch input ≡ s epoch input)
one_text inputs text m n r s g h =
    let lines : g.lines ≡ h.lines = front_same g.lines h.lines (sym g.parts ∙ h.parts) in
    let items : g.items ≡ h.items = one_reading inputs 0 h.lines g.items h.items (subst (λ ls. LinesSay inputs 0 ls g.items) lines g.said) h.said in
    (g.epochs ∙ ap (epochs_after 0) items ∙ sym h.epochs, λ epoch input. g.holds epoch input ∙ ap (records_in epoch input 0) items ∙ sym (h.holds epoch input))

pub apart : (inputs : List Input) (text : List ℕ) (m : ℕ) (r : ℕ → ℕ → List (List ℤ)) (code line : ℕ) → IsInputText inputs text m r → IsRefused inputs text (At code line) → ⊥
apart inputs text m r code line g h = none_faulty inputs 0 g.lines g.items h.0 h.1 h.4 h.5 code g.said h.2 (sym g.parts ∙ h.6) h.7

pub one_refusal : (inputs : List Input) (text : List ℕ) (code line other place : ℕ) → IsRefused inputs text (At code line) → IsRefused inputs text (At other place) → (code ≡ other) × (line ≡ place)
one_refusal inputs text code line other place g h =
    let same = one_stop inputs 0 g.0 g.1 g.4 g.5 code h.0 h.1 h.4 h.5 other g.2 h.2 (sym g.6 ∙ h.6) g.7 h.7 in
    (same.1, g.3 ∙ ap (λ k. k + 1) same.0 ∙ sym h.3)
