-- The parts of a text, read by themselves, are what the text says.
use Rattle.std.proofs.Common.{◌≡◌, ◌<◌, ◌≤◌, ◌+◌, ◌-◌, ◌∙◌, ℕ, zero, suc, ℤ, List, [], ◌∷◌, ◌++◌, length, Bool, true, false, cond, refl, sym, ap, subst, arith, append_assoc, append-nil, inl, inr, get_or, map}
use Rattle.std.specs.Prelude.{◌==◌, ◌&&◌, nat_lt}
use Rattle.std.specs.List.{AllZip, onto_first, remove}
use Rattle.std.proofs.lemmas.Bool.Decides.{eqb_tells, leb_tells}
use Rattle.std.proofs.lemmas.List.{length-append, map-append}
use Rattle.std.proofs.lemmas.List.Splits.{length-slice_split}
use Rattle.semantics.specs.Multiset.{◌≈◌}
use Rattle.semantics.specs.Query.{Input}
use Rattle.semantics.proofs.MultisetSums.{append_same, ≈-from, ≈-trans}
use Rattle.collector.specs.InputText.{IsReadFrom, LinesSay, begun_after, epochs_after, records_in}
use Rattle.collector.specs.Lines.{Item, Says, max_epochs}
use Rattle.collector.specs.Parts.{Appends, IsPart, Stitches, together}
use Rattle.collector.specs.Pieces.{split_on}
use Rattle.collector.specs.ReadEpochs.{epoch_count, records_at}
use Rattle.collector.specs.declared.epochs.Epochs.{Epochs}

abbrev pub Records : Type 0
Records = List (List ℤ)

-- ---- the lines of two texts

split_step : (x : ℕ) (b : Bool) (s t u : List (List ℕ)) → ((ls : List (List ℕ)) → s ≡ ls ++ [] ∷ [] → t ≡ ls ++ u) → 0 < length s
    → (ls : List (List ℕ)) → cond b ([] ∷ s) (onto_first x s) ≡ ls ++ [] ∷ [] → cond b ([] ∷ t) (onto_first x t) ≡ ls ++ u
split_step x true s t u more some [] e = let none : s ≡ [] = cc in let len = ap length none in absurd (let no : ⊥ = omega (arith, len, some) in no)
split_step x true s t u more some (l ∷ ls) e =
    let first : l ≡ [] = cc in
    let rest : s ≡ ls ++ [] ∷ [] = cc in
    ap (λ (ms : List (List ℕ)). [] ∷ ms) (more ls rest) ∙ ap (λ (m : List ℕ). m ∷ (ls ++ u)) (sym first)
split_step x false [] t u more some ls e = absurd (let no : ⊥ = omega (arith, some) in no)
split_step x false (m ∷ ms) t u more some [] e = absurd cc
split_step x false (m ∷ ms) t u more some (l ∷ ls) e =
    let first : x ∷ m ≡ l = cc in
    let rest : ms ≡ ls ++ [] ∷ [] = cc in
    ap (onto_first x) (more (m ∷ ls) (ap (λ (ks : List (List ℕ)). m ∷ ks) rest)) ∙ ap (λ (k : List ℕ). k ∷ (ls ++ u)) first

pub split_behind : (xs ys : List ℕ) (ls : List (List ℕ)) → split_on 10 xs ≡ ls ++ [] ∷ [] → split_on 10 (xs ++ ys) ≡ ls ++ split_on 10 ys
split_behind [] ys [] e = refl
split_behind [] ys (l ∷ ls) e =
    let rest : [] ≡ ls ++ [] ∷ [] = cc in
    absurd (let no : ⊥ = omega (arith, ap length rest, length-append ls ([] ∷ [])) in no)
split_behind (x ∷ xs) ys ls e =
    split_step x (x == 10) (split_on 10 xs) (split_on 10 (xs ++ ys)) (split_on 10 ys) (split_behind xs ys) (omega (arith, length-slice_split (λ b. b == 10) xs)) ls e

-- ---- the items of two texts

pub said_behind : (inputs : List Input) (begun : ℕ) (ls : List (List ℕ)) (is : List Item) (ms : List (List ℕ)) (js : List Item)
    → LinesSay inputs begun ls is → LinesSay inputs (epochs_after begun is) ms js → LinesSay inputs begun (ls ++ ms) (is ++ js)
said_behind inputs begun [] [] ms js h g = g
said_behind inputs begun [] (i ∷ is) ms js h g = absurd h
said_behind inputs begun (l ∷ ls) [] ms js h g = absurd h
said_behind inputs begun (l ∷ ls) (i ∷ is) ms js h g = (h.0, said_behind inputs (begun_after begun i) ls is ms js h.1 g)

pub epochs_behind : (begun : ℕ) (is js : List Item) → epochs_after begun (is ++ js) ≡ epochs_after (epochs_after begun is) js
epochs_behind begun [] js = refl
epochs_behind begun (i ∷ is) js = epochs_behind (begun_after begun i) is js

cond_behind : (b : Bool) (z : List ℤ) (rs ss all : Records) → all ≡ rs ++ ss → cond b (z ∷ all) all ≡ cond b (z ∷ rs) rs ++ ss
cond_behind true z rs ss all e = ap (λ (xs : Records). z ∷ xs) e
cond_behind false z rs ss all e = e

pub records_behind : (epoch input begun : ℕ) (is js : List Item)
    → records_in epoch input begun (is ++ js) ≡ records_in epoch input begun is ++ records_in epoch input (epochs_after begun is) js
records_behind epoch input begun [] js = refl
records_behind epoch input begun (Item.epoch ∷ is) js = records_behind epoch input (begun + 1) is js
records_behind epoch input begun (Item.row i zs ∷ is) js =
    cond_behind ((input == i) && (epoch + 1 == begun)) zs (records_in epoch input begun is) (records_in epoch input (epochs_after begun is) js) _ (records_behind epoch input begun is js)

-- ---- the same items after more epochs

eqb_more : (k a b : ℕ) → (k + a == k + b) ≡ (a == b)
eqb_more k a b = elim (eqb_tells (k + a) (k + b)) [
  | inl same ↦ elim (eqb_tells a b) [
    | inl here ↦ same.0 ∙ sym here.0
    | inr here ↦ absurd (here.1 (omega (arith, same.1)))
  ]
  | inr other ↦ elim (eqb_tells a b) [
    | inl here ↦ absurd (other.1 (omega (arith, here.1)))
    | inr here ↦ other.0 ∙ sym here.0
  ]
]

cond_more : (a b : Bool) (z : List ℤ) (rs ss : Records) → a ≡ b → rs ≡ ss → cond a (z ∷ rs) rs ≡ cond b (z ∷ ss) ss
cond_more a b z rs ss e f = subst (λ (t : Bool). cond a (z ∷ rs) rs ≡ cond t (z ∷ ss) ss) e (ap (λ (xs : Records). cond a (z ∷ xs) xs) f)

records_more : (k epoch input begun : ℕ) (is : List Item) → records_in (k + epoch) input (k + begun) is ≡ records_in epoch input begun is
records_more k epoch input begun [] = refl
records_more k epoch input begun (Item.epoch ∷ is) =
    ap (λ n. records_in (k + epoch) input n is) (let n : k + begun + 1 ≡ k + (begun + 1) = omega arith in n) ∙ records_more k epoch input (begun + 1) is
records_more k epoch input begun (Item.row i zs ∷ is) =
    let same : ((k + epoch) + 1 == k + begun) ≡ (epoch + 1 == begun) = ap (λ n. n == k + begun) (let n : (k + epoch) + 1 ≡ k + (epoch + 1) = omega arith in n) ∙ eqb_more k (epoch + 1) begun in
    cond_more _ _ zs _ _ (ap (λ (t : Bool). (input == i) && t) same) (records_more k epoch input begun is)

epochs_more : (k begun : ℕ) (is : List Item) → epochs_after (k + begun) is ≡ k + epochs_after begun is
epochs_more k begun [] = refl
epochs_more k begun (Item.epoch ∷ is) = ap (λ n. epochs_after n is) (let n : k + begun + 1 ≡ k + (begun + 1) = omega arith in n) ∙ epochs_more k (begun + 1) is
epochs_more k begun (Item.row i zs ∷ is) = epochs_more k begun is

epochs_rise : (begun : ℕ) (is : List Item) → begun ≤ epochs_after begun is
epochs_rise begun [] = omega arith
epochs_rise begun (Item.epoch ∷ is) = omega (arith, epochs_rise (begun + 1) is)
epochs_rise begun (Item.row i zs ∷ is) = epochs_rise begun is

says_more : (inputs : List Input) (k begun : ℕ) (line : List ℕ) (item : Item) → Says inputs begun line item → begun_after (k + begun) item ≤ max_epochs → Says inputs (k + begun) line item
says_more inputs k begun line Item.epoch says few = (says.0, omega (arith, few))
says_more inputs k begun line (Item.row i zs) says few = (says.0, says.1, says.2, omega (arith, says.3), says.4, says.5, says.6)

after_more : (k begun : ℕ) (item : Item) → begun_after (k + begun) item ≡ k + begun_after begun item
after_more k begun Item.epoch = omega arith
after_more k begun (Item.row i zs) = refl

said_more : (inputs : List Input) (k begun : ℕ) (ls : List (List ℕ)) (is : List Item) → LinesSay inputs begun ls is → epochs_after (k + begun) is ≤ max_epochs → LinesSay inputs (k + begun) ls is
said_more inputs k begun [] [] h few = tt
said_more inputs k begun [] (i ∷ is) h few = absurd h
said_more inputs k begun (l ∷ ls) [] h few = absurd h
said_more inputs k begun (l ∷ ls) (i ∷ is) h few = (
  says_more inputs k begun l i h.0 (omega (arith, few, epochs_rise (begun_after (k + begun) i) is)),
  subst (λ n. LinesSay inputs n ls is) (sym (after_more k begun i)) (said_more inputs k (begun_after begun i) ls is h.1 (subst (λ n. epochs_after n is ≤ max_epochs) (after_more k begun i) few)),
)

-- an epoch that was over gains no records
none_before : (epoch input begun : ℕ) (is : List Item) → epoch + 1 < begun → records_in epoch input begun is ≡ []
none_before epoch input begun [] h = refl
none_before epoch input begun (Item.epoch ∷ is) h = none_before epoch input (begun + 1) is (omega (arith, h))
none_before epoch input begun (Item.row i zs ∷ is) h =
    let rest = none_before epoch input begun is h in
    elim (eqb_tells (epoch + 1) begun) [
      | inl same ↦ absurd (let no : ⊥ = omega (arith, h, same.1) in no)
      | inr other ↦ none (input == i) (epoch + 1 == begun) zs _ other.0 rest
    ]
  where
    none : (a b : Bool) (z : List ℤ) (rs : Records) → b ≡ false → rs ≡ [] → cond (a && b) (z ∷ rs) rs ≡ []
    none true b z rs e f = ap (λ (t : Bool). cond t (z ∷ rs) rs) e ∙ f
    none false b z rs e f = f

-- ---- a part behind another one

leb_more : (a b : ℕ) → nat_lt (suc a + 1) (suc b + 1) ≡ nat_lt (a + 1) (b + 1)
leb_more a b = elim (leb_tells (suc (suc a + 1)) (suc b + 1)) [
  | inl lt ↦ elim (leb_tells (suc (a + 1)) (b + 1)) [
    | inl here ↦ lt.0 ∙ sym here.0
    | inr here ↦ absurd (let no : ⊥ = omega (arith, lt.1, here.1) in no)
  ]
  | inr ge ↦ elim (leb_tells (suc (a + 1)) (b + 1)) [
    | inl here ↦ absurd (let no : ⊥ = omega (arith, ge.1, here.1) in no)
    | inr here ↦ ge.0 ∙ sym here.0
  ]
]

rest_at : (xs : List Records) (a b : ℕ) → cond (nat_lt (a + 1) (b + 1)) [] (get_or xs (a + 1 - (b + 1)) []) ≡ cond (nat_lt (suc a + 1) (suc b + 1)) [] (get_or xs (suc a + 1 - (suc b + 1)) [])
rest_at xs a b =
    let less : (a + 1 - (b + 1)) ≡ (suc a + 1 - (suc b + 1)) = omega arith in
    λ i. cond (sym (leb_more a b) i) [] (get_or xs (less i) [])

first_at : (xs : List Records) (j : ℕ) → get_or xs (suc j) [] ≡ cond (nat_lt (suc j + 1) 1) [] (get_or xs (suc j + 1 - 1) [])
first_at xs j = elim (leb_tells (suc (suc j + 1)) 1) [
  | inl lt ↦ absurd (let no : ⊥ = omega (arith, lt.1) in no)
  | inr ge ↦ let n : suc j ≡ suc j + 1 - 1 = omega arith in λ i. cond (sym ge.0 i) [] (get_or xs (n i) [])
]

none_at : (xs : List Records) (n : ℕ) → cond (nat_lt (0 + 1) (suc n + 1)) [] (get_or xs (0 + 1 - (suc n + 1)) []) ≡ []
none_at xs n = elim (leb_tells (suc (0 + 1)) (suc n + 1)) [
  | inl lt ↦ ap (λ t. cond t [] (get_or xs (0 + 1 - (suc n + 1)) [])) lt.0
  | inr ge ↦ absurd (let no : ⊥ = omega (arith, ge.1) in no)
]

stitched : (before : List Records) (last first : Records) (behind : List Records) (epoch : ℕ)
    → get_or (before ++ (last ++ first) ∷ behind) epoch [] ≡ get_or (before ++ last ∷ []) epoch [] ++ cond (nat_lt (epoch + 1) (length before + 1)) [] (get_or (first ∷ behind) (epoch + 1 - (length before + 1)) [])
stitched [] last first behind zero = refl
stitched [] last first behind (suc j) = first_at (first ∷ behind) j
stitched (b ∷ before) last first behind zero = sym (ap (λ (r : Records). b ++ r) (none_at (first ∷ behind) (length before)) ∙ append-nil b)
stitched (b ∷ before) last first behind (suc j) =
    stitched before last first behind j ∙ ap (λ (r : Records). get_or (before ++ last ∷ []) j [] ++ r) (rest_at (first ∷ behind) j (length before))

pub stitches_at : (old more new : List Records) → Stitches old more new → (epoch : ℕ)
    → get_or new epoch [] ≡ get_or old epoch [] ++ cond (nat_lt (epoch + 1) (length old)) [] (get_or more (epoch + 1 - length old) [])
stitches_at old more new s epoch =
    let len : length s.before + 1 ≡ length old = sym (ap length s.old_is ∙ length-append s.before (s.last ∷ [])) in
    ap (λ (xs : List Records). get_or xs epoch []) s.new_is ∙ stitched s.before s.last s.first s.behind epoch
    ∙ (λ i. get_or (sym s.old_is i) epoch [] ++ cond (nat_lt (epoch + 1) (len i)) [] (get_or (sym s.more_is i) (epoch + 1 - len i) []))

-- the lists of batches that are put behind others
module _ (Batches : Type 0) (records : Batches → Records) where
  headed : (all : List Batches) (first : Batches) (rest : List Batches) → 0 < length all → first ≡ get_or all 0 first → rest ≡ remove all 0 → all ≡ first ∷ rest
  headed [] first rest some e f = absurd (let no : ⊥ = omega (arith, some) in no)
  headed (b ∷ all) first rest some e f = (λ i. sym e i ∷ sym f i)

  pub batches_joined : (all rest old before new : List Batches) (first last both : Batches) → 0 < length all → first ≡ get_or all 0 first → rest ≡ remove all 0 → old ≡ before ++ last ∷ []
      → records both ≡ records last ++ records first → new ≡ (before ++ both ∷ []) ++ rest → Stitches (map records old) (map records all) (map records new)
  batches_joined all rest old before new first last both some e f is joins now = record {
    before = map records before;
    last = records last;
    first = records first;
    behind = map records rest;
    old_is = ap (map records) is ∙ map-append records before (last ∷ []);
    more_is = ap (map records) (headed all first rest some e f);
    new_is = ap (map records) (now ∙ append_assoc before (both ∷ []) rest) ∙ map-append records before (both ∷ rest) ∙ ap (λ (r : Records). map records before ++ r ∷ map records rest) joins;
  }

module _ (inputs : List Input) (text more : List ℕ) (e p g : Epochs) (read : IsReadFrom inputs text e) (part : IsPart inputs 1 more p) (app : Appends e p g) where
  abbrev front : List Item
  front = read.1.items

  abbrev k : ℕ
  k = epoch_count e - 1

  begun : epochs_after 0 front ≡ k + 1
  begun = sym read.1.epochs ∙ (let n : epoch_count e ≡ k + 1 = omega (arith, app.some) in n)

  more_epochs : epochs_after (k + 1) part.items ≡ epoch_count g
  more_epochs = epochs_more k 1 part.items ∙ ap (λ n. k + n) (sym part.epochs) ∙ (let n : k + epoch_count p ≡ epoch_count g = omega (arith, app.some, app.count) in n)

  behind_at : (epoch input : ℕ) → cond (nat_lt (epoch + 1) (epoch_count e)) [] (records_at p (epoch + 1 - epoch_count e) input) ≈ records_in epoch input (epochs_after 0 front) part.items
  behind_at epoch input = elim (leb_tells (suc (epoch + 1)) (epoch_count e)) [
    | inl lt ↦
        ≈-from (ap (λ t. cond t [] (records_at p (epoch + 1 - epoch_count e) input)) lt.0
        ∙ sym (none_before epoch input (epochs_after 0 front) part.items (let n : epoch + 1 < epochs_after 0 front = omega (arith, lt.1, read.1.epochs) in n)))
    | inr ge ↦
        let j : ℕ = epoch + 1 - epoch_count e in
        let here : k + j ≡ epoch = omega (arith, ge.1, app.some) in
        ≈-trans (≈-from (ap (λ t. cond t [] (records_at p j input)) ge.0))
        (≈-trans (part.holds j input)
        (≈-from (sym (records_more k j input 1 part.items) ∙ (λ i. records_in (here i) input (sym begun i) part.items))))
  ]

  -- a text that was read, and its next part
  pub part_behind : IsReadFrom inputs (text ++ more) g
  part_behind = (
    (λ epoch input. records_in epoch input 0 (front ++ part.items)),
    record {
      lines = read.1.lines ++ part.lines;
      items = front ++ part.items;
      parts = split_behind text more read.1.lines read.1.parts ∙ ap (λ (ls : List (List ℕ)). read.1.lines ++ ls) part.parts ∙ sym (append_assoc read.1.lines part.lines ([] ∷ []));
      said = said_behind inputs 0 read.1.lines front part.lines part.items read.1.said
          (subst (λ n. LinesSay inputs n part.lines part.items) (sym begun) (said_more inputs k 1 part.lines part.items part.said (let n : epochs_after (k + 1) part.items ≤ max_epochs = omega (arith, more_epochs, app.few) in n)));
      epochs = sym (epochs_behind 0 front part.items ∙ ap (λ n. epochs_after n part.items) begun ∙ more_epochs);
      holds = λ epoch input. refl;
    },
    λ epoch input.
        ≈-trans (≈-from (app.records epoch input))
        (≈-trans (append_same _ _ _ _ (≈-trans (read.2 epoch input) (≈-from (read.1.holds epoch input))) (behind_at epoch input))
        (≈-from (sym (records_behind epoch input 0 front part.items)))),
  )

-- ---- all parts

last_of : {A B : Type 0} (R : A → B → Type 0) (xs : List A) (ys : List B) (y : B) → AllZip R xs (ys ++ y ∷ []) → (us : List A) × (x : A) × (xs ≡ us ++ x ∷ []) × AllZip R us ys × R x y
last_of R [] [] y h = absurd h
last_of R [] (z ∷ ys) y h = absurd h
last_of R (x ∷ []) [] y h = ([], x, refl, tt, h.0)
last_of R (x ∷ w ∷ xs) [] y h = absurd h.1
last_of {A = A} R (x ∷ xs) (z ∷ ys) y h =
    let l = last_of R xs ys y h.1 in
    (x ∷ l.0, l.1, ap (λ (ws : List A). x ∷ ws) l.2, (h.0, l.3), l.4)

together_push : (ts : List (List ℕ)) (t : List ℕ) → together (ts ++ t ∷ []) ≡ together ts ++ t
together_push [] t = append-nil t
together_push (u ∷ ts) t = ap (λ (r : List ℕ). u ++ r) (together_push ts t) ∙ sym (append_assoc u (together ts) t)

-- these parts have been put behind the first one
abbrev pub HasJoined : Epochs → List Epochs → Epochs → Type 0
HasJoined first parts whole =
    (inputs : List Input) (text : List ℕ) (texts : List (List ℕ)) → IsReadFrom inputs text first → AllZip (IsPart inputs 1) texts parts → IsReadFrom inputs (text ++ together texts) whole

pub none_joined : (first : Epochs) → HasJoined first [] first
none_joined first inputs text [] read parts = subst (λ (t : List ℕ). IsReadFrom inputs t first) (sym (append-nil text)) read
none_joined first inputs text (t ∷ texts) read parts = absurd parts

pub one_joined : (first whole part next : Epochs) (parts : List Epochs) → HasJoined first parts whole → Appends whole part next → HasJoined first (parts ++ part ∷ []) next
one_joined first whole part next parts so_far app inputs text texts read each =
    let l = last_of (IsPart inputs 1) texts parts part each in
    let here = part_behind inputs (text ++ together l.0) l.1 whole part next (so_far inputs text l.0 read l.3) l.4 app in
    subst (λ (t : List ℕ). IsReadFrom inputs t next) (append_assoc text (together l.0) l.1 ∙ ap (λ (r : List ℕ). text ++ r) (sym (together_push l.0 l.1) ∙ ap together (sym l.2))) here

-- ---- cuts

pub one_cut : {B : Type 0} (text_of : B → List ℕ) (cuts next : List B) (cut : B) → next ≡ cuts ++ cut ∷ [] → together (map text_of next) ≡ together (map text_of cuts) ++ text_of cut
one_cut text_of cuts next cut e =
    ap (λ (bs : List _). together (map text_of bs)) e ∙ ap together (map-append text_of cuts (cut ∷ [])) ∙ together_push (map text_of cuts) (text_of cut)
