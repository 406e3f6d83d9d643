-- The lines of an input text, read one after another.
use Rattle.std.proofs.Common.{◌≡◌, ◌<◌, ◌≤◌, ◌+◌, ◌∙◌, ℕ, ℤ, List, [], ◌∷◌, ◌++◌, length, Bool, true, false, cond, refl, sym, ap, subst, arith, append_assoc, inl, inr}
use Rattle.std.specs.Prelude.{◌==◌, ◌&&◌}
use Rattle.std.proofs.lemmas.Bool.Decides.{eqb_tells}
use Rattle.std.proofs.lemmas.List.{append-nil, length-append, nil_from_length}
use Rattle.std.proofs.lemmas.Option.{slice_get_within}
use Rattle.std.proofs.lemmas.List.Splits.{length-slice_split}
use Rattle.semantics.specs.Query.{Input}
use Rattle.collector.specs.Pieces.{split_on}
use Rattle.collector.specs.Lines.{Item, Says}
use Rattle.collector.specs.InputText.{begun_after, epochs_after, records_in, LinesSay}
use Rattle.collector.specs.Drafts.{draft_count, draft_records}
use Rattle.collector.specs.DraftGrowth.{CanTake, IsEven, Takes}
use Rattle.collector.specs.Piecewise.{Reads}
use Rattle.collector.specs.declared.draft.Draft.{Draft}

abbrev Records : Type 0
Records = List (List ℤ)

pub say_push : (inputs : List Input) (n : ℕ) (lines : List (List ℕ)) (items : List Item) (line : List ℕ) (item : Item) → LinesSay inputs n lines items → Says inputs (epochs_after n items) line item → LinesSay inputs n (lines ++ line ∷ []) (items ++ item ∷ [])
say_push inputs n [] [] line item h g = (g, tt)
say_push inputs n [] (i ∷ is) line item h g = absurd h
say_push inputs n (l ∷ ls) [] line item h g = absurd h
say_push inputs n (l ∷ ls) (i ∷ is) line item h g = (h.0, say_push inputs (begun_after n i) ls is line item h.1 g)

pub epochs_push : (n : ℕ) (items : List Item) (item : Item) → epochs_after n (items ++ item ∷ []) ≡ begun_after (epochs_after n items) item
epochs_push n [] item = refl
epochs_push n (i ∷ is) item = epochs_push (begun_after n i) is item

one_more : (t u : Bool) (y z : List ℤ) (rs new : Records) → new ≡ cond u (rs ++ z ∷ []) rs → cond t (y ∷ new) new ≡ cond u (cond t (y ∷ rs) rs ++ z ∷ []) (cond t (y ∷ rs) rs)
one_more true true y z rs new e = ap (λ (xs : Records). y ∷ xs) e
one_more true false y z rs new e = ap (λ (xs : Records). y ∷ xs) e
one_more false true y z rs new e = e
one_more false false y z rs new e = e

pub epoch_push : (epoch input n : ℕ) (items : List Item) → records_in epoch input n (items ++ Item.epoch ∷ []) ≡ records_in epoch input n items
epoch_push epoch input n [] = refl
epoch_push epoch input n (Item.epoch ∷ is) = epoch_push epoch input (n + 1) is
epoch_push epoch input n (Item.row i zs ∷ is) = ap (λ (rs : Records). cond ((input == i) && (epoch + 1 == n)) (zs ∷ rs) rs) (epoch_push epoch input n is)

pub row_push : (epoch input n : ℕ) (items : List Item) (j : ℕ) (z : List ℤ) → records_in epoch input n (items ++ Item.row j z ∷ []) ≡ cond ((input == j) && (epoch + 1 == epochs_after n items)) (records_in epoch input n items ++ z ∷ []) (records_in epoch input n items)
row_push epoch input n [] j z = refl
row_push epoch input n (Item.epoch ∷ is) j z = row_push epoch input (n + 1) is j z
row_push epoch input n (Item.row i zs ∷ is) j z = one_more ((input == i) && (epoch + 1 == n)) ((input == j) && (epoch + 1 == epochs_after n is)) zs z (records_in epoch input n is) _ (row_push epoch input n is j z)

-- the lines that were read behind what a draft held, and what is known of them
pub record ReadSoFar (inputs : List Input) (text rest : List ℕ) (number : ℕ) (d e : Draft) : Type 0 where
  pub lines : List (List ℕ)
  pub items : List Item
  pub said : LinesSay inputs (draft_count d) lines items
  pub parts : split_on 10 text ≡ lines ++ split_on 10 rest
  pub counted : number ≡ length lines
  pub short : number + length rest ≤ length text
  pub epochs : draft_count e ≡ epochs_after (draft_count d) items
  pub records : (epoch input : ℕ) → draft_records e epoch input ≡ draft_records d epoch input ++ records_in epoch input (draft_count d) items
  pub even : IsEven e
  pub tracks : length e.tracks.items ≡ length inputs

pub nothing_read : (inputs : List Input) (text : List ℕ) (d : Draft) → IsEven d → length d.tracks.items ≡ length inputs → ReadSoFar inputs text text 0 d d
nothing_read inputs text d even size = record {
  lines = [];
  items = [];
  said = tt;
  parts = refl;
  counted = refl;
  short = omega arith;
  epochs = refl;
  records = λ epoch input. sym (append-nil (draft_records d epoch input));
  even = even;
  tracks = size;
}

-- what a line says can be added
pub can_take : (inputs : List Input) (e : Draft) (line : List ℕ) (item : Item) → length e.tracks.items ≡ length inputs → Says inputs (draft_count e) line item → CanTake e item
can_take inputs e line Item.epoch size says = says.1
can_take inputs e line (Item.row i zs) size says = (says.3, omega (arith, size, slice_get_within inputs i _ says.4.there), says.5)

put_behind : (b : Bool) (start rs : Records) (z : List ℤ) → cond b ((start ++ rs) ++ z ∷ []) (start ++ rs) ≡ start ++ cond b (rs ++ z ∷ []) rs
put_behind true start rs z = append_assoc start rs (z ∷ [])
put_behind false start rs z = refl

-- what the epochs hold once they have taken an item
taken : (d e f : Draft) (items : List Item) (item : Item) → draft_count e ≡ epochs_after (draft_count d) items
    → ((epoch input : ℕ) → draft_records e epoch input ≡ draft_records d epoch input ++ records_in epoch input (draft_count d) items) → Takes e f item
    → (draft_count f ≡ epochs_after (draft_count d) (items ++ item ∷ []))
    × ((epoch input : ℕ) → draft_records f epoch input ≡ draft_records d epoch input ++ records_in epoch input (draft_count d) (items ++ item ∷ []))
    × IsEven f × (length f.tracks.items ≡ length e.tracks.items)
taken d e f items Item.epoch count records takes = (
  takes.count ∙ ap (λ n. n + 1) count ∙ sym (epochs_push (draft_count d) items Item.epoch),
  λ epoch input.
      takes.records epoch input ∙ records epoch input ∙ ap (λ (rs : Records). draft_records d epoch input ++ rs) (sym (epoch_push epoch input (draft_count d) items)),
  takes.even,
  takes.inputs,
)
taken d e f items (Item.row i zs) count records takes = (
  takes.count ∙ count ∙ sym (epochs_push (draft_count d) items (Item.row i zs)),
  λ epoch input.
      let start : Records = draft_records d epoch input in
      let rs : Records = records_in epoch input (draft_count d) items in
      let here = takes.records epoch input in
      let held : draft_records f epoch input ≡ cond ((input == i) && (epoch + 1 == epochs_after (draft_count d) items)) ((start ++ rs) ++ zs ∷ []) (start ++ rs) = rw (← count, ← records epoch input) here in
      held ∙ put_behind ((input == i) && (epoch + 1 == epochs_after (draft_count d) items)) start rs zs ∙ ap (λ (all : Records). start ++ all) (sym (row_push epoch input (draft_count d) items i zs)),
  takes.even,
  takes.inputs,
)

pub next_read : (inputs : List Input) (text rest line after : List ℕ) (n : ℕ) (d e f : Draft) (item : Item) → ReadSoFar inputs text rest n d e → split_on 10 rest ≡ line ∷ split_on 10 after → length after < length rest
    → Says inputs (draft_count e) line item → Takes e f item → ReadSoFar inputs text after (n + 1) d f
next_read inputs text rest line after n d e f item r cut less says takes =
    let new = taken d e f r.items item r.epochs r.records takes in
    record {
      lines = r.lines ++ line ∷ [];
      items = r.items ++ item ∷ [];
      said = say_push inputs (draft_count d) r.lines r.items line item r.said (subst (λ (k : ℕ). Says inputs k line item) r.epochs says);
      parts = r.parts ∙ ap (λ (ls : List (List ℕ)). r.lines ++ ls) cut ∙ sym (append_assoc r.lines (line ∷ []) (split_on 10 after));
      counted = ap (λ k. k + 1) r.counted ∙ sym (length-append r.lines (line ∷ []));
      short = omega (arith, r.short, less);
      epochs = new.0;
      records = new.1;
      even = new.2;
      tracks = new.3 ∙ r.tracks;
    }

-- a text has at least one line
pub filled : (bs : List ℕ) → 0 < length (split_on 10 bs)
filled bs = omega (arith, length-slice_split (λ b. b == 10) bs)

-- a text without bytes
pub no_rest : (rest : List ℕ) (b : Bool) → b ≡ (length rest == 0) → b ≡ true → rest ≡ []
no_rest rest b is yes_way = elim (eqb_tells (length rest) 0) [
  | inl same ↦ nil_from_length rest same.1
  | inr other ↦ absurd (let p : true ≡ false = sym yes_way ∙ is ∙ other.0 in cc)
]

-- a text with bytes
pub some_rest : (rest : List ℕ) (b : Bool) → b ≡ (length rest == 0) → b ≡ false → 0 < length rest
some_rest rest b is no_way = elim (eqb_tells (length rest) 0) [
  | inl same ↦ absurd (let p : true ≡ false = sym same.0 ∙ sym is ∙ no_way in cc)
  | inr other ↦ let n = other.1 in omega (arith, n)
]

-- no line is left
pub all_read : (inputs : List Input) (text rest : List ℕ) (n : ℕ) (d e : Draft) → ReadSoFar inputs text rest n d e → rest ≡ [] → Reads inputs text d e
all_read inputs text rest n d e r none = record {
  lines = r.lines;
  items = r.items;
  parts = r.parts ∙ ap (λ (bs : List ℕ). r.lines ++ split_on 10 bs) none;
  said = r.said;
  epochs = r.epochs;
  records = r.records;
  even = r.even;
  tracks = r.tracks;
}
