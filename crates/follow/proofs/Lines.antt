-- Lines that are taken, one after another.
use Rattle.std.proofs.Common.{◌≡◌, ◌<◌, ◌≤◌, ◌+◌, ◌∙◌, ℕ, List, [], ◌∷◌, ◌++◌, length, refl, sym, ap, subst, arith, append_assoc, inl, inr, Bool, true, false}
use Rattle.std.proofs.lemmas.Bool.Decides.{eqb_tells}
use Rattle.std.proofs.lemmas.List.{length-append}
use Rattle.std.specs.Prelude.{◌==◌}
use Rattle.semantics.specs.Query.{Input}
use Rattle.board.specs.Shown.{Shown}
use Rattle.collector.specs.Pieces.{split_on}
use Rattle.collector.specs.Lines.{IsFault, Item, Says, code_of}
use Rattle.collector.specs.declared.refusal.Fault.{Fault}
use Rattle.collector.specs.declared.refusal.Fault.TheVariants.{Malformed, TooManyEpochs, NoEpoch, Unknown, BadNumber, WrongFields}
use Rattle.collector.proofs.LinesRead.{filled, say_push}
use Rattle.graph.specs.Shown.{shown_inputs}
use Rattle.collector.specs.InputText.{LinesSay, epochs_after}
use Rattle.follow.specs.Follows.{IsTooLong}
use Rattle.alone.specs.Scenes.{Grows}
use Rattle.follow.specs.Scenes.{HasTaken, IsTakenSo}
use Rattle.follow.specs.Steps.{CanTake, Continues, Counts, TakesItem, TakesLines}
use Rattle.follow.specs.declared.intake.Intake.{Intake}
use Rattle.follow.specs.declared.line_stop.Taken.TheVariants as taken
use Rattle.follow.proofs.Fed.{counted_fed}
use Rattle.follow.proofs.Items.{continues_here, continues_item, continues_on}
use Rattle.alone.proofs.Moved.{grows_not, grows_on}

-- lines were taken, after those taken at first
pub record TakenSo (base : ℕ) (s t : Shown) (y : Intake) (inputs : List Input) (bytes rest : List ℕ) (items : List Item) : Type 0 where
  pub lines : List (List ℕ)
  pub later : List Item
  pub taken : HasTaken t base y inputs bytes rest lines later
  pub continues : Continues items later
  pub grows : Grows s t

-- the same, whatever was taken at first
abbrev pub Takes : (base : ℕ) → (s t : Shown) → (x y : Intake) → List Input → (text rest : List ℕ) → Type 0
Takes base s t x y inputs text rest = (bytes : List ℕ) (lines : List (List ℕ)) (items : List Item) → HasTaken s base x inputs bytes text lines items → TakenSo base s t y inputs bytes rest items

pub takes_none : (base : ℕ) (s : Shown) (x : Intake) (inputs : List Input) (text : List ℕ) → Takes base s s x x inputs text text
takes_none base s x inputs text = λ bytes lines items h. record { lines = lines; later = items; taken = h; continues = continues_here items; grows = grows_not s h.fed.live }

-- the lines of a text begin no more epochs than there may be
said_few : (inputs : List Input) (n : ℕ) (lines : List (List ℕ)) (items : List Item) → n ≤ 4294967295 → LinesSay inputs n lines items → epochs_after n items ≤ 4294967295
said_few inputs n [] [] le said = le
said_few inputs n [] (item ∷ items) le said = absurd said
said_few inputs n (line ∷ lines) [] le said = absurd said
said_few inputs n (line ∷ lines) (Item.epoch ∷ items) le said = let l = said.0.1 in said_few inputs (n + 1) lines items (omega (arith, l)) said.1
said_few inputs n (line ∷ lines) (Item.row i zs ∷ items) le said = said_few inputs n lines items le said.1

pub few_epochs : (s : Shown) (base : ℕ) (x : Intake) (inputs : List Input) (bytes rest : List ℕ) (lines : List (List ℕ)) (items : List Item) → HasTaken s base x inputs bytes rest lines items → base + x.begun ≤ 4294967295
few_epochs s base x inputs bytes rest lines items h = let few = said_few inputs 0 lines items (omega arith) h.said in omega (arith, few, h.fed.begun)

-- what was taken at first, and more lines
pub taken_so : (base : ℕ) (s t : Shown) (x y : Intake) (inputs : List Input) (text rest : List ℕ) → Takes base s t x y inputs text rest → IsTakenSo s base x inputs text → IsTakenSo t base y inputs rest
taken_so base s t x y inputs text rest takes (bytes, lines, items, h) = let r = takes bytes lines items h in (bytes, r.lines, r.later, r.taken)

pub still_inputs : (base : ℕ) (s t : Shown) (x y : Intake) (inputs : List Input) (text rest : List ℕ) → Takes base s t x y inputs text rest → IsTakenSo s base x inputs text → shown_inputs t.graph ≡ shown_inputs s.graph
still_inputs base s t x y inputs text rest takes (bytes, lines, items, h) = ap shown_inputs (takes bytes lines items h).grows.graph

-- the next line may be taken
pub can_take : (base : ℕ) (s : Shown) (x : Intake) (inputs : List Input) (text line : List ℕ) (item : Item) → IsTakenSo s base x inputs text → inputs ≡ shown_inputs s.graph → Says inputs (base + x.begun) line item → CanTake s x item
can_take base s x inputs text line item (bytes, lines, items, h) same said = (base, items, line, h.fed, subst (λ (is : List Input). Says is (base + x.begun) line item) same said)

-- one more line
taken_more : (base : ℕ) (s t u : Shown) (y z v : Intake) (inputs : List Input) (bytes rest after line : List ℕ) (items : List Item) (item : Item) (r : TakenSo base s t y inputs bytes rest items) → split_on 10 rest ≡ line ∷ split_on 10 after → Says inputs (base + y.begun) line item → TakesItem t u y z item → Counts z v
    → HasTaken u base v inputs bytes after (r.lines ++ line ∷ []) (r.later ++ item ∷ [])
taken_more base s t u y z v inputs bytes rest after line items item r cut says moves counts = record {
  fed = counted_fed u z v base (r.later ++ item ∷ []) counts (moves.fed base r.later r.taken.fed).0;
  parts = r.taken.parts ∙ ap (λ (ls : List (List ℕ)). r.lines ++ ls) cut ∙ sym (append_assoc r.lines (line ∷ []) (split_on 10 after));
  said = say_push inputs 0 r.lines r.later line item r.taken.said (subst (λ (k : ℕ). Says inputs k line item) r.taken.fed.begun says);
  counted = counts.line ∙ ap (λ (n : ℕ). n + 1) (moves.line ∙ r.taken.counted) ∙ sym (length-append r.lines (line ∷ []));
}

pub takes_more : (base : ℕ) (s t u : Shown) (x y z v : Intake) (inputs : List Input) (text rest after line : List ℕ) (item : Item) → Takes base s t x y inputs text rest → split_on 10 rest ≡ line ∷ split_on 10 after → Says inputs (base + y.begun) line item → TakesItem t u y z item → Counts z v
    → Takes base s u x v inputs text after
takes_more base s t u x y z v inputs text rest after line item takes cut says moves counts = λ bytes lines items h.
    let r = takes bytes lines items h in
    record {
      lines = r.lines ++ line ∷ [];
      later = r.later ++ item ∷ [];
      taken = taken_more base s t u y z v inputs bytes rest after line items item r cut says moves counts;
      continues = continues_on items r.later (r.later ++ item ∷ []) r.continues (continues_item r.later item);
      grows = grows_on s t u r.grows (moves.fed base r.later r.taken.fed).1;
    }

-- the same if the line begins an epoch, and it is the last to be taken
pub took_epoch : (base : ℕ) (s t u : Shown) (x y z v : Intake) (inputs : List Input) (text rest after line : List ℕ) (item : Item) → Takes base s t x y inputs text rest → split_on 10 rest ≡ line ∷ split_on 10 after → Says inputs (base + y.begun) line item → TakesItem t u y z item → Counts z v → item ≡ Item.epoch
    → TakesLines base s u x v inputs text after taken.Epoch
took_epoch base s t u x y z v inputs text rest after line item takes cut says moves counts is = λ bytes lines items h.
    let r = takes bytes lines items h in
    record {
      lines = r.lines ++ line ∷ [];
      later = r.later ++ item ∷ [];
      reached = taken_more base s t u y z v inputs bytes rest after line items item r cut says moves counts;
      continues = continues_on items r.later (r.later ++ item ∷ []) r.continues (continues_item r.later item);
      grows = grows_on s t u r.grows (moves.fed base r.later r.taken.fed).1;
      stops = (r.later, ap (λ (i : Item). r.later ++ i ∷ []) is);
    }

no_line_feed : (fault : Fault) → code_of fault ≡ 43 → ⊥
no_line_feed NoEpoch e = let f : 41 ≡ 43 = e in absurd (omega (arith, f))
no_line_feed Unknown e = let f : 42 ≡ 43 = e in absurd (omega (arith, f))
no_line_feed BadNumber e = let f : 44 ≡ 43 = e in absurd (omega (arith, f))
no_line_feed WrongFields e = let f : 45 ≡ 43 = e in absurd (omega (arith, f))
no_line_feed Malformed e = let f : 46 ≡ 43 = e in absurd (omega (arith, f))
no_line_feed TooManyEpochs e = let f : 47 ≡ 43 = e in absurd (omega (arith, f))

pub took_fault : (base : ℕ) (s t : Shown) (x y : Intake) (inputs : List Input) (text rest line after : List ℕ) (fault : Fault) (code : ℕ) → Takes base s t x y inputs text rest → split_on 10 rest ≡ line ∷ split_on 10 after → IsFault inputs (base + y.begun) line fault → code ≡ code_of fault
    → TakesLines base s t x y inputs text rest (taken.Fault code)
took_fault base s t x y inputs text rest line after fault code takes cut bad is = λ bytes lines items h.
    let r = takes bytes lines items h in
    record {
      lines = r.lines;
      later = r.later;
      reached = r.taken;
      continues = r.continues;
      grows = r.grows;
      stops = inl (
        (r.lines, r.later, r.taken.said, refl, line, split_on 10 after, r.taken.parts ∙ ap (λ (ls : List (List ℕ)). r.lines ++ ls) cut, inr (fault, is, filled after, subst (λ (k : ℕ). IsFault inputs k line fault) r.taken.fed.begun bad)),
        λ e. no_line_feed fault (sym is ∙ e),
      );
    }

pub took_all : (base : ℕ) (s t : Shown) (x y : Intake) (inputs : List Input) (text rest : List ℕ) → Takes base s t x y inputs text rest → split_on 10 rest ≡ rest ∷ [] → length rest ≤ 368
    → TakesLines base s t x y inputs text rest taken.Whole
took_all base s t x y inputs text rest takes none short = λ bytes lines items h.
    let r = takes bytes lines items h in
    record { lines = r.lines; later = r.later; reached = r.taken; continues = r.continues; grows = r.grows; stops = (none, short) }

-- the next line is too long
pub took_long : (base : ℕ) (s t : Shown) (x y : Intake) (inputs : List Input) (text rest : List ℕ) → Takes base s t x y inputs text rest → IsTooLong (split_on 10 rest)
    → TakesLines base s t x y inputs text rest (taken.Fault 46)
took_long base s t x y inputs text rest takes long = λ bytes lines items h.
    let r = takes bytes lines items h in
    record { lines = r.lines; later = r.later; reached = r.taken; continues = r.continues; grows = r.grows; stops = inr (refl, long) }

pub unended_nothing : (rest : List ℕ) → rest ≡ [] → split_on 10 rest ≡ rest ∷ []
unended_nothing rest e = ap (split_on 10) e ∙ ap (λ (bs : List ℕ). bs ∷ []) (sym e)

pub filled_rest : (rest : List ℕ) (b : Bool) → b ≡ (length rest == 0) → b ≡ false → 0 < length rest
filled_rest rest b is no_way = elim (eqb_tells (length rest) 0) [
  | inl same ↦ absurd (let p : false ≡ true = sym no_way ∙ is ∙ same.0 in cc)
  | inr other ↦ omega (arith, other.1)
]
