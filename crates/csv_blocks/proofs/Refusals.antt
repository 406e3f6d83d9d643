-- A refusal, in a longer text.
use Rattle.std.proofs.Common.{◌≡◌, ◌<◌, ◌≤◌, ◌+◌, ◌++◌, ◌∙◌, ℕ, zero, suc, List, [], ◌∷◌, Some, None, refl, sym, ap, inl, inr, length, take, slice_get, arith}
use Rattle.std.proofs.Math.Seq.{take-append-add}
use Rattle.std.proofs.lemmas.Bool.{cases_lt}
use Rattle.std.proofs.lemmas.List.{take-append-le, take_all}
use Rattle.csv_strict.specs.Strict.{IsPlace, IsRefused, run}
use Rattle.csv_strict.specs.declared.checking.Fault.{Fault}
use Rattle.csv_strict.specs.declared.checking.Fault.TheVariants.{EmptyLine, QuoteInside, AfterQuote, BareReturn, Unclosed}
use Rattle.csv_strict.specs.declared.checking.Refusal.{Refusal}
use Rattle.csv_strict.specs.declared.state.State.TheVariants.{Record}
use Rattle.csv_blocks.specs.Texts.{AreWhole, lines}
use Rattle.csv_blocks.proofs.Scans.{lines-append, run-behind}

-- the place of a fault behind other bytes
place-behind : (fault : Fault) (n stop place : ℕ) → IsPlace fault stop place → IsPlace fault (n + stop) (n + place)
place-behind EmptyLine n stop place p = ap (λ (k : ℕ). n + k) p
place-behind QuoteInside n stop place p = ap (λ (k : ℕ). n + k) p
place-behind AfterQuote n stop place p = ap (λ (k : ℕ). n + k) p
place-behind BareReturn n stop place p = ap (λ (k : ℕ). n + k) p
place-behind Unclosed n stop place p = omega arith

place-within : (fault : Fault) (stop place : ℕ) → IsPlace fault stop place → place ≤ stop
place-within EmptyLine stop place p = omega arith
place-within QuoteInside stop place p = omega arith
place-within AfterQuote stop place p = omega arith
place-within BareReturn stop place p = omega arith
place-within Unclosed stop place p = p

get-behind : (xs ys : List ℕ) (i : ℕ) → slice_get (xs ++ ys) (length xs + i) ≡ slice_get ys i
get-behind [] ys i = ap (λ (k : ℕ). slice_get ys k) (omega arith)
get-behind (x ∷ xs) ys i =
    let e : length (x ∷ xs) + i ≡ suc (length xs + i) = omega arith in
    ap (λ (k : ℕ). slice_get (x ∷ (xs ++ ys)) k) e ∙ get-behind xs ys i

get-before : (xs ys : List ℕ) (i : ℕ) → i < length xs → slice_get (xs ++ ys) i ≡ slice_get xs i
get-before [] ys i below = absurd (omega arith)
get-before (x ∷ xs) ys zero below = refl
get-before (x ∷ xs) ys (suc i) below = get-before xs ys i (omega arith)

-- the first fault of a text, behind whole records
pub refused-behind : (done text : List ℕ) (found told : Refusal) → AreWhole done → IsRefused text found → told.fault ≡ found.fault
    → told.line ≡ lines done + found.line → IsRefused (done ++ text) told
refused-behind done text found told whole r fault line =
    let n = length done in
    let front : (k : ℕ) → take (n + k) (done ++ text) ≡ done ++ take k text = λ k. take-append-add done text k in
    record {
      stop = n + r.stop;
      state = r.state;
      before = ap (λ (xs : List ℕ). run (Some Record) xs) (front r.stop) ∙ (run-behind done (take r.stop text) whole ∙ r.before);
      stops = rw (get-behind done text r.stop) r.stops;
      told = fault ∙ r.told;
      place = n + r.place;
      is_place = rw fault (place-behind found.fault n r.stop r.place r.is_place);
      on_line =
          let there : lines (take (n + r.place) (done ++ text)) ≡ lines done + lines (take r.place text) =
          ap lines (front r.place) ∙ lines-append done (take r.place text) in
          let here : found.line ≡ lines (take r.place text) + 1 = r.on_line in
          omega (arith, there, here, line);
    }

-- it stops before the text's end
stops-inside : (text : List ℕ) (r : Refusal) → (f : IsRefused text r) → run (Some Record) text ≡ None → f.stop < length text
stops-inside text r f stuck = elim (cases_lt f.stop (length text)) [
  | inl below ↦ below
  | inr beyond ↦
      let whole : take f.stop text ≡ text = take_all f.stop text beyond in
      let e : None ≡ Some f.state = sym stuck ∙ (ap (λ (xs : List ℕ). run (Some Record) xs) (sym whole) ∙ f.before) in
      cc e
]

-- a fault before the text's end stays, whatever comes behind
pub refused-before : (text tail : List ℕ) (r : Refusal) → IsRefused text r → run (Some Record) text ≡ None → IsRefused (text ++ tail) r
refused-before text tail r f stuck =
    let below : f.stop < length text = stops-inside text r f stuck in
    let within : f.place ≤ f.stop = place-within r.fault f.stop f.place f.is_place in
    let some : f.place ≤ length text = omega arith in
    let front : take f.stop (text ++ tail) ≡ take f.stop text = take-append-le f.stop text tail (omega arith) in
    record {
      stop = f.stop;
      state = f.state;
      before = rw front f.before;
      stops = rw (get-before text tail f.stop below) f.stops;
      told = f.told;
      place = f.place;
      is_place = f.is_place;
      on_line = f.on_line ∙ ap (λ (xs : List ℕ). lines xs + 1) (sym (take-append-le f.place text tail some));
    }
