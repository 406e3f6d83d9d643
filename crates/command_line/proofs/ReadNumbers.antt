-- What is read of an option's word by the parser of numbers is what the word spells.
use Rattle.std.proofs.Common.{◌≡◌, ℕ, List, Option, Some, None, Result, Ok, Err, refl, sym}
use Rattle.std.specs.Prelude.{IfOk}
use Rattle.std.specs.Str.Parse.{ParsesUnsigned}
use Rattle.clap.specs.Words.{Text}
use Rattle.clap.specs.Matches.{TriesOne}
use Rattle.command_line.specs.Line.{IsNumber}

pub reads : (width : ℕ) {E : Type 0} (gives : List ℕ → Result ℕ E → Type 0) → ((word : List ℕ) (n : ℕ) → gives word (Ok n) → ParsesUnsigned {E = E} width 10 word (Ok n)) → (word : Option Text) (r : Result (Option ℕ) E)
    → (word ≡ None → r ≡ Ok None) → ((t : List ℕ) → word ≡ Some t → TriesOne gives t r) → IfOk r (IsNumber word)
reads width gives parses None (Ok None) none value = tt
reads width gives parses None (Ok (Some n)) none value =
    let bad = none refl in
    absurd cc
reads width gives parses None (Err e) none value = tt
reads width gives parses (Some t) (Ok None) none value = absurd (value t refl)
reads width gives parses (Some t) (Ok (Some n)) none value =
    let p = parses t n (value t refl) in
    (p.0.0, sym p.1)
reads width gives parses (Some t) (Err e) none value = tt
