use Rattle.std.proofs.Common.{◌≡◌, ◌≢◌, ◌++◌, ℕ, List}
use Rattle.std.proofs.lemmas.Bool.Decides.{Decides-eqb}
use Rattle.std.proofs.lemmas.Slice.Eq.{strip_prefix_is}
use Rattle.csv_answers.proofs.Decoded.{match-some, match-none}
use Rattle.csv_answers.proofs.decoding.after.Goals as goal

pub returns-clause-some : goal.returns-clause-some
returns-clause-some c =
    let line : List ℕ = c.args.line.now in
    let word : List ℕ = c.args.word.now in
    match-some c.strip_prefix.result ((rest : List ℕ) → line ≢ word ++ rest) (λ x. line ≡ word ++ x.now) (strip_prefix_is Decides-eqb line word c.strip_prefix.result c.strip_prefix.ensures.cases)

pub returns-clause-none : goal.returns-clause-none
returns-clause-none c =
    let line : List ℕ = c.args.line.now in
    let word : List ℕ = c.args.word.now in
    match-none c.strip_prefix.result ((rest : List ℕ) → line ≢ word ++ rest) (λ x. line ≡ word ++ x.now) (strip_prefix_is Decides-eqb line word c.strip_prefix.result c.strip_prefix.ensures.cases)
