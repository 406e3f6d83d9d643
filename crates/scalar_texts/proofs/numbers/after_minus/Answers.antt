use Rattle.std.proofs.Common.{◌≡◌, ◌≢◌, ◌∷◌, [], ℕ, List}
use Rattle.std.proofs.lemmas.Bool.Decides.{Decides-eqb}
use Rattle.std.proofs.lemmas.Slice.Eq.{strip_prefix_is}
use Rattle.scalar_texts.proofs.Joined.{match-some, match-none}
use Rattle.scalar_texts.proofs.numbers.after_minus.Goals as goal

pub returns-clause-some : goal.returns-clause-some
returns-clause-some c =
    let text : List ℕ = c.args.text.now in
    match-some c.strip_prefix.result ((rest : List ℕ) → text ≢ 45 ∷ rest) (λ x. text ≡ 45 ∷ x.now) (strip_prefix_is Decides-eqb text (45 ∷ []) c.strip_prefix.result c.strip_prefix.ensures.cases)

pub returns-clause-none : goal.returns-clause-none
returns-clause-none c =
    let text : List ℕ = c.args.text.now in
    match-none c.strip_prefix.result ((rest : List ℕ) → text ≢ 45 ∷ rest) (λ x. text ≡ 45 ∷ x.now) (strip_prefix_is Decides-eqb text (45 ∷ []) c.strip_prefix.result c.strip_prefix.ensures.cases)
