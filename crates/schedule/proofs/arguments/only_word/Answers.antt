use Rattle.std.proofs.Common.{◌≡◌, ◌∷◌, ◌∙◌, List, ℕ, Option, ap}
use Rattle.std.specs.Borrow.{Bor}
use Rattle.collector.specs.Pieces.{split_on}
use Rattle.collector.specs.Said.{words_of}
use Rattle.schedule.proofs.Words.{not_one}
use Rattle.schedule.proofs.arguments.only_word.Goals as goal

pub returns-in-Some-more-clause-none : goal.returns-in-Some-more-clause-none
returns-in-Some-more-clause-none c = λ word e.
    let all : words_of c.args.rest ≡ c.first_word.result.0.now ∷ split_on 32 c.in-Some-more.field-0.now = ap words_of c.in-Some.is ∙ c.first_word.ensures ∙ ap (λ (o : Option (Bor (List ℕ))). c.first_word.result.0.now ∷ words_of o) c.in-Some-more.is in
    not_one (words_of c.args.rest) c.first_word.result.0.now c.in-Some-more.field-0.now all word e
