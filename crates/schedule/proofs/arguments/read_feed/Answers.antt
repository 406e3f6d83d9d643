use Rattle.std.proofs.Common.{◌≡◌, ◌∷◌, ◌∙◌, List, ℕ, refl, ap, map}
use Rattle.std.specs.Fmt.{signed_decimal}
use Rattle.collector.specs.Said.{words_of}
use Rattle.collector.specs.Lines.{AreNumbers, IsWord}
use Rattle.schedule.proofs.Words.{numbers_fit, numbers_spelled}
use Rattle.schedule.proofs.arguments.read_feed.Goals as goal

pub returns : goal.returns
returns c =
    let numbers : AreNumbers (words_of c.first_word.result.1) c.read_fields.new.fields.items = c.in-Ok-true.ensures.numbers c.in-Ok-true.field-0-test in
    let word : IsWord c.first_word.result.0.now = c.is_word.ensures.0 c.if-not-is_word.false in
    let spelled : words_of c.first_word.result.1 ≡ map signed_decimal c.read_fields.new.fields.items = numbers_spelled (words_of c.first_word.result.1) c.read_fields.new.fields.items numbers in
    let all : words_of c.args.rest ≡ c.first_word.result.0.now ∷ map signed_decimal c.read_fields.new.fields.items = ap words_of c.in-Some.is ∙ c.first_word.ensures ∙ ap (λ (ws : List (List ℕ)). c.first_word.result.0.now ∷ ws) spelled in
    (refl, all, (word, numbers_fit (words_of c.first_word.result.1) c.read_fields.new.fields.items numbers))
