-- What a run answers, and what is read for it.
use Rattle.std.specs.Prelude.{ℕ, suc, List, take, Option}
use Rattle.semantics.specs.Multiset.{Record}
use Rattle.semantics.specs.Query.{Program}
use Rattle.lexer.specs.Tokens.{max_length}
use Rattle.collector.specs.InputText.{IsInputText}
use Rattle.compile.specs.Queries.{IsQuery}
use Rattle.query_answers.specs.Answers.{IsAnswer}

-- the bytes of the text of each name, where they are known
abbrev pub Known : Type 0
Known = List ℕ → Option (List ℕ)

-- what is read of a query: one byte more than it may have is enough to show that it is too long
abbrev pub read_part : List ℕ → List ℕ
read_part text = take (suc max_length) text

-- the text is the answer of the query to the input
pub record IsRun (query input text : List ℕ) : Type 0 where
  pub program : Program
  pub count : ℕ
  pub records : ℕ → ℕ → List Record
  pub reads : IsQuery query program
  pub epochs : IsInputText program.inputs input count records
  pub answer : IsAnswer program count records text
