-- What is printed of a refusal's number.
use Rattle.std.specs.Prelude.{◌≡◌, ℕ, List, [], ◌∷◌, ◌++◌, ◌==◌, nat_lt, if◌then◌else◌, codes, decimal, Option, Result, Ok, Err}
use Rattle.std.specs.Io.KnownBytes.{Appends}
use Rattle.collector.specs.WrittenBytes.{AppendsFront}
use Rattle.refusals.specs.declared.table.Explanation.{Explanation}
use Rattle.diagnostics.specs.declared.fault.Fault.{Fault}
use Rattle.diagnostics.specs.declared.fault.Fault.TheVariants.{Query, TooManyVertices, Input, Schedule, NoMemory, Count}
use Rattle.diagnostics.specs.declared.fault.Fault.TheVariants.{NoWorker, Incomplete, ReadQuery, ReadInput, Write}

-- what the place covers, where there is one
abbrev pub place_text : List ℕ → List ℕ
place_text [] = []
place_text (b ∷ bs) = codes " (the place covers " ++ ((b ∷ bs) ++ codes ")")

-- a line feed before more text, and nothing at the end
abbrev pub feed_text : List ℕ → List ℕ
feed_text [] = []
feed_text (b ∷ bs) = codes "\n    "

-- lines, each but the first after four spaces, without the last one's line feed
abbrev pub indented : List ℕ → List ℕ
indented [] = []
indented (b ∷ bs) = (if b == 10 then feed_text bs else b ∷ []) ++ indented bs

-- an example below its label: a query on the same line, an input or a schedule on lines of its own
abbrev pub example_text : List ℕ → ℕ → List ℕ → List ℕ
example_text label code example = label ++ ((if nat_lt code 31 then codes "  " else codes "\n    ") ++ (indented example ++ codes "\n"))

-- both examples, where there are some
abbrev pub examples_text : ℕ → List ℕ → List ℕ → List ℕ
examples_text code [] right = []
examples_text code (b ∷ bs) right = codes "\n" ++ (example_text (codes "wrong:") code (b ∷ bs) ++ example_text (codes "right:") code right)

-- the number, what is wrong and where; what it means; the examples
abbrev pub explanation_text : Explanation → List ℕ
explanation_text e =
    decimal e.code ++ (codes ": " ++ (e.summary.now ++ (place_text e.place.now
    ++ (codes "\n\n" ++ (e.text.now ++ (codes "\n" ++ examples_text e.code e.wrong.now e.right.now))))))

-- the text is written whole at Ok, a beginning of it where the writer failed, and else nothing
abbrev pub ExplanationEnds : Explanation → Option (List ℕ) → Option (List ℕ) → Result (Unit {0}) Fault → Type 0
ExplanationEnds row old new (Ok u) = Appends old new (explanation_text row)
ExplanationEnds row old new (Err Write) = AppendsFront old new (explanation_text row)
ExplanationEnds row old new (Err NoMemory) = new ≡ old
ExplanationEnds row old new (Err (Query code start end)) = ⊥
ExplanationEnds row old new (Err TooManyVertices) = ⊥
ExplanationEnds row old new (Err (Input code line)) = ⊥
ExplanationEnds row old new (Err (Schedule code line)) = ⊥
ExplanationEnds row old new (Err Count) = ⊥
ExplanationEnds row old new (Err NoWorker) = ⊥
ExplanationEnds row old new (Err Incomplete) = ⊥
ExplanationEnds row old new (Err ReadQuery) = ⊥
ExplanationEnds row old new (Err ReadInput) = ⊥
