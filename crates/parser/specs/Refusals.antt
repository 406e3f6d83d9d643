-- Why a text is no program.
use Rattle.std.specs.Prelude.{ℕ, ◌<◌, ◌≡◌, List, ◌⊎◌}
use Rattle.record_core.specs.declared.span.Refusal.{Refusal}
use Rattle.record_core.specs.declared.span.Refusal.TheVariants.{At, NoMemory}
use Rattle.lexer.specs.declared.token.Token.{Token}
use Rattle.lexer.specs.Tokens.{Lexes}
use Rattle.lexer.specs.Faults as lexis
use Rattle.expr_tree.specs.Trees.{ProgramTree}
use Rattle.grammar.specs.Programs.{ReadsProgram}
use Rattle.grammar.specs.Texts.{max_height}
use Rattle.parser.specs.declared.fault.Fault.{Fault}
use Rattle.parser.specs.declared.fault.Fault.TheVariants as fault
use Rattle.parser.specs.declared.refusals.TheConstants.{UNEXPECTED, TOO_HIGH}

-- the tokens are no program whose phrases are all so low
abbrev pub NoProgram : List ℕ → List Token → ℕ → Type 0
NoProgram text ts m = (p : ProgramTree) (h : ℕ) → ReadsProgram text ts p h → m < h

-- the tokens are no program; or some phrase is too high, whatever program they are
abbrev pub IsUngrammatical : List ℕ → List Token → ℕ → Type 0
IsUngrammatical text ts code = ((code ≡ UNEXPECTED) × ((m : ℕ) → NoProgram text ts m)) ⊎ ((code ≡ TOO_HIGH) × NoProgram text ts max_height)

-- Why a text is refused: for its tokens, or as they are no program. Want of memory may come at any text.
abbrev pub Refuses : List ℕ → Refusal → Type 0
Refuses text NoMemory = Unit {0}
Refuses text (At code span) = lexis.Refuses text (At code span) ⊎ ((ts : List Token) × Lexes text ts × IsUngrammatical text ts code)

-- the refusal for a fault
abbrev pub IsRefusalFor : Fault → Refusal → Type 0
IsRefusalFor (fault.Unexpected s) (At code span) = code ≡ UNEXPECTED
IsRefusalFor (fault.TooHigh s) (At code span) = (code ≡ TOO_HIGH) × (span ≡ s)
IsRefusalFor fault.NoMemory NoMemory = Unit {0}
IsRefusalFor f e = ⊥
