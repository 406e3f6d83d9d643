-- What the canonical form of a query is.
use Rattle.std.specs.Prelude.{◌≡◌, ◌≤◌, ℕ, List, length}
use Rattle.record_core.specs.declared.span.Refusal.TheVariants.{At}
use Rattle.expr_tree.specs.Trees.{ProgramTree}
use Rattle.grammar.specs.Texts as grammar
use Rattle.parser.specs.Refusals as parser
use Rattle.writer.specs.Programs.{program_text}
use Rattle.writer.specs.Sources.{ReadsAs}
use Rattle.lexer.specs.Tokens.{max_length}
use Rattle.diagnostics.specs.declared.fault.Fault.{Fault}
use Rattle.diagnostics.specs.declared.fault.Fault.TheVariants.{Query, NoMemory}

-- The query text reads as a program, and the text is its canonical text. Where that is no longer than a query may be, it reads as the
-- same program, spans aside.
pub record IsCanonical (query text : List ℕ) : Type 0 where
  pub tree : ProgramTree
  pub read : grammar.Reads query tree
  pub is_text : text ≡ program_text tree
  pub back : length text ≤ max_length → ReadsAs text tree

-- why a query text has no canonical form: it is no program, or there was no memory
abbrev pub IsFormatFault : List ℕ → Fault → Type 0
IsFormatFault query (Query code start end) = parser.Refuses query (At code (record { start = start; end = end }))
IsFormatFault query NoMemory = Unit {0}
IsFormatFault query _ = ⊥
