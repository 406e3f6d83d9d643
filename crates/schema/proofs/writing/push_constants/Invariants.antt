use Rattle.std.proofs.Common.{◌≡◌, ◌++◌, drop}
use Rattle.schema.specs.Text.{constants_text}
use Rattle.schema.proofs.writing.push_constants.Given as goal

-- what is written, and then the constants that are left, is the text
abbrev pub invariant-loop-constant : goal.invariant-loop-constant
invariant-loop-constant l = l.out.items ++ constants_text (drop l.constant-index l.constants) ≡ l.fn.out.items ++ constants_text l.constants
